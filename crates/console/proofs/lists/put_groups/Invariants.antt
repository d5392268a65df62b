use Rattle.std.proofs.Common.{◌≡◌, ◌≤◌, ◌++◌, take, vec_capacity}
use Rattle.std.specs.List.{flat_map}
use Rattle.console.specs.Answer.{group_text}
use Rattle.console.proofs.lists.put_groups.Given as goal

-- the lines so far
abbrev pub invariant-loop-group : goal.invariant-loop-group
invariant-loop-group g l = (l.out.items ≡ l.initial.out.items ++ flat_map group_text (take l.group-index l.groups)) × (vec_capacity l.initial.out ≤ vec_capacity l.out)
