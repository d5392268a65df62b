use Rattle.std.proofs.Common.{◌≡◌, ◌≤◌, ◌++◌, take, vec_capacity}
use Rattle.std.specs.List.{flat_map}
use Rattle.listings.specs.Dump.{group_words}
use Rattle.listings.proofs.dump.put_groups.Given as goal

-- the groups so far
abbrev pub invariant-loop-group : goal.invariant-loop-group
invariant-loop-group g l = (l.out.items ≡ l.initial.out.items ++ flat_map group_words (take l.group-index l.groups)) × (vec_capacity l.initial.out ≤ vec_capacity l.out)
