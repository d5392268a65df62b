use Rattle.std.proofs.Common.{◌≡◌, ◌≤◌, ◌++◌, take, vec_capacity}
use Rattle.std.specs.List.{flat_map}
use Rattle.console.specs.Answer.{member_text}
use Rattle.console.proofs.lists.put_members.Given as goal

-- the lines so far
abbrev pub invariant-loop-member : goal.invariant-loop-member
invariant-loop-member g l = (l.out.items ≡ l.initial.out.items ++ flat_map member_text (take l.member-index l.members)) × (vec_capacity l.initial.out ≤ vec_capacity l.out)
