use Rattle.std.proofs.Common.{◌≡◌, ◌≤◌, ◌+◌, ◌++◌, take, sum_by, vec_len, vec_capacity}
use Rattle.listings.specs.Parts.{part_room, parts_text}
use Rattle.listings.proofs.part.put_parts.Given as goal

-- the parts so far, which took no more than their room
abbrev pub invariant-loop-part : goal.invariant-loop-part
invariant-loop-part g l = (l.out.items ≡ l.initial.out.items ++ parts_text (take l.part-index l.parts)) × (vec_capacity l.initial.out ≤ vec_capacity l.out)
    × (vec_len l.out ≤ vec_len l.initial.out + sum_by part_room (take l.part-index l.parts))
