use Rattle.std.proofs.Common.{◌≡◌, ◌-◌, ◌+◌, ◌≤◌, length}
use Rattle.mm_pdus.specs.Values.{most_groups}
use Rattle.mm_pdus.specs.GroupReading.{groups_at, with_prefix}
use Rattle.mm_pdus.proofs.Unkept.{IsFirst}
use Rattle.mm_pdus.proofs.group_fields.groups_into.Given as goal

abbrev pub invariant-loop : goal.invariant-loop
invariant-loop g l =
    (with_prefix l.items (groups_at g.T.GroupText.group_at (l.count - l.counter) l.reader) ≡ with_prefix l.initial.items (groups_at g.T.GroupText.group_at l.count l.initial.reader))
    × (length l.items + (l.count - l.counter) ≤ most_groups) × IsFirst g.T.GroupText.group_at l.initial.reader l.count l.reader
