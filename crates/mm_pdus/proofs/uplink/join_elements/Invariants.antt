use Rattle.std.proofs.Common.{◌≡◌, length}
use Rattle.mm_pdus.specs.Reading.{elements_at}
use Rattle.mm_pdus.specs.GroupReading.{group_up_at}
use Rattle.mm_pdus.specs.UplinkReading.{join_groups}
use Rattle.mm_pdus.proofs.Unkept.{AreFirst}
use Rattle.mm_pdus.proofs.uplink.join_elements.Given as goal

abbrev pub invariant-loop-identifier : goal.invariant-loop-identifier
invariant-loop-identifier g l =
    (elements_at (join_groups group_up_at) (length l.reader) l.items l.reader ≡ elements_at (join_groups group_up_at) (length l.initial.reader) l.initial.items l.initial.reader)
    × AreFirst l.initial.items l.initial.reader l.items l.reader

abbrev pub decreases-loop-identifier : goal.decreases-loop-identifier
decreases-loop-identifier g l = length l.reader
