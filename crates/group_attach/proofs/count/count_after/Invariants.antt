use Rattle.std.proofs.Common.{◌≡◌, ◌+◌, ◌≤◌, take, length}
use Rattle.std.specs.List.{fold}
use Rattle.std.specs.FinMap as finite
use Rattle.group_attach.specs.Attached.{of_radio}
use Rattle.group_attach.specs.Applied.{changed_by, at_start}
use Rattle.group_attach.specs.Inside.ListedMap.{map_of}
use Rattle.group_attach.proofs.count.count_after.Given as goal

abbrev pub invariant-loop-i : goal.invariant-loop-i
invariant-loop-i g l =
    (l.count ≡ finite.len (of_radio (fold (changed_by l.registry l.itsi) (at_start (map_of l.entries) l.itsi l.mode) (take l.i l.items)) l.itsi))
    × (l.count ≤ length l.entries + l.i)
