use Rattle.std.proofs.Common.{◌≡◌, take}
use Rattle.std.specs.List.{fold}
use Rattle.std.specs.Option.{is_some}
use Rattle.std.specs.FinMap as finite
use Rattle.group_attach.specs.Applied.{changed_by, at_start}
use Rattle.group_attach.specs.Inside.ListedMap.{map_of}
use Rattle.group_attach.proofs.count.is_attached_after.Given as goal

abbrev pub invariant-loop-item : goal.invariant-loop-item
invariant-loop-item g l = l.attached ≡ is_some (finite.get (fold (changed_by l.registry l.itsi) (at_start (map_of l.entries) l.itsi l.fn.mode) (take l.item-index l.items)) (l.itsi, l.gtsi))
