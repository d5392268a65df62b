use Rattle.std.proofs.Common.{◌≡◌, ◌+◌, ◌≤◌, take, length}
use Rattle.std.specs.Prelude.{vec_len, vec_capacity}
use Rattle.std.specs.List.{fold}
use Rattle.group_attach.specs.Applied.{changed_by, at_start}
use Rattle.group_attach.specs.InOrder.{IsInOrder}
use Rattle.group_attach.specs.Inside.ListedMap.{map_of}
use Rattle.group_attach.proofs.edit.change_all.Given as goal

abbrev pub invariant-loop-item : goal.invariant-loop-item
invariant-loop-item g l =
    IsInOrder l.entries.items
    × (map_of l.entries.items ≡ fold (changed_by l.registry l.itsi) (at_start (map_of l.fn.entries.items) l.itsi l.fn.mode) (take l.item-index l.items))
    × (vec_len l.entries + length l.items ≤ vec_capacity l.entries + l.item-index)
