use Rattle.std.proofs.Common.{◌≡◌, ◌*◌, ◌≤◌, length, take}
use Rattle.std.specs.List.{flat_map}
use Rattle.mm_pdus.proofs.group_fields.groups_len.Given as goal

abbrev pub invariant-loop-item : goal.invariant-loop-item
invariant-loop-item g l = (l.len ≡ length (flat_map g.T.GroupText.text (take l.item-index l.items))) × (l.len ≤ 56 * l.item-index)
