use Rattle.std.proofs.Common.{◌≡◌, ◌++◌, take}
use Rattle.std.specs.List.{flat_map, AllByRecursion}
use Rattle.mm_pdus.proofs.group_fields.put_each.Given as goal

abbrev pub invariant-loop-item : goal.invariant-loop-item
invariant-loop-item g l = record {
  text : l.writer ≡ l.initial.writer ++ flat_map g.T.GroupText.text (take l.item-index l.items);
  range : AllByRecursion g.T.GroupText.is_in_range (take l.item-index l.items);
}
