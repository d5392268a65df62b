use Rattle.std.proofs.Common.{◌≡◌, take}
use Rattle.std.specs.List.{filter_map}
use Rattle.group_attach.specs.Applied.{answer}
use Rattle.group_attach.proofs.answer.answers.Given as goal

abbrev pub invariant-loop-item : goal.invariant-loop-item
invariant-loop-item g l = l.list ≡ filter_map (answer l.registry l.itsi) (take l.item-index l.item-items)
