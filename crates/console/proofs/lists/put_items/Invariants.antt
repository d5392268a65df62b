use Rattle.std.proofs.Common.{◌≡◌, ◌≤◌, ◌++◌, take, vec_capacity}
use Rattle.std.specs.List.{flat_map}
use Rattle.console.specs.Answer.{item_text}
use Rattle.console.proofs.lists.put_items.Given as goal

-- the lines so far
abbrev pub invariant-loop-item : goal.invariant-loop-item
invariant-loop-item g l = (l.out.items ≡ l.initial.out.items ++ flat_map item_text (take l.item-index l.items)) × (vec_capacity l.initial.out ≤ vec_capacity l.out)
