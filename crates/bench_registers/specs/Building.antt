-- How far the mail of one register is in another that is built item by item.
use Rattle.std.specs.Prelude.{◌≡◌, false, Option}
use Rattle.std.specs.List.{All}
use Rattle.prefix_tree.specs.Following.{is_after}
use Rattle.mailbox.specs.Numbers.{Number}
use Rattle.mailbox.specs.declared.key.Key.{Key}
use Rattle.mailbox.specs.Values.{Mailed}
use Rattle.mailbox.specs.Order.{named_cmp, named}

-- no item waits that comes after this number and key; for `None`, no item waits at all
abbrev pub EndsBy : Mailed → Option (Number × Key) → Type 0
EndsBy m last = All (λ w. is_after named_cmp named last w ≡ false) m.items
