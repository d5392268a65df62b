-- A waiting item that was read, with its PDU still in the bytes, as an item.
use Rattle.mailbox.specs.Values.{Item}
use Rattle.image_rows.specs.declared.unchecked_item.UncheckedItem.{UncheckedItem}

-- the item as its bytes have it
abbrev pub item_view : UncheckedItem → Item
item_view i = record { key = i.key; number = i.number; deadline = i.deadline; pdu = i.pdu; group = i.group }
