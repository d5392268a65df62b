use Rattle.std.proofs.Common.{◌≡◌, Some, sym, ap, ◌∙◌, rules}
use Rattle.std.specs.Option.{option_map}
use Rattle.mailbox.specs.Order.{next_item, next_due}
use Rattle.listings.specs.declared.listing.Table.TheVariants as table
use Rattle.listings.specs.declared.walk.TablePlace.TheVariants as place
use Rattle.listings.specs.Entries.{ItemEntry}
use Rattle.listings.specs.Inside.Walking.{entry_after}
use Rattle.listings.proofs.walk.entry_after.Goals as goal

pub returns-in-Some-Item : goal.returns-in-Some-Item
returns-in-Some-Item g c =
    let number = c.in-Some-Item.number in
    let key = c.in-Some-Item.key in
    let listed : c.args.table.now ≡ table.Items = search rules in
    let after : c.args.after ≡ Some (place.Item number key) = search rules in
    c.next_item-in-Some-Item.ensures ∙ ap (λ m. option_map ItemEntry (next_item m (Some (number, key)))) c.mail-in-Some-Item.ensures
    ∙ sym (λ i. entry_after c.args.register.now (listed i) (after i))

pub returns-in-Some-Item-after : goal.returns-in-Some-Item-after
returns-in-Some-Item-after g c =
    let number = c.in-Some-Item-after.number in
    let key = c.in-Some-Item-after.key in
    let listed : c.args.table.now ≡ table.Due c.in-Due.moment = search rules in
    let after : c.args.after ≡ Some (place.Item number key) = search rules in
    c.next_due-in-Some-Item-after.ensures ∙ ap (λ m. option_map ItemEntry (next_due m c.in-Due.moment (Some (number, key)))) c.mail-in-Some-Item-after.ensures
    ∙ sym (λ i. entry_after c.args.register.now (listed i) (after i))
