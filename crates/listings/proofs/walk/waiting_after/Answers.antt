use Rattle.std.proofs.Common.{◌≡◌, Some, sym, ap, ◌∙◌, rules}
use Rattle.listings.specs.declared.listing.Table.TheVariants as table
use Rattle.listings.specs.declared.walk.TablePlace.TheVariants as place
use Rattle.listings.specs.Inside.Walking.{entry_after}
use Rattle.listings.proofs.walk.waiting_after.Goals as goal

pub returns-in-Some-Item : goal.returns-in-Some-Item
returns-in-Some-Item g c =
    let after : c.args.after.now ≡ Some (place.Item c.in-Some-Item.number c.in-Some-Item.key) = search rules in
    c.next_waiting-in-Some-Item.ensures ∙ sym (ap (entry_after c.args.register.now (table.WaitingAt c.args.station)) after)
