use Rattle.std.proofs.Common.{◌≡◌, None, ap, sym, length, ◌∙◌, rules}
use Rattle.std.specs.FinMap as map
use Rattle.listings.specs.declared.listing.Table.TheVariants as table
use Rattle.listings.specs.Entries.{entries_of}
use Rattle.listings.proofs.Walks.{rules_counted, radios_counted}
use Rattle.listings.proofs.table.count.Goals as goal

pub returns-in-Rules : goal.returns-in-Rules
returns-in-Rules g c =
    c.from.ensures ∙ c.rule_count.ensures ∙ ap (λ r. map.len r.rules) c.registry.ensures ∙ sym (rules_counted c.args.register.now)
    ∙ ap (λ t. length (entries_of c.args.register.now t)) (sym c.in-Rules.is)

pub returns-in-Radios-None : goal.returns-in-Radios-None
returns-in-Radios-None g c =
    let is : c.args.table.now ≡ table.Radios None = search rules in
    c.from-in-Radios-None.ensures ∙ c.radio_count.ensures ∙ ap (λ r. map.len r.radios) c.registry-in-Radios-None.ensures ∙ sym (radios_counted c.args.register.now)
    ∙ ap (λ t. length (entries_of c.args.register.now t)) (sym is)
