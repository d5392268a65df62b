use Rattle.std.proofs.Common.{◌+◌, ◌∙◌, ap, sym, map}
use Rattle.std.specs.String.{string_eq}
use Rattle.indexmap.proofs.CallerLemmas.{insert_entry-new}
use Rattle.settings.specs.declared.naming.NameFault.TheVariants.{Twice}
use Rattle.settings.proofs.Names.{found_among, no_such_key, shown_more}
use Rattle.settings.proofs.naming.add.Goals as goal

pub returns-then-contains_key-clause-refused : goal.returns-then-contains_key-clause-refused
returns-then-contains_key-clause-refused g c apart =
    (ap (λ n. Twice (n + 1)) c.len-place.ensures.len, sym (found_among c.args.places.now.entries c.args.name.now) ∙ sym c.contains_key.ensures ∙ c.if-contains_key.true)

pub returns-clause-added : goal.returns-clause-added
returns-clause-added g c =
    let entries = c.args.places.now.entries in
    let is = c.in_ok-key.ensures.ok in
    let new = no_such_key entries c.args.name.now c.in_ok-key.key is (sym c.contains_key.ensures ∙ c.if-contains_key.false) in
    ap (map _) (c.in_ok-insert.ensures.entries ∙ insert_entry-new string_eq c.args.places.now c.in_ok-key.key _ new)
    ∙ shown_more entries c.in_ok-key.key _ _ c.args.name.now is c.len-place.ensures.len

pub returns-clause-new : goal.returns-clause-new
returns-clause-new g c = sym (found_among c.args.places.now.entries c.args.name.now) ∙ sym c.contains_key.ensures ∙ c.if-contains_key.false
