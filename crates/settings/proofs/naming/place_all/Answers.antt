use Rattle.std.proofs.Common.{◌<◌, ◌+◌, ◌∙◌, [], length, map, false, true, ap, sym, Some, option_map, arith}
use Rattle.std.proofs.lemmas.List.{length-map}
use Rattle.std.proofs.Math.ListN.{get_or-map}
use Rattle.settings.specs.declared.naming.NameFault.TheVariants.{Twice}
use Rattle.settings.specs.Naming.{entries_of, texts}
use Rattle.settings.proofs.Names.{from_the_first, judged, one_more, so_many, same_fault}
use Rattle.settings.proofs.naming.place_all.Goals as goal

pub loop-name-init : goal.loop-name-init
loop-name-init g c = (ap (map _) c.new-places.ensures.empty, from_the_first (texts c.args.names.now))

pub returns-in_err-add-clause-refused : goal.returns-in_err-add-clause-refused
returns-in_err-add-clause-refused g c =
    let names = texts c.args.names.now in
    let i = c.loop-name.name-index in
    let places = entries_of c.loop-name.places in
    let within : i < length names = omega (arith, c.loop-name-test.true, length-map c.args.names.now (λ name. name.now)) in
    let is = sym (get_or-map (λ name. name.now) c.args.names.now i (record { ref_ptr = (0, 0); now = [] })) in
    let before = c.loop-name.invariant.0 in
    same_fault c.from_residual.result c.in_err-add.field-0.0 _ c.from_residual.ensures.1
    (λ apart.
    let reported = c.in_err-add.ensures.refused apart in
    let place = so_many names i _ places within before (sym (length-map c.loop-name.places.entries _)) in
    ap (option_map Twice) (c.loop-name.invariant.1 ∙ judged names i _ places true within is before reported.1)
    ∙ ap (λ n. Some (Twice (n + 1))) (sym place) ∙ ap Some (sym reported.0))

pub loop-name-preserved : goal.loop-name-preserved
loop-name-preserved g c =
    let names = texts c.args.names.now in
    let i = c.loop-name.name-index in
    let places = entries_of c.loop-name.places in
    let within : i < length names = omega (arith, c.loop-name-test.true, length-map c.args.names.now (λ name. name.now)) in
    let is = sym (get_or-map (λ name. name.now) c.args.names.now i (record { ref_ptr = (0, 0); now = [] })) in
    let before = c.loop-name.invariant.0 in (
      one_more names i _ _ places (entries_of c.add.new.places) within is before (sym (length-map c.loop-name.places.entries _)) c.in_ok-add.ensures.added,
      c.loop-name.invariant.1 ∙ judged names i _ places false within is before c.in_ok-add.ensures.new,
    )
