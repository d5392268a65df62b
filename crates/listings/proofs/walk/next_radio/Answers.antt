use Rattle.std.proofs.Common.{◌<◌, ◌^◌, Some, sym, ap, ◌∙◌, subst}
use Rattle.std.specs.Option.{option_map}
use Rattle.identity.specs.Inside.PathLaws.{number-id_path}
use Rattle.registration.specs.Listed.{under_its_bits}
use Rattle.listings.specs.Entries.{RadioEntry, radio_entry}
use Rattle.listings.proofs.walk.next_radio.Goals as goal

pub returns : goal.returns
returns g c =
    let small = subst (λ n. n < 2 ^ 48) c.number-number.ensures.value c.number-number.ensures.below in
    ap (λ n. Some (RadioEntry n c.in_ok-itsi.radio)) (sym (number-id_path c.in_ok-itsi.itsi small))
    ∙ ap (option_map radio_entry) (ap (option_map under_its_bits) (sym c.in_ok-itsi.was) ∙ c.radio_after.ensures)
