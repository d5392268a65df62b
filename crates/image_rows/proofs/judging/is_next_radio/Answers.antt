use Rattle.std.proofs.Common.{Some, ap, ◌∙◌}
use Rattle.identity.specs.Path.{id_path}
use Rattle.identity.specs.Inside.PathLaws.{paths_total}
use Rattle.image_rows.specs.Loading.{is_next}
use Rattle.image_rows.proofs.Last.{by_last_radio, first_of_all}
use Rattle.image_rows.proofs.judging.is_next_radio.Goals as goal

pub returns-in-Some : goal.returns-in-Some
returns-in-Some g c =
    by_last_radio c.args.registry.now.radios c.number.result c.number-in-Some.result c.number.ensures.below c.number-in-Some.ensures.below
    (ap (λ n. Some (id_path n)) c.number.ensures.value ∙ c.in-Some.ensures)
    ∙ ap (λ n. is_next c.args.registry.now.radios (id_path n)) c.number-in-Some.ensures.value

pub returns-in-None : goal.returns-in-None
returns-in-None g c = first_of_all paths_total c.args.registry.now.radios (id_path c.args.itsi) c.in-None.ensures
