use Rattle.std.proofs.Common.{◌∙◌, ap}
use Rattle.registration.specs.Registered.{Registered, without_radio}
use Rattle.image_rows.proofs.PutRows.{forgotten}
use Rattle.image_rows.proofs.putting.add_radio.Goals as goal

pub returns-in-Err-clause-err : goal.returns-in-Err-clause-err
returns-in-Err-clause-err g c =
    (c.forget.ensures.gone ∙ ap (λ (s : Registered). without_radio s c.args.itsi) c.in-Ok.ensures.ok.1 ∙ forgotten c.args.registry.now c.args.itsi c.args.radio c.requires.new, c.in-Err.ensures.err.1)
