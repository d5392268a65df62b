use Rattle.std.proofs.Common.{◌∙◌, [], None, ap, sym}
use Rattle.std.specs.Option.{is_none}
use Rattle.image_rows.proofs.Last.{none_if}
use Rattle.image_rows.proofs.Judged.{place_free}
use Rattle.image_rows.proofs.judging.is_free.Goals as goal

pub returns : goal.returns
returns g c =
    sym (none_if c.restore_refusal.result c.is_none.result c.is_none.ensures) ∙ ap is_none (c.restore_refusal.ensures 0 0 [] None)
    ∙ place_free c.args.mail.now (record { key = c.args.key.now; number = 0; deadline = 0; pdu = []; group = None }) c.requires
