use Rattle.image_rows.proofs.InTurn.{pdu_fits}
use Rattle.image_rows.proofs.in_turn.item_after.Goals as goal

pub mail_row-requires : goal.mail_row-requires
mail_row-requires g c = pdu_fits c.args.register.now c.mail.result.now c.args.after c.in-Some.item.now c.registers.ensures.ranges c.mail.ensures c.in-Some.ensures
