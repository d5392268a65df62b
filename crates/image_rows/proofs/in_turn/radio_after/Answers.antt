use Rattle.image_rows.proofs.InTurn.{few_groups, radio_found}
use Rattle.image_rows.proofs.in_turn.radio_after.Goals as goal

pub placed_radio-requires : goal.placed_radio-requires
placed_radio-requires g c = few_groups c.args.register.now c.groups.result.now _ c.attachments-groups.result.now c.registers.ensures.state c.groups.ensures c.attachments-groups.ensures

pub returns-in-Some : goal.returns-in-Some
returns-in-Some g c =
    radio_found c.args.register.now c.registry.result.now c.groups.result.now c.args.after _ _ c.attachments-groups.result.now c.placed_radio.result
    c.placed_radio.ensures.below c.registry.ensures c.groups.ensures c.in-Some.ensures c.attachments-groups.ensures c.placed_radio.ensures.row
