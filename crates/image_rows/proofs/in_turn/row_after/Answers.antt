use Rattle.std.proofs.Common.{◌≡◌, Some, arith, rules}
use Rattle.image_rows.specs.declared.place.RowPlace.TheVariants as place
use Rattle.image_rows.proofs.InTurn.{stated_at}
use Rattle.image_rows.proofs.in_turn.row_after.Goals as goal

pub returns-in-Some-Header : goal.returns-in-Some-Header
returns-in-Some-Header g c =
    let is : c.args.after ≡ Some place.Header = search rules in
    stated_at c.args.epoch c.args.register.now c.args.after place.Header c.rule_after.result c.registers.ensures.ranges is tt c.rule_after.ensures

pub returns-in-Some-Rule : goal.returns-in-Some-Rule
returns-in-Some-Rule g c =
    let is : c.args.after ≡ Some (place.Rule c.in-Some-Rule.prefix) = search rules in
    stated_at c.args.epoch c.args.register.now c.args.after (place.Rule c.in-Some-Rule.prefix) c.rule_after-in-Some-Rule.result c.registers.ensures.ranges is tt c.rule_after-in-Some-Rule.ensures

pub returns-in-Some-Radio : goal.returns-in-Some-Radio
returns-in-Some-Radio g c =
    let is : c.args.after ≡ Some (place.Radio c.in-Some-Radio.itsi) = search rules in
    stated_at c.args.epoch c.args.register.now c.args.after (place.Radio c.in-Some-Radio.itsi) c.radio_after.result c.registers.ensures.ranges is
    (omega (arith, c.number-number.ensures.below, c.number-number.ensures.value)) c.radio_after.ensures

pub returns-in-Some-Mail : goal.returns-in-Some-Mail
returns-in-Some-Mail g c =
    let is : c.args.after ≡ Some (place.Mail c.in-Some-Mail.number c.in-Some-Mail.key) = search rules in
    stated_at c.args.epoch c.args.register.now c.args.after (place.Mail c.in-Some-Mail.number c.in-Some-Mail.key) c.item_after.result c.registers.ensures.ranges is tt c.item_after.ensures

pub returns-in-Some-Served : goal.returns-in-Some-Served
returns-in-Some-Served g c =
    let is : c.args.after ≡ Some (place.Served c.in-Some-Served.station) = search rules in
    let coming = rw (c.number.ensures.value) at c.station_after.ensures in
    stated_at c.args.epoch c.args.register.now c.args.after (place.Served c.in-Some-Served.station) c.station_after.result c.registers.ensures.ranges is tt coming
