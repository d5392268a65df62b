use Rattle.std.proofs.Common.{◌≡◌, ◌∙◌, ◌≤◌, true, false, rules, arith, ap, sym}
use Rattle.std.specs.Prelude.{map as each}
use Rattle.group_attach.specs.Applied.{most_of_radio}
use Rattle.image_rows.specs.Loading.{attachment_in}
use Rattle.image_rows.proofs.Filling.{is_all, stated_order}
use Rattle.image_rows.proofs.attached.own_groups.Goals as goal

pub returns-then-not-is_in_order-clause-fits : goal.returns-then-not-is_in_order-clause-fits
returns-then-not-is_in_order-clause-fits c =
    let n = c.fill-count.result in
    let all = is_all c.args.groups c.fill-count.new.groups n c.next.result (sym c.is_some.ensures ∙ c.if-is_some.false) c.next.ensures.value c.fill-count.ensures.rest in
    let few : n ≤ most_of_radio = omega (arith, c.fill-count.ensures.room, c.requires) in
    let not_so : c.is_in_order.result ≡ false = search rules in
    sym not_so ∙ stated_order c.fill-count.new.list c.args.itsi c.args.groups n c.is_in_order.result all few c.fill-count.ensures.taken c.is_in_order.ensures

pub returns-clause-fits : goal.returns-clause-fits
returns-clause-fits c =
    let n = c.fill-count.result in
    let all = is_all c.args.groups c.fill-count.new.groups n c.next.result (sym c.is_some.ensures ∙ c.if-is_some.false) c.next.ensures.value c.fill-count.ensures.rest in
    let few : n ≤ most_of_radio = omega (arith, c.fill-count.ensures.room, c.requires) in
    let so : c.is_in_order.result ≡ true = search rules in
    sym so ∙ stated_order c.fill-count.new.list c.args.itsi c.args.groups n c.is_in_order.result all few c.fill-count.ensures.taken c.is_in_order.ensures

pub returns-clause-own : goal.returns-clause-own
returns-clause-own c =
    let n = c.fill-count.result in
    let all = is_all c.args.groups c.fill-count.new.groups n c.next.result (sym c.is_some.ensures ∙ c.if-is_some.false) c.next.ensures.value c.fill-count.ensures.rest in
    let few : n ≤ most_of_radio = omega (arith, c.fill-count.ensures.room, c.requires) in
    (few, c.fill-count.ensures.taken ∙ ap (each (attachment_in c.args.itsi)) all.all)
