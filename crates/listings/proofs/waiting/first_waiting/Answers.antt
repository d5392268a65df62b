use Rattle.std.proofs.Common.{◌≡◌, length, true, false, Some, ap, sym, ◌∙◌, arith}
use Rattle.std.specs.List.{find}
use Rattle.mailbox.specs.declared.key.Key.{Key}
use Rattle.mailbox.specs.Order.{named}
use Rattle.registration.specs.Registered.{radio_of}
use Rattle.listings.specs.Entries.{is_present_at, waits_at}
use Rattle.listings.proofs.Passed.{left, at_first, few_left, found, passed, one_less, at_end}
use Rattle.listings.proofs.waiting.first_waiting.Goals as goal

pub loop-init : goal.loop-init
loop-init g c =
    let test = waits_at c.args.registry.now c.args.station in
    (at_first c.args.mail.now c.in_order.ensures test c.args.after, omega (arith, few_left c.args.mail.now c.in_order.ensures test c.args.after, c.len-end.ensures))

pub loop-preserved : goal.loop-preserved
loop-preserved g c =
    let m = c.args.mail.now in
    let w = c.in-Some.item.now in
    let test = waits_at c.args.registry.now c.args.station in
    let fails : test w ≡ false =
    ap (λ (k : Key). is_present_at c.args.station (radio_of c.args.registry.now k.destination)) (sym c.key-key.ensures) ∙ sym c.is_present_at.ensures ∙ c.if-is_present_at.false in
    let same : left m (Some (c.number.result, c.key-key.result)) ≡ left m (Some (named w)) = λ i. left m (Some (c.number.ensures i, c.key-key.ensures i)) in (
      ap (find test) same ∙ passed m c.in_order.ensures test c.loop.at w c.in-Some.ensures fails ∙ c.loop.invariant.0,
      omega (arith, ap length same, one_less m c.in_order.ensures test c.loop.at w c.in-Some.ensures, c.loop.invariant.1),
    )

pub returns-in_default : goal.returns-in_default
returns-in_default g c =
    sym (at_end c.args.mail.now c.in_order.ensures (waits_at c.args.registry.now c.args.station) c.loop.at c.in_default.ensures) ∙ c.loop.invariant.0

pub returns-then-is_present_at : goal.returns-then-is_present_at
returns-then-is_present_at g c =
    let test = waits_at c.args.registry.now c.args.station in
    let passes : test c.in-Some.item.now ≡ true =
    ap (λ (k : Key). is_present_at c.args.station (radio_of c.args.registry.now k.destination)) (sym c.key-key.ensures) ∙ sym c.is_present_at.ensures ∙ c.if-is_present_at.true in
    sym (found c.args.mail.now c.in_order.ensures test c.loop.at c.in-Some.item.now c.in-Some.ensures passes) ∙ c.loop.invariant.0
