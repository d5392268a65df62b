use Rattle.std.proofs.Common.{◌≡◌, true, false, arith, sym, ◌∙◌}
use Rattle.std.proofs.lemmas.Bool.Decides.{nat_tests}
use Rattle.std.specs.Prelude.{is_some}
use Rattle.mailbox.specs.Inside.Places.{is_due}
use Rattle.mailbox.proofs.Sides.{found_earlier, found_here, found_later, not_due, some_left, copied_some, later_cost}
use Rattle.mailbox.proofs.node.+first_due.Goals as goal

pub returns-in-Some-first_due-clause-first : goal.returns-in-Some-first_due-clause-first
returns-in-Some-first_due-clause-first g t c = found_earlier _ _ _ c.in-Some.is c.deref-2.ensures c.parts.result.0.now c.parts.result.1.now
    c.parts.result.2.now c.parts.ensures.parts (is_due c.args.moment) _ c.in-Some-first_due.ensures.first

pub returns-then-place-moment-clause-first : goal.returns-then-place-moment-clause-first
returns-then-place-moment-clause-first g t c =
    let due : is_due c.args.moment c.parts.result.0.now ≡ true = grind (arith, nat_tests, c.if-place-moment.true) in
    found_here _ _ _ c.in-Some.is c.deref-2.ensures c.parts.result.0.now c.parts.result.1.now c.parts.result.2.now c.parts.ensures.parts (is_due c.args.moment) c.in_default-first_due.ensures.first due

pub returns-clause-first : goal.returns-clause-first
returns-clause-first g t c =
    let not_due : is_due c.args.moment c.parts.result.0.now ≡ false = grind (arith, nat_tests, c.if-place-moment.false) in
    found_later _ _ _ c.in-Some.is c.deref-2.ensures c.parts.result.0.now c.parts.result.1.now c.parts.result.2.now c.parts.ensures.parts
    (is_due c.args.moment) _ c.in_default-first_due.ensures.first not_due c.first_due-2.ensures.first

pub returns-then-is_later_than-clause-first : goal.returns-then-is_later_than-clause-first
returns-then-is_later_than-clause-first g t c = not_due _ _ _ c.in-Some.is c.deref.ensures c.args.moment (sym c.is_later_than.ensures ∙ c.if-is_later_than.true)

pub returns-clause-cost : goal.returns-clause-cost
returns-clause-cost g t c =
    let not_due : is_due c.args.moment c.parts.result.0.now ≡ false = grind (arith, nat_tests, c.if-place-moment.false) in
    let first = found_later _ _ _ c.in-Some.is c.deref-2.ensures c.parts.result.0.now c.parts.result.1.now c.parts.result.2.now c.parts.ensures.parts
    (is_due c.args.moment) _ c.in_default-first_due.ensures.first not_due c.first_due-2.ensures.first in
    let some = some_left _ _ _ c.in-Some.is c.deref.ensures c.args.moment c.requires (sym c.is_later_than.ensures ∙ c.if-is_later_than.false) in
    later_cost _ _ _ c.in-Some.is c.deref-2.ensures c.parts.result.0.now c.parts.result.1.now c.parts.result.2.now c.parts.ensures.parts
    (is_some c.first_due-2.result) _ _ _ _ (copied_some c.first_due-2.result _ first some) c.tick.ensures c.in_default-first_due.ensures.cost
    c.first_due-2.ensures.cost
