use Rattle.std.proofs.Common.{◌≡◌, true, false, arith, rules, sym, ◌∙◌}
use Rattle.std.proofs.lemmas.Bool.Decides.{nat_tests}
use Rattle.std.specs.Prelude.{◌&&◌}
use Rattle.mailbox.specs.Inside.Places.{is_due, is_due_after}
use Rattle.mailbox.proofs.Sides.{found_earlier, found_here, not_due, earlier_order, later_order, earlier_shorter, later_shorter}
use Rattle.mailbox.proofs.DueSides.{due_later, due_beyond, none_after}
use Rattle.mailbox.proofs.due.+first_due_after.Goals as goal

pub returns-then-is_later_than-clause-first : goal.returns-then-is_later_than-clause-first
returns-then-is_later_than-clause-first g t c =
    none_after c.args.moment c.args.after.now _
    (not_due _ _ _ c.in-Some.is c.deref.ensures c.args.moment (sym c.is_later_than.ensures ∙ c.if-is_later_than.true))

pub first_due_after-requires : goal.first_due_after-requires
first_due_after-requires g t c κs within = (
  omega (
    arith,
    c.decreases,
    later_shorter _ _ _ c.in-Some.is c.deref-2.ensures c.parts.result.0.now c.parts.result.1.now c.parts.result.2.now
        c.parts.ensures.parts,
  ),
  (
    search (rules),
    (
      search (rules),
      (
        later_order _ _ _ c.in-Some.is c.deref-2.ensures c.parts.result.0.now c.parts.result.1.now c.parts.result.2.now c.parts.ensures.parts
            c.requires.order,
        c.requires.end,
      ),
    ),
  ),
)

pub returns-then-not-is_after-clause-first : goal.returns-then-not-is_after-clause-first
returns-then-not-is_after-clause-first g t c = due_later _ _ _ c.in-Some.is c.deref-2.ensures c.parts.result.0.now c.parts.result.1.now
    c.parts.result.2.now c.parts.ensures.parts c.requires.order c.args.moment c.args.after.now _ (sym c.is_after.ensures ∙ c.if-not-is_after.true)
    c.first_due_after.ensures.first

pub first_due_after-requires-2 : goal.first_due_after-requires-2
first_due_after-requires-2 g t c κs within = (
  omega (
    arith,
    c.decreases,
    earlier_shorter _ _ _ c.in-Some.is c.deref-2.ensures c.parts.result.0.now c.parts.result.1.now c.parts.result.2.now
        c.parts.ensures.parts,
  ),
  (
    search (rules),
    (
      search (rules),
      (
        earlier_order _ _ _ c.in-Some.is c.deref-2.ensures c.parts.result.0.now c.parts.result.1.now c.parts.result.2.now c.parts.ensures.parts
            c.requires.order,
        c.requires.end,
      ),
    ),
  ),
)

pub returns-in-Some-first_due_after-clause-first : goal.returns-in-Some-first_due_after-clause-first
returns-in-Some-first_due_after-clause-first g t c = found_earlier _ _ _ c.in-Some.is c.deref-2.ensures c.parts.result.0.now c.parts.result.1.now
    c.parts.result.2.now c.parts.ensures.parts (is_due_after c.args.moment c.args.after.now) _ c.in-Some-first_due_after.ensures.first

pub returns-then-place-moment-clause-first : goal.returns-then-place-moment-clause-first
returns-then-place-moment-clause-first g t c =
    let due : is_due c.args.moment c.parts.result.0.now ≡ true = grind (arith, nat_tests, c.if-place-moment.true) in
    found_here _ _ _ c.in-Some.is c.deref-2.ensures c.parts.result.0.now c.parts.result.1.now c.parts.result.2.now c.parts.ensures.parts
    (is_due_after c.args.moment c.args.after.now) c.in_default-first_due_after.ensures.first
    (λ i. due i && (sym c.is_after.ensures ∙ c.if-not-is_after.false) i)

pub returns-clause-first : goal.returns-clause-first
returns-clause-first g t c =
    let not_due : is_due c.args.moment c.parts.result.0.now ≡ false = grind (arith, nat_tests, c.if-place-moment.false) in
    due_beyond _ _ _ c.in-Some.is c.deref-2.ensures c.parts.result.0.now c.parts.result.1.now c.parts.result.2.now c.parts.ensures.parts
    c.requires.order c.args.moment c.args.after.now _ c.in_default-first_due_after.ensures.first (sym c.is_after.ensures ∙ c.if-not-is_after.false)
    not_due c.first_due.ensures.first
