use Rattle.std.proofs.Common.{sym, ◌∙◌, arith, rules}
use Rattle.prefix_tree.specs.Following.{is_after}
use Rattle.mailbox.specs.Order.{named_cmp}
use Rattle.mailbox.specs.Inside.Boxes.{name_of}
use Rattle.mailbox.proofs.Sides.{found_earlier, found_here, first_later, earlier_order, later_order, earlier_shorter, later_shorter}
use Rattle.mailbox.proofs.node.+first_after.Goals as goal

pub first_after-requires : goal.first_after-requires
first_after-requires g t c κs within = (
  omega (
    arith,
    c.decreases,
    later_shorter _ _ _ c.in-Some.is c.deref.ensures c.parts.result.0.now c.parts.result.1.now c.parts.result.2.now
        c.parts.ensures.parts,
  ),
  (
    search (rules),
    later_order _ _ _ c.in-Some.is c.deref.ensures c.parts.result.0.now c.parts.result.1.now c.parts.result.2.now
        c.parts.ensures.parts c.requires,
  ),
)

pub returns-then-not-is_after : goal.returns-then-not-is_after
returns-then-not-is_after g t c = first_later _ _ _ c.in-Some.is c.deref.ensures c.parts.result.0.now c.parts.result.1.now c.parts.result.2.now
    c.parts.ensures.parts c.requires c.args.after.now _ (sym c.is_after.ensures ∙ c.if-not-is_after.true) c.first_after.ensures

pub first_after-requires-2 : goal.first_after-requires-2
first_after-requires-2 g t c κs within = (
  omega (
    arith,
    c.decreases,
    earlier_shorter _ _ _ c.in-Some.is c.deref.ensures c.parts.result.0.now c.parts.result.1.now c.parts.result.2.now
        c.parts.ensures.parts,
  ),
  (
    search (rules),
    earlier_order _ _ _ c.in-Some.is c.deref.ensures c.parts.result.0.now c.parts.result.1.now c.parts.result.2.now
        c.parts.ensures.parts c.requires,
  ),
)

pub returns-in-Some-first_after : goal.returns-in-Some-first_after
returns-in-Some-first_after g t c = found_earlier _ _ _ c.in-Some.is c.deref.ensures c.parts.result.0.now c.parts.result.1.now c.parts.result.2.now
    c.parts.ensures.parts (is_after named_cmp name_of c.args.after.now) _ c.in-Some-first_after.ensures

pub returns-in-None : goal.returns-in-None
returns-in-None g t c = found_here _ _ _ c.in-Some.is c.deref.ensures c.parts.result.0.now c.parts.result.1.now c.parts.result.2.now
    c.parts.ensures.parts (is_after named_cmp name_of c.args.after.now) c.in-None.ensures (sym c.is_after.ensures ∙ c.if-not-is_after.false)
