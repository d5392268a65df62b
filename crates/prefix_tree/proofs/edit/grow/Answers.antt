use Rattle.std.proofs.Common.{sym, ◌∙◌, arith}
use Rattle.std.proofs.lemmas.Bool.Decides.{nat_tests}
use Rattle.prefix_tree.proofs.GrowLaws.{grown_here, grown_beside, beside_firm}
use Rattle.prefix_tree.proofs.edit.grow.Goals as goal

pub returns-then-len-clause-ok : goal.returns-then-len-clause-ok
returns-then-len-clause-ok g c =
    grown_here _ c.args.key.now _ _ c.in-Some.ensures c.take.result c.above.result.table c.args.value c.take.ensures.value
    (sym c.len.ensures.value ∙ c.if-len.true ∙ c.len-2.ensures.value) c.above.ensures.table

pub above-requires-in-Ok-sprout-clause-other : goal.above-requires-in-Ok-sprout-clause-other
above-requires-in-Ok-sprout-clause-other g c =
    beside_firm _ c.args.key.now _ _ c.in-Some.ensures c.in-Ok-sprout.leaf.value
    (λ same. grind (arith, nat_tests, c.if-len.false, c.len.ensures.value ∙ same ∙ sym c.len-2.ensures.value)) c.in-Ok-sprout.ensures.firm

pub returns-in-Ok-sprout-clause-ok : goal.returns-in-Ok-sprout-clause-ok
returns-in-Ok-sprout-clause-ok g c =
    grown_beside _ c.args.key.now _ _ c.in-Some.ensures c.take-in-Ok-sprout.result c.above-in-Ok-sprout.result.table _ c.args.value
    c.take-in-Ok-sprout.ensures.value (λ same. grind (arith, nat_tests, c.if-len.false, c.len.ensures.value ∙ same ∙ sym c.len-2.ensures.value))
    c.in-Ok-sprout.ensures.table c.above-in-Ok-sprout.ensures.table
