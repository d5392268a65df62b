use Rattle.std.proofs.Common.{◌∙◌, ap, arith, sym, Some}
use Rattle.command_line.specs.Asked.{pair_texts, paired}
use Rattle.command_line.proofs.Paired.{pair_more}
use Rattle.command_line.proofs.reading.whole_pairs.Goals as goal

pub loop-index-init : goal.loop-index-init
unfolding paired
loop-index-init c = ap (λ l. Some (pair_texts l)) (sym c.new-pairs.ensures.items)

pub loop-index-preserved : goal.loop-index-preserved
loop-index-preserved c =
    pair_more c.args.words.now c.loop-index.pairs.items c.loop-index.index _ _ (omega (arith, c.loop-index-test.true)) c.loop-index.invariant
    ∙ ap (λ l. Some (pair_texts l)) (sym c.in_ok-push.ensures.items)
