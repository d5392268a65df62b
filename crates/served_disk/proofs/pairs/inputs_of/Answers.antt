use Rattle.std.proofs.Common.{arith}
use Rattle.settings.specs.Naming.{texts}
use Rattle.served_disk.proofs.Inputs.{inputs_more}
use Rattle.served_disk.proofs.pairs.inputs_of.Goals as goal

pub loop-index-preserved : goal.loop-index-preserved
loop-index-preserved c =
    inputs_more c.args.named.now c.loop-index.index _ (texts c.loop-index.inputs.items) _ (omega (arith, c.loop-index-test.true)) c.loop-index.invariant c.in_ok-push_input.ensures.added
