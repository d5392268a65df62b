use Rattle.std.proofs.Common.{arith}
use Rattle.group_attach.specs.Applied.{answer}
use Rattle.group_attach.proofs.Answering.{answers_more}
use Rattle.group_attach.proofs.answer.answers.Goals as goal

pub loop-item-preserved : goal.loop-item-preserved
loop-item-preserved g c =
    answers_more (answer c.args.registry.now c.args.itsi) c.as_slice-item-items.result.now c.loop-item.item-index c.item-item.result c.answer.result _
    _ (omega (arith, c.loop-item-test.true)) c.item-item.is c.loop-item.invariant c.answer.ensures c.in_ok-add.ensures
