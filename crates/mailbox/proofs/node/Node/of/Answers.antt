use Rattle.std.proofs.Common.{◌+◌, arith}
use Rattle.std.proofs.lemmas.Bool.Decides.{nat_tests}
use Rattle.mailbox.proofs.Heights.{made}
use Rattle.mailbox.proofs.node.Node.of.Goals as goal

pub invariant_of-result : goal.invariant_of-result
invariant_of-result g c =
    made c.args.place c.args.earlier c.args.later (c.max-height.result + 1) c.min-least.result
    (grind (arith, nat_tests, c.max-height.ensures, c.height.ensures.value, c.height-2.ensures.value))
    (grind (arith, nat_tests, c.min.ensures, c.min-least.ensures, c.least.ensures, c.least-2.ensures))
    c.requires.earlier c.requires.later c.height.ensures.low c.height-2.ensures.low c.requires.few
