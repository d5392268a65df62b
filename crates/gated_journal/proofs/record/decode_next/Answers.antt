use Rattle.std.proofs.Common.{◌≡◌, ◌≤◌, Some, sym}
use Rattle.std.proofs.lemmas.Result.{IfOk-weaker}
use Rattle.gated_journal.specs.Record.{most_commands, packed_of}
use Rattle.gated_journal.proofs.Listed.{few_in}
use Rattle.gated_journal.proofs.Taken.{packed_few}
use Rattle.gated_journal.proofs.record.decode_next.Goals as goal

pub returns-in-Some-clause-few : goal.returns-in-Some-clause-few
returns-in-Some-clause-few g c =
    let found : packed_of c.args.form c.args.bytes.now ≡ Some
    (record { count = c.in-Some.packed.count; first = c.in-Some.packed.first; bytes = c.in-Some.packed.commands.now }) =
    rw c.in-Some.is at (sym c.packed_of.ensures) in
    let few : c.in-Some.packed.count ≤ most_commands = packed_few c.args.form c.args.bytes.now _ found in
    IfOk-weaker c.decode_all.result _ _ (λ found exact. few_in c.in-Some.packed.count c.in-Some.packed.commands.now found few exact) c.decode_all.ensures.exact
