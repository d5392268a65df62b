use Rattle.std.proofs.Common.{ap, ◌∙◌, ◌++◌}
use Rattle.register_text.specs.Text.{row_ended}
use Rattle.register_text.proofs.Walks.{reported_line}
use Rattle.register_text.proofs.writer.line_after.Goals as goal

pub returns-in_ok-put_line-in-Some-clause-ok : goal.returns-in_ok-put_line-in-Some-clause-ok
returns-in_ok-put_line-in-Some-clause-ok g c =
    c.in_ok-put_line-in-Some.ensures.ok
    ∙ ap (λ o. c.args.out.now.items ++ row_ended o) (reported_line c.args.register.now c.args.after c.in-Some.next c.registers.ensures.state c.registers.ensures.ranges c.in-Some.ensures).1
