use Rattle.std.proofs.Common.{rules, inl, inr, refl}
use Rattle.console.specs.Answer.{text}
use Rattle.served_disk.proofs.GivesWay.{no_line, written_first, written_over}
use Rattle.served_disk.proofs.showing.write_text.Goals as goal

pub returns-then-is_ok : goal.returns-then-is_ok
returns-then-is_ok g c = inl (record {
  written = written_first c.print_answer.result _ _ (text c.args.answer.now) c.requires.empty (search rules) c.print_answer.ensures.ok;
  trouble = c.is_trouble.ensures;
})

pub returns : goal.returns
returns g c = inr (record {
  long = no_line c.print_answer.result _ _ _ c.requires.room (search rules) (search rules) c.print_answer.ensures.line;
  written = written_over c.print_answer.result c.print_answer-2.result c.unwrap.result _ _ _ _ c.requires.empty (search rules) c.print_answer.ensures.err c.unwrap.ensures c.print_answer-2.ensures.ok;
  trouble = refl;
})
