use Rattle.std.proofs.Common.{◌≡◌, ◌≤◌, [], take}
use Rattle.std.specs.Prelude.{vec_capacity}
use Rattle.std.specs.List.{list_any}
use Rattle.console.specs.Answer.{is_trouble, texts}
use Rattle.console.specs.Inside.Passing.{Passes, sent_by}
use Rattle.console.specs.Inside.Together.{answers_for}
use Rattle.console.proofs.together.send_all.Given as goal

abbrev pub invariant-loop-k : goal.invariant-loop-k
invariant-loop-k g l = record {
  page : vec_capacity l.initial.page ≤ vec_capacity l.page;
  told : Passes (sent_by g.W.Write.contents l.initial.output) (sent_by g.W.Write.contents l.output) [] (texts (answers_for (take l.k l.commands) (take l.k l.replies))) l.page.items;
  trouble : l.troubled ≡ list_any is_trouble (answers_for (take l.k l.commands) (take l.k l.replies));
  writer : l.output.writer.ghost_name ≡ l.initial.output.writer.ghost_name;
  failures : l.output.failures.ghost_name ≡ l.initial.output.failures.ghost_name;
  ledger : l.output.failures.now ≡ l.initial.output.failures.now;
}
