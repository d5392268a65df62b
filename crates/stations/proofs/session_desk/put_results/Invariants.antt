use Rattle.std.proofs.Common.{◌≡◌, ◌++◌, length}
use Rattle.std.specs.Prelude.{All, IfOk, map, vec_capacity, vec_len}
use Rattle.desk.specs.Replies.{HasShortPdu}
use Rattle.stations.specs.OfSession.{result_of}
use Rattle.stations.proofs.session_desk.put_results.Given as goal

abbrev pub invariant-loop-answer : goal.invariant-loop-answer
invariant-loop-answer g l = record {
  in_turn : l.yielded ++ l.answer-iterator.rest.items ≡ l.fn.answers.items;
  rest : length l.answer-iterator.rest.items ≡ l.answer-iterator.rest.len;
  added : l.replies.items ≡ map result_of l.yielded;
  count : vec_len l.replies ≡ length l.yielded;
  short : All (λ reply. IfOk reply HasShortPdu) l.replies.items;
  room : vec_capacity l.replies ≡ vec_capacity l.initial.replies;
}
