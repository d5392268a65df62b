use Rattle.std.proofs.Common.{◌≡◌, ◌++◌}
use Rattle.std.specs.Prelude.{All, replicate, vec_capacity}
use Rattle.flusher.specs.declared.answer.Answer.TheVariants.{NoMemory}
use Rattle.flusher.specs.Submitted.{HasShortAnswer}
use Rattle.flusher.proofs.hearing.refuse_all.Given as goal

abbrev pub invariant-loop : goal.invariant-loop
invariant-loop g l = record {
  added : l.answers.items ≡ l.initial.answers.items ++ replicate l.counter NoMemory;
  short : All HasShortAnswer l.answers.items;
  room : vec_capacity l.answers ≡ vec_capacity l.initial.answers;
}
