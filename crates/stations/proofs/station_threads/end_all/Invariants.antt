use Rattle.std.proofs.Common.{◌≡◌, ◌≤◌, ◌++◌, length}
use Rattle.std.specs.Prelude.{MatchResult, vec_capacity}
use Rattle.std.specs.List.{AllZip}
use Rattle.stations.specs.Done.{IsDone}
use Rattle.stations.proofs.station_threads.end_all.Given as goal

abbrev pub invariant-loop-one : goal.invariant-loop-one
invariant-loop-one g l = record {
  in_turn : l.yielded ++ l.one-iterator.rest.items ≡ l.fn.begun.items;
  rest : length l.one-iterator.rest.items ≡ l.one-iterator.rest.len;
  count : length l.done.items ≡ length l.yielded;
  room : length l.fn.begun.items ≤ vec_capacity l.done;
  made : AllZip (λ b d. MatchResult b (λ h. IsDone g.row.J.Denot g.J.Centre.base g.I.Read.remaining g.O.Write.contents h.promise.job.value d) (λ done. d ≡ done)) l.yielded l.done.items;
}
