use Rattle.std.proofs.Common.{◌≡◌, ◌≤◌, ◌++◌, length}
use Rattle.std.specs.Prelude.{MatchResult, vec_capacity}
use Rattle.std.specs.List.{AllZip}
use Rattle.stations.specs.Done.{IsDone}
use Rattle.stations.proofs.station_threads.begin_all.Given as goal

abbrev pub invariant-loop-job : goal.invariant-loop-job
invariant-loop-job g l = record {
  in_turn : l.yielded ++ l.job-iterator.rest.items ≡ l.fn.jobs.items;
  rest : length l.job-iterator.rest.items ≡ l.job-iterator.rest.len;
  count : length l.begun.items ≡ length l.yielded;
  room : length l.fn.jobs.items ≤ vec_capacity l.begun;
  made : AllZip (λ job b. MatchResult b (λ h. h.promise.job.value ≡ job) (λ done. IsDone g.row.J.Denot g.J.Centre.base g.I.Read.remaining g.O.Write.contents job done)) l.yielded l.begun.items;
}
