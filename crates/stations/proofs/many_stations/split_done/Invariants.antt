use Rattle.std.proofs.Common.{◌≡◌, ◌≤◌, ◌++◌, length}
use Rattle.std.specs.Prelude.{map, vec_capacity}
use Rattle.stations.proofs.many_stations.split_done.Given as goal

abbrev pub invariant-loop-one : goal.invariant-loop-one
invariant-loop-one g l = record {
  in_turn : l.yielded ++ l.one-iterator.rest.items ≡ l.fn.done.items;
  rest : length l.one-iterator.rest.items ≡ l.one-iterator.rest.len;
  ended : l.ended.items ≡ map (λ d. d.ended) l.yielded;
  runs : l.runs.items ≡ map (λ d. d.run) l.yielded;
  ended_room : length l.fn.done.items ≤ vec_capacity l.ended;
  runs_room : length l.fn.done.items ≤ vec_capacity l.runs;
}
