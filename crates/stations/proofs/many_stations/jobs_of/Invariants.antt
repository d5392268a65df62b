use Rattle.std.proofs.Common.{◌≡◌, ◌≤◌, ◌++◌, length}
use Rattle.std.specs.Prelude.{All, map, vec_capacity}
use Rattle.stations.specs.Orders.{may}
use Rattle.stations.proofs.many_stations.jobs_of.Given as goal

abbrev pub invariant-loop-session : goal.invariant-loop-session
invariant-loop-session g l = record {
  in_turn : l.yielded ++ l.session-iterator.rest.items ≡ l.fn.sessions.items;
  rest : length l.session-iterator.rest.items ≡ l.session-iterator.rest.len;
  ports : map (λ job. job.port) l.jobs.items ++ l.ports.rest.items ≡ l.fn.ports.items;
  ports_rest : length l.ports.rest.items ≡ l.ports.rest.len;
  sessions : map (λ job. job.session) l.jobs.items ≡ l.yielded;
  orders : All (λ job. job.orders ≡ may l.fn.terms.orders job.session.sender.station) l.jobs.items;
  turns : All (λ job. job.turns ≡ l.fn.terms.turns) l.jobs.items;
  room : length l.fn.sessions.items ≤ vec_capacity l.jobs;
}
