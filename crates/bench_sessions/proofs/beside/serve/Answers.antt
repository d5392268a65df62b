use denote.Param.Send.{sendable}
use Rattle.bench_sessions.proofs.beside.serve.Goals as goal

pub scoped-requires : goal.scoped-requires
scoped-requires g c = record { at = λ a. (c.requires.settled, search (sendable) depth 20) }
