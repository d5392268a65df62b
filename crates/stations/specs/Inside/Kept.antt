-- What a call leaves of a session.
use mathlib.Core.List.{IsPrefix}
use Rattle.flusher.specs.Sessions.{IsSameSession}
use Rattle.flusher.specs.declared.session.Session.{Session}

-- The session has the station, queue, channel and share that it had. What it had seen is a prefix of what it has seen.
pub record KeepsSession {J : Type 0} (old new : Session J) : Type 0 where
  pub same : IsSameSession old new
  pub seen : IsPrefix old.viewer new.viewer
