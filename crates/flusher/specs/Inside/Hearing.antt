-- What a session receives, and has heard.
use Rattle.std.specs.Prelude.{◌≡◌, ℕ, List, ◌++◌, [], ◌∷◌, length, Option, MatchOption}
use Rattle.std.specs.declared.alloc.Global.{Global}
use Rattle.crossbeam_channel.specs.Claims.{view}
use Rattle.centre_core.specs.Asked.{Asked}
use Rattle.answers.specs.declared.channel.AnswerReceiver.{AnswerReceiver}
use Rattle.answers.specs.Views.{received_of}
use Rattle.flusher.specs.Heard.{Heard, heard}
use Rattle.flusher.specs.Stages.{Sent}

-- this answer was received, or nothing
abbrev pub HasReceivedOne : Option Sent → AnswerReceiver Sent → AnswerReceiver Sent → Type 0
HasReceivedOne result old new =
    MatchOption result (view new.pass ≡ view old.pass) (λ x. received_of new.pass ≡ received_of old.pass ++ x ∷ [])

-- what this receiver received, the list that was seen, and how many of its commands are reached
abbrev pub heard_by : AnswerReceiver Sent → List (Asked Global) → ℕ → Heard
heard_by receiver seen reached = heard (received_of receiver.pass) seen reached

-- what this receiver received, and the list that was seen; all its commands are reached
abbrev pub all_heard_by : AnswerReceiver Sent → List (Asked Global) → Heard
all_heard_by receiver seen = heard_by receiver seen (length seen)
