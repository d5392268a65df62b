-- What was sent to each station.
use Rattle.std.specs.Prelude.{◌≡◌, ◌⊎◌, ◌==◌, ◌+◌, ℕ, Bool, true, false, cond, List, [], ◌∷◌, ◌++◌, length, slice_get, Some}
use mathlib.Core.List.{IsPrefix}
use Rattle.crossbeam_channel.specs.Ends.{sends_on}
use Rattle.answers.specs.declared.channel.AnswerSender.{AnswerSender}
use Rattle.answers.specs.Views.{sent_of}
use Rattle.flusher.specs.Stages.{Sent}

-- the answers to a station, in order
abbrev pub answers_to : ℕ → List Sent → List Sent
answers_to s [] = []
answers_to s (x ∷ xs) = cond (x.command.station == s) (x ∷ answers_to s xs) (answers_to s xs)

-- The answers `xs` were sent on a channel. `old` are all that were sent before, and `new` all that are sent after. Or the channel's session is
-- gone, and only a prefix of `xs` was sent. If the session was found gone before, nothing is sent. `was` and `now` say whether it was found
-- gone before and after.
pub record HasAnswered (old new : List Sent) (was now : Bool) (xs : List Sent) : Type 0 where
  pub kept : was ≡ true → (now ≡ true) × (new ≡ old)
  pub sent : ((was ≡ false) × (now ≡ false) × (new ≡ old ++ xs)) ⊎ ((now ≡ true) × IsPrefix old new × IsPrefix new (old ++ xs))

-- each station was sent its answers among `xs` (`HasAnswered`); the first sender is that of station 1
pub record HaveAnswered (old : List (AnswerSender Sent)) (xs : List Sent) (new : List (AnswerSender Sent)) : Type 0 where
  pub count : length new ≡ length old
  pub each : (k : ℕ) (a b : AnswerSender Sent) → slice_get old k ≡ Some a → slice_get new k ≡ Some b
      → (sends_on b.channel ≡ sends_on a.channel) × HasAnswered (sent_of a.pass) (sent_of b.pass) a.gone b.gone (answers_to (k + 1) xs)
