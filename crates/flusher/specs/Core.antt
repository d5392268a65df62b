-- All that a flusher did since it was opened, as one run of the core.
use Rattle.std.specs.Prelude.{◌≡◌, ℕ, List, [], ◌∷◌}
use Rattle.std.specs.declared.alloc.Global.{Global}
use mathlib.Core.List.{Sublist}
use Rattle.centre_core.specs.Asked.{Asked}
use Rattle.centre_core.specs.State.{State}
use Rattle.schedule.specs.declared.event.Event.{Event}
use Rattle.schedule.specs.declared.event.Event.TheVariants.{Submit}
use Rattle.schedule.specs.World.{Line, opening}
use Rattle.schedule.specs.Next.{Run}
use Rattle.schedule.specs.Clauses.{IsOneLife}
use Rattle.schedule.specs.Rounds.{at}
use Rattle.flusher.specs.Answerings.{HaveAnswered}
use Rattle.flusher.specs.Shared.{commands_among}
use Rattle.flusher.specs.Stages.{Sent, commands_of, entries_of, world_of}
use Rattle.flusher.specs.View.{FlusherView, progress_of, stage_of}

-- the commands that events submit, in order
abbrev pub submissions : List (Event Global) → List (Asked Global)
submissions [] = []
submissions (Submit s c ∷ es) = c ∷ submissions es
submissions (other ∷ es) = submissions es

-- What the flusher did from its first view to its last is a run of the core's events from its opening with n stations.
pub record IsCoreRun {D : Type 0} (base : State) (n : ℕ) (first last : FlusherView D) : Type 0 where
  -- each command that was taken got one answer, in the order in which they were taken, and each station was sent its answers
  pub answers : List Sent
  pub asked : commands_of answers ≡ commands_among last.taker.taken
  pub answered : HaveAnswered first.senders answers last.senders
  -- the events have no reopening, and the commands that they submit are some of those that were taken, in the same order
  pub events : List (Event Global)
  pub one_life : IsOneLife events
  pub submitted : Sublist (submissions events) (commands_among last.taker.taken)
  -- In the world after these events the accepted commands are the durable ones, and as many are published as the flusher published. The
  -- world's answers are the replies among `answers`, in order. The world is down if the disk has failed. `lines` are its stations' lines.
  pub lines : List (Line Global)
  pub run : Run base (opening n) events (at (world_of (stage_of (progress_of last)) (entries_of answers)) lines)
