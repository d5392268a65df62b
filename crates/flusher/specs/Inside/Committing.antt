-- Taking a batch and committing it, in the parts that the code does it in.
use Rattle.std.specs.Prelude.{◌≡◌, Bool, true, false, List, ◌++◌, [], ◌∷◌, Option, MatchOption, Result, Vec}
use Rattle.std.specs.declared.alloc.Global.{Global}
use Rattle.sector_disk.specs.Disk.{View}
use Rattle.sector_disk.specs.declared.disk.Disk.{Ghosts}
use Rattle.centre_core.specs.Asked.{Asked}
use Rattle.station_queue.specs.declared.entry.Entry.{Entry}
use Rattle.station_queue.specs.Ends.{Taking}
use Rattle.recovery.specs.declared.outcome.Outcome.{Outcome}
use Rattle.recovery.specs.declared.fault.StoreFault.{StoreFault}
use Rattle.recovery.specs.Lives.{StoreView, view_of}
use Rattle.flusher.specs.Shared.{commands_among}
use Rattle.flusher.specs.Batches.{FailsByDisk, HasTaken, HoldsImages, IsAnswerOf, ended_by}
use Rattle.flusher.specs.declared.committing.Committer.{Committer}

-- this entry was taken, or the queue was found empty
abbrev pub HasTakenOne : Option Entry → Taking → Taking → Type 0
HasTakenOne result old new =
    MatchOption result ((new.taken ≡ old.taken) × (new.empty ≡ true)) (λ x. (new.taken ≡ old.taken ++ x ∷ []) × (new.empty ≡ false))

-- Entries were taken, these are the commands among them, and the ends among them were noted. `flags` says of each
-- station whether its end was taken before, and `noted` whether it is now.
pub record HasTakenBatch (old new : Taking) (flags noted : List Bool) (commands : List (Asked Global)) : Type 0 where
  pub popped : List Entry
  pub taken : HasTaken old popped new
  pub these : commands_among popped ≡ commands
  pub ended : noted ≡ ended_by popped flags

-- the result of committing these commands, with a checkpoint first if a record of them would not fit
abbrev pub HasCommitted : {D : Type 0} {g : Ghosts D} → List (Asked Global) → Committer D g → Committer D g
    → Result (Vec (Outcome Global) Global) StoreFault → Type 0
HasCommitted commands old new result = IsAnswerOf commands (view_of old.store) (view_of new.store) result old.attempts new.attempts

-- what a call leaves of the store, whatever it answers
pub record KeepsStore {D : Type 0} (view : D → View) (old new : StoreView Global D) : Type 0 where
  pub images : HoldsImages view old new
  pub fails : FailsByDisk view old new
