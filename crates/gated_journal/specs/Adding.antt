-- What an append does to the disk and to the place of the journal.
use Rattle.std.specs.Prelude.{◌≡◌, ℕ, List, OnOk, Result, false}
use Rattle.std.specs.Borrow.{Bor}
use Rattle.centre_core.specs.Asked.{Asked}
use Rattle.sector_disk.specs.Disk.{View}
use Rattle.sector_disk.specs.Run.{HasCalled, HasMade, IsSameOutside, LeavesOnly}
use Rattle.gated_journal.specs.Calls.{append_both_calls, append_calls}
use Rattle.gated_journal.specs.Half.{RecordAt}
use Rattle.gated_journal.specs.Settled.{HasOneMore, HaveOneMore, IsSameOutsideBoth, IsSettled, Leaves, LeavesBoth, following_given, new_entry, text_at}
use Rattle.gated_journal.specs.declared.fault.JournalError.{JournalError}
use Rattle.gated_journal.specs.declared.fault.JournalError.TheVariants.{JournalFull, DiskFault, Damaged, NoMemory}
use Rattle.gated_journal.specs.declared.place.Place.{Place}

module _ {B : Type 0} (A : Type 0) where
  -- What an append of one record, of these commands, does to the disk and to a place. `after` is the place after the call.
  pub record AddsOne (old new : View) (place after : Place) (commands : List (Bor (Asked B))) (result : Result Unit JournalError) : Type 0 where
    -- A stop at any moment of the call leaves in the half the records from before the call, with the new one whole or without it.
    -- Outside the half it leaves what a stop before the call could leave.
    pub any_moment : (before : ℕ) (entries : List (RecordAt A)) → old.honest → IsSettled old place before entries
        → LeavesOnly old new (Leaves old place before entries (new_entry A place commands))
    -- At `Ok` a stop after the call leaves the new record too. Nothing is pending, and all outside the half reads as before the
    -- call. `after` counts the new commands, and its next gate is the one after the new record.
    pub acknowledged : OnOk result ((before : ℕ) (entries : List (RecordAt A)) → old.honest → IsSettled old place before entries
        → HasOneMore new after before entries (new_entry A place commands))
    pub durable : old.honest → OnOk result ((k : ℕ) → new.pending k ≡ false)
    pub elsewhere : old.honest → OnOk result (IsSameOutside place.first place.end old new)
    pub next : OnOk result (after ≡ following_given A place commands)
    -- Each data sector and each gate is written once, with two syncs, and nothing is read. A call that fails is the last.
    pub calls : OnOk result (HasCalled old new (append_calls place.next (text_at A place commands)))
    pub some_calls : HasMade old new (append_calls place.next (text_at A place commands))

  -- What an append of one record, of these commands, to two halves does to the disk and to their places x and y. `x_after` and
  -- `y_after` are the places after the call.
  pub record AddsToBoth (old new : View) (x x_after y y_after : Place) (commands : List (Bor (Asked B))) (result : Result Unit JournalError)
      : Type 0 where
    -- A stop at any moment of the call leaves in each half the records from before the call, with the new one whole or without it.
    -- The new record may be in one half alone. Outside the two halves a stop leaves what a stop before the call could leave.
    pub any_moment : (before start : ℕ) (entries others : List (RecordAt A)) → old.honest → IsSettled old x before entries → IsSettled old y start others
        → LeavesOnly old new (LeavesBoth old x y before start entries others (new_entry A x commands) (new_entry A y commands))
    -- At `Ok` a stop after the call leaves the new record in both halves. Nothing is pending, and all outside the halves reads as
    -- before the call. `x_after` and `y_after` count the new commands, and their next gates are those after the new record.
    pub acknowledged : OnOk result ((before start : ℕ) (entries others : List (RecordAt A)) → old.honest
        → IsSettled old x before entries → IsSettled old y start others
        → HaveOneMore new x_after y_after before start entries others (new_entry A x commands) (new_entry A y commands))
    pub durable : old.honest → OnOk result ((k : ℕ) → new.pending k ≡ false)
    pub elsewhere : old.honest → OnOk result (IsSameOutsideBoth x y old new)
    pub next : OnOk result (x_after ≡ following_given A x commands)
    pub other_next : OnOk result (y_after ≡ following_given A y commands)
    -- Each data sector and each gate is written once, with two syncs, and nothing is read. A call that fails is the last.
    pub calls : OnOk result (HasCalled old new (append_both_calls x.next (text_at A x commands) y.next (text_at A y commands)))
    pub some_calls : HasMade old new (append_both_calls x.next (text_at A x commands) y.next (text_at A y commands))

-- an error that an append may answer: the record does not fit (`JournalFull`), or the device fails (`DiskFault`)
abbrev pub IsOfAppend : JournalError → Type 0
IsOfAppend JournalFull = Unit {0}
IsOfAppend DiskFault = Unit {0}
IsOfAppend (Damaged at) = ⊥
IsOfAppend NoMemory = ⊥
