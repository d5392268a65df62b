-- A record that is added to the journals of a store.
use Rattle.std.specs.Prelude.{◌≡◌, ◌≤◌, ◌+◌, IfErr, IfSome, List, OnOk, Result, length, true}
use Rattle.std.specs.Borrow.{Bor}
use Rattle.sector_disk.specs.Disk.{HasFailed, View}
use Rattle.sector_disk.specs.Run.{HasCalled, HasMade, LeavesOnly}
use Rattle.sector_disk.specs.declared.disk.Disk.{Ghosts}
use Rattle.centre_core.specs.Asked.{Asked}
use Rattle.centre_core.specs.State.{State}
use Rattle.centre_core.specs.History.{after}
use Rattle.centre_core.specs.Histories.{IsHistory}
use Rattle.gated_journal.specs.Record.{data_size, given, most_commands}
use Rattle.gated_journal.specs.Settled.{following, room_of, text_at}
use Rattle.recovery.specs.AfterCommit.{HasKept, ongoing_after}
use Rattle.recovery.specs.Calls.{record_calls}
use Rattle.recovery.specs.Commits.{KeepsAll, KeepsOtherRoot, LeavesNoneOrAll}
use Rattle.recovery.specs.Lives.{HasSameButJournals, IsKeptAs, WhereKeptAs, view_of}
use Rattle.recovery.specs.Outcomes.{OpensToEither, asked}
use Rattle.recovery.specs.declared.fault.StoreFault.{StoreFault}
use Rattle.recovery.specs.declared.fault.StoreFault.TheVariants.{DiskFault}
use Rattle.recovery.specs.declared.store.Store.{Store}

-- These commands may go to the journals as one record, in a call: it fits, and the register has applied and counted them already.
pub record MayAdd {A B D : Type 0} {g : Ghosts D} (store : Store A D g) (commands : List (Bor (Asked B))) : Type 0 where
  pub in_call : store.broken ≡ true
  pub few : length commands ≤ most_commands
  pub fits : data_size (text_at A store.journal commands) ≤ room_of store.journal
  pub counted : store.journal.count + length commands ≤ store.register.count
  pub other_counted : IfSome store.ongoing (λ it. it.journal.count + length commands ≤ store.register.count)

-- A record of these commands goes to the journal, and to that of the checkpoint under way. A stop leaves none or all of them. The call
-- fails only if the device does.
pub record AddsRecord {A B D : Type 0} {g : Ghosts D} (view : D → View) (old new : Store A D g) (commands : List (Bor (Asked B)))
    (result : Result Unit StoreFault) : Type 0 where
  pub any_moment : LeavesNoneOrAll A view (view_of old) (view_of new) (asked commands)
  pub kept : OnOk result (KeepsAll A view (view_of old) (view_of new) (asked commands))
  pub journals : OnOk result ((new.journal ≡ following old.journal (given A commands)) × (new.ongoing ≡ ongoing_after old.ongoing (given A commands)))
  pub calls : OnOk result (HasCalled (view old.disk) (view new.disk) (record_calls old.journal old.ongoing (given A commands)))
  pub some_calls : HasMade (view old.disk) (view new.disk) (record_calls old.journal old.ongoing (given A commands))
  pub root : (view old.disk).honest → OnOk result (KeepsOtherRoot A view (view_of old) (view_of new))
  pub same : HasSameButJournals old new
  pub fault : IfErr result (λ e. (e ≡ DiskFault) × HasFailed (view old.disk) (view new.disk))
  pub in_call : new.broken ≡ true
  pub sectors : (view new.disk).sectors ≡ (view old.disk).sectors
  pub later : (view old.disk).failures ≤ (view new.disk).failures
  pub honest : (view old.disk).honest → (view new.disk).honest

-- The register has applied these commands already. A stop leaves the register before them or after them.
-- At `Ok` the latter is on the disk, and the store is where a commit of them leaves it.
pub record KeepsApplied {A B D T E : Type 0} {g : Ghosts D} (view : D → View) (old new : Store A D g) (commands : List (Bor (Asked B)))
    (result : Result T E) : Type 0 where
  pub any_moment :
      (state : State) → IsHistory state (asked commands) → old.register ≡ after state (asked commands)
      → WhereKeptAs A view state (view_of old) (LeavesOnly (view old.disk) (view new.disk) (OpensToEither A state old.register))
  pub kept : OnOk result ((state : State) → IsHistory state (asked commands) → old.register ≡ after state (asked commands)
      → WhereKeptAs A view state (view_of old) (IsKeptAs A view old.register (view_of new)))
  pub goes : OnOk result (HasKept (view_of old) (view_of new) (given A commands))
