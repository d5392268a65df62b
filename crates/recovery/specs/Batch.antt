-- What a commit of a batch of commands does.
use Rattle.std.specs.Prelude.{◌≡◌, ◌⊎◌, ◌≤◌, true, false, List, [], length, IfErr, IfOk, IsErrOf, IsOk, OnErr, OnOk, Result, Err, Vec}
use Rattle.std.specs.Borrow.{Bor}
use Rattle.sector_disk.specs.Disk.{View}
use Rattle.sector_disk.specs.declared.disk.Disk.{Ghosts}
use Rattle.centre_core.specs.Asked.{Asked}
use Rattle.centre_core.specs.Batches.{taken}
use Rattle.checkpoint.specs.OnSide.{InEach}
use Rattle.recovery.specs.Calls.{LacksRoom}
use Rattle.recovery.specs.Lives.{IsAnsweredOnHonest, IsUnansweredOnHonest, StaysKept, StopsLeave, StoreView, WhereKept}
use Rattle.recovery.specs.OpensTo.{OpensTo}
use Rattle.recovery.specs.Outcomes.{IsAfterBatch, IsAnswered, OpensToEither, asked}
use Rattle.recovery.specs.Refusals.{IsOfCommit}
use Rattle.recovery.specs.declared.fault.StoreFault.{StoreFault}
use Rattle.recovery.specs.declared.fault.StoreFault.TheVariants.{Broken, DiskFault, NoMemory, Unready}
use Rattle.recovery.specs.declared.outcome.Outcome.{Outcome}
use Rattle.recovery.specs.declared.store.Store.{Store}

-- What is on the disk: a stop at any moment, also in a call that fails, leaves the register before the call or after it. At `Ok` the
-- register after it is there. In the life of the disk the call is answered with these outcomes, or it is not answered.
pub record HoldsBatch {B C D : Type 0} (A : Type 0) (view : D → View) (old new : StoreView A D) (commands : List (Asked B))
    (result : Result (Vec (Outcome C) C) StoreFault) : Type 0 where
  pub any_moment : StopsLeave A view old new (OpensToEither A old.register new.register)
  pub kept : OnOk result (StaysKept A view old new)
  pub acknowledged : OnOk result (WhereKept A view old (InEach (view new.disk) (OpensTo A new.register)))
  pub answered : IfOk result (λ outcomes. IsAnsweredOnHonest A view old commands outcomes.items new)
  pub unanswered : OnErr result (IsUnansweredOnHonest A view old commands new)

-- What it answers: each command its outcome, and the register has applied them. A call that fails leaves the register as it was, or
-- after the first ones. Without commands nothing is done; without an accepted one the disk is not called.
pub record AnswersBatch {A B C D : Type 0} {g : Ghosts D} (old new : Store A D g) (commands : List (Bor (Asked B)))
    (result : Result (Vec (Outcome C) C) StoreFault) : Type 0 where
  pub outcomes : IfOk result (λ outcomes. IsAnswered old.register (asked commands) new.register outcomes.items)
  pub sound : OnOk result (new.broken ≡ false)
  pub register : OnErr result ((new.register ≡ old.register) ⊎ IsAfterBatch old.register (asked commands) new.register)
  pub empty : commands ≡ [] → old.broken ≡ false → OnOk result (new ≡ old)
  pub at_once : commands ≡ [] → old.broken ≡ false → IsOk result
  pub idle : taken old.register (asked commands) ≡ [] → new.disk ≡ old.disk

-- When it is refused, and what then stays: all, but after a fault of the disk. Then the store shows the register before the call.
-- A store that is not broken answers `Unready` where a record of all commands, at least one, would not fit, and only there.
pub record RefusesBatch {A B D T : Type 0} {g : Ghosts D} (old new : Store A D g) (commands : List (Bor (Asked B)))
    (result : Result T StoreFault) : Type 0 where
  pub broken : old.broken ≡ true → result ≡ Err Broken
  pub only_broken : IsErrOf result Broken → (old.broken ≡ true) × (new ≡ old)
  pub unready : old.broken ≡ false → 1 ≤ length commands → LacksRoom A old.journal commands → result ≡ Err Unready
  pub only_unready : IsErrOf result Unready → (old.broken ≡ false) × LacksRoom A old.journal commands × (new ≡ old)
  pub memory : IsErrOf result NoMemory → new ≡ old
  pub fault : IsErrOf result DiskFault → (new.broken ≡ true) × (new.before.value ≡ old.register)
  pub kinds : IfErr result IsOfCommit
