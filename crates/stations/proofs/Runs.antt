-- Runs of one station.
use Rattle.std.proofs.Common.{◌≡◌, ℕ, Bool, List, [], ◌∷◌, ◌++◌, refl, ap, sym, ◌∙◌, subst, arith}
use Rattle.std.specs.Prelude.{IsErrOf, Option, Some, Result, Err}
use Rattle.std.proofs.lemmas.List.{append-nil}
use Rattle.std.specs.Str.Lines.{lines}
use Rattle.std.specs.declared.alloc.Global.{Global}
use Rattle.identity.specs.Numbers.{Byte}
use Rattle.registration.specs.Numbers.{Station}
use Rattle.centre_core.specs.State.{State}
use Rattle.console.specs.Reading.{Speaker}
use Rattle.console.specs.Events.{Event, OnlyAnswers, read_by}
use Rattle.console.specs.Runs.{IsRun}
use Rattle.console.specs.Told.{EndsFor, Streams, Tells, TellsBy, TellsWholeSince, reader_events, writer_events}
use Rattle.console.specs.declared.passed.Passed.{Passed}
use Rattle.console.specs.declared.running.Ran.{Ran}
use Rattle.console.specs.declared.running.RunFault.{RunFault}
use Rattle.console.specs.declared.running.RunFault.TheVariants.{NoMemory, Read}
use Rattle.flusher.specs.Submitted.{SessionView}
use Rattle.stations.specs.OfSession.{AtSession, of_session}
use Rattle.stations.specs.Done.{IsRunOf, IsToldOf}
use Rattle.console.proofs.Told.{ends_without, told_since}

module _ (J : Type 0) (base : State) where
  -- the station at the end is the one of the beginning
  pub run_of : (station : Station) (may_order : Bool) (s t : SessionView) (r : Result Ran RunFault) {unread given written held left now : Option (List Byte)} {other : Station} → other ≡ station →
      given ≡ unread → held ≡ written → left ≡ now →
      IsRun Global (of_session J base may_order)
      (record { speaker = record { station = station; orders = may_order }; world = record { station = station; view = s }; unread = given; written = held })
      (record { result = r; world = record { station = other; view = t }; written = left }) →
      IsRunOf J base (record { station = station; orders = may_order }) unread written s t now r
  run_of station may_order s t r same gives holds leaves run =
      subst (λ (q : Station × Option (List Byte) × Option (List Byte) × Option (List Byte)). IsRun Global (of_session J base may_order)
      (record { speaker = record { station = station; orders = may_order }; world = record { station = station; view = s }; unread = q.1; written = q.2 })
      (record { result = r; world = record { station = q.0; view = t }; written = q.3 })) (λ i. (same i, gives i, holds i, leaves i)) run

  -- nothing was done when memory runs out
  pub refused : (speaker : Speaker) (unread written : Option (List Byte)) (s : SessionView) → IsRunOf J base speaker unread written s s written (Err NoMemory)
  refused speaker unread written s = λ input before known held. (
    [],
    held ∙ ap Some (sym (append-nil before)),
    tt,
    record { done = []; left = lines input; answered = []; last = []; part = []; missing = []; all = refl; each = refl; few = omega arith; prefix = refl; written = refl },
  )

  -- what is told of a run in which this passed, by equal names for the station at the end and for the streams
  pub told_of : {I O : Type 0} (passed : Passed I O) (station : Station) (may_order : Bool) (s t : SessionView) (r : Result Ran RunFault)
      (old new : Streams) {unread written now : Option (List Byte)} {other : Station} →
      other ≡ station → old.unread ≡ unread → old.held ≡ written → new.held ≡ now → old.read ≡ [] → old.passed ≡ [] → new.read ≡ read_by (reader_events passed) → new.passed ≡ writer_events passed →
      Tells Global (of_session J base may_order) (record { station = station; orders = may_order })
      (record { station = station; view = s }) (record { station = other; view = t }) old new r →
      (IsErrOf r Read → TellsWholeSince Global (of_session J base may_order) (record { station = station; orders = may_order })
      (record { station = station; view = s }) (record { station = other; view = t }) old new) →
      IsToldOf J base (record { station = station; orders = may_order }) unread written passed s t now r
  told_of passed station may_order s t r old new same gives holds leaves unread_yet unpassed_yet reads passes told whole =
      let rules = of_session J base may_order in
      let speaker : Speaker = record { station = station; orders = may_order } in
      let at : Station → SessionView → AtSession = λ k v. record { station = k; view = v } in
      told_since rules speaker (at station s) (at station t) old new (reader_events passed) (writer_events passed) r unread_yet unpassed_yet reads passes gives holds leaves
      (subst (λ (k : Station). Tells Global rules speaker (at station s) (at k t) old new r) same told)
      (λ failed. subst (λ (k : Station). TellsWholeSince Global rules speaker (at station s) (at k t) old new) same (whole failed))

  -- what is told of a run by these calls of its reader and what passed by its writer
  abbrev TellsIn : Speaker → Option (List Byte) → Option (List Byte) → SessionView → SessionView → Option (List Byte) → Result Ran RunFault → List Event → List Event → Type 0
  TellsIn speaker unread written s t now r calls events =
      TellsBy Global (of_session J base speaker.orders) speaker unread written (record { station = speaker.station; view = s }) (record { station = speaker.station; view = t }) now r calls events

  -- the same of what passed by another writer, if these are the same events
  pub told_within : {I V O : Type 0} (passed : Passed I V) (within : Passed I O) (speaker : Speaker) (unread written : Option (List Byte)) (s t : SessionView) →
      (now : Option (List Byte)) (r : Result Ran RunFault) →
      reader_events within ≡ reader_events passed → writer_events within ≡ writer_events passed →
      IsToldOf J base speaker unread written passed s t now r → IsToldOf J base speaker unread written within s t now r
  told_within passed within speaker unread written s t now r reads writes told =
      subst (λ (q : List Event × List Event). TellsIn speaker unread written s t now r q.0 q.1) (λ i. (sym reads i, sym writes i)) told

  -- nothing was read and nothing passed when memory runs out
  pub told_nothing : {I O : Type 0} (passed : Passed I O) (speaker : Speaker) (unread written : Option (List Byte)) (s : SessionView) → reader_events passed ≡ [] → writer_events passed ≡ [] →
      IsToldOf J base speaker unread written passed s s written (Err NoMemory)
  told_nothing passed speaker unread written s unread_yet unpassed_yet =
      subst (λ (q : List Event × List Event). TellsIn speaker unread written s s written (Err NoMemory) q.0 q.1) (λ i. (sym unread_yet i, sym unpassed_yet i)) (
        λ all known. (all, refl),
        λ held known. known ∙ ap Some (sym (append-nil held)),
        (
          no_moment,
          tt,
          (
            record { done = []; left = lines []; answered = []; last = []; part = []; missing = []; all = refl; each = refl; few = omega arith; prefix = refl; written = refl },
            [],
            refl,
          ),
        ),
        λ failed. absurd cc,
      )
    where
      no_moment : OnlyAnswers []
      no_moment [] after parts = ([], refl)
      no_moment (e ∷ before) after parts = absurd cc

-- out of memory before the first call
pub ended_nothing : {I O : Type 0} (passed : Passed I O) (turns : ℕ) → reader_events passed ≡ [] → writer_events passed ≡ [] →
    EndsFor turns (reader_events passed) (writer_events passed) (Err NoMemory)
ended_nothing passed turns uncalled unpassed =
    subst (λ (q : List Event × List Event). EndsFor turns q.0 q.1 (Err NoMemory)) (λ i. (sym uncalled i, sym unpassed i)) (ends_without turns)
