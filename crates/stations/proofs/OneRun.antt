-- A run of a session, by equal names for its station and for the session.
use Rattle.std.proofs.Common.{◌≡◌, Bool, List, Option, Result, subst}
use Rattle.std.specs.declared.alloc.Global.{Global}
use Rattle.identity.specs.Numbers.{Byte}
use Rattle.registration.specs.Numbers.{Station}
use Rattle.centre_core.specs.State.{State}
use Rattle.console.specs.declared.running.Ran.{Ran}
use Rattle.console.specs.declared.running.RunFault.{RunFault}
use Rattle.console.specs.Runs.{IsRun}
use Rattle.console.specs.Told.{Streams, Tells, TellsWholeSince}
use Rattle.flusher.specs.declared.session.Session.{Session}
use Rattle.stations.specs.OfSession.{at_session, of_session}
use Rattle.stations.specs.OneRun.{IsRunBy, IsToldBy, IsWholeBy}

module _ (J : Type 0) (base : State) (may_order : Bool) (unread before after : Option (List Byte)) (result : Result Ran RunFault) where
  -- a run of the lines of this station, from this session to that one
  abbrev RunsFrom : Station → Session J → Session J → Type 0
  RunsFrom station s t = IsRun Global (of_session J base may_order)
      (record { speaker = record { station = station; orders = may_order }; world = at_session s; unread = unread; written = before })
      (record { result = result; world = at_session t; written = after })

  -- it is so by equal ones
  pub run_by : (station : Station) (s s' t t' : Session J) → station ≡ s'.sender.station → s ≡ s' → t ≡ t' → RunsFrom station s t → IsRunBy J base may_order s' unread before result t' after
  run_by station s s' t t' e f h run =
      subst (RunsFrom s'.sender.station s') h (subst (λ u. RunsFrom s'.sender.station u t) f (subst (λ k. RunsFrom k s t) e run))

module _ (J : Type 0) (base : State) (may_order : Bool) (before after : Streams) (result : Result Ran RunFault) where
  -- what is told of it
  abbrev TellsFrom : Station → Session J → Session J → Type 0
  TellsFrom station s t =
      Tells Global (of_session J base may_order) (record { station = station; orders = may_order }) (at_session s) (at_session t) before after result

  pub told_by : (station : Station) (s s' t t' : Session J) → station ≡ s'.sender.station → s ≡ s' → t ≡ t' → TellsFrom station s t → IsToldBy J base may_order s' before result t' after
  told_by station s s' t t' e f h told =
      subst (TellsFrom s'.sender.station s') h (subst (λ u. TellsFrom s'.sender.station u t) f (subst (λ k. TellsFrom k s t) e told))

module _ (J : Type 0) (base : State) (may_order : Bool) (before after : Streams) where
  -- every whole line that was read in it is answered
  abbrev TellsWholeFrom : Station → Session J → Session J → Type 0
  TellsWholeFrom station s t =
      TellsWholeSince Global (of_session J base may_order) (record { station = station; orders = may_order }) (at_session s) (at_session t) before after

  pub whole_by : (station : Station) (s s' t t' : Session J) → station ≡ s'.sender.station → s ≡ s' → t ≡ t' → TellsWholeFrom station s t → IsWholeBy J base may_order s' before t' after
  whole_by station s s' t t' e f h whole =
      subst (TellsWholeFrom s'.sender.station s') h (subst (λ u. TellsWholeFrom s'.sender.station u t) f (subst (λ k. TellsWholeFrom k s t) e whole))
