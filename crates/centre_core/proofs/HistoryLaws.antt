-- What holds of histories.
use Rattle.std.proofs.Common.{◌≡◌, ℕ, ◌+◌, ◌-◌, true, List, [], ◌∷◌, ◌++◌, length, refl, ap, ◌∙◌, arith, Option, Some, None}
use Rattle.std.specs.Prelude.{◌==◌, nat_lt, if◌then◌else◌}
use Rattle.std.specs.List.{slice_get}
use Rattle.std.proofs.lemmas.Bool.Decides.{nat_tests}
use Rattle.base.proofs.Bools.{if_true}
use Rattle.centre_core.specs.declared.command.Command.{Command}
use Rattle.centre_core.specs.State.{State, LastAccepted}
use Rattle.centre_core.specs.Step.{last_at}
use Rattle.centre_core.specs.History.{accepts, next, after}
use Rattle.centre_core.specs.Histories.{IsHistory, accepted_by, last_accepted_of}
use Rattle.centre_core.specs.Laws.{HistoriesAreNumbered, LastAcceptedAreLast}
use Rattle.centre_core.proofs.StationLaws.{HasPlaces, advanced, places_after, kept_next}

module _ {A : Type 0} where
  -- the first commands of a history are one, and the next is accepted
  prefix : (base : State) (bs : List (Command A)) (c : Command A) (cs : List (Command A)) → IsHistory base (bs ++ c ∷ cs) → IsHistory base bs × (accepts (after base bs) c ≡ true)
  prefix base [] c cs h = (tt, h.0)
  prefix base (b ∷ bs) c cs h = let rest = prefix (next base b) bs c cs h.1 in ((h.0, rest.0), rest.1)

  pub counted_next : (s : State) (c : Command A) → accepts s c ≡ true → (next s c).count ≡ s.count + 1
  counted_next s c ok = let a = advanced s c ok in ap (λ t. t.count) a.0.is ∙ ap (λ n. n + 1) a.0.change.count

  pub counted : (base : State) (cs : List (Command A)) → IsHistory base cs → (after base cs).count ≡ base.count + length cs
  counted base [] h = omega arith
  counted base (c ∷ cs) h = omega (arith, counted (next base c) cs h.1, counted_next base c h.0)

  here : (bs : List (Command A)) (c : Command A) (cs : List (Command A)) → slice_get (bs ++ c ∷ cs) (length bs) ≡ Some c
  here [] c cs = refl
  here (b ∷ bs) c cs = here bs c cs

  pub histories_are_numbered : HistoriesAreNumbered A
  histories_are_numbered base bs c cs h =
      let parts = prefix base bs c cs h in
      let above : nat_lt base.count (base.count + length bs + 1) ≡ true = grind (arith, nat_tests) in
      let place : base.count + length bs + 1 - base.count - 1 ≡ length bs = omega arith in (
        if_true (nat_lt base.count (base.count + length bs + 1)) _ None above ∙ ap (slice_get (bs ++ c ∷ cs)) place ∙ here bs c cs,
        parts.1,
        ap (λ n. n + 1) (counted base bs parts.0),
      )

  accepted_last : (base : State) → HasPlaces base → (cs : List (Command A)) → IsHistory base cs → (station : ℕ) (entry : Option LastAccepted) →
      last_at base station ≡ entry → last_at (after base cs) station ≡ last_accepted_of station entry base cs
  accepted_last base places [] h station entry e = e
  accepted_last base places (c ∷ cs) h station entry e =
      accepted_last (next base c) (places_after base (next base c) c (advanced base c h.0).0 places) cs h.1 station (if station == c.station then Some (accepted_by base c) else entry)
      (kept_next base c places h.0 station ∙ ap (λ k. if station == c.station then Some (accepted_by base c) else k) e)

  pub last_accepted_are_last : LastAcceptedAreLast A
  last_accepted_are_last base state cs h station = accepted_last base state.stations cs h station (last_at base station) refl
