-- The entry of a station: what an accepted command writes there, and that it writes nowhere else.
use Rattle.std.proofs.Common.{◌≡◌, ◌≢◌, ℕ, zero, suc, ◌+◌, ◌-◌, ◌<◌, ◌≤◌, Bool, true, false, length, refl, ap, sym, ◌∙◌, arith, Some, None, Option, get_or, get_or-set_same, get_or-set_other}
use Rattle.std.specs.Prelude.{◌&&◌, ◌==◌, nat_lt, nat_le, slice_index_or, if◌then◌else◌}
use Rattle.std.proofs.lemmas.List.{get_or_default}
use Rattle.std.proofs.Math.ListN.{length-set}
use Rattle.std.proofs.lemmas.Bool.Decides.{nat_tests}
use mathlib.Core.Bool.{false≢true}
use Rattle.base.proofs.Numbers.{same_by_test, above_none}
use Rattle.centre_core.specs.declared.command.Command.{Command}
use Rattle.centre_core.specs.declared.reply.Reply.{Reply}
use Rattle.centre_core.specs.declared.reply.Reply.TheVariants.{Accepted, Kept, Refused}
use Rattle.centre_core.specs.State.{State, LastAccepted}
use Rattle.centre_core.specs.Step.{step, is_station, last_at}
use Rattle.centre_core.specs.History.{is_acceptance, accepts, next}
use Rattle.centre_core.specs.Histories.{reply_pdu, accepted_by}
use Rattle.centre_core.specs.Laws.{AcceptedAreLast, AcceptedHaveRoom}
use Rattle.centre_core.proofs.StepLaws.{Advanced, Outcome, says}

-- there is a place for each station
abbrev pub HasPlaces : State → Type 0
HasPlaces s = length s.served ≡ s.registered.limits.stations

-- the entry of station 1 comes first
pub last_at_is : (s : State) (station : ℕ) → 0 < station → last_at s station ≡ get_or s.served (station - 1) None
last_at_is s zero some = absurd (omega (arith, some))
last_at_is s (suc before) some = let same : before ≡ suc before - 1 = omega arith in ap (λ n. get_or s.served n None) same

-- an entry that is read of the list is that of its station
pub found_at : (s : State) (station : ℕ) (found : Option LastAccepted) → (station ≡ 0 → ⊥) → found ≡ slice_index_or s.served (station - 1) found
    → station ≤ length s.served → last_at s station ≡ found
found_at s station found some is within =
    let here : station - 1 < length s.served = omega (arith, some, within) in
    last_at_is s station (omega (arith, some)) ∙ get_or_default s.served (station - 1) None found here ∙ sym is

station_if : {B : Type 0} (b : Bool) (x : State × Reply B) (y : State × Reply B) → is_acceptance y.1 ≡ false → is_acceptance (if b then x else y).1 ≡ true → b ≡ true
station_if true x y h e = refl
station_if false x y h e = absurd (false≢true (sym h ∙ e))

-- what is accepted is of a station
pub of_station : {A : Type 0} (B : Type 0) (s : State) (c : Command A) → is_acceptance (step {B = B} s c).1 ≡ true → is_station s c.station ≡ true
unfolding step
of_station B s c ok = station_if (is_station s c.station) _ _ refl ok

other_number : (a b : ℕ) → (a == b) ≡ false → a ≢ b
other_number a b h = λ e. (let clash : (a == b) ≡ true = grind (arith, nat_tests) in false≢true (sym h ∙ clash))

module _ {A : Type 0} where
  -- the stations stay
  pub same_stations : (s t : State) (c : Command A) → Advanced s t c → (i : ℕ) → is_station t i ≡ is_station s i
  same_stations s t c h i = ap (λ u. is_station u i) h.is ∙ ap (λ l. nat_lt 0 i && nat_le i l.stations) h.change.limits

  pub kept_here : (s t : State) (c : Command A) (h : Advanced s t c) → HasPlaces s → is_station s c.station ≡ true →
      last_at t c.station ≡ Some (record { sequence = c.sequence; number = h.made.count + 1; pdu = h.pdu })
  kept_here s t c h places here =
      let place : (0 < c.station) × (c.station ≤ s.registered.limits.stations) = above_none _ _ here in
      let same : length h.made.served ≡ length s.served = ap length h.change.served in
      let within : c.station - 1 < length h.made.served = omega arith in
      last_at_is t c.station place.0 ∙ ap (λ u. get_or u.served (c.station - 1) None) h.is ∙ get_or-set_same h.made.served (c.station - 1) _ None within

  pub kept_elsewhere : (s t : State) (c : Command A) → Advanced s t c → is_station s c.station ≡ true → (i : ℕ) → i ≢ c.station → last_at t i ≡ last_at s i
  kept_elsewhere s t c h here zero apart = refl
  kept_elsewhere s t c h here (suc j) apart =
      let place : (0 < c.station) × (c.station ≤ s.registered.limits.stations) = above_none _ _ here in
      let other : j ≢ c.station - 1 = λ e. apart (omega arith) in
      ap (λ u. get_or u.served j None) h.is ∙ get_or-set_other h.made.served (c.station - 1) j _ None other ∙ ap (λ served. get_or served j None) h.change.served

  pub places_after : (s t : State) (c : Command A) → Advanced s t c → HasPlaces s → HasPlaces t
  places_after s t c h places =
      ap (λ u. length u.served) h.is ∙ length-set h.made.served (c.station - 1) _ ∙ ap length h.change.served ∙ places ∙
      ap (λ l. l.stations) (sym h.change.limits) ∙ ap (λ u. u.registered.limits.stations) (sym h.is)

  -- an acceptance writes its entry
  pub advanced_by : (s t : State) (c : Command A) (reply : Reply A) → Outcome s c t reply → is_acceptance reply ≡ true → (a : Advanced s t c) × (a.pdu ≡ reply_pdu reply)
  advanced_by s t c (Accepted number pdu) h ok = (h.0, sym h.2)
  advanced_by s t c (Kept number pdu) h ok = absurd (false≢true ok)
  advanced_by s t c (Refused refusal) h ok = absurd (false≢true ok)

  pub advanced : (s : State) (c : Command A) → accepts s c ≡ true → (a : Advanced s (next s c) c) × (a.pdu ≡ reply_pdu (step {B = A} s c).1)
  advanced s c ok = advanced_by s (next s c) c (step s c).1 (says A s c) ok

  kept_by : (s : State) (c : Command A) → HasPlaces s → accepts s c ≡ true → (station : ℕ) (b : Bool) → (station == c.station) ≡ b →
      last_at (next s c) station ≡ (if b then Some (accepted_by s c) else last_at s station)
  kept_by s c places ok station true e =
      let a = advanced s c ok in
      ap (last_at (next s c)) (same_by_test station c.station e) ∙ kept_here s (next s c) c a.0 places (of_station A s c ok)
      ∙ (λ i. Some (record { sequence = c.sequence; number = a.0.change.count i + 1; pdu = a.1 i }))
  kept_by s c places ok station false e = kept_elsewhere s (next s c) c (advanced s c ok).0 (of_station A s c ok) station (other_number station c.station e)

  pub kept_next : (s : State) (c : Command A) → HasPlaces s → accepts s c ≡ true → (station : ℕ) →
      last_at (next s c) station ≡ (if station == c.station then Some (accepted_by s c) else last_at s station)
  kept_next s c places ok station = kept_by s c places ok station (station == c.station) refl

pub accepted_are_last : {A : Type 0} → AcceptedAreLast A
accepted_are_last s state c ok station = kept_next s c state.stations ok station

pub accepted_have_room : {A : Type 0} → AcceptedHaveRoom A
accepted_have_room s c ok = (advanced s c ok).0.numbers_left
