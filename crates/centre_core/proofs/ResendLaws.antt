-- Resends may be left out of a list of commands.
use Rattle.std.proofs.Common.{◌≡◌, ◌≢◌, ℕ, ◌+◌, Bool, true, false, cond, List, [], ◌∷◌, refl, ap, sym, ◌∙◌, subst, inl, inr, arith, Option, Some, None}
use Rattle.std.specs.Prelude.{◌&&◌, ◌||◌, ◌==◌, ◌⊎◌, nat_lt, nat_le, if◌then◌else◌}
use Rattle.std.specs.List.{list_any}
use Rattle.std.proofs.lemmas.Bool.Decides.{nat_tests}
use Rattle.std.proofs.lemmas.Bool.{cases_eq}
use mathlib.Core.Bool.{false≢true}
use Rattle.base.proofs.Bools.{rest_false, both_true, and_is_true}
use Rattle.centre_core.specs.declared.command.Command.{Command}
use Rattle.centre_core.specs.declared.reply.Reply.{Reply}
use Rattle.centre_core.specs.declared.reply.Reply.TheVariants.{Accepted, Kept, Refused}
use Rattle.centre_core.specs.State.{State, LastAccepted}
use Rattle.centre_core.specs.Step.{step, step_after, is_station, last_at}
use Rattle.centre_core.specs.History.{is_acceptance, accepts, next, after, has_reached, is_at_least, is_no_later, is_resend, fresh_from}
use Rattle.centre_core.specs.Laws.{ResendsAreIdle}
use Rattle.centre_core.proofs.StepLaws.{Advanced, Outcome, says}
use Rattle.centre_core.proofs.StationLaws.{HasPlaces, of_station, same_stations, kept_here, kept_elsewhere, places_after}

below_or_equal : (q last : ℕ) → nat_le q last ≡ true → (nat_lt q last || (q == last)) ≡ true
below_or_equal q last h = grind (arith, nat_tests)

later : (a b : Bool) → (a || b) ≡ true → a ≡ false → b ≡ true
later a b h e = subst (λ v. (v || b) ≡ true) e h

module _ {A : Type 0} where
  -- a repeat and an old command change nothing
  abbrev Idle : State → State × Reply A → Type 0
  Idle s r = (r.0 ≡ s) × (is_acceptance r.1 ≡ false)

  idle_if : (s : State) (b : Bool) (x y : State × Reply A) → (b ≡ true → Idle s x) → (b ≡ false → Idle s y) → Idle s (if b then x else y)
  idle_if s true x y h k = h refl
  idle_if s false x y h k = k refl

  idle_after : (s : State) (c : Command A) (kept : Option LastAccepted) → is_at_least c.sequence kept ≡ true → Idle s (step_after s c kept)
  idle_after s c None h = absurd (false≢true h)
  idle_after s c (Some last) h =
      idle_if s (nat_lt c.sequence last.sequence) _ _ (λ _. (refl, refl))
      (λ e. idle_if s (c.sequence == last.sequence) _ _ (λ _. (refl, refl))
      (λ f. absurd (false≢true
      (sym f ∙ later (nat_lt c.sequence last.sequence) (c.sequence == last.sequence) (below_or_equal c.sequence last.sequence h) e))))

  idle : (s : State) (c : Command A) → has_reached s c.station c.sequence ≡ true → Idle s (step s c)
  unfolding step
  idle s c h = idle_if s (is_station s c.station) _ _ (λ _. idle_after s c (last_at s c.station) (both_true _ _ h).1) (λ _. (refl, refl))

  is_new : (s : State) (c : Command A) (b : Bool) → has_reached s c.station c.sequence ≡ b → accepts s c ≡ true → b ≡ false
  is_new s c false e ok = refl
  is_new s c true e ok = absurd (false≢true (sym (idle s c e).1 ∙ ok))

  outcome_by : (s t : State) (c : Command A) (reply : Reply A) → Outcome s c t reply → ((is_acceptance reply ≡ true) × Advanced s t c) ⊎ ((t ≡ s) × (is_acceptance reply ≡ false))
  outcome_by s t c (Accepted number pdu) h = inl (refl, h.0)
  outcome_by s t c (Kept number pdu) h = inr (h, refl)
  outcome_by s t c (Refused refusal) h = inr (h, refl)

  -- a command is accepted, or it changes nothing
  outcome : (s : State) (c : Command A) → ((accepts s c ≡ true) × Advanced s (next s c) c) ⊎ ((next s c ≡ s) × (accepts s c ≡ false))
  outcome s c = outcome_by s (next s c) c (step s c).1 (says A s c)

by_kept : (kept : Option LastAccepted) (q sequence : ℕ) → is_at_least q kept ≡ true → is_at_least sequence kept ≡ false → nat_le q sequence ≡ true
by_kept None q sequence h k = absurd (false≢true h)
by_kept (Some last) q sequence h k = grind (arith, nat_tests)

same_station : (n m q r : ℕ) → ((n == m) && nat_le q r) ≡ true → (n ≡ m) × (nat_le q r ≡ true)
same_station n m q r h = grind (arith, nat_tests)

-- one of three
one_of : (x y z : Bool) → (x || (y || z)) ≡ true → ((x || z) ≡ true) ⊎ (y ≡ true)
one_of true y z h = inl refl
one_of false true z h = inr refl
one_of false false z h = inl h

by_none : (a : Bool) → (a || false) ≡ true → a ≡ true
by_none true h = refl
by_none false h = h

module _ {A : Type 0} where
  -- after a command is accepted its station has its sequence, and the others are as they were
  here_after : (s t : State) (c : Command A) → Advanced s t c → HasPlaces s → accepts s c ≡ true → (q : ℕ) → nat_le q c.sequence ≡ true → has_reached t c.station q ≡ true
  here_after s t c h places ok q low =
      let here : is_station s c.station ≡ true = of_station A s c ok in
      let known : last_at t c.station ≡ Some (record { sequence = c.sequence; number = h.made.count + 1; pdu = h.pdu }) = kept_here s t c h places here in
      and_is_true (is_station t c.station) _ (same_stations s t c h c.station ∙ here) (subst (λ k. is_at_least q k ≡ true) (sym known) low)

  other_after : (s t : State) (c : Command A) → Advanced s t c → accepts s c ≡ true → (i q : ℕ) → i ≢ c.station → has_reached t i q ≡ has_reached s i q
  other_after s t c h ok i q apart = λ j. same_stations s t c h i j && is_at_least q (kept_elsewhere s t c h (of_station A s c ok) i apart j)

  places_next : (s : State) (c : Command A) → HasPlaces s → HasPlaces (next s c)
  places_next s c places = elim (outcome s c) [ inl h ↦ places_after s (next s c) c h.1 places | inr h ↦ subst HasPlaces (sym h.0) places ]

  -- a station's last sequence never falls
  rises : (s : State) (c : Command A) → HasPlaces s → (i q : ℕ) → has_reached s i q ≡ true → has_reached (next s c) i q ≡ true
  rises s c places i q h =
      elim (outcome s c) [
        | inl o ↦ elim (cases_eq i c.station) [
          | inl e ↦ let there : has_reached s c.station q ≡ true = subst (λ n. has_reached s n q ≡ true) e h in
              let low : nat_le q c.sequence ≡ true =
              by_kept (last_at s c.station) q c.sequence (both_true _ _ there).1
              (rest_false (is_station s c.station) _ (both_true _ _ there).0 (is_new s c _ refl o.0)) in
              subst (λ n. has_reached (next s c) n q ≡ true) (sym e) (here_after s (next s c) c o.1 places o.0 q low)
          | inr apart ↦ other_after s (next s c) c o.1 o.0 i q apart ∙ h
        ]
        | inr o ↦ subst (λ u. has_reached u i q ≡ true) (sym o.0) h
      ]

  -- the state reached knows of each resend
  abbrev Knows : State → List (Command A) → State → Type 0
  Knows s done now = (c : Command A) → is_resend s done c ≡ true → has_reached now c.station c.sequence ≡ true

  knows_more : (s : State) (done : List (Command A)) (now : State) (d : Command A) → HasPlaces now → Knows s done now → accepts now d ≡ true →
      Advanced now (next now d) d → Knows s (d ∷ done) (next now d)
  knows_more s done now d places knows ok h c again =
      elim (one_of (has_reached s c.station c.sequence) (is_no_later c d) (list_any (is_no_later c) done) again) [
        | inl e ↦ rises now d places c.station c.sequence (knows c e)
        | inr e ↦ let f = same_station d.station c.station c.sequence d.sequence e in
            subst (λ n. has_reached (next now d) n c.sequence ≡ true) f.0 (here_after now (next now d) d h places ok c.sequence f.1)
      ]

  knows_next : (s : State) (done : List (Command A)) (now : State) (d : Command A) → HasPlaces now → Knows s done now → Knows s (cond (accepts now d) (d ∷ done) done) (next now d)
  knows_next s done now d places knows =
      elim (outcome now d) [
        | inl o ↦ subst (λ b. Knows s (cond b (d ∷ done) done) (next now d)) (sym o.0) (knows_more s done now d places knows o.0 o.1)
        | inr o ↦ subst (λ b. Knows s (cond b (d ∷ done) done) (next now d)) (sym o.1) (subst (Knows s done) (sym o.0) knows)
      ]

  skips : (b : Bool) (now t : State) (c : Command A) (rest : List (Command A)) (end : State) → t ≡ next now c → (b ≡ true → t ≡ now) → end ≡ after t rest → end ≡ after now (cond b rest (c ∷ rest))
  skips true now t c rest end is same h = h ∙ ap (λ u. after u rest) (same refl)
  skips false now t c rest end is same h = h ∙ ap (λ u. after u rest) is

  without_resends : (s : State) (done : List (Command A)) (now : State) (cs : List (Command A)) → HasPlaces now → Knows s done now → after now cs ≡ after now (fresh_from s done now cs)
  without_resends s done now [] places knows = refl
  without_resends s done now (c ∷ cs) places knows =
      skips (is_resend s done c) now (next now c) c (fresh_from s (cond (accepts now c) (c ∷ done) done) (next now c) cs) (after (next now c) cs) refl (λ again. (idle now c (knows c again)).0)
      (without_resends s (cond (accepts now c) (c ∷ done) done) (next now c) cs (places_next now c places) (knows_next s done now c places knows))

  knows_first : (s : State) → Knows s [] s
  knows_first s c h = by_none (has_reached s c.station c.sequence) h

pub resends_are_idle : {A : Type 0} → ResendsAreIdle A
resends_are_idle s state cs = without_resends s [] s cs state.stations (knows_first s)
