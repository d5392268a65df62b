-- What an accepted command is answered, and what it is answered when it comes again.
use Rattle.std.proofs.Common.{◌≡◌, ℕ, ◌+◌, Bool, true, false, List, refl, ap, sym, ◌∙◌, subst, arith, Option, Some}
use Rattle.std.specs.Prelude.{◌==◌, nat_lt, if◌then◌else◌}
use Rattle.std.proofs.lemmas.Bool.Decides.{nat_tests}
use Rattle.base.proofs.Bools.{if_true}
use Rattle.base.proofs.Numbers.{test_by_same}
use Rattle.centre_core.specs.declared.command.Command.{Command}
use Rattle.centre_core.specs.declared.reply.Reply.{Reply}
use Rattle.centre_core.specs.declared.reply.Refusal.{Refusal}
use Rattle.centre_core.specs.declared.reply.Reply.TheVariants.{Accepted, Kept, Refused}
use Rattle.centre_core.specs.State.{State, LastAccepted}
use Rattle.centre_core.specs.Step.{step, step_after, is_station, last_at}
use Rattle.centre_core.specs.History.{is_acceptance, next}
use Rattle.centre_core.specs.Laws.{AcceptedAreNumbered, ResendsAreAnswered}
use Rattle.centre_core.proofs.StepLaws.{Advanced, Outcome, says}
use Rattle.centre_core.proofs.StateLaws.{step_is_next}
use Rattle.centre_core.proofs.StationLaws.{of_station, same_stations, kept_here}

-- a reply that accepts says what is kept
abbrev IsAcceptedWith : {A : Type 0} → State → State → Command A → ℕ → Option (List Bool) → Type 0
IsAcceptedWith s t c number pdu = (a : Advanced s t c) × (number ≡ s.count + 1) × (pdu ≡ a.pdu)

-- a reply that accepts says just its number and PDU, and no other reply is one
same_answer : {B : Type 0} (n number : ℕ) (p pdu : Option (List Bool)) → ◌≡◌ {A = Reply B} (Accepted n p) (Accepted number pdu) → (number ≡ n) × (pdu ≡ p)
same_answer n number p pdu e = (cc, cc)

not_kept : {B : Type 0} (n number : ℕ) (p pdu : Option (List Bool)) → ◌≡◌ {A = Reply B} (Kept n p) (Accepted number pdu) → ⊥
not_kept n number p pdu e = cc

not_refusal : {B : Type 0} (refusal : Refusal B) (number : ℕ) (pdu : Option (List Bool)) → ◌≡◌ {A = Reply B} (Refused refusal) (Accepted number pdu) → ⊥
not_refusal refusal number pdu e = cc

module _ {A B : Type 0} where
  accepted_with_by : (s t : State) (c : Command A) (reply : Reply B) (number : ℕ) (pdu : Option (List Bool)) → Outcome s c t reply → reply ≡ Accepted number pdu → IsAcceptedWith s t c number pdu
  accepted_with_by s t c (Accepted n p) number pdu h e = let same = same_answer n number p pdu e in (h.0, same.0 ∙ h.1, same.1 ∙ h.2)
  accepted_with_by s t c (Kept n p) number pdu h e = absurd (not_kept n number p pdu e)
  accepted_with_by s t c (Refused refusal) number pdu h e = absurd (not_refusal refusal number pdu e)

  accepted_with : (s : State) (c : Command A) (number : ℕ) (pdu : Option (List Bool)) → (step {B = B} s c).1 ≡ Accepted number pdu → IsAcceptedWith s (next s c) c number pdu
  accepted_with s c number pdu e = subst (λ t. IsAcceptedWith s t c number pdu) (step_is_next B s c) (accepted_with_by s (step {B = B} s c).0 c (step s c).1 number pdu (says B s c) e)

pub accepted_are_numbered : {A : Type 0} (B : Type 0) → AcceptedAreNumbered A B
accepted_are_numbered B s c number pdu e =
    let h = accepted_with {B = B} s c number pdu e in (h.1, ap (λ t. t.count) h.0.is ∙ ap (λ n. n + 1) h.0.change.count ∙ sym h.1)

if_false : {X : Type 0} (b : Bool) (x y : X) → b ≡ false → (if b then x else y) ≡ y
if_false true x y e = cc
if_false false x y e = refl

not_below : (n m : ℕ) → n ≡ m → nat_lt n m ≡ false
not_below n m e = grind (arith, nat_tests)

module _ {A B : Type 0} where
  -- the last command again
  answered : (t : State) (d : Command A) (last : LastAccepted) → is_station t d.station ≡ true → last_at t d.station ≡ Some last →
      d.sequence ≡ last.sequence → step {B = B} t d ≡ (t, Kept last.number last.pdu)
  unfolding step
  answered t d last here known same =
      if_true (is_station t d.station) _ _ here ∙ ap (λ k. step_after t d k) known ∙
      if_false (nat_lt d.sequence last.sequence) _ _ (not_below _ _ same) ∙ if_true (d.sequence == last.sequence) _ _ (test_by_same _ _ same)

pub resends_are_answered : {A : Type 0} (B : Type 0) → ResendsAreAnswered A B
resends_are_answered B s state c again number pdu e same_station same_sequence =
    let h = accepted_with {B = B} s c number pdu e in
    let t = next s c in
    let here : is_station s c.station ≡ true = of_station B s c (ap is_acceptance e) in
    let station : is_station t again.station ≡ true = ap (is_station t) same_station ∙ same_stations s t c h.0 c.station ∙ here in
    let last : LastAccepted = record { sequence = c.sequence; number = h.0.made.count + 1; pdu = h.0.pdu } in
    let known : last_at t again.station ≡ Some last =
    ap (last_at t) same_station ∙ kept_here s t c h.0 state.stations here in
    answered t again last station known same_sequence ∙ ap (λ n. (t, Kept (n + 1) h.0.pdu)) h.0.change.count ∙ ap (λ n. (t, Kept n h.0.pdu)) (sym h.1) ∙ ap (λ p. (t, Kept number p)) (sym h.2)
