-- No message is lost over a list of commands.
use Rattle.std.proofs.Common.{◌≡◌, ℕ, ◌+◌, ◌≤◌, Bool, true, false, List, [], ◌∷◌, ◌++◌, refl, ap, sym, ◌∙◌, subst, inl, inr, arith}
use Rattle.std.specs.Prelude.{◌&&◌, ◌||◌, ◌⊎◌, ◌↔◌, IfOk, Result, Ok, Err}
use Rattle.std.specs.List.{Contains}
use Rattle.std.proofs.lemmas.List.Elements.{All-contains}
use mathlib.Core.Bool.{false≢true}
use Rattle.base.proofs.Bools.{rest_false, not_both}
use Rattle.mailbox.specs.Values.{Item}
use Rattle.mailbox.specs.Item.{is_message}
use Rattle.mailbox.specs.Sound.{IsNumbered}
use Rattle.centre_core.specs.declared.command.Command.{Command}
use Rattle.centre_core.specs.declared.reply.Reply.{Reply}
use Rattle.centre_core.specs.declared.reply.Reply.TheVariants.{Accepted, Kept, Refused}
use Rattle.centre_core.specs.State.{State, IsState}
use Rattle.centre_core.specs.Step.{step}
use Rattle.centre_core.specs.History.{is_acceptance, accepts, next, after, ended, names, made}
use Rattle.centre_core.specs.Laws.{NoneLost, NoneLostMade, MessagesStay}
use Rattle.centre_core.proofs.Changed.{Changed}
use Rattle.centre_core.proofs.StepLaws.{Advanced, Outcome, says}
use Rattle.centre_core.proofs.StateLaws.{next_is_state}

-- the number of an item is that of a command accepted so far
numbered : (s : State) → IsState s → (m : Item) → Contains s.mail.items m → m.number ≤ s.count
numbered s state m here = (All-contains (IsNumbered s.count) s.mail.items m state.mail.in_order.numbered here).1

module _ {A B : Type 0} where
  outcome_by : (s t : State) (c : Command A) (reply : Reply B) → Outcome s c t reply → ((is_acceptance reply ≡ true) × Advanced s t c) ⊎ ((is_acceptance reply ≡ false) × (t ≡ s))
  outcome_by s t c (Accepted number pdu) h = inl (refl, h.0)
  outcome_by s t c (Kept number pdu) h = inr (refl, h)
  outcome_by s t c (Refused refusal) h = inr (refl, h)

module _ {A : Type 0} where
  -- a command is accepted, or it changes nothing
  outcome : (s : State) (c : Command A) → ((accepts s c ≡ true) × Advanced s (next s c) c) ⊎ ((accepts s c ≡ false) × (next s c ≡ s))
  outcome s c = outcome_by s (next s c) c (step {B = A} s c).1 (says A s c)

  changed : (s t : State) (c : Command A) → Advanced s t c → Changed s.mail.items t.mail.items s.count (names c) (made s c)
  changed s t c h = subst (λ u. Changed s.mail.items u.mail.items s.count (names c) (made s c)) (sym h.is) h.change.messages

  counted : (s t : State) (c : Command A) → Advanced s t c → t.count ≡ s.count + 1
  counted s t c h = ap (λ u. u.count) h.is ∙ ap (λ n. n + 1) h.change.count

  state_after : (s : State) (cs : List (Command A)) → IsState s → IsState (after s cs)
  state_after s [] state = state
  state_after s (c ∷ cs) state = state_after (next s c) cs (next_is_state s c state)

  low_next : (s : State) (c : Command A) (n : ℕ) → n ≤ s.count → n ≤ (next s c).count
  low_next s c n low =
      elim (outcome s c) [
        | inl h ↦ let e : (next s c).count ≡ s.count + 1 = counted s (next s c) c h.1 in omega (arith, e, low)
        | inr h ↦ subst (λ u. n ≤ u.count) (sym h.1) low
      ]

  -- an item that is gone stays so, since new ones have greater numbers
  was_there : (s : State) (c : Command A) (m : Item) → m.number ≤ s.count → Contains (next s c).mail.items m → Contains s.mail.items m
  was_there s c m low here =
      elim (outcome s c) [
        | inl h ↦ (changed s (next s c) c h.1).old m low here
        | inr h ↦ subst (λ u. Contains u.mail.items m) h.1 here
      ]

  was_there_before : (s : State) (cs : List (Command A)) (m : Item) → m.number ≤ s.count → Contains (after s cs).mail.items m → Contains s.mail.items m
  was_there_before s [] m low here = here
  was_there_before s (c ∷ cs) m low here = was_there s c m low (was_there_before (next s c) cs m (low_next s c m.number low) here)

both_false : (a n e : Bool) → ((a && n) || e) ≡ false → ((a && n) ≡ false) × (e ≡ false)
both_false true true e h = absurd (false≢true (sym h))
both_false true false e h = (refl, h)
both_false false n e h = (refl, h)

one_true : (a n e : Bool) → ((a && n) || e) ≡ true → ((a ≡ true) × (n ≡ true)) ⊎ (e ≡ true)
one_true true true e h = inl (refl, refl)
one_true true false e h = inr h
one_true false n e h = inr h

module _ {A : Type 0} where
  stays_next : (s : State) (c : Command A) (m : Item) → is_message m ≡ true → Contains s.mail.items m → (accepts s c && names c m) ≡ false → Contains (next s c).mail.items m
  stays_next s c m is here none =
      elim (outcome s c) [
        | inl h ↦ (changed s (next s c) c h.1).unended m is here (rest_false (accepts s c) (names c m) h.0 none)
        | inr h ↦ subst (λ u. Contains u.mail.items m) (sym h.1) here
      ]

  stays : (s : State) (cs : List (Command A)) (m : Item) → is_message m ≡ true → Contains s.mail.items m → ended s cs m ≡ false → Contains (after s cs).mail.items m
  stays s [] m is here none = here
  stays s (c ∷ cs) m is here none =
      let h = both_false (accepts s c) (names c m) (ended (next s c) cs m) none in
      stays (next s c) cs m is (stays_next s c m is here h.0) h.1

  gone_next : (s : State) (c : Command A) (m : Item) → is_message m ≡ true → m.number ≤ s.count → accepts s c ≡ true → names c m ≡ true → Contains (next s c).mail.items m → ⊥
  gone_next s c m is low ok ends here =
      elim (outcome s c) [
        | inl h ↦ (changed s (next s c) c h.1).gone m is low ends here
        | inr h ↦ not_both (accepts s c) ok h.0
      ]

  goes : (s : State) (cs : List (Command A)) (m : Item) → is_message m ≡ true → m.number ≤ s.count → ended s cs m ≡ true → Contains (after s cs).mail.items m → ⊥
  goes s [] m is low ends here = false≢true ends
  goes s (c ∷ cs) m is low ends here =
      elim (one_true (accepts s c) (names c m) (ended (next s c) cs m) ends) [
        | inl h ↦ gone_next s c m is low h.0 h.1 (was_there_before (next s c) cs m (low_next s c m.number low) here)
        | inr h ↦ goes (next s c) cs m is (low_next s c m.number low) h here
      ]

  missing_then : (s : State) (cs : List (Command A)) (m : Item) → is_message m ≡ true → Contains s.mail.items m → (b : Bool) → ended s cs m ≡ b → (Contains (after s cs).mail.items m → ⊥) → b ≡ true
  missing_then s cs m is here true e missing = refl
  missing_then s cs m is here false e missing = absurd (missing (stays s cs m is here e))

  exactly : (s : State) → IsState s → (cs : List (Command A)) (m : Item) → is_message m ≡ true → Contains s.mail.items m → (¬ Contains (after s cs).mail.items m) ↔ (ended s cs m ≡ true)
  exactly s state cs m is here = (missing_then s cs m is here (ended s cs m) refl, goes s cs m is (numbered s state m here))

  after_append : (s : State) (bs cs : List (Command A)) → after s (bs ++ cs) ≡ after (after s bs) cs
  after_append s [] cs = refl
  after_append s (b ∷ bs) cs = after_append (next s b) bs cs

  made_next : (s : State) (c : Command A) (m : Item) → accepts s c ≡ true → Contains (made s c) m → (is_message m ≡ true) × Contains (next s c).mail.items m
  made_next s c m ok e =
      elim (outcome s c) [
        | inl h ↦ (changed s (next s c) c h.1).made m e
        | inr h ↦ absurd (not_both (accepts s c) ok h.0)
      ]

pub none_lost : {A : Type 0} → NoneLost A
none_lost s state cs m is here = exactly s state cs m is here

pub none_lost_made : {A : Type 0} → NoneLostMade A
none_lost_made s state bs c cs m ok e =
    let h = made_next (after s bs) c m ok e in
    let t : State = next (after s bs) c in
    let goes_on : after s (bs ++ c ∷ cs) ≡ after t cs = after_append s bs (c ∷ cs) in
    subst (λ u. (¬ Contains u.mail.items m) ↔ (ended t cs m ≡ true)) (sym goes_on) (exactly t (next_is_state (after s bs) c (state_after s bs state)) cs m h.0 h.1)

stays_or_ends : {A : Type 0} (s t : State) (c : Command A) (accepted : Bool) (m : Item) → ((accepted ≡ true) × Advanced s t c) ⊎
    ((accepted ≡ false) × (t ≡ s)) → is_message m ≡ true → Contains s.mail.items m → (b : Bool) → names c m ≡ b
    → Contains t.mail.items m ⊎ ((accepted ≡ true) × (names c m ≡ true))
stays_or_ends s t c accepted m (inl h) is here true e = inr (h.0, e)
stays_or_ends s t c accepted m (inl h) is here false e = inl ((changed s t c h.1).unended m is here e)
stays_or_ends s t c accepted m (inr h) is here b e = inl (subst (λ u. Contains u.mail.items m) (sym h.1) here)

-- each message is kept, unless the command was accepted and ends it
messages_stay : {A : Type 0} (B : Type 0) (s : State) (c : Command A) → MessagesStay s.mail (step {B = B} s c).0.mail (is_acceptance (step {B = B} s c).1) (names c)
messages_stay B s c m is here = stays_or_ends s (step {B = B} s c).0 c (is_acceptance (step {B = B} s c).1) m (outcome_by s (step {B = B} s c).0 c (step s c).1 (says B s c)) is here (names c m) refl

-- so too of a reply that is the step's
pub stay_by_reply : {A B E : Type 0} (s t : State) (c : Command A) (r : Result (Reply B) E) → IfOk r (λ reply. (t, reply) ≡ step s c) →
    IfOk r (λ reply. MessagesStay s.mail t.mail (is_acceptance reply) (names c))
stay_by_reply s t c (Ok reply) h = subst (λ p. MessagesStay s.mail p.0.mail (is_acceptance p.1) (names c)) (sym h) (messages_stay _ s c)
stay_by_reply s t c (Err e) h = tt
