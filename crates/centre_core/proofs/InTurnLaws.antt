-- Lists of commands that are accepted in their turn.
use Rattle.std.proofs.Common.{◌≡◌, ℕ, zero, suc, ◌<◌, ◌≤◌, ◌⊎◌, inl, inr, Bool, true, false, List, [], ◌∷◌, ◌++◌, length, refl, ap, sym, subst, arith, Option, Some, true≢false}
use Rattle.std.specs.Prelude.{◌&&◌, ◌||◌, slice_get}
use Rattle.std.proofs.lemmas.List.{take-append-le}
use Rattle.std.specs.List.{list_any}
use Rattle.base.proofs.Lists.{get_within}
use Rattle.mailbox.specs.Values.{Item}
use Rattle.centre_core.specs.declared.command.Command.{Command}
use Rattle.centre_core.specs.declared.reply.Reply.{Reply}
use Rattle.centre_core.specs.declared.reply.Reply.TheVariants.{Accepted, Kept, Refused}
use Rattle.centre_core.specs.State.{State, LastAccepted}
use Rattle.centre_core.specs.Step.{last_at}
use Rattle.centre_core.specs.History.{is_acceptance, accepts, next, after, names, ended}
use Rattle.centre_core.specs.InTurn.{reply_to, Lands, IsLeftBy, Replied}
use Rattle.centre_core.specs.Histories.{IsHistory}
use Rattle.centre_core.proofs.RepliesSay.{replies_say}
use Rattle.centre_core.proofs.HistoryLaws.{counted_next}

get_more : {X : Type 0} (xs ys : List X) (k : ℕ) (x : X) → slice_get xs k ≡ Some x → slice_get (xs ++ ys) k ≡ Some x
get_more [] ys k x h = absurd cc
get_more (z ∷ zs) ys zero x h = h
get_more (z ∷ zs) ys (suc k) x h = get_more zs ys k x h

module _ {A : Type 0} where
  pub after-append : (s : State) (xs ys : List (Command A)) → after s (xs ++ ys) ≡ after (after s xs) ys
  after-append s [] ys = refl
  after-append s (x ∷ xs) ys = after-append (next s x) xs ys

  pub history-append : (s : State) (xs ys : List (Command A)) → IsHistory s xs → IsHistory (after s xs) ys → IsHistory s (xs ++ ys)
  history-append s [] ys a b = b
  history-append s (x ∷ xs) ys a b = (a.0, history-append (next s x) xs ys a.1 b)

  pub history-prefix : (s : State) (xs ys : List (Command A)) → IsHistory s (xs ++ ys) → IsHistory s xs
  history-prefix s [] ys a = tt
  history-prefix s (x ∷ xs) ys a = (a.0, history-prefix (next s x) xs ys a.1)

  pub history-rest : (s : State) (xs ys : List (Command A)) → IsHistory s (xs ++ ys) → IsHistory (after s xs) ys
  history-rest s [] ys a = a
  history-rest s (x ∷ xs) ys a = history-rest (next s x) xs ys a.1

  lands_later : (s : State) (c : Command A) (l : List (Command A)) (x : Command A) (n : ℕ) (p : Option (List Bool)) → accepts s c ≡ true → Lands (next s c) l x n p → Lands s (c ∷ l) x n p
  lands_later s c l x n p a h =
      let one = counted_next s c a in
      record { place = suc h.place; numbered = let m = h.numbered in omega arith; is_there = h.is_there; replied = h.replied }

  left_by_first : (s : State) (c : Command A) (l : List (Command A)) (k : ℕ) (last : LastAccepted) → 0 < k → (r : Reply A) → reply_to s c ≡ r → Replied s c (next s c) r → is_acceptance r ≡ true
      → last_at (next s c) k ≡ Some last → IsLeftBy s (c ∷ l) k last ⊎ (last_at s k ≡ Some last)
  left_by_first s c l k last pos (Accepted n p) is says a h =
      elim (says.3 k last pos h) [
        | inl q ↦ inl (record {
          first = c;
          of_station = sym q.0;
          of_sequence = sym (ap (λ (z : LastAccepted). z.sequence) q.1);
          lands =
              subst (λ (z : LastAccepted). Lands s (c ∷ l) c z.number z.pdu) (sym q.1) (record { place = 0; numbered = let m = says.1 in omega arith; is_there = refl; replied = is });
        })
        | inr q ↦ inr q
      ]
  left_by_first s c l k last pos (Kept n p) is says a h = absurd (true≢false (sym a))
  left_by_first s c l k last pos (Refused r) is says a h = absurd (true≢false (sym a))

  pub kept_is_there : (s : State) (cs : List (Command A)) → IsHistory s cs → (k : ℕ) (last : LastAccepted) → 0 < k →
      last_at (after s cs) k ≡ Some last → IsLeftBy s cs k last ⊎ (last_at s k ≡ Some last)
  kept_is_there s [] a k last pos h = inr h
  kept_is_there s (c ∷ cs) a k last pos h =
      let here = a.0 in
      elim (kept_is_there (next s c) cs a.1 k last pos h) [
        | inl q ↦ inl (record { first = q.first; of_station = q.of_station; of_sequence = q.of_sequence; lands = lands_later s c cs q.first last.number last.pdu here q.lands })
        | inr q ↦ left_by_first s c cs k last pos (reply_to s c) refl (replies_say A s c) here q
      ]

  ended_by : (s : State) (c : Command A) (cs : List (Command A)) (m : Item) (b : Bool) → b ≡ true → ended (next s c) cs m ≡ list_any (λ x. names x m) cs
      → ((b && names c m) || ended (next s c) cs m) ≡ (names c m || list_any (λ x. names x m) cs)
  ended_by s c cs m true e h = ap (λ t. names c m || t) h
  ended_by s c cs m false e h = absurd (true≢false (sym e))

  pub ended_are_named : (s : State) (cs : List (Command A)) (m : Item) → IsHistory s cs → ended s cs m ≡ list_any (λ c. names c m) cs
  ended_are_named s [] m a = refl
  ended_are_named s (c ∷ cs) m a = ended_by s c cs m (accepts s c) a.0 (ended_are_named (next s c) cs m a.1)

  -- what is in a list is in a longer one
  pub lands_more : (base : State) (l m : List (Command A)) (c : Command A) (n : ℕ) (p : Option (List Bool)) → Lands base l c n p → Lands base (l ++ m) c n p
  lands_more base l m c n p h =
      let within : h.place < length l = get_within l h.place c h.is_there in
      let prefix : h.place ≤ length l = omega arith in
      record {
        place = h.place;
        numbered = h.numbered;
        is_there = get_more l m h.place c h.is_there;
        replied = subst (λ t. reply_to (after base t) c ≡ Accepted n p) (sym (take-append-le h.place l m prefix)) h.replied;
      }

  pub left_more : (base : State) (l m : List (Command A)) (k : ℕ) (last : LastAccepted) → IsLeftBy base l k last → IsLeftBy base (l ++ m) k last
  left_more base l m k last h = record { first = h.first; of_station = h.of_station; of_sequence = h.of_sequence; lands = lands_more base l m h.first last.number last.pdu h.lands }
