-- The first commands of a list, and the commands of a batch that are accepted.
use Rattle.std.proofs.Common.{◌≡◌, ℕ, zero, suc, ◌+◌, ◌<◌, ◌≤◌, Bool, true, false, cond, List, [], ◌∷◌, ◌++◌, length, refl, ap, sym, ◌∙◌, subst, arith, Option, Some}
use Rattle.std.specs.Prelude.{slice_get}
use Rattle.std.proofs.lemmas.List.{take-append-le}
use Rattle.centre_core.specs.declared.command.Command.{Command}
use Rattle.centre_core.specs.declared.reply.Reply.TheVariants.{Accepted}
use Rattle.centre_core.specs.State.{State}
use Rattle.centre_core.specs.History.{accepts, next, after}
use Rattle.centre_core.specs.Histories.{IsHistory}
use Rattle.centre_core.specs.InTurn.{reply_to}
use Rattle.centre_core.specs.Batches.{taken}
use Rattle.centre_core.specs.Joined.{TakenAreAll, TakenAreHistory, LandsInPrefix, LeftByPrefix}
use Rattle.centre_core.proofs.StepLaws.{only_accepted_change}

get_prefix : {X : Type 0} (xs ys : List X) (k : ℕ) (x : X) → slice_get (xs ++ ys) k ≡ Some x → k < length xs → slice_get xs k ≡ Some x
get_prefix [] ys k x h within = absurd (omega arith)
get_prefix (z ∷ zs) ys zero x h within = h
get_prefix (z ∷ zs) ys (suc k) x h within = get_prefix zs ys k x h (omega arith)

module _ {A : Type 0} where
  pub lands_prefix : LandsInPrefix A
  lands_prefix base xs ys c number pdu h within =
      let is = h.numbered in
      let place : h.place < length xs = omega arith in
      record {
        place = h.place;
        numbered = h.numbered;
        is_there = get_prefix xs ys h.place c h.is_there place;
        replied = subst (λ l. reply_to (after base l) c ≡ Accepted number pdu) (take-append-le h.place xs ys (omega arith)) h.replied;
      }

  pub left_prefix : LeftByPrefix A
  left_prefix base xs ys station last h within =
      record { first = h.first; of_station = h.of_station; of_sequence = h.of_sequence; lands = lands_prefix base xs ys h.first last.number last.pdu h.lands within }

  -- a command that is not accepted changes nothing
  not_accepted : (s : State) (c : Command A) → accepts s c ≡ false → next s c ≡ s
  not_accepted s c refused = only_accepted_change A s c refused

  after_taken_by : (b : Bool) (s : State) (c : Command A) (cs : List (Command A)) → accepts s c ≡ b → after (next s c) (taken (next s c) cs) ≡ after (next s c) cs
      → after s (cond b (c ∷ taken (next s c) cs) (taken (next s c) cs)) ≡ after (next s c) cs
  after_taken_by true s c cs is h = h
  after_taken_by false s c cs is h = ap (λ t. after t (taken (next s c) cs)) (sym (not_accepted s c is)) ∙ h

  pub after_taken : TakenAreAll A
  after_taken s [] = refl
  after_taken s (c ∷ cs) = after_taken_by (accepts s c) s c cs refl (after_taken (next s c) cs)

  taken_history_by : (b : Bool) (s : State) (c : Command A) (cs : List (Command A)) → accepts s c ≡ b → IsHistory (next s c) (taken (next s c) cs) →
      IsHistory s (cond b (c ∷ taken (next s c) cs) (taken (next s c) cs))
  taken_history_by true s c cs is h = (is, h)
  taken_history_by false s c cs is h = subst (λ t. IsHistory t (taken (next s c) cs)) (not_accepted s c is) h

  pub taken_history : TakenAreHistory A
  taken_history s [] = tt
  taken_history s (c ∷ cs) = taken_history_by (accepts s c) s c cs refl (taken_history (next s c) cs)
