-- Rounds, one after another.
use Rattle.std.proofs.Common.{◌≡◌, ◌⊎◌, inl, inr, ℕ, zero, suc, ◌+◌, ◌-◌, ◌<◌, ◌≤◌, true, List, [], ◌∷◌, length, refl, sym, ◌∙◌, arith}
use Rattle.std.specs.Prelude.{◌^◌, All, IsTrue, Some, slice_get, slice_index_or}
use Rattle.base.proofs.Lists.{get_within as within}
use Rattle.sector_disk.specs.Disk.{View}
use Rattle.crossbeam_channel.specs.Ends.{sends_on}
use Rattle.centre_core.specs.State.{State}
use Rattle.answers.specs.declared.channel.AnswerSender.{AnswerSender}
use Rattle.flusher.specs.Stages.{Sent}
use Rattle.flusher.specs.View.{FlusherView}
use Rattle.flusher.specs.Rounds.{IsRound}
use Rattle.flusher.specs.Endings.{AreEnded}
use Rattle.flusher.specs.Runs.{AreRounds, HasSameEnds, HasTakenEnds, next, none}

-- the item at a place within the list
pub item_at : {X : Type 0} (xs : List X) (k : ℕ) (d : X) → k < length xs → slice_get xs k ≡ Some (slice_index_or xs k d)
item_at [] k d lt = absurd (omega arith)
item_at (x ∷ xs) zero d lt = refl
item_at (x ∷ xs) (suc k) d lt = item_at xs k d (omega arith)

module _ {D : Type 0} where
  -- rounds, and one more
  pub one_more_round : {view : D → View} (base : State) (f g h : FlusherView D) → AreRounds view base f g → IsRound view base g h → AreRounds view base f h
  one_more_round base f g h (none x) r = next x h h r (none h)
  one_more_round base f g h (next x m y first rest) r = next x m h first (one_more_round base m y h rest r)

  pub same_ends : (f : FlusherView D) → HasSameEnds f f
  same_ends f = record { queue = refl; count = refl; channels = λ k a b here there. same a b (sym here ∙ there) }
    where
      same : (a b : AnswerSender Sent) → Some a ≡ Some b → sends_on b.channel ≡ sends_on a.channel
      same a b e = cc

  -- a round keeps the queue and the channels
  pub ends_still : {view : D → View} (base : State) (f g h : FlusherView D) → HasSameEnds f g → IsRound view base g h → HasSameEnds f h
  ends_still base f g h s r = record {
    queue = r.taken.queue ∙ s.queue;
    count = r.served.answered.count ∙ s.count;
    channels = λ k a c here there.
        let lt = within h.senders k c there in
        let b = slice_index_or g.senders k c in
        let between : slice_get g.senders k ≡ Some b = item_at g.senders k c (omega (arith, lt, r.served.answered.count)) in
        (r.served.answered.each k b c between there).0 ∙ s.channels k a b here between;
  }

  -- where each flag is set, the end of each session was taken
  pub ends_are_taken : (f : FlusherView D) → f.taker.made ≡ length f.senders → f.taker.made ≡ length f.ended → AreEnded f.ended f.taker.taken → All IsTrue f.ended → HasTakenEnds f
  ends_are_taken f senders flags are all k lt =
      let small : k < length f.ended = omega (arith, lt, senders, flags) in
      (are k (slice_index_or f.ended k true) (item_at f.ended k true small)).0 (all k true small)

  -- where a flag is not set, an end was not taken
  pub flags_are_set : (f : FlusherView D) → f.taker.made ≡ length f.senders → f.taker.made ≡ length f.ended → AreEnded f.ended f.taker.taken → HasTakenEnds f → All IsTrue f.ended
  flags_are_set f senders flags are has k d lt = (are k (slice_index_or f.ended k d) (item_at f.ended k d lt)).1 (has k (omega (arith, lt, senders, flags)))

-- rounds are counted upwards, and stay at the greatest number
pub counted_on : (a b c : ℕ) → a ≤ b → (c ≡ b + 1) ⊎ ((b ≡ 2 ^ 64 - 1) × (c ≡ b)) → a ≤ c
counted_on a b c le h = elim h [ inl e ↦ omega (arith, le, e) | inr e ↦ by_same e.1 ]
  where
    by_same : c ≡ b → a ≤ c
    by_same e = omega (arith, le, e)
