-- Commands that are submitted together.
use Rattle.std.proofs.Common.{◌≡◌, inl, inr, ℕ, ◌≤◌, List, [], ◌∷◌, ◌++◌, drop, length, refl, sym, subst, arith}
use Rattle.std.specs.Prelude.{replicate}
use Rattle.std.specs.declared.alloc.Global.{Global}
use mathlib.Core.List.{IsPrefix}
use Rattle.snapshots.proofs.Prefixes.{prefix_self, prefix_trans}
use Rattle.centre_core.specs.Asked.{Asked}
use Rattle.centre_core.specs.State.{State}
use Rattle.station_queue.specs.declared.entry.Entry.{Entry}
use Rattle.flusher.specs.declared.answer.Answer.{Answer}
use Rattle.flusher.specs.declared.answer.Answer.TheVariants as answer
use Rattle.flusher.specs.Stages.{Sent}
use Rattle.flusher.specs.Heard.{AreHeard, ArePut, Heard, IsHeard, heard, session_view}
use Rattle.flusher.specs.Submitted.{AreSubmissions, IsPut, IsSubmission, IsWithin, SessionView}

abbrev G : Type 0
G = Asked Global

-- what comes after the first items
pub drop_first : {X : Type 0} (xs ys : List X) → drop (length xs) (xs ++ ys) ≡ ys
drop_first [] ys = refl
drop_first (x ∷ xs) ys = drop_first xs ys

-- one command more is put into the queue
pub put_more : (cs : List G) (c : G) (old mid new : List Entry) → ArePut cs old mid → IsPut c mid new → ArePut (cs ++ c ∷ []) old new
put_more [] c old mid new p is = (new, subst (λ l. IsPut c l new) p is, refl)
put_more (d ∷ cs) c old mid new p is = (p.0, p.1, put_more cs c p.0 mid new p.2 is)

module _ {J : Type 0} (base : State) where
  -- one answer more is received
  pub heard_more : (cs : List G) (c : G) (old mid new : Heard) (rs : List (Answer J)) (a : Answer J) → AreHeard base cs old mid rs →
      IsHeard base c mid new a → AreHeard base (cs ++ c ∷ []) old new (rs ++ a ∷ [])
  heard_more [] c old mid new [] a h is = (new, subst (λ m. IsHeard base c m new a) h is, refl)
  heard_more [] c old mid new (b ∷ rs) a h is = absurd h
  heard_more (d ∷ cs) c old mid new [] a h is = absurd h
  heard_more (d ∷ cs) c old mid new (b ∷ rs) a h is = (h.0, h.1, heard_more cs c h.0 mid new rs a h.2 is)

  within_more : (m n : ℕ) (a : Answer J) → m ≤ n → IsWithin base m a → IsWithin base n a
  within_more m n (answer.Accepted number pdu published) le is = omega (arith, le, is)
  within_more m n (answer.Kept number pdu) le is = tt
  within_more m n (answer.Refused r) le is = tt
  within_more m n answer.NoMemory le is = tt
  within_more m n (answer.Fault f) le is = tt
  within_more m n answer.Closed le is = tt

  -- all of the list counts as reached
  pub whole_heard : (c : G) (old new : Heard) (a : Answer J) → IsHeard base c old new a → IsHeard base c old (heard new.received new.seen (length new.seen)) a
  whole_heard c old new a is = record {
    received = is.received;
    borne_out = is.borne_out;
    seen = is.seen;
    reached = (omega (arith, is.reached.0, is.reached.1), omega arith, within_more new.reached (length new.seen) a is.reached.1 is.reached.2);
  }

  last_whole : (c : G) (cs : List G) (old new : Heard) (rs : List (Answer J)) → AreHeard base (c ∷ cs) old new rs → AreHeard base (c ∷ cs) old (heard new.received new.seen (length new.seen)) rs
  last_whole c cs old new [] h = absurd h
  last_whole c [] old new (a ∷ []) h =
      let is : IsHeard base c old new a = subst (λ m. IsHeard base c old m a) (sym h.2) h.1 in
      (heard new.received new.seen (length new.seen), whole_heard c old new a is, refl)
  last_whole c [] old new (a ∷ (b ∷ rs)) h = absurd h.2
  last_whole c (d ∷ cs) old new (a ∷ rs) h = (h.0, h.1, last_whole d cs h.0 new rs h.2)

  pub all_heard : (cs : List G) (received : List Sent) (seen : List G) (new : Heard) (rs : List (Answer J)) →
      AreHeard base cs (heard received seen (length seen)) new rs →
      AreHeard base cs (heard received seen (length seen)) (heard new.received new.seen (length new.seen)) rs
  all_heard [] received seen new [] h = λ i. heard (h i).received (h i).seen (length (h i).seen)
  all_heard [] received seen new (a ∷ rs) h = absurd h
  all_heard (c ∷ cs) received seen new rs h = last_whole c cs (heard received seen (length seen)) new rs h

  -- a command that was put into the queue and answered
  pub submission : (c : G) (s t : List Entry) (h k : Heard) (a : Answer J) → IsPut c s t → IsHeard base c h k a → IsSubmission base c (session_view s h) (session_view t k) a
  submission c s t h k a p is = record {
    put = inl p;
    received = elim is.received [
      | inl x ↦ inl x
      | inr x ↦ inr (inl x)
    ];
    borne_out = is.borne_out;
    seen = is.seen;
    reached = is.reached;
  }

  pub together : (cs : List G) (s t : List Entry) (h k : Heard) (rs : List (Answer J)) → ArePut cs s t → AreHeard base cs h k rs → AreSubmissions base cs (session_view s h) (session_view t k) rs
  together [] s t h k [] p is = λ i. session_view (p i) (is i)
  together [] s t h k (a ∷ rs) p is = absurd is
  together (c ∷ cs) s t h k [] p is = absurd is
  together (c ∷ cs) s t h k (a ∷ rs) p is = (session_view p.0 is.0, submission c s p.0 h is.0 a p.1 is.1, together cs p.0 t is.0 k rs p.2 is.2)

  -- what was seen stays seen
  pub seen_longer : (cs : List G) (v w : SessionView) (rs : List (Answer J)) → AreSubmissions base cs v w rs → IsPrefix v.seen w.seen
  seen_longer [] v w [] is = subst (λ (u : SessionView). IsPrefix v.seen u.seen) (sym is) (prefix_self v.seen)
  seen_longer [] v w (a ∷ rs) is = absurd is
  seen_longer (c ∷ cs) v w [] is = absurd is
  seen_longer (c ∷ cs) v w (a ∷ rs) is = prefix_trans v.seen is.0.seen w.seen is.1.seen (seen_longer cs is.0 w rs is.2)

module _ (J : Type 0) (base : State) where
  -- memory ran out for a command, or for several
  pub refused : (c : G) (v : SessionView) → v.reached ≤ length v.seen → IsSubmission {J = J} base c v v answer.NoMemory
  refused c v le = record {
    put = inr (refl, refl);
    received = inr (inr (refl, refl));
    borne_out = tt;
    seen = prefix_self v.seen;
    reached = (omega arith, le, tt);
  }

  all_refused : (cs : List G) (v : SessionView) → v.reached ≤ length v.seen → AreSubmissions {J = J} base cs v v (replicate (length cs) answer.NoMemory)
  all_refused [] v le = refl
  all_refused (c ∷ cs) v le = (v, refused c v le, all_refused cs v le)

  pub then_refused : (cs ds : List G) (v w : SessionView) (rs : List (Answer J)) → w.reached ≤ length w.seen → AreSubmissions base cs v w rs →
      AreSubmissions base (cs ++ ds) v w (rs ++ replicate (length ds) answer.NoMemory)
  then_refused [] ds v w [] le is = subst (λ u. AreSubmissions {J = J} base ds u w (replicate (length ds) answer.NoMemory)) is (all_refused ds w le)
  then_refused [] ds v w (a ∷ rs) le is = absurd is
  then_refused (c ∷ cs) ds v w [] le is = absurd is
  then_refused (c ∷ cs) ds v w (a ∷ rs) le is = (is.0, is.1, then_refused cs ds is.0 w rs le is.2)
