-- Two sessions, from the opening of their centre to their ends.
use Rattle.std.specs.Prelude.{Some, slice_get}
use Rattle.std.specs.List.{AllZip}
use Rattle.std.proofs.Common.{◌≡◌, ℕ, zero, suc, List, [], ◌∷◌, refl, subst}
use Rattle.base.proofs.Options.{some_is}
use Rattle.sector_disk.specs.Disk.{View}
use Rattle.centre_core.specs.State.{State}
use Rattle.flusher.specs.declared.session.Ended.{Ended}
use Rattle.flusher.specs.declared.session.Session.{Session}
use Rattle.flusher.specs.Closed.{AreSessionsOf, HasFinished}
use Rattle.flusher.specs.Opened.{AreNewSessions}
use Rattle.flusher.specs.Rounds.{IsRound}
use Rattle.flusher.specs.Runs.{HasSameEnds}
use Rattle.flusher.specs.Sessions.{IsSameSession}
use Rattle.flusher.specs.View.{FlusherView}
use Rattle.flusher.proofs.Runs.{ends_still, same_ends}
use Rattle.flusher.proofs.Sessions.{finished_sessions, opened_sessions, same_sessions, still_sessions}

-- what holds of both pairs holds at each place
at_both : {X : Type 0} (P : X → X → Type 0) (a b c d : X) → P a c → P b d → (k : ℕ) (x y : X) →
    slice_get (a ∷ b ∷ []) k ≡ Some x → slice_get (c ∷ d ∷ []) k ≡ Some y → P x y
at_both {X} P a b c d first second zero x y here there = subst (λ (q : X × X). P q.0 q.1) (λ i. (some_is a x here i, some_is c y there i)) first
at_both {X} P a b c d first second (suc zero) x y here there = subst (λ (q : X × X). P q.0 q.1) (λ i. (some_is b x here i, some_is d y there i)) second
at_both P a b c d first second (suc (suc k)) x y here there = absurd cc

module _ {J D : Type 0} (f g : FlusherView D) where
  -- both sessions of a new centre, after what each did and its end, are all the sessions of its flusher after rounds
  pub ended_both : (sessions : List (Session J)) (a b c d : Session J) (ended : List (Ended J)) →
      AreNewSessions f.taker.queue f.senders sessions → sessions ≡ a ∷ b ∷ [] → IsSameSession a c → IsSameSession b d →
      AllZip HasFinished (c ∷ d ∷ []) ended → HasSameEnds f g → AreSessionsOf g ended
  ended_both sessions a b c d ended new are first second finished same =
      let begun = opened_sessions f (a ∷ b ∷ []) (subst (λ (l : List (Session J)). AreNewSessions f.taker.queue f.senders l) are new) in
      let later = same_sessions f (a ∷ b ∷ []) (c ∷ d ∷ []) refl (at_both (λ (s t : Session J). IsSameSession s t) a b c d first second) begun in
      still_sessions f g same ended (finished_sessions f (c ∷ d ∷ []) ended finished later)

  -- a round keeps the sessions
  pub after_round : {view : D → View} (base : State) (ended : List (Ended J)) → IsRound view base f g → AreSessionsOf f ended → AreSessionsOf g ended
  after_round base ended round are = still_sessions f g (ends_still base f f g (same_ends f) round) ended are
