-- Each session stays that of its station, from the opening of its centre to its end.
use Rattle.std.specs.Prelude.{Some, slice_get}
use Rattle.std.specs.List.{AllZip}
use Rattle.std.proofs.Common.{◌≡◌, ℕ, zero, suc, List, [], ◌∷◌, length, refl, ap, sym, ◌∙◌, subst}
use Rattle.base.proofs.Options.{some_is}
use Rattle.base.proofs.Lists.{some_beside, zip_length}
use Rattle.station_queue.specs.Ends.{Sending}
use Rattle.crossbeam_channel.specs.Ends.{receives_on}
use Rattle.answers.specs.declared.channel.AnswerReceiver.{AnswerReceiver}
use Rattle.answers.specs.declared.channel.AnswerSender.{AnswerSender}
use Rattle.flusher.specs.declared.session.Ended.{Ended}
use Rattle.flusher.specs.declared.session.Session.{Session}
use Rattle.flusher.specs.Stages.{Sent}
use Rattle.flusher.specs.View.{FlusherView}
use Rattle.flusher.specs.Runs.{HasSameEnds}
use Rattle.flusher.specs.Opened.{AreNewSessions}
use Rattle.flusher.specs.Sessions.{SessionHasOnlyRead, IsSameSession}
use Rattle.flusher.specs.Closed.{AreOpenSessionsOf, AreSessionsOf, HasFinished, IsOpenSessionOf, IsSessionOf}

zip_at : {X Y : Type 0} (R : X → Y → Type 0) (xs : List X) (ys : List Y) → AllZip R xs ys → (k : ℕ) (x : X) (y : Y) → slice_get xs k ≡ Some x → slice_get ys k ≡ Some y → R x y
zip_at R [] [] all k x y here there = absurd cc
zip_at R [] (b ∷ ys) all k x y here there = absurd all
zip_at R (a ∷ xs) [] all k x y here there = absurd all
zip_at {X} {Y} R (a ∷ xs) (b ∷ ys) all zero x y here there = subst (λ (q : X × Y). R q.0 q.1) (λ i. (some_is a x here i, some_is b y there i)) all.0
zip_at R (a ∷ xs) (b ∷ ys) all (suc k) x y here there = zip_at R xs ys all.1 k x y here there

module _ {J : Type 0} where
  pub same_self : (s : Session J) → IsSameSession s s
  same_self s = record { queue = refl; station = refl; channel = refl; share = refl; gone = λ e. e }

  pub same_on : (s t u : Session J) → IsSameSession s t → IsSameSession t u → IsSameSession s u
  same_on s t u first second = record {
    queue = second.queue ∙ first.queue;
    station = second.station ∙ first.station;
    channel = second.channel ∙ first.channel;
    share = second.share ∙ first.share;
    gone = λ e. first.gone (second.gone e);
  }

  -- what only reads keeps the session as it is
  pub read_same : (s t : Session J) → SessionHasOnlyRead s t → IsSameSession s t
  read_same s t read = record {
    queue = ap (λ (x : Sending). x.queue) read.sender;
    station = ap (λ (x : Sending). x.station) read.sender;
    channel = ap (λ (r : AnswerReceiver Sent). receives_on r.channel) read.receiver;
    share = read.share;
    gone = λ e. sym read.listening ∙ e;
  }

module _ {J D : Type 0} (f : FlusherView D) where
  -- those of a centre that was opened
  pub opened_sessions : (sessions : List (Session J)) → AreNewSessions f.taker.queue f.senders sessions → AreOpenSessionsOf f sessions
  opened_sessions sessions new = record {
    count = new.count;
    each = λ k a s here there.
        let n = new.each k a s here there in
        record { queue = ap (λ (x : Sending). x.queue) n.sender; station = ap (λ (x : Sending). x.station) n.sender; channel = n.channel.0 };
  }

  -- what they did kept each the session of its station
  pub same_session : (k : ℕ) (a : AnswerSender Sent) (s t : Session J) → IsSameSession s t → IsOpenSessionOf f k a s → IsOpenSessionOf f k a t
  same_session k a s t same is = record { queue = same.queue ∙ is.queue; station = same.station ∙ is.station; channel = same.channel ∙ is.channel }

  pub same_sessions : (old new : List (Session J)) → length new ≡ length old →
      ((k : ℕ) (s t : Session J) → slice_get old k ≡ Some s → slice_get new k ≡ Some t → IsSameSession s t) → AreOpenSessionsOf f old →
      AreOpenSessionsOf f new
  same_sessions old new count same are = record {
    count = count ∙ are.count;
    each = λ k a t here there.
        let s = some_beside old new k t count there in
        same_session k a s.0 t (same k s.0 t s.1 there) (are.each k a s.0 here s.1);
  }

  -- they finished
  pub finished_session : (k : ℕ) (a : AnswerSender Sent) (s : Session J) (e : Ended J) → HasFinished s e → IsOpenSessionOf f k a s → IsSessionOf f k a e
  finished_session k a s e done is = record { queue = done.queue ∙ is.queue; station = done.station ∙ is.station; channel = done.channel ∙ is.channel }

  pub finished_sessions : (sessions : List (Session J)) (ended : List (Ended J)) → AllZip HasFinished sessions ended → AreOpenSessionsOf f sessions → AreSessionsOf f ended
  finished_sessions sessions ended all are =
      let count = zip_length HasFinished sessions ended all in
      record {
        count = count ∙ are.count;
        each = λ k a e here there.
            let s = some_beside sessions ended k e count there in
            finished_session k a s.0 e (zip_at HasFinished sessions ended all k s.0 e s.1 there) (are.each k a s.0 here s.1);
      }

module _ {J D : Type 0} (f g : FlusherView D) (same : HasSameEnds f g) where
  -- so after their ends
  pub still_sessions : (ended : List (Ended J)) → AreSessionsOf f ended → AreSessionsOf g ended
  still_sessions ended are = record {
    count = are.count ∙ sym same.count;
    each = λ k b e here there.
        let a = some_beside f.senders g.senders k b same.count here in
        let is = are.each k a.0 e a.1 there in
        record { queue = is.queue ∙ sym same.queue; station = is.station; channel = is.channel ∙ sym (same.channels k a.0 b a.1 here) };
  }
