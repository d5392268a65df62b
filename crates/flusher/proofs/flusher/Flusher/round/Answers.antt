use Rattle.std.proofs.Common.{◌++◌, ℕ, [], true≢false, List, length, refl, ap, sym, ◌∙◌, subst, arith}
use Rattle.std.specs.declared.alloc.Global.{Global}
use mathlib.Core.List.{IsPrefix}
use Rattle.centre_core.specs.Asked.{Asked}
use Rattle.centre_core.specs.History.{after}
use Rattle.centre_core.specs.Histories.{IsHistory}
use Rattle.recovery.specs.Lives.{view_of as store_view}
use Rattle.flusher.specs.declared.moment.Moment.{Moment}
use Rattle.flusher.specs.Attempts.{tries}
use Rattle.flusher.specs.Shared.{commands_among, commands_in}
use Rattle.flusher.specs.Stages.{decision_for_all, sent_to_all}
use Rattle.flusher.specs.Answerings.{HaveAnswered}
use Rattle.flusher.specs.Batches.{AreWithin}
use Rattle.flusher.specs.Rounds.{IsRound}
use Rattle.flusher.specs.Served.{HasServed, IsSettled}
use Rattle.flusher.specs.Stored.{IsStoredFor}
use Rattle.flusher.specs.View.{FlusherView, durable_of, progress, progress_by, view_of_flusher}
use Rattle.flusher.proofs.Endings.{ended_after}
use Rattle.flusher.proofs.ByItself.{round_order, round_sent}
use Rattle.flusher.proofs.Batched.{commands_among-append, length-ended}
use Rattle.flusher.proofs.Kept.{keeps_self, stored_on, stored_still}
use Rattle.flusher.proofs.RoundCalls.{round_call}
use Rattle.flusher.proofs.Published.{unless, when}
use Rattle.flusher.proofs.Since.{last_durable}
use Rattle.flusher.proofs.Served.{served_idle}
use Rattle.flusher.proofs.flusher.Flusher.round.Goals as goal

pub commit_and_answer-requires-clause-ready : goal.commit_and_answer-requires-clause-ready
commit_and_answer-requires-clause-ready g c =
    let level = when c.catch_up-level.result _ _ c.catch_up-level.ensures.level c.if-level.true in
    let sound = when c.is_sound-sound.result _ _ c.is_sound-sound.ensures level.1 in
    record {
      caught_up = level.0;
      history = subst (IsHistory g.J.Centre.base) (sym c.catch_up-level.ensures.durable) c.requires.settled.history;
      made = c.requires.settled.made sound ∙ ap (after g.J.Centre.base) (sym c.catch_up-level.ensures.durable);
      sound = sound;
    }

pub commit_and_answer-requires-clause-stations : goal.commit_and_answer-requires-clause-stations
commit_and_answer-requires-clause-stations g c = subst (λ n. AreWithin n (commands_in c.take_batch.new.room.batch.items)) c.args.self.now.stations c.take_batch.ensures.stations

pub refuse-requires : goal.refuse-requires
refuse-requires g c = record { stations = subst (λ n. AreWithin n (commands_in c.take_batch.new.room.batch.items)) c.args.self.now.stations c.take_batch.ensures.stations }

pub returns-then-level-clause-round : goal.returns-then-level-clause-round
returns-then-level-clause-round g c =
    let base = g.J.Centre.base in
    let old = c.args.self.now in
    let t = c.take_batch.ensures.taken in
    let s = c.commit_and_answer.ensures.served old.publication.publisher.published in
    record {
      popped = t.popped;
      taken = t.taken;
      ended = t.ended;
      served = subst (λ (q : List (Asked Global) × ℕ × List (Asked Global)).
          HasServed base (g.D.Disk.view c.commit_and_answer.new.committer.store.disk).moment
          (progress old.publication.publisher.published q.0 (store_view old.committer.store) (tries old.committer.attempts q.1))
          (progress_by c.commit_and_answer.new.publication c.commit_and_answer.new.committer) q.2 old.senders.items
          c.commit_and_answer.new.senders.items)
          (λ j. (c.catch_up-level.ensures.durable j, c.catch_up-level.ensures.unrefused c.if-level.true j, sym t.these j)) s;
    }

pub returns-then-level-clause-settled : goal.returns-then-level-clause-settled
returns-then-level-clause-settled g c =
    let base = g.J.Centre.base in
    let s = c.requires.settled in
    let t = c.take_batch.ensures.taken in
    let old : FlusherView g.row.D.Denot = view_of_flusher c.args.self.now in
    let n = c.commit_and_answer.new in
    let now : FlusherView g.row.D.Denot = record {
      taker = c.take_batch.new.taker;
      published = n.publication.publisher.published;
      durable = durable_of n.publication;
      senders = n.senders.items;
      store = store_view n.committer.store;
      attempts = tries n.committer.attempts n.publication.publisher.refusals;
      ended = c.take_batch.new.ended.items;
    } in
    let r : IsRound g.D.Disk.view base old now = returns-then-level-clause-round g c in
    record {
      history = c.commit_and_answer.ensures.durable.history;
      made = c.commit_and_answer.ensures.durable.made;
      prefix = c.commit_and_answer.ensures.durable.prefix;
      sent = round_sent g.D.Disk.view base old now s.history r s.sent;
      order = round_order g.D.Disk.view base old now r s.order;
      ended = ended_after _ _ t.popped _ _ t.taken t.ended s.ended;
    }

pub returns-clause-round : goal.returns-clause-round
returns-clause-round g c =
    let base = g.J.Centre.base in
    let old = c.args.self.now in
    let t = c.take_batch.ensures.taken in
    let new = c.catch_up-level.new.self in
    let e = c.catch_up-level.ensures in
    let moment = (g.D.Disk.view old.committer.store.disk).moment in
    let served = served_idle base moment (store_view old.committer.store) (tries old.committer.attempts old.publication.publisher.refusals)
    (tries old.committer.attempts new.publisher.refusals) old.publication.publisher.published (durable_of old.publication) new.publisher.published
    (durable_of new) (commands_in c.take_batch.new.room.batch.items)
    old.senders.items c.refuse.new.senders.items c.is_sound-sound.result c.fault_of.result c.is_sound-sound.ensures c.fault_of.ensures
    c.requires.settled.prefix (e.lagging c.if-level.false) (e.refused c.if-level.false)
    (unless c.catch_up-level.result _ _ e.level c.if-level.false) e.durable
    (subst (λ (q : ℕ × List (Asked Global)).
    HaveAnswered old.senders.items (sent_to_all q.0 q.1 (decision_for_all c.fault_of.result) (commands_in c.take_batch.new.room.batch.items))
    c.refuse.new.senders.items)
    (λ j. ((ap (λ (m : Moment). m.tick) c.stamp-stamp.ensures.1 ∙ c.moment.ensures) j, c.stamp-stamp.ensures.0 j)) c.refuse.ensures.answered) in
    record {
      popped = t.popped;
      taken = t.taken;
      ended = t.ended;
      served = subst (λ (cs : List (Asked Global)).
          HasServed base moment
          (progress old.publication.publisher.published (durable_of old.publication) (store_view old.committer.store)
          (tries old.committer.attempts old.publication.publisher.refusals))
          (progress new.publisher.published (durable_of new) (store_view old.committer.store) (tries old.committer.attempts new.publisher.refusals)) cs
          old.senders.items c.refuse.new.senders.items)
          (sym t.these) served;
    }

pub returns-clause-settled : goal.returns-clause-settled
returns-clause-settled g c =
    let e = c.catch_up-level.ensures in
    let s = c.requires.settled in
    let base = g.J.Centre.base in
    let old : FlusherView g.row.D.Denot = view_of_flusher c.args.self.now in
    let new = c.catch_up-level.new.self in
    let now : FlusherView g.row.D.Denot = record {
      taker = c.take_batch.new.taker;
      published = new.publisher.published;
      durable = durable_of new;
      senders = c.refuse.new.senders.items;
      store = store_view c.args.self.now.committer.store;
      attempts = tries c.args.self.now.committer.attempts new.publisher.refusals;
      ended = c.take_batch.new.ended.items;
    } in
    let r : IsRound g.D.Disk.view base old now = returns-clause-round g c in
    record {
      history = subst (IsHistory g.J.Centre.base) (sym e.durable) s.history;
      made = λ up. s.made up ∙ ap (after g.J.Centre.base) (sym e.durable);
      prefix = subst (λ (q : List (Asked Global) × List (Asked Global)). IsPrefix q.0 q.1) (λ j. (sym (unless c.catch_up-level.result _ _ e.level c.if-level.false) j, sym e.durable j)) s.prefix;
      sent = round_sent g.D.Disk.view base old now s.history r s.sent;
      order = round_order g.D.Disk.view base old now r s.order;
      ended = let t = c.take_batch.ensures.taken in ended_after _ _ t.popped _ _ t.taken t.ended s.ended;
    }

pub invariant_of-self : goal.invariant_of-self
invariant_of-self g c =
    let t = c.take_batch.ensures.taken in
    let n = (c.commit_and_answer.ensures.served []).answered.count in
    record {
      stations = t.taken.made ∙ c.args.self.now.stations ∙ sym n;
      flags = t.taken.made ∙ c.args.self.now.flags ∙ sym (ap length t.ended ∙ length-ended t.popped c.args.self.now.ended.items);
      empty = c.commit_and_answer.ensures.done;
    }

pub invariant_of-self-2 : goal.invariant_of-self-2
invariant_of-self-2 g c =
    let t = c.take_batch.ensures.taken in
    record {
      stations = t.taken.made ∙ c.args.self.now.stations ∙ sym c.refuse.ensures.answered.count;
      flags = t.taken.made ∙ c.args.self.now.flags ∙ sym (ap length t.ended ∙ length-ended t.popped c.args.self.now.ended.items);
      empty = c.refuse.ensures.done;
    }

pub returns-then-level-clause-stored : goal.returns-then-level-clause-stored
returns-then-level-clause-stored g c h =
    let base = g.J.Centre.base in
    let view = g.D.Disk.view in
    let old = c.args.self.now in
    let t = c.take_batch.ensures.taken in
    let s = c.requires.settled in
    let e = c.commit_and_answer.ensures in
    let n = c.commit_and_answer.new in
    let batch = commands_in c.take_batch.new.room.batch.items in
    let sound = when c.is_sound-sound.result _ _ c.is_sound-sound.ensures (when c.catch_up-level.result _ _ c.catch_up-level.ensures.level c.if-level.true).1 in
    let now : FlusherView g.row.D.Denot = record {
      taker = c.take_batch.new.taker;
      published = n.publication.publisher.published;
      durable = durable_of n.publication;
      senders = n.senders.items;
      store = store_view n.committer.store;
      attempts = tries n.committer.attempts n.publication.publisher.refusals;
      ended = c.take_batch.new.ended.items;
    } in
    let r : IsRound view base (view_of_flusher old) now = returns-then-level-clause-round g c in
    let settled : IsSettled base now = returns-then-level-clause-settled g c in
    let kept : IsStoredFor view base now =
    stored_on view base (view_of_flusher old) now batch (ap commands_among t.taken.taken ∙ commands_among-append old.taker.taken t.popped ∙
    ap (λ l. commands_among old.taker.taken ++ l) t.these) sound (s.made sound) s.order e.store.images
    (λ down. let u = e.durable.under_way down in (u.0, u.1 ∙ c.catch_up-level.ensures.durable)) (g.met.D.Disk.sound n.committer.store.disk) h in
    record {
      call = round_call view base (view_of_flusher old) now r s.made s.order settled old.committer.store.broken refl (λ up. e.store.images h.honest (h.sound up));
      stored = kept;
      any_moment = λ up. (e.store.images h.honest (h.sound up)).any_moment;
      durable = last_durable view base (view_of_flusher old) now r settled (g.met.D.Disk.sound n.committer.store.disk) kept;
    }

pub returns-then-level-clause-breaks : goal.returns-then-level-clause-breaks
returns-then-level-clause-breaks g c = let fails = c.commit_and_answer.ensures.store.fails in record { later = fails.later; failed = λ was. fails.failed }

pub returns-clause-stored : goal.returns-clause-stored
returns-clause-stored g c h =
    let base = g.J.Centre.base in
    let view = g.D.Disk.view in
    let old = c.args.self.now in
    let t = c.take_batch.ensures.taken in
    let s = c.requires.settled in
    let new = c.catch_up-level.new.self in
    let store = store_view old.committer.store in
    let batch = commands_in c.take_batch.new.room.batch.items in
    let now : FlusherView g.row.D.Denot = record {
      taker = c.take_batch.new.taker;
      published = new.publisher.published;
      durable = durable_of new;
      senders = c.refuse.new.senders.items;
      store = store;
      attempts = tries old.committer.attempts new.publisher.refusals;
      ended = c.take_batch.new.ended.items;
    } in
    let r : IsRound view base (view_of_flusher old) now = returns-clause-round g c in
    let settled : IsSettled base now = returns-clause-settled g c in
    let kept : IsStoredFor view base now =
    stored_still view base (view_of_flusher old) now batch (ap commands_among t.taken.taken ∙ commands_among-append old.taker.taken t.popped ∙
    ap (λ l. commands_among old.taker.taken ++ l) t.these) refl c.catch_up-level.ensures.durable h in
    record {
      call = round_call view base (view_of_flusher old) now r s.made s.order settled store.broken refl (λ up. keeps_self view store (g.met.D.Disk.sound store.disk) h.honest (h.sound up));
      stored = kept;
      any_moment = λ up. (keeps_self view store (g.met.D.Disk.sound store.disk) h.honest (h.sound up)).any_moment;
      durable = last_durable view base (view_of_flusher old) now r settled (g.met.D.Disk.sound store.disk) kept;
    }

pub returns-clause-breaks : goal.returns-clause-breaks
returns-clause-breaks g c = record { later = omega arith; failed = λ was down. absurd (true≢false (sym down ∙ was)) }
