use Rattle.std.proofs.Common.{◌≡◌, ℕ, List, ◌++◌, ◌≤◌, refl, ap, sym, ◌∙◌, subst, true≢false}
use Rattle.std.specs.declared.alloc.Global.{Global}
use Rattle.centre_core.specs.Asked.{Asked}
use Rattle.centre_core.specs.Histories.{IsHistory}
use Rattle.centre_core.specs.History.{after}
use Rattle.recovery.specs.Lives.{view_of as store_view}
use Rattle.flusher.specs.Shared.{commands_in}
use Rattle.flusher.specs.declared.decision.Decision.{Decision}
use Rattle.flusher.specs.declared.moment.Moment.{Moment}
use Rattle.flusher.specs.Stages.{sent_to_all}
use Rattle.flusher.specs.Answerings.{HaveAnswered}
use Rattle.flusher.specs.Batches.{accepted_by}
use Rattle.flusher.specs.Attempts.{tries}
use Rattle.flusher.specs.Served.{HavePublished}
use Rattle.flusher.proofs.Batched.{length-commands_in}
use Rattle.flusher.proofs.Ready.{all_appended, answered_on, history_on, made_on, published_begins, refused_broken, refused_made}
use Rattle.flusher.proofs.Served.{served_not, served_on}
use Rattle.flusher.proofs.serving.commit_and_answer.Goals as goal

pub commit_batch-requires-clause-sound : goal.commit_batch-requires-clause-sound
commit_batch-requires-clause-sound g c = c.requires.ready.sound

pub queue_accepted-requires-clause-empty : goal.queue_accepted-requires-clause-empty
queue_accepted-requires-clause-empty g c = c.requires.ready.caught_up.1

pub publish_and_answer-requires-clause-committed : goal.publish_and_answer-requires-clause-committed
publish_and_answer-requires-clause-committed g c =
    let base = g.J.Centre.base in
    let ready = c.requires.ready in
    let old = c.args.publication.now in
    let log = old.publisher.appended ++ commands_in old.unpublished.items in
    let cmds = commands_in c.args.room.now.batch.items in
    let all = all_appended old.publisher.appended old.unpublished.items ready.caught_up.1 in
    let kept = c.queue_accepted.ensures.kept ∙ (λ j. accepted_by (c.args.room.now.same j) (c.as_slice.ensures.value j)) in
    record {
      level = ap (λ p. p.published) c.queue_accepted.ensures.publisher ∙ ready.caught_up.0 ∙ ap (λ p. p.appended) (sym c.queue_accepted.ensures.publisher);
      history = subst (IsHistory base) (all ∙ ap (λ p. p.appended) (sym c.queue_accepted.ensures.publisher)) ready.history;
      answered = answered_on base (store_view c.args.committer.now.store) (store_view c.commit_batch.new.committer.store) log cmds c.in-Ok.outcomes.items
          ready.history ready.made c.in-Ok.ensures.committed.0
          _ _ (ap (λ p. p.appended) c.queue_accepted.ensures.publisher ∙ sym all) kept;
      short = c.in-Ok.ensures.short;
      kept = kept;
    }

pub returns-in-Ok-clause-served : goal.returns-in-Ok-clause-served
returns-in-Ok-clause-served g c seen =
    let base = g.J.Centre.base in
    let old = c.args.publication.now in
    let new = c.publish_and_answer.new.publication in
    let log = old.publisher.appended ++ commands_in old.unpublished.items in
    let cmds = commands_in c.args.room.now.batch.items in
    let os = c.in-Ok.outcomes.items in
    let same : c.queue_accepted.new.self.publisher.appended ≡ log = ap (λ p. p.appended) c.queue_accepted.ensures.publisher ∙ sym
    (all_appended old.publisher.appended old.unpublished.items c.requires.ready.caught_up.1) in
    let is : new.publisher.appended ++ commands_in new.unpublished.items ≡ log ++ accepted_by cmds os = c.publish_and_answer.ensures.durable ∙
    (λ j. same j ++ (c.queue_accepted.ensures.kept ∙ (λ j. accepted_by (c.args.room.now.same j) (c.as_slice.ensures.value j))) j) in
    let small = subst (λ n. n ≤ 64) (sym (length-commands_in c.args.room.now.batch.items)) c.args.room.now.few in
    served_on base (g.D.Disk.view c.commit_batch.new.committer.store.disk).moment (store_view c.args.committer.now.store)
    (store_view c.commit_batch.new.committer.store) (tries c.args.committer.now.attempts old.publisher.refusals)
    (tries c.commit_batch.new.committer.attempts new.publisher.refusals) seen log
    (new.publisher.appended ++ commands_in new.unpublished.items) new.publisher.published cmds os c.args.senders.now.items
    c.publish_and_answer.new.senders.items c.requires.ready.history c.requires.ready.made c.requires.ready.sound small c.in-Ok.ensures.committed.0
    c.in-Ok.ensures.committed.1 is
    (subst (λ (q : ℕ × ℕ × List (Asked Global)). HavePublished q.0 q.1 new.publisher.refusals q.2 (new.publisher.appended ++ commands_in new.unpublished.items)
    new.publisher.published cmds os c.args.senders.now.items c.publish_and_answer.new.senders.items)
    (λ j. (c.moment-moment.ensures j, (c.queue_accepted.ensures.publisher j).refusals, same j)) c.publish_and_answer.ensures.published)

pub returns-in-Ok-clause-durable : goal.returns-in-Ok-clause-durable
returns-in-Ok-clause-durable g c =
    let base = g.J.Centre.base in
    let old = c.args.publication.now in
    let new = c.publish_and_answer.new.publication in
    let was = store_view c.args.committer.now.store in
    let now = store_view c.commit_batch.new.committer.store in
    let log = old.publisher.appended ++ commands_in old.unpublished.items in
    let cmds = commands_in c.args.room.now.batch.items in
    let os = c.in-Ok.outcomes.items in
    let history = c.requires.ready.history in
    let made = c.requires.ready.made in
    let done = c.in-Ok.ensures.committed.0 in
    let same : c.queue_accepted.new.self.publisher.appended ≡ log = ap (λ p. p.appended) c.queue_accepted.ensures.publisher ∙ sym
    (all_appended old.publisher.appended old.unpublished.items c.requires.ready.caught_up.1) in
    let is : new.publisher.appended ++ commands_in new.unpublished.items ≡ log ++ accepted_by cmds os = c.publish_and_answer.ensures.durable ∙
    (λ j. same j ++ (c.queue_accepted.ensures.kept ∙ (λ j. accepted_by (c.args.room.now.same j) (c.as_slice.ensures.value j))) j) in
    record {
      prefix = published_begins c.moment-moment.result.tick c.queue_accepted.new.self.publisher.refusals new.publisher.refusals c.queue_accepted.new.self.publisher.appended
          (new.publisher.appended ++ commands_in new.unpublished.items) new.publisher.published cmds
          (commands_in c.queue_accepted.new.self.unpublished.items) os c.args.senders.now.items c.publish_and_answer.new.senders.items
          c.publish_and_answer.ensures.durable c.publish_and_answer.ensures.published;
      history = subst (IsHistory base) (sym is) (history_on base was now log cmds os history made done);
      made = λ up. made_on base was now log cmds os history made done ∙ ap (after base) (sym is);
      under_way = λ down. absurd (true≢false (sym down ∙ done.sound));
    }

pub returns-in-Err-clause-served : goal.returns-in-Err-clause-served
returns-in-Err-clause-served g c seen =
    let base = g.J.Centre.base in
    let old = c.args.publication.now in
    let log = old.publisher.appended ++ commands_in old.unpublished.items in
    let cmds = commands_in c.args.room.now.batch.items in
    let small = subst (λ n. n ≤ 64) (sym (length-commands_in c.args.room.now.batch.items)) c.args.room.now.few in
    served_not base (g.D.Disk.view c.commit_batch.new.committer.store.disk).moment (store_view c.args.committer.now.store)
    (store_view c.commit_batch.new.committer.store) (tries c.args.committer.now.attempts old.publisher.refusals)
    (tries c.commit_batch.new.committer.attempts old.publisher.refusals) seen log log old.publisher.published cmds
    c.in-Err.fault c.args.senders.now.items c.refuse.new.senders.items c.requires.ready.sound small c.in-Err.ensures.committed
    (c.requires.ready.caught_up.0 ∙ sym (all_appended old.publisher.appended old.unpublished.items c.requires.ready.caught_up.1)) refl
    (subst (λ (q : ℕ × List (Asked Global) × Decision). HaveAnswered c.args.senders.now.items (sent_to_all q.0 q.1 q.2 cmds) c.refuse.new.senders.items)
    (λ j. ((ap (λ (m : Moment). m.tick) c.stamp-stamp.ensures.1 ∙ c.moment.ensures) j, c.stamp-stamp.ensures.0 j, c.reason_of.ensures j)) c.refuse.ensures.answered)

pub returns-in-Err-clause-durable : goal.returns-in-Err-clause-durable
returns-in-Err-clause-durable g c =
    let old = c.args.publication.now in
    let was = store_view c.args.committer.now.store in
    let now = store_view c.commit_batch.new.committer.store in
    let cmds = commands_in c.args.room.now.batch.items in
    let before = c.args.committer.now.attempts in
    let after_it = c.commit_batch.new.committer.attempts in
    let refused = c.in-Err.ensures.committed in
    record {
      prefix = (commands_in old.unpublished.items, ap (λ l. l ++ commands_in old.unpublished.items) c.requires.ready.caught_up.0);
      history = c.requires.ready.history;
      made = λ up. refused_made cmds was now c.in-Err.fault before after_it refused up ∙ c.requires.ready.made;
      under_way = λ down. (refused_broken cmds was now c.in-Err.fault before after_it c.requires.ready.sound refused down, refl);
    }
