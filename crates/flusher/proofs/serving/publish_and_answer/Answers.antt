use Rattle.std.proofs.Common.{◌++◌, ℕ, List, refl, sym, ◌∙◌, subst}
use Rattle.std.specs.declared.alloc.Global.{Global}
use Rattle.centre_core.specs.Asked.{Asked}
use Rattle.centre_core.specs.Histories.{IsHistory}
use Rattle.flusher.specs.Shared.{commands_in}
use Rattle.flusher.specs.Stages.{BearsOutDecisions, sent_by}
use Rattle.flusher.specs.Answerings.{HaveAnswered}
use Rattle.flusher.proofs.Decided.{comes}
use Rattle.flusher.proofs.Batched.{length-commands_in}
use Rattle.flusher.proofs.Published.{borne_by, shows_by}
use Rattle.flusher.proofs.serving.publish_and_answer.Goals as goal

pub publish_new-shown-requires-clause-history : goal.publish_new-shown-requires-clause-history
publish_new-shown-requires-clause-history g c =
    let base = g.J.Centre.base in
    let before = c.args.publication.now.publisher.appended in
    let h = comes base _ _ before (commands_in c.args.batch.now.items) c.args.committed.outcomes.items c.requires.committed.history refl c.requires.committed.answered in
    subst (λ l. IsHistory base (before ++ l)) (sym (c.requires.committed.kept ∙ h.accepted)) h.history

pub publish_new-shown-requires-clause-level : goal.publish_new-shown-requires-clause-level
publish_new-shown-requires-clause-level g c = c.requires.committed.level

pub answer_all-requires-clause-short : goal.answer_all-requires-clause-short
answer_all-requires-clause-short g c = c.requires.committed.short

pub answer_all-requires-clause-borne_out : goal.answer_all-requires-clause-borne_out
answer_all-requires-clause-borne_out g c =
    let base = g.J.Centre.base in
    let old = c.args.publication.now in
    let new = c.publish_new-shown.new.self in
    let e = c.publish_new-shown.ensures in
    let shown = c.publish_new-shown.result in
    let before = old.publisher.appended in
    let kept = commands_in old.unpublished.items in
    let cmds = commands_in c.args.batch.now.items in
    let os = c.args.committed.outcomes.items in
    let h = comes base _ _ before cmds os c.requires.committed.history refl c.requires.committed.answered in
    let durable = new.publisher.appended ++ commands_in new.unpublished.items in
    let w = shows_by shown.all before kept old.publisher.published new.publisher.published durable c.requires.committed.level e.durable e.published in
    subst (λ l. BearsOutDecisions base l shown.all cmds os) (sym e.stamp.0) (borne_by base _ before kept new.publisher.published durable cmds os shown.all h c.requires.committed.kept w)

pub answer_all-requires-clause-each : goal.answer_all-requires-clause-each
answer_all-requires-clause-each g c =
    let base = g.J.Centre.base in
    let h = comes base _ _ c.args.publication.now.publisher.appended (commands_in c.args.batch.now.items) c.args.committed.outcomes.items
    c.requires.committed.history refl c.requires.committed.answered in
    h.each ∙ length-commands_in c.args.batch.now.items

pub returns-clause-published : goal.returns-clause-published
returns-clause-published g c =
    let old = c.args.publication.now in
    let new = c.publish_new-shown.new.self in
    let e = c.publish_new-shown.ensures in
    let shown = c.publish_new-shown.result in
    let cmds = commands_in c.args.batch.now.items in
    let durable = new.publisher.appended ++ commands_in new.unpublished.items in
    let w = shows_by shown.all old.publisher.appended (commands_in old.unpublished.items) old.publisher.published new.publisher.published durable c.requires.committed.level e.durable e.published in
    record {
      all = shown.all;
      published = w.published_is;
      some = λ short. (w.some short, e.refused short);
      answered = subst (λ (q : ℕ × List (Asked Global)). HaveAnswered c.args.senders.now.items (sent_by q.0 q.1 shown.all cmds c.args.committed.outcomes.items) c.answer_all.new.senders.items)
          (λ j. ((e.stamp.1 j).tick, e.stamp.0 j)) c.answer_all.ensures.answered;
    }
