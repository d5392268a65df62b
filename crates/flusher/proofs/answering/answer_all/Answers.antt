use Rattle.std.proofs.Common.{◌≡◌, List, [], ◌∷◌, ◌++◌, length, refl, ap, sym, ◌∙◌, subst, append_assoc, arith}
use Rattle.std.specs.Arc.{arc_value}
use Rattle.std.specs.declared.alloc.Global.{Global}
use Rattle.centre_core.specs.Asked.{Asked}
use Rattle.recovery.specs.declared.outcome.Outcome.{Outcome}
use Rattle.flusher.specs.Shared.{commands_in}
use Rattle.flusher.specs.Short.{AreShort, HasShortDecision}
use Rattle.flusher.specs.Batches.{AreWithin}
use Rattle.flusher.specs.Stages.{sent, decision_of, BearsOutDecisions, sent_by}
use Rattle.flusher.specs.Answerings.{HaveAnswered}
use Rattle.flusher.proofs.Answered.{answered_on, none_answered}
use Rattle.flusher.proofs.Short.{decided_short}
use Rattle.flusher.proofs.answering.answer_all.Goals as goal

pub loop-command-init : goal.loop-command-init
loop-command-init g c =
    let e = c.into_iter-outcomes.ensures.rest in (
      c.requires.stations,
      subst (BearsOutDecisions g.J.Centre.base c.args.shown.now.stamp.published c.args.shown.now.all (commands_in c.args.batch.now.items)) (sym e) c.requires.borne_out,
      ap length e ∙ c.requires.each,
      subst AreShort (sym e) c.requires.short,
      ([], ap (sent_by c.args.shown.now.stamp.moment.tick c.args.shown.now.stamp.published c.args.shown.now.all (commands_in c.args.batch.now.items)) e, none_answered _),
      refl,
    )

pub loop-command-preserved : goal.loop-command-preserved
loop-command-preserved g c =
    let i = c.loop-command.invariant in
    let published = c.args.shown.now.stamp.published in
    let moment = c.args.shown.now.stamp.moment.tick in
    let all = c.args.shown.now.all in
    let cmd = arc_value c.in-Some.command in
    let o = c.in-Some-next.outcome in
    let cs = commands_in c.pop_front.new.self.items in
    let os = c.next.new.self.rest.items in
    let e : commands_in c.loop-command.batch.items ≡ cmd ∷ cs = ap commands_in c.in-Some.ensures.items in
    let f : c.loop-command.outcomes.rest.items ≡ o ∷ os = c.in-Some-next.ensures.items in
    let w = subst (AreWithin (length c.args.senders.now.items)) e i.0 in
    let t = subst (λ (q : List (Asked Global) × List (Outcome Global)). BearsOutDecisions g.J.Centre.base published all q.0 q.1) (λ j. (e j, f j)) i.1 in
    let same = i.2 in
    let le = ap length c.in-Some.ensures.items in
    let lf = ap length f in
    let x = sent moment cmd published (decision_of all o) in (
      w.1,
      t.1,
      omega (arith, same, le, lf),
      (subst AreShort f i.3).1,
      (
        i.4.0 ++ x ∷ [],
        append_assoc i.4.0 (x ∷ []) (sent_by moment published all cs os) ∙ (λ j. i.4.0 ++ sent_by moment published all (sym e j) (sym f j)) ∙ i.4.1,
        answered_on _ _ _ _ _ i.4.2
            (subst (λ s. HaveAnswered c.loop-command.senders.items (sent moment cmd published s ∷ []) c.answer_one.new.senders.items)
            c.decision_of-decision.ensures c.answer_one.ensures),
      ),
      c.in-Some.ensures.capacity ∙ i.5,
    )

pub answer_one-requires-clause-short : goal.answer_one-requires-clause-short
answer_one-requires-clause-short g c =
    let short = (subst AreShort c.in-Some-next.ensures.items c.loop-command.invariant.3).0 in
    subst HasShortDecision (sym c.decision_of-decision.ensures) (decided_short c.args.shown.now.all c.in-Some-next.outcome short)
