use Rattle.std.proofs.Common.{◌≡◌, [], ◌∷◌, ◌++◌, length, rules, refl, ap, sym, ◌∙◌, subst, append_assoc}
use Rattle.std.proofs.lemmas.List.{append-nil}
use Rattle.std.specs.Arc.{arc_value}
use Rattle.flusher.specs.Shared.{commands_in}
use Rattle.flusher.specs.Short.{HasShortDecision}
use Rattle.flusher.specs.Batches.{AreWithin}
use Rattle.flusher.specs.Stages.{sent, decision_for_all, sent_to_all}
use Rattle.flusher.specs.Answerings.{HaveAnswered}
use Rattle.flusher.proofs.Answered.{answered_on, none_answered}
use Rattle.flusher.proofs.Short.{alike_short}
use Rattle.flusher.proofs.answering.answer_all_alike.Goals as goal

pub loop-command-init : goal.loop-command-init
loop-command-init g c = (c.requires.stations, ([], refl, none_answered _), refl)

pub loop-command-preserved : goal.loop-command-preserved
loop-command-preserved g c =
    let i = c.loop-command.invariant in
    let published = c.args.stamp.now.published in
    let moment = c.args.stamp.now.moment.tick in
    let s = decision_for_all c.args.fault in
    let e : commands_in c.loop-command.batch.items ≡ arc_value c.in-Some.command ∷ commands_in c.pop_front.new.self.items = ap commands_in c.in-Some.ensures.items in
    let w = subst (AreWithin (length c.args.senders.now.items)) e i.0 in
    let x = sent moment (arc_value c.in-Some.command) published s in (
      w.1,
      (
        i.1.0 ++ x ∷ [],
        append_assoc i.1.0 (x ∷ []) (sent_to_all moment published s (commands_in c.pop_front.new.self.items)) ∙ ap (λ cs. i.1.0 ++ sent_to_all moment published s cs) (sym e) ∙ i.1.1,
        answered_on _ _ _ _ _ i.1.2
            (subst (λ t. HaveAnswered c.loop-command.senders.items (sent moment (arc_value c.in-Some.command) published t ∷ [])
            c.answer_one.new.senders.items) c.decision_for_all.ensures c.answer_one.ensures),
      ),
      c.in-Some.ensures.capacity ∙ i.2,
    )

pub returns-clause-answered : goal.returns-clause-answered
returns-clause-answered g c =
    let i = c.loop-command.invariant in
    let none : c.loop-command.batch.items ≡ [] = search rules in
    let published = c.args.stamp.now.published in
    let moment = c.args.stamp.now.moment.tick in
    let s = decision_for_all c.args.fault in
    subst (λ xs. HaveAnswered c.args.senders.now.items xs c.loop-command.senders.items)
    (sym (append-nil i.1.0) ∙ ap (λ cs. i.1.0 ++ sent_to_all moment published s (commands_in cs)) (sym none) ∙ i.1.1) i.1.2

pub answer_one-requires-clause-short : goal.answer_one-requires-clause-short
answer_one-requires-clause-short g c = subst HasShortDecision (sym c.decision_for_all.ensures) (alike_short c.args.fault)
