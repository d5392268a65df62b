use Rattle.std.proofs.Common.{◌≡◌, true≢false, sym, ◌∙◌, subst}
use Rattle.std.specs.Arc.{arc_value}
use Rattle.std.specs.Prelude.{IsTrue}
use Rattle.flusher.specs.Submitted.{BearsOutAnswer, HasReached, HasShortAnswer, IsAlreadyReached}
use Rattle.flusher.proofs.Bearing.{when, bears_by, reaches_by}
use Rattle.flusher.proofs.Short.{answer_short}
use Rattle.flusher.proofs.hearing.take_in.Goals as goal

pub returns-clause-borne_out : goal.returns-clause-borne_out
returns-clause-borne_out g c =
    let base = g.J.Centre.base in
    let response = c.response.inside in
    let seen = c.args.viewer.now in
    let reached = c.args.reached.now in
    let same : arc_value response.command ≡ c.args.command.now = sym c.deref.ensures ∙ c.same.ensures.0 c.if-not-same.false in
    let later = when c.is_within.result _ _ c.is_within.ensures c.if-not-is_within.false in
    let new : IsAlreadyReached base.count reached response.decision → ⊥ = λ h.
    let is : IsTrue c.is_already_reached.result = c.is_already_reached.ensures.1 (subst (λ m. IsAlreadyReached m reached response.decision) (sym c.base-base.ensures) h) in
    true≢false (sym is ∙ c.if-is_already_reached.false) in
    subst (BearsOutAnswer base c.args.command.now seen reached c.follow.new.self) (sym c.answer_by.ensures)
    (bears_by _ base c.args.command.now (arc_value response.command) seen reached response.published c.follow.new.self response.decision same later c.follow.ensures c.response.invariant.1 new)

pub returns-clause-reached : goal.returns-clause-reached
returns-clause-reached g c =
    let base = g.J.Centre.base in
    let response = c.response.inside in
    let seen = c.args.viewer.now in
    let reached = c.args.reached.now in
    let same : arc_value response.command ≡ c.args.command.now = sym c.deref.ensures ∙ c.same.ensures.0 c.if-not-same.false in
    let later = when c.is_within.result _ _ c.is_within.ensures c.if-not-is_within.false in
    let new : IsAlreadyReached base.count reached response.decision → ⊥ = λ h.
    let is : IsTrue c.is_already_reached.result = c.is_already_reached.ensures.1 (subst (λ m. IsAlreadyReached m reached response.decision) (sym c.base-base.ensures) h) in
    true≢false (sym is ∙ c.if-is_already_reached.false) in
    subst (HasReached base reached c.reached_by.result c.follow.new.self) (sym c.answer_by.ensures)
    (reaches_by _ base c.args.command.now (arc_value response.command) c.base-base.result reached c.reached_by.result seen response.published
    c.follow.new.self response.decision c.base-base.ensures c.reached_by.ensures same c.follow.ensures c.response.invariant.1 new c.requires.within
    later)

pub returns-clause-short : goal.returns-clause-short
returns-clause-short g c =
    subst HasShortAnswer (sym c.answer_by.ensures) (answer_short _ c.response.inside.published c.response.inside.decision c.response.invariant.2)
