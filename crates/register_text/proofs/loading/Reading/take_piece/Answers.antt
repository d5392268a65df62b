use Rattle.std.proofs.Common.{◌++◌, ◌+◌, List, ℕ, drop, arith, ap, sym, ◌∙◌}
use Rattle.std.proofs.lemmas.List.{take_rest}
use Rattle.std.proofs.lemmas.Result.{err_from_is_err_and, on_ok_weaker, IfErr-weaker}
use Rattle.register_text.specs.Inside.Going.{outcome}
use Rattle.register_text.proofs.Cuts.{left_at}
use Rattle.register_text.proofs.Parts.{fault_from}
use Rattle.register_text.proofs.loading.Reading.take_piece.Goals as goal

pub returns-in_err-take_line-clause-fault : goal.returns-in_err-take_line-clause-fault
returns-in_err-take_line-clause-fault g c =
    let p = err_from_is_err_and c.from_residual.result c.from_residual.ensures.1 in
    let piece = c.args.piece.now in let at = c.loop-end.at in let end = c.in-Some.end in let there = c.in-Some.ensures in
    rw (p.1, p.2) (λ left.
    fault_from _ _ _ (c.loop-end.invariant.3 left ∙ ap (outcome c.loop-end.self) (left_at piece left at end there.0 there.1 there.3))
    (c.in_err-take_line.ensures.fault (drop (end + 1) piece ++ left)))

pub loop-end-preserved : goal.loop-end-preserved
loop-end-preserved g c =
    let piece = c.args.piece.now in let at = c.loop-end.at in let end = c.in-Some.end in let there = c.in-Some.ensures in let so = c.loop-end.invariant in (
      omega (arith, there.1),
      omega (arith, c.in_ok-take_line.ensures.number, so.1, there.0),
      c.in_ok-take_line.ensures.kept,
      λ left. so.3 left ∙ ap (outcome c.loop-end.self) (left_at piece left at end there.0 there.1 there.3) ∙ c.in_ok-take_line.ensures.ok (drop (end + 1) piece ++ left),
    )

pub returns-clause-ok : goal.returns-clause-ok
returns-clause-ok g c =
    on_ok_weaker c.add_to_line.result
    (λ kept left. c.loop-end.invariant.3 left ∙
    ap (λ (l : List ℕ). outcome c.loop-end.self (l ++ left)) (sym (take_rest c.args.piece.now c.loop-end.at)) ∙ kept left) c.add_to_line.ensures.ok

pub returns-clause-fault : goal.returns-clause-fault
returns-clause-fault g c = IfErr-weaker c.add_to_line.result _ _ (λ fault said left.
    fault_from _ _ _ (c.loop-end.invariant.3 left ∙ ap (λ (l : List ℕ). outcome c.loop-end.self (l ++ left)) (sym (take_rest c.args.piece.now c.loop-end.at))) (said left)) c.add_to_line.ensures.fault
