use Rattle.std.proofs.Common.{◌≡◌, ◌+◌, ◌++◌, [], drop, refl, sym, ap, ◌∙◌, arith, append_assoc, drop_of_length-le}
use Rattle.std.proofs.lemmas.List.{append-nil}
use Rattle.base.proofs.Results.{on_err}
use Rattle.listings.specs.Inside.Dumping.{last_text, lasts_text}
use Rattle.listings.proofs.Dumping.{lasts_left, one_last, no_last}
use Rattle.listings.proofs.Listed.{prefix_with_more}
use Rattle.listings.proofs.dump.put_lasts.Goals as goal

pub loop-at-init : goal.loop-at-init
loop-at-init g c = ([], sym (append-nil c.args.out.now.items), refl, omega arith)

pub loop-at-preserved : goal.loop-at-preserved
loop-at-preserved g c =
    let so = c.loop-at.invariant in
    let last = c.index-served-at.result in
    let here = last_text (c.loop-at.at + 1) last in
    let next = one_last c.args.served.now c.loop-at.at last c.loop-at-test.true c.index-served-at.is in (
      so.0 ++ here,
      c.in_ok-put_last.ensures.ok ∙ ap (λ t. t ++ here) so.1 ∙ append_assoc c.args.out.now.items so.0 here,
      append_assoc so.0 here _ ∙ ap (λ t. so.0 ++ t) (sym next) ∙ so.2,
      omega (arith, so.3, c.put_last.ensures.capacity),
    )

pub returns-in_err-put_last-clause-err : goal.returns-in_err-put_last-clause-err
returns-in_err-put_last-clause-err g c =
    let so = c.loop-at.invariant in
    on_err c.from_residual.result (prefix_with_more c.args.out.now.items so.0 c.loop-at.out.items c.put_last.new.out.items so.1 c.in_err-put_last.ensures.err)

pub returns-in_err-put_last-clause-full : goal.returns-in_err-put_last-clause-full
returns-in_err-put_last-clause-full g c =
    let so = c.loop-at.invariant in
    let at = c.loop-at.at in
    let last = c.index-served-at.result in
    on_err c.from_residual.result
    (no_last c.args.out.now.items c.loop-at.out.items so.0 (last_text (at + 1) last) (lasts_left c.args.served.now at)
    (lasts_left c.args.served.now (at + 1)) (lasts_text 1 c.args.served.now) _ _ _ _
    so.1 so.2 (one_last c.args.served.now at last c.loop-at-test.true c.index-served-at.is) c.args.out.now.ok.0 c.loop-at.out.ok.0 so.3 c.in_err-put_last.ensures.full)

pub returns-clause-ok : goal.returns-clause-ok
returns-clause-ok g c =
    let so = c.loop-at.invariant in
    let none = ap (lasts_text (c.loop-at.at + 1)) (drop_of_length-le c.args.served.now (omega (arith, c.loop-at-test.false))) in
    so.1 ∙ ap (λ t. c.args.out.now.items ++ t) (sym (append-nil so.0) ∙ ap (λ t. so.0 ++ t) (sym none) ∙ so.2)
