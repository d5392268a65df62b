use Rattle.std.proofs.Common.{◌≡◌, ◌≤◌, ◌<◌, inl, inr, length, sym, ap, ◌∙◌, arith}
use Rattle.std.proofs.lemmas.Bool.Decides.{nat_tests}
use Rattle.std.specs.Prelude.{◌⊎◌}
use Rattle.identity.specs.Number.{num}
use Rattle.prefix_tree.specs.Inside.Paths.{common}
use Rattle.prefix_tree.proofs.Numbers.{common_cut, common_step, common_self, half_fits, fits_cut, taken, none_left}
use Rattle.prefix_tree.proofs.path.common.Goals.{then-len, else-len, then-loop-a-test+else-at-gt0, else-loop-a-test}
use Rattle.prefix_tree.proofs.path.common.Goals as goal

pub loop-a-init : goal.loop-a-init
loop-a-init c =
    let p = c.args.one.now in
    let q = c.args.other.now in
    let w = c.if-len.len in
    let least : (w ≤ length p) × (w ≤ length q) × ((length q ≤ w) ⊎ (length p ≤ w)) = elim c.if-len.branch [
      | then-len x ↦ (
        omega (arith, x.len-is, x.len-len.ensures.value),
        omega (arith, x.len-is, x.len-len.ensures.value, x.if-len.true, c.len.ensures.value, c.len-2.ensures.value),
        inr (omega (arith, x.len-is, x.len-len.ensures.value)),
      )
      | else-len x ↦ (
        omega (arith, x.len-is, x.len-len-else-len.ensures.value, x.if-len.false, c.len.ensures.value, c.len-2.ensures.value),
        omega (arith, x.len-is, x.len-len-else-len.ensures.value),
        inl (omega (arith, x.len-is, x.len-len-else-len.ensures.value)),
      )
    ] in
    rw (c.len-3.ensures.value, c.len-4.ensures.value) (
      omega (arith, least.0, c.len.ensures.value, c.len.ensures.at_most_48),
      fits_cut w (length p) _ least.0 c.number.ensures.fits,
      fits_cut w (length q) _ least.1 c.number-2.ensures.fits,
      common_cut p q _ _ w c.number.ensures.value c.number-2.ensures.value least.0 least.1 least.2,
    )

pub loop-a-preserved : goal.loop-a-preserved
loop-a-preserved c =
    let i = c.loop-a.invariant in
    let some : 0 < c.loop-a.at = omega (arith, c.if-at-gt0.true) in (
      omega (arith, i.0),
      half_fits c.loop-a.at c.loop-a.a some i.1,
      half_fits c.loop-a.at c.loop-a.b some i.2,
      i.3 ∙ common_step c.loop-a.at c.loop-a.a c.loop-a.b some i.1 i.2 (λ same. grind (arith, nat_tests, same, c.loop-a-test.true)),
    )

pub returns : goal.returns
returns c =
    let i = c.loop-a.invariant in
    let is : common c.args.one.now c.args.other.now ≡ num c.loop-a.at c.loop-a.a = i.3 ∙ elim c.loop-a-test.branch [
      | then-loop-a-test+else-at-gt0 w ↦ none_left c.loop-a.at c.loop-a.a c.loop-a.b (omega (arith, w.if-at-gt0.false))
      | else-loop-a-test w ↦ let same : c.loop-a.b ≡ c.loop-a.a = omega (arith, w.loop-a-test.false) in
          ap (λ n. common (num c.loop-a.at c.loop-a.a) (num c.loop-a.at n)) same ∙ common_self (num c.loop-a.at c.loop-a.a)
    ] in
    c.of.ensures ∙ taken c.loop-a.at c.loop-a.a i.0 i.1 ∙ sym is
