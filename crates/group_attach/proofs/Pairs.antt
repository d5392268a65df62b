-- The order of radios and groups.
use Rattle.std.proofs.Common.{◌≡◌, Bool, sym, ap, ◌∙◌, refl}
use Rattle.std.specs.Prelude.{◌&&◌, ◌==◌}
use Rattle.std.specs.declared.cmp.Ordering.{Ordering}
use Rattle.std.specs.declared.cmp.Ordering.TheVariants.{Less, Equal, Greater}
use Rattle.std.specs.Ordering.{nat_cmp, ordering_then, is_eq, eq_by_cmp}
use Rattle.std.specs.Cmp.{IsTotalOrder, then_total, on_total, nat_cmp_total, unsigned_tied}
use Rattle.std.specs.FinMap as finite
use Rattle.group_attach.specs.Attached.{Pair, pair_cmp}

pub pairs_total : IsTotalOrder pair_cmp
pairs_total = then_total (on_total (λ (p : Pair). p.0) nat_cmp_total) (on_total (λ (p : Pair). p.1) nat_cmp_total)

exact_by : (p q : Pair) (r : Ordering) → nat_cmp p.0 q.0 ≡ r → ordering_then r (nat_cmp p.1 q.1) ≡ Equal → p ≡ q
exact_by p q Less e is = absurd cc
exact_by p q Equal e is = λ i. (finite.nat_cmp-IsAntisymmetric p.0 q.0 e i, finite.nat_cmp-IsAntisymmetric p.1 q.1 is i)
exact_by p q Greater e is = absurd cc

-- only one pair is at a place
pub pairs_exact : (p q : Pair) → pair_cmp p q ≡ Equal → p ≡ q
pairs_exact p q e = exact_by p q (nat_cmp p.0 q.0) refl e

both_eq : (r o : Ordering) → is_eq (ordering_then r o) ≡ (is_eq r && is_eq o)
both_eq Less o = refl
both_eq Equal o = refl
both_eq Greater o = refl

-- two pairs tie where both numbers are equal
pub pairs_tied : (p q : Pair) → eq_by_cmp pair_cmp p q ≡ ((p.0 == q.0) && (p.1 == q.1))
pairs_tied p q = both_eq (nat_cmp p.0 q.0) (nat_cmp p.1 q.1) ∙ (λ i. unsigned_tied p.0 q.0 i && unsigned_tied p.1 q.1 i)

-- a test of pairs gives one answer where they tie
pub alike : (p : Pair → Bool) (q x : Pair) → pair_cmp q x ≡ Equal → p x ≡ p q
alike p q x e = sym (ap p (pairs_exact q x e))
