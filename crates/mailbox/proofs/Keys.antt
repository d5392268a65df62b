-- When two keys are one, and when a destination is under a path.
use Rattle.std.proofs.Common.{◌≡◌, ℕ, ◌<◌, ◌^◌, true, false, refl, ap, sym, ◌∙◌, arith}
use Rattle.std.specs.Prelude.{◌==◌, ◌&&◌}
use Rattle.std.specs.Ordering.{eq_by_cmp, ordering_reverse}
use Rattle.std.specs.Cmp.{eq_by_cmp_equiv, IsTotalOrder, on_total}
use Rattle.std.specs.declared.cmp.Ordering.{Ordering}
use Rattle.std.specs.declared.cmp.Ordering.TheVariants.{Less, Equal, Greater}
use Rattle.std.proofs.lemmas.Cmp.{nat_list_cmp_total}
use Rattle.mailbox.specs.Order.{place_at, named_cmp}
use Rattle.std.proofs.lemmas.Bool.{and_parts, false≢true}
use Rattle.std.proofs.lemmas.Bool.Decides.{nat_tests}
use Rattle.base.proofs.Bools.{same_truth}
use Rattle.base.proofs.Numbers.{same_by_test, same_test}
use Rattle.identity.specs.Path.{Path, path_cmp, id_path}
use Rattle.identity.specs.Inside.PathLaws.{paths_total, tie_exact, tied, id_path-injective}
use Rattle.mailbox.specs.declared.key.Kind.{Kind}
use Rattle.mailbox.specs.declared.key.Kind.TheVariants.{Message, Report}
use Rattle.mailbox.specs.declared.key.Key.{Key}
use Rattle.mailbox.specs.Values.{Item}
use Rattle.mailbox.specs.Item.{same_kind, same_key, is_at, is_to}
use Rattle.mailbox.specs.Inside.Boxes.{is_under}

number_turned : (a b : ℕ) → (a == b) ≡ (b == a)
number_turned a b = grind (arith, nat_tests)

kind_itself : (k : Kind) → same_kind k k ≡ true
kind_itself Message = refl
kind_itself Report = refl

kind_turned : (k j : Kind) → same_kind k j ≡ same_kind j k
kind_turned Message Message = refl
kind_turned Message Report = refl
kind_turned Report Message = refl
kind_turned Report Report = refl

kind_exact : (k j : Kind) → same_kind k j ≡ true → k ≡ j
kind_exact Message Message e = refl
kind_exact Message Report e = absurd (false≢true e)
kind_exact Report Message e = absurd (false≢true e)
kind_exact Report Report e = refl

pub key_itself : (k : Key) → same_key k k ≡ true
key_itself k = λ i. (same_test k.destination i) && (same_test k.source i) && (same_test k.reference i) && kind_itself k.kind i

pub key_turned : (k j : Key) → same_key k j ≡ same_key j k
key_turned k j = λ i. (number_turned k.destination j.destination i) && (number_turned k.source j.source i) && (number_turned k.reference j.reference i) && kind_turned k.kind j.kind i

pub key_exact : (k j : Key) → same_key k j ≡ true → k ≡ j
key_exact k j e =
    let a = and_parts ((k.destination == j.destination) && (k.source == j.source) && (k.reference == j.reference)) (same_kind k.kind j.kind) e in
    let b = and_parts ((k.destination == j.destination) && (k.source == j.source)) (k.reference == j.reference) a.0 in
    let c = and_parts (k.destination == j.destination) (k.source == j.source) b.0 in
    λ i. record {
      destination = same_by_test k.destination j.destination c.0 i;
      source = same_by_test k.source j.source c.1 i;
      reference = same_by_test k.reference j.reference b.1 i;
      kind = kind_exact k.kind j.kind a.1 i;
    }

-- what is at a key is for its destination, and under the path of that
pub at_is_to : (k : Key) (w : Item) → is_at k w ≡ true → is_to k.destination w ≡ true
at_is_to k w e = ap (λ j. j.destination == k.destination) (sym (key_exact k w.key e)) ∙ same_test k.destination

pub at_is_under : (k : Key) (w : Item) → is_at k w ≡ true → is_under (id_path k.destination) w ≡ true
at_is_under k w e = ap (λ j. eq_by_cmp path_cmp (id_path k.destination) (id_path j.destination)) (sym (key_exact k w.key e)) ∙ tied (id_path k.destination)

-- what is under one path is under no other
pub under_other : (p q r : Path) → eq_by_cmp path_cmp q p ≡ false → eq_by_cmp path_cmp q r ≡ true → eq_by_cmp path_cmp p r ≡ false
under_other p q r other here = ap (eq_by_cmp path_cmp p) (sym (tie_exact q r here)) ∙ (eq_by_cmp_equiv paths_total).symm p q ∙ other

-- of identities: under the path is for the destination
pub under_is_to : (destination : ℕ) → destination < 2 ^ 48 → (w : Item) → w.key.destination < 2 ^ 48 → is_under (id_path destination) w ≡ is_to destination w
under_is_to destination below w whole =
    same_truth (is_under (id_path destination) w) (is_to destination w)
    (λ e. ap (λ d. d == destination) (id_path-injective w.key.destination destination whole below (sym (tie_exact (id_path destination) (id_path w.key.destination) e))) ∙ same_test destination)
    (λ e. ap (λ d. eq_by_cmp path_cmp (id_path destination) (id_path d)) (same_by_test w.key.destination destination e) ∙ tied (id_path destination))

-- numbers with keys are ordered
pub named_total : IsTotalOrder named_cmp
named_total = on_total (λ (a : ℕ × Key). place_at a.0 a.1) nat_list_cmp_total

own_reverse : (o : Ordering) → o ≡ ordering_reverse o → o ≡ Equal
own_reverse Less e = absurd cc
own_reverse Equal e = refl
own_reverse Greater e = absurd cc

pub total_itself : {K : Type 0} {cmp : K → K → Ordering} → IsTotalOrder cmp → (x : K) → cmp x x ≡ Equal
total_itself {cmp = cmp} total x = own_reverse (cmp x x) (total.antisymm x x)
