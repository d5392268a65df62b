-- How one item changes whether a group is attached, and the count of a radio's groups.
use Rattle.std.proofs.Common.{◌≡◌, ℕ, ◌+◌, ◌-◌, Bool, true, false, cond, Option, Some, None, refl, sym, ap, ◌∙◌}
use Rattle.std.specs.Prelude.{◌&&◌, ◌||◌, ◌==◌, not}
use Rattle.std.specs.Option.{is_some}
use Rattle.std.specs.Ordering.{eq_by_cmp}
use Rattle.base.proofs.Bools.{or_true, or_false}
use Rattle.base.proofs.Numbers.{same_test}
use Rattle.std.specs.FinMap as finite
use Rattle.mm_pdus.specs.declared.group.GroupUp.{GroupUp}
use Rattle.mm_pdus.specs.declared.group.GroupUp.TheVariants as up
use Rattle.mm_pdus.specs.Address.{gtsi_of}
use Rattle.registration.specs.declared.rule.Rule.{Rule}
use Rattle.registration.specs.Registered.{Registered, rule_of}
use Rattle.group_attach.specs.Attached.{Pair, Usage, Attached, pair_cmp, of_radio}
use Rattle.group_attach.specs.Applied.{changed_by, attached_by, without_radio}
use Rattle.group_attach.specs.Inside.Counted.{group_of, attached_after, attached_to_after, counted}
use Rattle.group_attach.proofs.Pairs.{pairs_total, pairs_exact, pairs_tied, alike}

-- a pair ties with itself
pub same_pair : (p : Pair) → eq_by_cmp pair_cmp p p ≡ true
same_pair p = pairs_tied p p ∙ (λ i. same_test p.0 i && same_test p.1 i)

-- with one radio, pairs tie where the groups are one
pub tied_groups : (itsi a b : ℕ) → eq_by_cmp pair_cmp (itsi, a) (itsi, b) ≡ (a == b)
tied_groups itsi a b = pairs_tied (itsi, a) (itsi, b) ∙ ap (λ t. t && (a == b)) (same_test itsi)

is_some_if : {A : Type 0} (b : Bool) (x y : Option A) → is_some (cond b x y) ≡ cond b (is_some x) (is_some y)
is_some_if true x y = refl
is_some_if false x y = refl

within : {A : Type 0} (a b : Bool) (x y : Option A) → cond a (cond (a && b) x y) None ≡ cond (a && b) x (cond a y None)
within true b x y = refl
within false b x y = refl

neither : {A : Type 0} (b : Bool) (x : Option A) → cond b (cond (not b) x None) None ≡ None
neither true x = refl
neither false x = refl

-- whether a group is attached after an attach of the group g, whose rule is r, and after a leave of it
attach_to : (itsi gtsi g class : ℕ) (m : Attached) (r : Option Rule)
    → cond (gtsi == g) (is_some (finite.get m (itsi, gtsi)) || is_some r) (is_some (finite.get m (itsi, gtsi))) ≡ is_some (finite.get (attached_by m (itsi, g) class r) (itsi, gtsi))
attach_to itsi gtsi g class m None =
    elim (gtsi == g) as (λ b. cond b (is_some (finite.get m (itsi, gtsi)) || false) (is_some (finite.get m (itsi, gtsi))) ≡ is_some (finite.get m (itsi, gtsi))) [ true ↦ or_false _ | false ↦ refl ]
attach_to itsi gtsi g class m (Some rule) =
    (λ i. cond (gtsi == g) (or_true (is_some (finite.get m (itsi, gtsi))) i) (is_some (finite.get m (itsi, gtsi))))
    ∙ sym (ap is_some (finite.get-insert pairs_total m (itsi, g) (class, rule.lifetime) (itsi, gtsi)) ∙ is_some_if (eq_by_cmp pair_cmp (itsi, gtsi) (itsi, g)) _ _
    ∙ ap (λ b. cond b true (is_some (finite.get m (itsi, gtsi)))) (tied_groups itsi gtsi g))

leave_from : (itsi gtsi g : ℕ) (m : Attached) → cond (gtsi == g) false (is_some (finite.get m (itsi, gtsi))) ≡ is_some (finite.get (finite.remove m (itsi, g)) (itsi, gtsi))
leave_from itsi gtsi g m =
    sym (ap is_some (finite.get-remove pairs_total m (itsi, g) (itsi, gtsi)) ∙ is_some_if (eq_by_cmp pair_cmp (itsi, gtsi) (itsi, g)) _ _
    ∙ ap (λ b. cond b false (is_some (finite.get m (itsi, gtsi)))) (tied_groups itsi gtsi g))

pub attached_is : (s : Registered) (itsi gtsi : ℕ) (m : Attached) (item : GroupUp) →
    attached_to_after s itsi gtsi (is_some (finite.get m (itsi, gtsi))) item ≡ is_some (finite.get (changed_by s itsi m item) (itsi, gtsi))
attached_is s itsi gtsi m (up.Attach class address) = attach_to itsi gtsi (gtsi_of address itsi) class m (rule_of s (gtsi_of address itsi))
attached_is s itsi gtsi m (up.Leave reason address) = leave_from itsi gtsi (gtsi_of address itsi) m

-- a radio's part of the attachments after a change of one of its own groups
pub part_inserted : (m : Attached) (itsi g : ℕ) (v : Usage) → of_radio (finite.insert m (itsi, g) v) itsi ≡ finite.insert (of_radio m itsi) (itsi, g) v
part_inserted m itsi g v =
    finite.same_map pairs_total pairs_exact _ _ (λ q.
    finite.get-retain_keys (finite.insert m (itsi, g) v) (λ pair. pair.0 == itsi) q (alike (λ pair. pair.0 == itsi) q)
    ∙ ap (λ o. cond (q.0 == itsi) o None) (finite.get-insert pairs_total m (itsi, g) v q ∙ ap (λ b. cond b (Some v) (finite.get m q)) (pairs_tied q (itsi, g)))
    ∙ within (q.0 == itsi) (q.1 == g) (Some v) (finite.get m q)
    ∙ sym (finite.get-insert pairs_total (of_radio m itsi) (itsi, g) v q
    ∙ (λ i. cond (pairs_tied q (itsi, g) i) (Some v) (finite.get-retain_keys m (λ pair. pair.0 == itsi) q (alike (λ pair. pair.0 == itsi) q) i))))

pub part_removed : (m : Attached) (itsi g : ℕ) → of_radio (finite.remove m (itsi, g)) itsi ≡ finite.remove (of_radio m itsi) (itsi, g)
part_removed m itsi g =
    finite.same_map pairs_total pairs_exact _ _ (λ q.
    finite.get-retain_keys (finite.remove m (itsi, g)) (λ pair. pair.0 == itsi) q (alike (λ pair. pair.0 == itsi) q)
    ∙ ap (λ o. cond (q.0 == itsi) o None) (finite.get-remove pairs_total m (itsi, g) q ∙ ap (λ b. cond b None (finite.get m q)) (pairs_tied q (itsi, g)))
    ∙ within (q.0 == itsi) (q.1 == g) None (finite.get m q)
    ∙ sym (finite.get-remove pairs_total (of_radio m itsi) (itsi, g) q
    ∙ (λ i. cond (pairs_tied q (itsi, g) i) None (finite.get-retain_keys m (λ pair. pair.0 == itsi) q (alike (λ pair. pair.0 == itsi) q) i))))

-- whether a group of the radio is in its part
in_part : (m : Attached) (itsi g : ℕ) → is_some (finite.get (of_radio m itsi) (itsi, g)) ≡ is_some (finite.get m (itsi, g))
in_part m itsi g = ap is_some (finite.get-retain_keys m (λ pair. pair.0 == itsi) (itsi, g) (alike (λ pair. pair.0 == itsi) (itsi, g)) ∙ ap (λ b. cond b (finite.get m (itsi, g)) None) (same_test itsi))

count_same : (n : ℕ) (b : Bool) → n ≡ counted n b (b || false)
count_same n true = refl
count_same n false = refl

count_more : (n : ℕ) (b : Bool) → cond b n (n + 1) ≡ counted n b (b || true)
count_more n true = refl
count_more n false = refl

count_less : (n : ℕ) (b : Bool) → cond b (n - 1) n ≡ counted n b false
count_less n true = refl
count_less n false = refl

count_attach : (itsi g class : ℕ) (m : Attached) (r : Option Rule)
    → finite.len (of_radio (attached_by m (itsi, g) class r) itsi) ≡ counted (finite.len (of_radio m itsi)) (is_some (finite.get m (itsi, g))) (is_some (finite.get m (itsi, g)) || is_some r)
count_attach itsi g class m None = count_same _ (is_some (finite.get m (itsi, g)))
count_attach itsi g class m (Some rule) =
    ap finite.len (part_inserted m itsi g (class, rule.lifetime))
    ∙ finite.len-insert pairs_total (of_radio m itsi) (itsi, g) (class, rule.lifetime)
    ∙ ap (λ b. cond b (finite.len (of_radio m itsi)) (finite.len (of_radio m itsi) + 1)) (in_part m itsi g)
    ∙ count_more _ (is_some (finite.get m (itsi, g)))

count_leave : (itsi g : ℕ) (m : Attached) → finite.len (of_radio (finite.remove m (itsi, g)) itsi) ≡ counted (finite.len (of_radio m itsi)) (is_some (finite.get m (itsi, g))) false
count_leave itsi g m =
    ap finite.len (part_removed m itsi g)
    ∙ finite.len-remove pairs_total (of_radio m itsi) (itsi, g)
    ∙ ap (λ b. cond b (finite.len (of_radio m itsi) - 1) (finite.len (of_radio m itsi))) (in_part m itsi g)
    ∙ count_less _ (is_some (finite.get m (itsi, g)))

-- the count after one item
pub count_is : (s : Registered) (itsi : ℕ) (m : Attached) (item : GroupUp)
    → finite.len (of_radio (changed_by s itsi m item) itsi) ≡ counted (finite.len (of_radio m itsi))
    (is_some (finite.get m (itsi, group_of itsi item))) (attached_after s itsi (is_some (finite.get m (itsi, group_of itsi item))) item)
count_is s itsi m (up.Attach class address) = count_attach itsi (gtsi_of address itsi) class m (rule_of s (gtsi_of address itsi))
count_is s itsi m (up.Leave reason address) = count_leave itsi (gtsi_of address itsi) m

-- a radio that is taken out has no group
pub none_of_radio : (m : Attached) (itsi gtsi : ℕ) → is_some (finite.get (without_radio m itsi) (itsi, gtsi)) ≡ false
none_of_radio m itsi gtsi =
    ap is_some (finite.get-retain_keys m (λ pair. not (pair.0 == itsi)) (itsi, gtsi) (alike (λ pair. not (pair.0 == itsi)) (itsi, gtsi)) ∙
    ap (λ b. cond (not b) (finite.get m (itsi, gtsi)) None) (same_test itsi))

pub none_counted : (m : Attached) (itsi : ℕ) → finite.len (of_radio (without_radio m itsi) itsi) ≡ 0
none_counted m itsi =
    ap finite.len (finite.same_map pairs_total pairs_exact (of_radio (without_radio m itsi) itsi) finite.empty (λ q.
    finite.get-retain_keys (without_radio m itsi) (λ pair. pair.0 == itsi) q (alike (λ pair. pair.0 == itsi) q)
    ∙ ap (λ o. cond (q.0 == itsi) o None) (finite.get-retain_keys m (λ pair. not (pair.0 == itsi)) q (alike (λ pair. not (pair.0 == itsi)) q))
    ∙ neither (q.0 == itsi) (finite.get m q)
    ∙ sym (finite.get-empty pair_cmp q)))
    ∙ finite.len-empty pair_cmp Usage
