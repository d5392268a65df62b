-- The two laws of each part of a command: what is read of it is its text, in its range, and its text is read again.
use Rattle.std.proofs.Common.{◌≡◌, ℕ, zero, suc, ◌^◌, ◌<◌, ◌≤◌, Bool, true, false, cond, leb, ltb, eqb, List, ◌++◌, length, Some, None, refl, sym, ap, subst, ◌∙◌, arith}
use Rattle.std.proofs.lemmas.Bool.{eqb-true, leb-true, ltb-true, le-leb, lt-ltb}
use Rattle.base.proofs.Options.{some_is}
use Rattle.mm_pdus.specs.declared.lifetime.Lifetime.{Lifetime}
use Rattle.mm_pdus.specs.declared.lifetime.Lifetime.TheVariants.{NotNeeded, NextItsiAttach, NotAllowedAtNextItsiAttach, NextLocationUpdate}
use Rattle.mm_pdus.specs.Values.{lifetime_number, lifetime_of}
use Rattle.registration.specs.declared.rule.Rule.{Rule}
use Rattle.mailbox.specs.declared.key.Key.{Key}
use Rattle.mailbox.specs.declared.key.Kind.{Kind}
use Rattle.mailbox.specs.declared.key.Kind.TheVariants.{Message, Report}
use Rattle.mailbox.specs.Values.{KeyInRange}
use Rattle.identity.specs.BitsText.{most_bits}
use Rattle.centre_core.specs.Ranges.{RuleInRange}
use Rattle.identity.specs.Packed.{AreBytes}
use Rattle.command_bytes.specs.Fields.{◌>>=◌, big, left, bytes_for, number_at, left_at}
use Rattle.command_bytes.specs.Text.{prefix_text, rule_text, bits_text, kind_number, key_text}
use Rattle.command_bytes.specs.Reading.{Read, prefix_at, bits_at, area_at, lifetime_at, rule_at, kind_of, key_at}
use Rattle.command_bytes.proofs.Numbers.{number_takes, number_small, number_again}
use Rattle.command_bytes.proofs.Lefts.{left_takes, left_again}
use Rattle.command_bytes.proofs.Steps.{Takes, takes_both, bind_some, some_where, then_again, last_again}

-- ---- a number

pub number_read : (w : ℕ) (bytes : List ℕ) (x : ℕ × List ℕ) → AreBytes bytes → number_at w bytes ≡ Some x → Takes bytes (big w x.0) x.1
number_read w bytes x are e = let text = number_takes w bytes x are e in record { is = text.0; are = text.1 }

-- ---- a prefix

pub prefix_takes : (bytes : List ℕ) (x : List Bool × List ℕ) → AreBytes bytes → prefix_at bytes ≡ Some x → Takes bytes (prefix_text x.0) x.1 × (length x.0 ≤ 48)
unfolding prefix_at
prefix_takes bytes x are e =
    let a = bind_some (number_at 1 bytes) (λ len. cond (leb len.0 48) (left_at 6 len.0 len.1) None) x e in
    let len : ℕ × List ℕ = a.0 in
    let b = some_where (leb len.0 48) (left_at 6 len.0 len.1) x a.2 in
    let few : len.0 ≤ 48 = leb-true _ _ b.0 in
    let first = number_read 1 bytes len are a.1 in
    let bits = left_takes 6 len.0 len.1 x first.are (omega (arith, few)) b.1 in
    let counted : Takes bytes (big 1 (length x.0)) len.1 = subst (λ (n : ℕ). Takes bytes (big 1 n) len.1) (sym bits.1) first in
    (takes_both (big 1 (length x.0)) (left 6 x.0) counted bits.0, omega (arith, bits.1, few))

pub prefix_again : (prefix : List Bool) (rest : List ℕ) → length prefix ≤ 48 → prefix_at (prefix_text prefix ++ rest) ≡ Some (prefix, rest)
unfolding prefix_at
prefix_again prefix rest few =
    then_again (big 1 (length prefix)) (left 6 prefix) rest (number_at 1) (λ len. cond (leb len.0 48) (left_at 6 len.0 len.1) None) (length prefix) (prefix, rest)
    (number_again 1 (length prefix) (left 6 prefix ++ rest) (omega (arith, few)))
    (ap (λ (b : Bool). cond b (left_at 6 (length prefix) (left 6 prefix ++ rest)) None) (le-leb _ _ few) ∙ left_again 6 prefix rest (omega (arith, few)))

-- ---- a string of bits

pub bits_takes : (bytes : List ℕ) (x : List Bool × List ℕ) → AreBytes bytes → bits_at bytes ≡ Some x → Takes bytes (bits_text x.0) x.1 × (length x.0 ≤ most_bits)
unfolding bits_at
bits_takes bytes x are e =
    let a = bind_some (number_at 2 bytes) (λ len. cond (leb len.0 most_bits) (left_at (bytes_for len.0) len.0 len.1) None) x e in
    let len : ℕ × List ℕ = a.0 in
    let b = some_where (leb len.0 most_bits) (left_at (bytes_for len.0) len.0 len.1) x a.2 in
    let few : len.0 ≤ most_bits = leb-true _ _ b.0 in
    let first = number_read 2 bytes len are a.1 in
    let bits = left_takes (bytes_for len.0) len.0 len.1 x first.are (omega arith) b.1 in
    let counted : Takes bytes (big 2 (length x.0)) len.1 = subst (λ (n : ℕ). Takes bytes (big 2 n) len.1) (sym bits.1) first in
    let packed : Takes len.1 (left (bytes_for (length x.0)) x.0) x.1 = subst (λ (n : ℕ). Takes len.1 (left (bytes_for n) x.0) x.1) (sym bits.1) bits.0 in
    (takes_both (big 2 (length x.0)) (left (bytes_for (length x.0)) x.0) counted packed, omega (arith, bits.1, few))

pub bits_again : (bits : List Bool) (rest : List ℕ) → length bits ≤ most_bits → bits_at (bits_text bits ++ rest) ≡ Some (bits, rest)
unfolding bits_at
bits_again bits rest few =
    then_again (big 2 (length bits)) (left (bytes_for (length bits)) bits) rest (number_at 2)
    (λ len. cond (leb len.0 most_bits) (left_at (bytes_for len.0) len.0 len.1) None) (length bits) (bits, rest)
    (number_again 2 (length bits) (left (bytes_for (length bits)) bits ++ rest) (omega (arith, few)))
    (ap (λ (b : Bool). cond b (left_at (bytes_for (length bits)) (length bits) (left (bytes_for (length bits)) bits ++ rest)) None) (le-leb _ _ few) ∙
    left_again (bytes_for (length bits)) bits rest (omega arith))

-- ---- an area

pub area_takes : (bytes : List ℕ) (x : ℕ × List ℕ) → AreBytes bytes → area_at bytes ≡ Some x → Takes bytes (big 2 x.0) x.1 × (x.0 < 2 ^ 14)
unfolding area_at
area_takes bytes x are e =
    let a = bind_some (number_at 2 bytes) (λ area. cond (ltb area.0 (2 ^ 14)) (Some area) None) x e in
    let area : ℕ × List ℕ = a.0 in
    let b = some_where (ltb area.0 (2 ^ 14)) (Some area) x a.2 in
    let is : area ≡ x = some_is area x b.1 in
    subst (λ (y : ℕ × List ℕ). Takes bytes (big 2 y.0) y.1 × (y.0 < 2 ^ 14)) is (number_read 2 bytes area are a.1, ltb-true _ _ b.0)

pub area_again : (area : ℕ) (rest : List ℕ) → area < 2 ^ 14 → area_at (big 2 area ++ rest) ≡ Some (area, rest)
unfolding area_at
area_again area rest small =
    last_again (λ area. cond (ltb area.0 (2 ^ 14)) (Some area) None) (number_again 2 area rest (omega (arith, small))) (ap (λ (b : Bool). cond b (Some (area, rest)) None) (lt-ltb _ _ small))

-- ---- a lifetime

pub lifetime_is : (n : ℕ) (lifetime : Lifetime) → lifetime_of n ≡ Some lifetime → lifetime_number lifetime ≡ n
lifetime_is zero lifetime e = sym (ap lifetime_number (some_is NotNeeded lifetime e)) ∙ refl
lifetime_is (suc zero) lifetime e = sym (ap lifetime_number (some_is NextItsiAttach lifetime e))
lifetime_is (suc (suc zero)) lifetime e = sym (ap lifetime_number (some_is NotAllowedAtNextItsiAttach lifetime e))
lifetime_is (suc (suc (suc zero))) lifetime e = sym (ap lifetime_number (some_is NextLocationUpdate lifetime e))
lifetime_is (suc (suc (suc (suc n)))) lifetime e = absurd cc

pub lifetime_back : (lifetime : Lifetime) → (lifetime_of (lifetime_number lifetime) ≡ Some lifetime) × (lifetime_number lifetime < 256 ^ 1)
lifetime_back NotNeeded = (refl, omega arith)
lifetime_back NextItsiAttach = (refl, omega arith)
lifetime_back NotAllowedAtNextItsiAttach = (refl, omega arith)
lifetime_back NextLocationUpdate = (refl, omega arith)

pub lifetime_takes : (bytes : List ℕ) (x : Lifetime × List ℕ) → AreBytes bytes → lifetime_at bytes ≡ Some x → Takes bytes (big 1 (lifetime_number x.0)) x.1
unfolding lifetime_at
lifetime_takes bytes x are e =
    let a = bind_some (number_at 1 bytes) (λ number. lifetime_of number.0 >>= λ lifetime. Some (lifetime, number.1)) x e in
    let number : ℕ × List ℕ = a.0 in
    let b = bind_some (lifetime_of number.0) (λ lifetime. Some (lifetime, number.1)) x a.2 in
    let is : (b.0, number.1) ≡ x = some_is (b.0, number.1) x b.2 in
    subst (λ (y : Lifetime × List ℕ). Takes bytes (big 1 (lifetime_number y.0)) y.1) is
    (subst (λ (n : ℕ). Takes bytes (big 1 n) number.1) (sym (lifetime_is number.0 b.0 b.1)) (number_read 1 bytes number are a.1))

pub lifetime_again : (lifetime : Lifetime) (rest : List ℕ) → lifetime_at (big 1 (lifetime_number lifetime) ++ rest) ≡ Some (lifetime, rest)
unfolding lifetime_at
lifetime_again lifetime rest =
    let back = lifetime_back lifetime in
    last_again (λ number. lifetime_of number.0 >>= λ lifetime. Some (lifetime, number.1)) (number_again 1 (lifetime_number lifetime) rest back.1)
    (last_again (λ lifetime. Some (lifetime, rest)) back.0 refl)

-- ---- a rule

keep_step : ℕ → ℕ → Lifetime → ℕ × List ℕ → Read Rule
keep_step low high lifetime keep = cond (leb low high) (Some (record { low = low; high = high; lifetime = lifetime; keep = keep.0 }, keep.1)) None

lifetime_step : ℕ → ℕ → Lifetime × List ℕ → Read Rule
lifetime_step low high lifetime = number_at 4 lifetime.1 >>= keep_step low high lifetime.0

high_step : ℕ → ℕ × List ℕ → Read Rule
high_step low high = lifetime_at high.1 >>= lifetime_step low high.0

low_step : ℕ × List ℕ → Read Rule
low_step low = area_at low.1 >>= high_step low.0

pub rule_takes : (bytes : List ℕ) (x : Rule × List ℕ) → AreBytes bytes → rule_at bytes ≡ Some x → Takes bytes (rule_text x.0) x.1 × RuleInRange x.0
unfolding rule_at low_step high_step lifetime_step keep_step big
rule_takes bytes x are e =
    let a = bind_some (area_at bytes) low_step x e in
    let low : ℕ × List ℕ = a.0 in
    let first = area_takes bytes low are a.1 in
    let b = bind_some (area_at low.1) (high_step low.0) x a.2 in
    let high : ℕ × List ℕ = b.0 in
    let second = area_takes low.1 high first.0.are b.1 in
    let c = bind_some (lifetime_at high.1) (lifetime_step low.0 high.0) x b.2 in
    let lifetime : Lifetime × List ℕ = c.0 in
    let third = lifetime_takes high.1 lifetime second.0.are c.1 in
    let d = bind_some (number_at 4 lifetime.1) (keep_step low.0 high.0 lifetime.0) x c.2 in
    let keep : ℕ × List ℕ = d.0 in
    let fourth = number_read 4 lifetime.1 keep third.are d.1 in
    let small = number_small 4 lifetime.1 keep third.are d.1 in
    let f = some_where (leb low.0 high.0) (Some (record { low = low.0; high = high.0; lifetime = lifetime.0; keep = keep.0 }, keep.1)) x d.2 in
    subst (λ (y : Rule × List ℕ). Takes bytes (rule_text y.0) y.1 × RuleInRange y.0) (some_is (record { low = low.0; high = high.0; lifetime = lifetime.0; keep = keep.0 }, keep.1) x f.1) (
      takes_both (big 2 low.0) (big 2 high.0 ++ big 1 (lifetime_number lifetime.0) ++ big 4 keep.0) first.0
          (takes_both (big 2 high.0) (big 1 (lifetime_number lifetime.0) ++ big 4 keep.0) second.0
          (takes_both (big 1 (lifetime_number lifetime.0)) (big 4 keep.0) third fourth)),
      (leb-true _ _ f.0, second.1, small),
    )

pub rule_again : (rule : Rule) (rest : List ℕ) → RuleInRange rule → rule_at (rule_text rule ++ rest) ≡ Some (rule, rest)
unfolding rule_at low_step high_step lifetime_step keep_step big
rule_again rule rest fits =
    let t3 = big 4 rule.keep in
    let t2 = big 1 (lifetime_number rule.lifetime) ++ t3 in
    let t1 = big 2 rule.high ++ t2 in
    then_again (big 2 rule.low) t1 rest area_at low_step rule.low (rule, rest) (area_again rule.low (t1 ++ rest) (omega (arith, fits.0, fits.1)))
    (then_again (big 2 rule.high) t2 rest area_at (high_step rule.low) rule.high (rule, rest) (area_again rule.high (t2 ++ rest) fits.1)
    (then_again (big 1 (lifetime_number rule.lifetime)) t3 rest lifetime_at (lifetime_step rule.low rule.high) rule.lifetime (rule, rest) (lifetime_again rule.lifetime (t3 ++ rest))
    (last_again (keep_step rule.low rule.high rule.lifetime) (number_again 4 rule.keep rest fits.2)
    (ap (λ (b : Bool). cond b (Some (rule, rest)) None) (le-leb _ _ fits.0)))))

-- ---- a key

kind_is : (n : ℕ) (kind : Kind) → kind_of n ≡ Some kind → kind_number kind ≡ n
kind_is n kind e = by (eqb n 0) (eqb n 1) refl refl e
  where
    by : (a b : Bool) → eqb n 0 ≡ a → eqb n 1 ≡ b → cond a (Some Message) (cond b (Some Report) None) ≡ Some kind → kind_number kind ≡ n
    by true b x y e = sym (ap kind_number (some_is Message kind e)) ∙ sym (eqb-true n 0 x)
    by false true x y e = sym (ap kind_number (some_is Report kind e)) ∙ sym (eqb-true n 1 y)
    by false false x y e = absurd cc

kind_back : (kind : Kind) → (kind_of (kind_number kind) ≡ Some kind) × (kind_number kind < 256 ^ 1)
kind_back Message = (refl, omega arith)
kind_back Report = (refl, omega arith)

kind_step : ℕ → ℕ → ℕ → List ℕ → Kind → Read Key
kind_step destination source reference rest kind = Some (record { destination = destination; source = source; reference = reference; kind = kind }, rest)

number_step : ℕ → ℕ → ℕ → ℕ × List ℕ → Read Key
number_step destination source reference number = kind_of number.0 >>= kind_step destination source reference number.1

reference_step : ℕ → ℕ → ℕ × List ℕ → Read Key
reference_step destination source reference = number_at 1 reference.1 >>= number_step destination source reference.0

source_step : ℕ → ℕ × List ℕ → Read Key
source_step destination source = number_at 1 source.1 >>= reference_step destination source.0

destination_step : ℕ × List ℕ → Read Key
destination_step destination = number_at 6 destination.1 >>= source_step destination.0

pub key_takes : (bytes : List ℕ) (x : Key × List ℕ) → AreBytes bytes → key_at bytes ≡ Some x → Takes bytes (key_text x.0) x.1 × KeyInRange x.0
unfolding key_at destination_step source_step reference_step number_step kind_step big
key_takes bytes x are e =
    let a = bind_some (number_at 6 bytes) destination_step x e in
    let destination : ℕ × List ℕ = a.0 in
    let first = number_read 6 bytes destination are a.1 in
    let b = bind_some (number_at 6 destination.1) (source_step destination.0) x a.2 in
    let source : ℕ × List ℕ = b.0 in
    let second = number_read 6 destination.1 source first.are b.1 in
    let c = bind_some (number_at 1 source.1) (reference_step destination.0 source.0) x b.2 in
    let reference : ℕ × List ℕ = c.0 in
    let third = number_read 1 source.1 reference second.are c.1 in
    let d = bind_some (number_at 1 reference.1) (number_step destination.0 source.0 reference.0) x c.2 in
    let number : ℕ × List ℕ = d.0 in
    let fourth = number_read 1 reference.1 number third.are d.1 in
    let f = bind_some (kind_of number.0) (kind_step destination.0 source.0 reference.0 number.1) x d.2 in
    let kind : Kind = f.0 in
    let named : Takes reference.1 (big 1 (kind_number kind)) number.1 = subst (λ (n : ℕ). Takes reference.1 (big 1 n) number.1) (sym (kind_is number.0 kind f.1)) fourth in
    subst (λ (y : Key × List ℕ). Takes bytes (key_text y.0) y.1 × KeyInRange y.0)
    (some_is (record { destination = destination.0; source = source.0; reference = reference.0; kind = kind }, number.1) x f.2) (
      takes_both (big 6 destination.0) (big 6 source.0 ++ big 1 reference.0 ++ big 1 (kind_number kind)) first
          (takes_both (big 6 source.0) (big 1 reference.0 ++ big 1 (kind_number kind)) second
          (takes_both (big 1 reference.0) (big 1 (kind_number kind)) third named)),
      (number_small 6 bytes destination are a.1, number_small 6 destination.1 source first.are b.1, number_small 1 source.1 reference second.are c.1),
    )

pub key_again : (key : Key) (rest : List ℕ) → KeyInRange key → key_at (key_text key ++ rest) ≡ Some (key, rest)
unfolding key_at destination_step source_step reference_step number_step kind_step big
key_again key rest fits =
    let kind = kind_back key.kind in
    let t3 = big 1 (kind_number key.kind) in
    let t2 = big 1 key.reference ++ t3 in
    let t1 = big 6 key.source ++ t2 in
    then_again (big 6 key.destination) t1 rest (number_at 6) destination_step key.destination (key, rest) (number_again 6 key.destination (t1 ++ rest) fits.0)
    (then_again (big 6 key.source) t2 rest (number_at 6) (source_step key.destination) key.source (key, rest) (number_again 6 key.source (t2 ++ rest) fits.1)
    (then_again (big 1 key.reference) t3 rest (number_at 1) (reference_step key.destination key.source) key.reference (key, rest) (number_again 1 key.reference (t3 ++ rest) fits.2)
    (last_again (number_step key.destination key.source key.reference) (number_again 1 (kind_number key.kind) rest kind.1)
    (last_again (kind_step key.destination key.source key.reference rest) kind.0 refl))))
