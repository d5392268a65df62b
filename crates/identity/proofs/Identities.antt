-- Identities as numbers and as bits, and the order of their prefixes.
use Rattle.std.proofs.Common.{◌≡◌, ℕ, ◌+◌, ◌*◌, ◌/◌, ◌%◌, ◌^◌, ◌<◌, Bool, true, false, List, [], ◌∷◌, ◌++◌, length, take, refl, sym, ap, ◌∙◌, arith}
use Rattle.std.proofs.lemmas.List.{length-take}
use Rattle.std.specs.declared.cmp.Ordering.TheVariants.{Less}
use Rattle.identity.specs.Number.{num}
use Rattle.identity.specs.Inside.NumberLaws.{num-append, num-mod}
use Rattle.identity.specs.Path.{Path, path_cmp, id_path, begins}
use Rattle.identity.specs.Inside.PathLaws.{begins_if}
use Rattle.identity.specs.Identity.{identity_number, AreFields, mcc_of, mnc_of, ssi_of}

pub fields_of_number : (mcc mnc ssi : ℕ) → AreFields mcc mnc ssi → (mcc_of (identity_number mcc mnc ssi) ≡ mcc) ×
    (mnc_of (identity_number mcc mnc ssi) ≡ mnc) × (ssi_of (identity_number mcc mnc ssi) ≡ ssi)
fields_of_number mcc mnc ssi are = let a = are.0 in let b = are.1 in let c = are.2 in (omega arith, omega arith, omega arith)

pub number_of_fields : (n : ℕ) → n < 2 ^ 48 → AreFields (mcc_of n) (mnc_of n) (ssi_of n) × (identity_number (mcc_of n) (mnc_of n) (ssi_of n) ≡ n)
number_of_fields n small = ((omega arith, omega arith, omega arith), omega arith)

-- the bits of the three numbers, one after the other
pub bits_of_fields : (mcc mnc ssi : ℕ) → AreFields mcc mnc ssi → id_path (identity_number mcc mnc ssi) ≡ num 10 mcc ++ num 14 mnc ++ num 24 ssi
unfolding id_path
bits_of_fields mcc mnc ssi are =
    let n = identity_number mcc mnc ssi in
    let a = are.0 in let b = are.1 in let c = are.2 in
    let codes : n / 2 ^ 24 ≡ mcc * 2 ^ 14 + mnc = omega arith in
    let country : (mcc * 2 ^ 14 + mnc) / 2 ^ 14 ≡ mcc = omega arith in
    let network : (mcc * 2 ^ 14 + mnc) % 2 ^ 14 ≡ mnc = omega arith in
    let subscriber : n % 2 ^ 24 ≡ ssi = omega arith in
    let prefix : num 24 (n / 2 ^ 24) ≡ num 10 mcc ++ num 14 mnc =
    ap (num 24) codes
    ∙ num-append 10 14 (mcc * 2 ^ 14 + mnc)
    ∙ (λ i. num 10 (country i) ++ num 14 (mcc * 2 ^ 14 + mnc))
    ∙ ap (λ (l : List Bool). num 10 mcc ++ l) (sym (num-mod 14 (mcc * 2 ^ 14 + mnc)) ∙ ap (num 14) network) in
    let back : num 24 n ≡ num 24 ssi = sym (num-mod 24 n) ∙ ap (num 24) subscriber in
    num-append 24 24 n ∙ (λ i. prefix i ++ back i)

-- ---- the order

pub before_extension : (p : Path) (b : Bool) (rest : Path) → path_cmp p (p ++ b ∷ rest) ≡ Less
before_extension [] b rest = refl
before_extension (true ∷ p) b rest = before_extension p b rest
before_extension (false ∷ p) b rest = before_extension p b rest

pub zero_before_one : (p left right : Path) → path_cmp (p ++ false ∷ left) (p ++ true ∷ right) ≡ Less
zero_before_one [] left right = refl
zero_before_one (true ∷ p) left right = zero_before_one p left right
zero_before_one (false ∷ p) left right = zero_before_one p left right

-- ---- what a prefix begins

pub begins_prefix : (p q : Path) → p ≡ take (length p) q → begins p q ≡ true
begins_prefix p q e = begins_if p q (omega (arith, ap length e, length-take (length p) q)) e
