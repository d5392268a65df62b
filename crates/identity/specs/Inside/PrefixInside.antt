-- A prefix's fields from its bits.
use Rattle.std.proofs.Common.{◌≡◌, ◌^◌, ◌<◌, ◌≤◌, ◌∙◌, sym, ap, length}
use Rattle.identity.specs.Number.{num, number}
use Rattle.identity.specs.Inside.NumberLaws.{length-num, number-num}
use Rattle.identity.specs.Path.{Path}
use Rattle.identity.specs.declared.prefix.Prefix.TheInside.{Inside}

pub inverse_of_num : (p : Inside) → (p.len ≤ 48) × (p.bits < 2 ^ p.len) → record { bits = number (num p.len p.bits); len = length (num p.len p.bits) } ≡ p
inverse_of_num p fits =
    let bits_back : number (num p.len p.bits) ≡ p.bits = number-num p.len p.bits fits.1 in
    let len_back : length (num p.len p.bits) ≡ p.len = length-num p.len p.bits in
    λ i. record { bits = bits_back i; len = len_back i }

-- two prefixes with the same bits are one
pub same_fields : (p q : Inside) → (p.bits < 2 ^ p.len) → (q.bits < 2 ^ q.len) → num p.len p.bits ≡ num q.len q.bits → (p.len ≡ q.len) × (p.bits ≡ q.bits)
same_fields p q low high e =
    let lens : p.len ≡ q.len = sym (length-num p.len p.bits) ∙ ap length e ∙ length-num q.len q.bits in
    let left : number (num p.len p.bits) ≡ p.bits = number-num p.len p.bits low in
    let right : number (num q.len q.bits) ≡ q.bits = number-num q.len q.bits high in
    (lens, sym left ∙ ap number e ∙ right)

-- a test of the fields decides whether the bits are the same
pub same_if : (p q : Inside) (x y : Path) → num p.len p.bits ≡ x → num q.len q.bits ≡ y → p.len ≡ q.len → p.bits ≡ q.bits → x ≡ y
same_if p q x y left right lens bits = sym left ∙ (λ i. num (lens i) (bits i)) ∙ right

pub same_then : (p q : Inside) (x y : Path) → p.bits < 2 ^ p.len → q.bits < 2 ^ q.len
    → num p.len p.bits ≡ x → num q.len q.bits ≡ y → x ≡ y → (p.len ≡ q.len) × (p.bits ≡ q.bits)
same_then p q x y low high left right e = same_fields p q low high (left ∙ e ∙ sym right)
