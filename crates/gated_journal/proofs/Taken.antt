-- Commands as bytes that are read in a record: the record is their text, with zeros after it.
use Rattle.std.proofs.Common.{◌≡◌, ℕ, ◌*◌, ◌≤◌, Bool, true, false, cond, eqb, leb, List, [], ◌∷◌, ◌++◌, length, take, drop, replicate, Option, Some}
use Rattle.std.proofs.Common.{None, refl, sym, ap, subst, ◌∙◌, append_assoc, arith}
use Rattle.std.specs.Prelude.{◌&&◌}
use Rattle.std.specs.List.{list_all}
use Rattle.std.proofs.lemmas.Bool.{leb-true, eqb-true}
use Rattle.std.proofs.lemmas.List.{take-append-drop, length-take}
use Rattle.base.proofs.Bools.{both_true}
use Rattle.base.proofs.Options.{some_where}
use Rattle.identity.specs.Packed.{AreBytes}
use Rattle.command_bytes.specs.Fields.{◌>>=◌, big, number_at}
use Rattle.command_bytes.specs.Text.{longest}
use Rattle.gated_journal.specs.Record.{Packed, first_at, first_text, is_in_range, is_zero, most_commands, packed_of, packed_text}
use Rattle.gated_journal.specs.declared.form.Form.{Form}
use Rattle.gated_journal.specs.declared.form.Form.TheVariants.{Numbered, Plain}
use Rattle.command_bytes.proofs.Numbers.{bytes-take, number_small, number_takes}
use Rattle.gated_journal.proofs.Packed.{IsFirst, IsPacked}

pub bind_some : {A B : Type 0} (r : Option A) (f : A → Option B) (y : B) → (r >>= f) ≡ Some y → (x : A) × (r ≡ Some x) × (f x ≡ Some y)
bind_some (Some x) f y e = (x, refl, e)
bind_some None f y e = absurd cc

three : (a b c : Bool) → (a && b && c) ≡ true → (a ≡ true) × (b ≡ true) × (c ≡ true)
three true true true e = (refl, refl, refl)
three false b c e = absurd cc
three true false c e = absurd cc
three true true false e = absurd cc

all_zeros : (bytes : List ℕ) → list_all is_zero bytes ≡ true → bytes ≡ replicate (length bytes) 0
all_zeros [] e = refl
all_zeros (b ∷ bytes) e =
    let parts = both_true (eqb b 0) (list_all is_zero bytes) e in
    let first : b ≡ 0 = eqb-true _ _ parts.0 in
    let rest = all_zeros bytes parts.1 in
    rw (first) (ap (λ (l : List ℕ). 0 ∷ l) rest)

-- the number's bytes
first_taken : (form : Form) (bytes : List ℕ) (x : Option ℕ × List ℕ) → AreBytes bytes → first_at form bytes ≡ Some x → IsFirst form x.0 × (bytes ≡ first_text x.0 ++ x.1) × AreBytes x.1
unfolding first_at
first_taken Plain bytes x are e = let same : (let y : Option ℕ × List ℕ = (None, bytes) in y) ≡ x = cc in
    subst (λ (y : Option ℕ × List ℕ). IsFirst Plain y.0 × (bytes ≡ first_text y.0 ++ y.1) × AreBytes y.1) same (refl, refl, are)
first_taken Numbered bytes x are e =
    let a = bind_some (number_at 8 bytes) (λ (number : ℕ × List ℕ). Some (Some number.0, number.1)) x e in
    let n : ℕ × List ℕ = a.0 in
    let one = number_takes 8 bytes n are a.1 in
    let same : (let y : Option ℕ × List ℕ = (Some n.0, n.1) in y) ≡ x = cc in
    subst (λ (y : Option ℕ × List ℕ). IsFirst Numbered y.0 × (bytes ≡ first_text y.0 ++ y.1) × AreBytes y.1) same ((n.0, refl, number_small 8 bytes n are a.1), one.0, one.1)

-- what a record's bytes are
pub record IsUnpacked (form : Form) (bytes : List ℕ) (commands : Packed) : Type 0 where
  pub fit : IsPacked commands
  pub first : IsFirst form commands.first
  pub spelt : (z : ℕ) × (bytes ≡ packed_text commands ++ replicate z 0)
  pub are_bytes : AreBytes commands.bytes

judged : ℕ → Option ℕ → ℕ × List ℕ → Option Packed
judged count first size = cond (is_in_range count size.0 && leb size.0 (length size.1) && list_all is_zero (drop size.0 size.1))
    (Some (record { count = count; first = first; bytes = take size.0 size.1 })) None

pub packed_taken : (form : Form) (bytes : List ℕ) (commands : Packed) → AreBytes bytes → packed_of form bytes ≡ Some commands → IsUnpacked form bytes commands
unfolding packed_of packed_text judged
packed_taken form bytes commands is e =
    let a = bind_some (number_at 2 bytes) (λ (count : ℕ × List ℕ). first_at form count.1 >>= λ (first : Option ℕ × List ℕ). number_at 4 first.1 >>= judged count.0 first.0) commands e in
    let count : ℕ × List ℕ = a.0 in
    let f = bind_some (first_at form count.1) (λ (first : Option ℕ × List ℕ). number_at 4 first.1 >>= judged count.0 first.0) commands a.2 in
    let first : Option ℕ × List ℕ = f.0 in
    let b = bind_some (number_at 4 first.1) (judged count.0 first.0) commands f.2 in
    let size : ℕ × List ℕ = b.0 in
    let one = number_takes 2 bytes count is a.1 in
    let stated = first_taken form count.1 first one.1 f.1 in
    let second = number_takes 4 first.1 size stated.2 b.1 in
    let last = some_where (is_in_range count.0 size.0 && leb size.0 (length size.1) && list_all is_zero (drop size.0 size.1))
    (record { count = count.0; first = first.0; bytes = take size.0 size.1 }) commands b.2 in
    let good = three (is_in_range count.0 size.0) (leb size.0 (length size.1)) (list_all is_zero (drop size.0 size.1)) last.0 in
    let range = three (leb 1 count.0) (leb count.0 most_commands) (leb size.0 (longest * count.0)) good.0 in
    let within : size.0 ≤ length size.1 = leb-true _ _ good.1 in
    let long : length (take size.0 size.1) ≡ size.0 = omega (arith, length-take size.0 size.1, within) in
    let zeros = all_zeros (drop size.0 size.1) good.2 in
    subst (λ (c : Packed). IsUnpacked form bytes c) last.1 (record {
      fit = record { some = leb-true _ _ range.0; few = leb-true _ _ range.1; short = rw long (leb-true _ _ range.2) };
      first = stated.0;
      spelt = (length (drop size.0 size.1), rw long (whole count first size one.0 stated.1 second.0 zeros));
      are_bytes = bytes-take size.0 size.1 second.1;
    })
  where
    whole : (count : ℕ × List ℕ) (first : Option ℕ × List ℕ) (size : ℕ × List ℕ) → bytes ≡ big 2 count.0 ++ count.1 →
        count.1 ≡ first_text first.0 ++ first.1 → first.1 ≡ big 4 size.0 ++ size.1 → drop size.0 size.1 ≡ replicate (length (drop size.0 size.1)) 0
        → bytes ≡ (big 2 count.0 ++ (first_text first.0 ++ (big 4 size.0 ++ take size.0 size.1))) ++ replicate (length (drop size.0 size.1)) 0
    whole count first size one stated second zeros =
        let rest : size.1 ≡ take size.0 size.1 ++ replicate (length (drop size.0 size.1)) 0 = sym (take-append-drop size.0 size.1) ∙ ap (λ (l : List ℕ). take size.0 size.1 ++ l) zeros in
        let zs : List ℕ = replicate (length (drop size.0 size.1)) 0 in
        let body : List ℕ = take size.0 size.1 in
        let grouped : big 2 count.0 ++ (first_text first.0 ++ (big 4 size.0 ++ (body ++ zs))) ≡ (big 2 count.0 ++ (first_text first.0 ++ (big 4 size.0 ++ body))) ++ zs = simp append_assoc in
        one ∙ ap (λ (l : List ℕ). big 2 count.0 ++ l) (stated ∙ ap (λ (l : List ℕ). first_text first.0 ++ l) (second ∙ ap (λ (l : List ℕ). big 4 size.0 ++ l) rest)) ∙ grouped

-- it has no more commands than a record may have
pub packed_few : (form : Form) (bytes : List ℕ) (commands : Packed) → packed_of form bytes ≡ Some commands → commands.count ≤ most_commands
unfolding packed_of judged
packed_few form bytes commands e =
    let a = bind_some (number_at 2 bytes) (λ (count : ℕ × List ℕ). first_at form count.1 >>= λ (first : Option ℕ × List ℕ). number_at 4 first.1 >>= judged count.0 first.0) commands e in
    let count : ℕ × List ℕ = a.0 in
    let f = bind_some (first_at form count.1) (λ (first : Option ℕ × List ℕ). number_at 4 first.1 >>= judged count.0 first.0) commands a.2 in
    let first : Option ℕ × List ℕ = f.0 in
    let b = bind_some (number_at 4 first.1) (judged count.0 first.0) commands f.2 in
    let size : ℕ × List ℕ = b.0 in
    let last = some_where (is_in_range count.0 size.0 && leb size.0 (length size.1) && list_all is_zero (drop size.0 size.1))
    (record { count = count.0; first = first.0; bytes = take size.0 size.1 }) commands b.2 in
    let good = three (is_in_range count.0 size.0) (leb size.0 (length size.1)) (list_all is_zero (drop size.0 size.1)) last.0 in
    let range = three (leb 1 count.0) (leb count.0 most_commands) (leb size.0 (longest * count.0)) good.0 in
    subst (λ (c : Packed). c.count ≤ most_commands) last.1 (leb-true count.0 most_commands range.1)
