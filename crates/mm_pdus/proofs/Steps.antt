-- Steps of reading.
use Rattle.std.proofs.Common.{◌≡◌, suc, Bool, true, false, cond, List, [], ◌∷◌, ◌++◌, length, Result, Ok, Err, refl, sym, ap, ◌∙◌, arith, eqb, append_assoc, ◌⊎◌, inl, inr}
use Rattle.std.specs.Prelude.{◌==◌}
use Rattle.std.proofs.lemmas.Bool.{le-ltb, eqb-true, ne_eqb}
use Rattle.std.proofs.lemmas.List.{nil_from_length}
use Rattle.identity.specs.Number.{number}
use Rattle.mm_pdus.specs.declared.fault.MmFault.{MmFault}
use Rattle.mm_pdus.specs.declared.fault.MmFault.TheVariants.{Trailing}
use Rattle.mm_pdus.specs.Reading.{◌>>=◌, bit_at, field_at, whole}

pub bit_from_field : (bits : List Bool) → bit_at bits ≡ (field_at 1 bits >>= λ v. Ok (v.0 == 1, v.1))
unfolding number
bit_from_field [] = refl
bit_from_field (true ∷ bits) = rw (le-ltb (suc (length bits)) 1 (omega arith)) refl
bit_from_field (false ∷ bits) = rw (le-ltb (suc (length bits)) 1 (omega arith)) refl

-- the value of a step that did not fail
pub bind_ok : {A B : Type 0} (r : Result A MmFault) (f : A → Result B MmFault) (y : B) → (r >>= f) ≡ Ok y → (x : A) × (r ≡ Ok x) × (f x ≡ Ok y)
bind_ok (Ok x) f y e = (x, refl, e)
bind_ok (Err d) f y e = absurd cc

-- a test that did not fail
pub guard_ok : {A : Type 0} (b : Bool) (d : MmFault) (x y : A) → cond b (Err d) (Ok x) ≡ Ok y → (b ≡ false) × (x ≡ y)
guard_ok true d x y e = absurd cc
guard_ok false d x y e = (refl, cc)

pub guard_ended : {A : Type 0} (b : Bool) (d : MmFault) (x y : A) → cond b (Ok x) (Err d) ≡ Ok y → (b ≡ true) × (x ≡ y)
guard_ended true d x y e = (refl, cc)
guard_ended false d x y e = absurd cc

abbrev done : {A : Type 0} → A → Result A MmFault
done x = Ok x

pub ok_is : {A : Type 0} (x y : A) → done x ≡ done y → x ≡ y
ok_is x y e = cc

abbrev failed : (A : Type 0) → MmFault → Result A MmFault
failed A d = Err d

pub err_same : {A : Type 0} {B : Type 0} (d f : MmFault) → failed A d ≡ failed A f → failed B d ≡ failed B f
err_same d f e = cc

pub ok_rest : {A : Type 0} (a : A) (rest : List Bool) (x : A × List Bool) → done (a, rest) ≡ done x → rest ≡ x.1
ok_rest {A} a rest x e = ap (λ (p : A × List Bool). p.1) (ok_is (a, rest) x e)

-- an if that gave an answer
pub chosen : {A : Type 0} (b : Bool) (x y z : A) → cond b x y ≡ z → ((b ≡ true) × (x ≡ z)) ⊎ ((b ≡ false) × (y ≡ z))
chosen true x y z e = inl (refl, e)
chosen false x y z e = inr (refl, e)

-- two parts, one after the other
pub join : (a x b y c : List Bool) → a ≡ x ++ b → b ≡ y ++ c → a ≡ (x ++ y) ++ c
join a x b y c p q = p ∙ ap (λ (t : List Bool). x ++ t) q ∙ sym (append_assoc x y c)

pub err_ok : {A : Type 0} (d : MmFault) (x : A) → failed A d ≡ Ok x → ⊥
err_ok d x e = cc

-- a PDU that took all of the bits
pub whole_takes : {A : Type 0} (r : Result (A × List Bool) MmFault) (x : A) → whole r ≡ Ok x → r ≡ Ok (x, [])
whole_takes {A} (Ok (y, rest)) x e =
    let g = guard_ended (eqb (length rest) 0) Trailing y x e in
    ap (λ (b : List Bool). Ok (y, b)) (nil_from_length rest (eqb-true _ _ g.0)) ∙ ap (λ (z : A). Ok (z, [])) g.1
whole_takes (Err d) x e = absurd cc

-- bits are left after a PDU
pub whole_after : {A : Type 0} (x : A) (b : Bool) (rest : List Bool) → whole (Ok (x, b ∷ rest)) ≡ Err Trailing
whole_after x b rest = rw (ne_eqb (suc (length rest)) 0 (λ e. absurd (omega (arith, e)))) refl
