-- A part of a PDU that is cut off: it is read as before, or bits are missing.
use Rattle.std.proofs.Common.{◌≡◌, ℕ, zero, suc, ◌≤◌, Bool, true, false, cond, List, [], ◌∷◌, ◌++◌, length, take, drop, Option, Some, None, Result}
use Rattle.std.proofs.Common.{Ok, Err, refl, sym, ap, subst, ◌∙◌, arith, ltb, length-append, append_assoc, ◌⊎◌, inl, inr}
use Rattle.identity.specs.Number.{number, num}
use Rattle.mm_pdus.specs.declared.fault.MmFault.{MmFault}
use Rattle.mm_pdus.specs.declared.fault.MmFault.TheVariants.{Short}
use Rattle.mm_pdus.specs.Syntax.{Element}
use Rattle.mm_pdus.specs.Reading.{◌>>=◌, bit_at, clear_at, field_at, piece_at, optional_at, optionals_at, element_at, elements_at, ignore, extension_at, whole}
use Rattle.mm_pdus.proofs.Steps.{bind_ok, ok_is}
use Rattle.mm_pdus.proofs.ElementSteps.{element_shorter}
use Rattle.mm_pdus.proofs.FieldLaws.{field_takes, field_again, piece_takes, piece_again}

-- of what was read of all bits, on the first of them: bits are missing, or it is the same before what is left
abbrev pub Cut : {X : Type 0} → (X → X) → Result X MmFault → X → Type 0
Cut {X} following r x = (r ≡ Err Short) ⊎ ((y : X) × (r ≡ Ok y) × (x ≡ following y))

pub cut_bind : {X Y : Type 0} (ex : X → X) (ey : Y → Y) (r s : Result X MmFault) (f g : X → Result Y MmFault) (z : Y)
    → ((x : X) → s ≡ Ok x → Cut ex r x) → ((y : X) → r ≡ Ok y → g (ex y) ≡ Ok z → Cut ey (f y) z) → (s >>= g) ≡ Ok z → Cut ey (r >>= f) z
cut_bind {X} {Y} ex ey r s f g z first second h =
    let a = bind_ok s g z h in
    elim (first a.0 a.1) [
      | inl short ↦ inl (ap (λ (q : Result X MmFault). q >>= f) short)
      | inr found ↦ subst (λ (q : Result Y MmFault). Cut ey q z) (sym (ap (λ (q : Result X MmFault). q >>= f) found.1)) (second found.0 found.1 (ap g (sym found.2) ∙ a.2))
    ]

-- a step that reads no bits
pub same_bind : {X Y : Type 0} (ey : Y → Y) (r : Result X MmFault) (f g : X → Result Y MmFault) (z : Y) → ((y : X) → r ≡ Ok y → g y ≡ Ok z → Cut ey (f y) z) → (r >>= g) ≡ Ok z → Cut ey (r >>= f) z
same_bind ey r f g z = cut_bind (λ x. x) ey r r f g z (λ x k. inr (x, k, refl))

module _ (more : List Bool) where
  abbrev pub on : List Bool → List Bool
  on rest = rest ++ more

  abbrev pub value_on : {A : Type 0} → A × List Bool → A × List Bool
  value_on x = (x.0, x.1 ++ more)

  pub field_cut : (w : ℕ) (bits : List Bool) (x : ℕ × List Bool) → field_at w (bits ++ more) ≡ Ok x → Cut value_on (field_at w bits) x
  field_cut w bits x e =
      elim (ltb (length bits) w) as (λ b. ltb (length bits) w ≡ b → Cut value_on (cond b (Err Short) (Ok (number (take w bits), drop w bits))) x) [
        | true ↦ λ t. inl refl
        | false ↦ λ t.
            let v = number (take w bits) in
            let rest = drop w bits in
            let read : field_at w bits ≡ Ok (v, rest) = rw t refl in
            let is = field_takes w bits v rest read in
            let same : (v, rest ++ more) ≡ x =
            ok_is (v, rest ++ more) x
            (sym (field_again w v (rest ++ more) is.1) ∙
            ap (field_at w) (sym (ap (λ (q : List Bool). q ++ more) is.0 ∙ append_assoc (num w v) rest more)) ∙ e) in
            inr ((v, rest), refl, sym same)
      ] refl

  pub piece_cut : (w : ℕ) (bits : List Bool) (x : List Bool × List Bool) → piece_at w (bits ++ more) ≡ Ok x → Cut value_on (piece_at w bits) x
  piece_cut w bits x e =
      elim (ltb (length bits) w) as (λ b. ltb (length bits) w ≡ b → Cut value_on (cond b (Err Short) (Ok (take w bits, drop w bits))) x) [
        | true ↦ λ t. inl refl
        | false ↦ λ t.
            let v = take w bits in
            let rest = drop w bits in
            let read : piece_at w bits ≡ Ok (v, rest) = rw t refl in
            let is = piece_takes w bits v rest read in
            let same : (v, rest ++ more) ≡ x =
            ok_is (v, rest ++ more) x
            (sym (piece_again w v (rest ++ more) is.1) ∙ ap (piece_at w) (sym (ap (λ (q : List Bool). q ++ more) is.0 ∙ append_assoc v rest more))
            ∙ e) in
            inr ((v, rest), refl, sym same)
      ] refl

  pub bit_cut : (bits : List Bool) (x : Bool × List Bool) → bit_at (bits ++ more) ≡ Ok x → Cut value_on (bit_at bits) x
  bit_cut [] x e = inl refl
  bit_cut (b ∷ bits) x e = inr ((b, bits), refl, sym (ok_is (b, bits ++ more) x e))

  pub clear_cut : (bits left : List Bool) → clear_at (bits ++ more) ≡ Ok left → Cut on (clear_at bits) left
  clear_cut [] left e = inl refl
  clear_cut (true ∷ bits) left e = absurd cc
  clear_cut (false ∷ bits) left e = inr (bits, refl, sym (ok_is (bits ++ more) left e))

  pub optional_cut : (w : ℕ) (bits left : List Bool) → optional_at w (bits ++ more) ≡ Ok left → Cut on (optional_at w bits) left
  unfolding optional_at
  optional_cut w [] left e = inl refl
  optional_cut w (false ∷ bits) left e = inr (bits, refl, sym (ok_is (bits ++ more) left e))
  optional_cut w (true ∷ bits) left e =
      cut_bind value_on on (piece_at w bits) (piece_at w (bits ++ more)) (λ part. Ok part.1) (λ part. Ok part.1) left (piece_cut w bits) (λ y is h. inr (y.1, refl, sym (ok_is (y.1 ++ more) left h))) e

  optionals_cut : (ws : List ℕ) (bits left : List Bool) → optionals_at ws (bits ++ more) ≡ Ok left → Cut on (optionals_at ws bits) left
  unfolding optionals_at
  optionals_cut [] bits left e = inr (bits, refl, sym (ok_is (bits ++ more) left e))
  optionals_cut (w ∷ ws) bits left e =
      cut_bind on on (optional_at w bits) (optional_at w (bits ++ more)) (optionals_at ws) (optionals_at ws) left (optional_cut w bits) (λ y is h. optionals_cut ws y left h) e

  made : ℕ → List Bool × List Bool → Result (Option Element × List Bool) MmFault
  made identifier body = Ok (Some (record { identifier = identifier; body = body.0 }), body.1)

  element_cut : (bits : List Bool) (x : Option Element × List Bool) → element_at (bits ++ more) ≡ Ok x → Cut value_on (element_at bits) x
  unfolding element_at made
  element_cut [] x e = inl refl
  element_cut (false ∷ bits) x e = inr ((None, bits), refl, sym (ok_is (None, bits ++ more) x e))
  element_cut (true ∷ bits) x e =
      let after : ℕ × List Bool → Result (Option Element × List Bool) MmFault = λ identifier. field_at 11 identifier.1 >>= λ len. piece_at len.0 len.1 >>= λ body. made identifier.0 body in
      cut_bind value_on value_on (field_at 4 bits) (field_at 4 (bits ++ more)) after after x (field_cut 4 bits) (λ y is h.
      let last : ℕ × List Bool → Result (Option Element × List Bool) MmFault = λ len. piece_at len.0 len.1 >>= λ body. made y.0 body in
      cut_bind value_on value_on (field_at 11 y.1) (field_at 11 (y.1 ++ more)) last last x (field_cut 11 y.1) (λ len is h.
      cut_bind value_on value_on (piece_at len.0 len.1) (piece_at len.0 (len.1 ++ more)) (made y.0) (made y.0) x (piece_cut len.0 len.1) (λ body is h.
      inr ((Some (record { identifier = y.0; body = body.0 }), body.1), refl, sym (ok_is (Some (record { identifier = y.0; body = body.0 }), body.1 ++ more) x h))) h) h) e

  module _ {S : Type 0} (into : S → Element → Result S MmFault) where
    abbrev next_into : ℕ → S → Option Element × List Bool → Result (S × List Bool) MmFault
    next_into n s next = elim next.0 [ Some e ↦ into s e >>= λ t. elements_at into n t next.1 | None ↦ Ok (s, next.1) ]

    pub elements_cut : (n m : ℕ) (s : S) (bits : List Bool) (x : S × List Bool) → length bits ≤ n → elements_at into m s (bits ++ more) ≡ Ok x → Cut value_on (elements_at into n s bits) x
    unfolding elements_at
    elements_cut zero m s bits x fits e = inl refl
    elements_cut (suc n) zero s bits x fits e = absurd cc
    elements_cut (suc n) (suc m) s bits x fits e =
        cut_bind value_on value_on (element_at bits) (element_at (bits ++ more)) (next_into n s) (next_into m s) x (element_cut bits)
        (λ y is h. by_next (λ t rest less k. elements_cut n m t rest x less k) y.0 y.1 is h) e
      where
        by_next : ((t : S) (rest : List Bool) → length rest ≤ n → elements_at into m t (rest ++ more) ≡ Ok x → Cut value_on (elements_at into n t rest) x)
            → (next : Option Element) (rest : List Bool) → element_at bits ≡ Ok (next, rest) → next_into m s (next, rest ++ more) ≡ Ok x → Cut value_on (next_into n s (next, rest)) x
        by_next later None rest is h = inr ((s, rest), refl, sym (ok_is (s, rest ++ more) x h))
        by_next later (Some element) rest is h =
            let less = element_shorter bits (Some element, rest) is in
            cut_bind (λ (t : S). t) value_on (into s element) (into s element) (λ t. elements_at into n t rest)
            (λ t. elements_at into m t (rest ++ more)) x (λ t k. inr (t, k, refl)) (λ t taken k. later t rest (omega arith) k) h

  pub extension_cut : (ws : List ℕ) (bits left : List Bool) → extension_at ws (bits ++ more) ≡ Ok left → Cut on (extension_at ws bits) left
  unfolding extension_at
  extension_cut ws [] left e = inl refl
  extension_cut ws (false ∷ bits) left e = inr (bits, refl, sym (ok_is (bits ++ more) left e))
  extension_cut ws (true ∷ bits) left e =
      let after : List Bool → Result (List Bool) MmFault = λ rest. elements_at ignore (length rest) tt rest >>= λ ended. Ok ended.1 in
      cut_bind on on (optionals_at ws bits) (optionals_at ws (bits ++ more)) after after left (optionals_cut ws bits) (λ y is h.
      cut_bind value_on on (elements_at ignore (length y) tt y) (elements_at ignore (length (y ++ more)) tt (y ++ more)) (λ ended. Ok ended.1)
      (λ ended. Ok ended.1) left (λ x k. elements_cut ignore (length y) (length (y ++ more)) tt y x (omega arith) k)
      (λ ended is k. inr (ended.1, refl, sym (ok_is (ended.1 ++ more) left k))) h) e

-- ---- PDUs cut off

-- with one bit more at least after the cut, nothing but missing bits is left
pub whole_missing : {A : Type 0} (r : Result (A × List Bool) MmFault) (v : A) (b : Bool) (rest : List Bool) → Cut (value_on (b ∷ rest)) r (v, []) → whole r ≡ Err Short
whole_missing {A} r v b rest cut = elim cut [
  | inl short ↦ ap whole short
  | inr found ↦ absurd (omega (arith, ap (λ (x : A × List Bool). length x.1) found.2, length-append found.0.1 (b ∷ rest)))
]
