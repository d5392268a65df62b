-- Elements, one after the other.
use Rattle.std.proofs.Common.{◌≡◌, ℕ, zero, suc, ◌<◌, ◌≤◌, Bool, true, false, List, [], ◌∷◌, length, take, drop, Option, Some, None, Result, Ok, Err, refl, ap, ◌∙◌, arith, ltb}
use Rattle.std.proofs.lemmas.List.{length-drop}
use Rattle.identity.specs.Number.{number}
use Rattle.mm_pdus.specs.declared.fault.MmFault.{MmFault}
use Rattle.mm_pdus.specs.declared.fault.MmFault.TheVariants.{Short}
use Rattle.mm_pdus.specs.Syntax.{Element}
use Rattle.mm_pdus.specs.Reading.{◌>>=◌, field_at, piece_at, element_at, elements_at}
use Rattle.mm_pdus.proofs.Steps.{bind_ok, guard_ok, ok_rest, err_same}

-- what is left after a field is no longer
field_shorter : (w : ℕ) (bits : List Bool) (x : ℕ × List Bool) → field_at w bits ≡ Ok x → length x.1 ≤ length bits
field_shorter w bits x e =
    let g = guard_ok (ltb (length bits) w) Short (number (take w bits), drop w bits) x e in
    let rest : drop w bits ≡ x.1 = ap (λ (p : ℕ × List Bool). p.1) g.1 in
    omega (arith, length-drop w bits, ap length rest)

piece_shorter : (w : ℕ) (bits : List Bool) (x : List Bool × List Bool) → piece_at w bits ≡ Ok x → length x.1 ≤ length bits
piece_shorter w bits x e =
    let g = guard_ok (ltb (length bits) w) Short (take w bits, drop w bits) x e in
    let rest : drop w bits ≡ x.1 = ap (λ (p : List Bool × List Bool). p.1) g.1 in
    omega (arith, length-drop w bits, ap length rest)

pub element_shorter : (bits : List Bool) (x : Option Element × List Bool) → element_at bits ≡ Ok x → length x.1 < length bits
unfolding element_at
element_shorter [] x e = absurd cc
element_shorter (false ∷ bits) x e = let rest : bits ≡ x.1 = ok_rest None bits x e in omega (arith, ap length rest)
element_shorter (true ∷ bits) x e =
    let a = bind_ok (field_at 4 bits) (λ identifier. field_at 11 identifier.1 >>= λ len. piece_at len.0 len.1 >>= λ body.
    Ok (Some (record { identifier = identifier.0; body = body.0 }), body.1)) x e in
    let b = bind_ok (field_at 11 a.0.1) (λ len. piece_at len.0 len.1 >>= λ body. Ok (Some (record { identifier = a.0.0; body = body.0 }), body.1)) x a.2 in
    let d = bind_ok (piece_at b.0.0 b.0.1) (λ body. Ok (Some (record { identifier = a.0.0; body = body.0 }), body.1)) x b.2 in
    let rest : d.0.1 ≡ x.1 = ok_rest (Some (record { identifier = a.0.0; body = d.0.0 })) d.0.1 x d.2 in
    let s1 = field_shorter 4 bits a.0 a.1 in
    let s2 = field_shorter 11 a.0.1 b.0 b.1 in
    let s3 = piece_shorter b.0.0 b.0.1 d.0 d.1 in
    omega (arith, ap length rest)

module _ {S : Type 0} (into : S → Element → Result S MmFault) where
  -- what follows the next element
  abbrev follow : (S → List Bool → Result (S × List Bool) MmFault) → S → Result (Option Element × List Bool) MmFault → Result (S × List Bool) MmFault
  follow rest s read = read >>= λ next. elim next.0 [ Some e ↦ into s e >>= λ t. rest t next.1 | None ↦ Ok (s, next.1) ]

  follow_same : (f g : S → List Bool → Result (S × List Bool) MmFault) (s : S) (bits : List Bool) (read : Result (Option Element × List Bool) MmFault) → element_at bits ≡ read
      → ((t : S) (rest : List Bool) → length rest < length bits → f t rest ≡ g t rest) → follow f s read ≡ follow g s read
  follow_same f g s bits (Err d) e h = refl
  follow_same f g s bits (Ok (None, rest)) e h = refl
  follow_same f g s bits (Ok (Some x, rest)) e h =
      elim (into s x) as (λ (r : Result S MmFault). (r >>= λ t. f t rest) ≡ (r >>= λ t. g t rest)) [ Ok t ↦ h t rest (element_shorter bits (Some x, rest) e) | Err d ↦ refl ]

  -- more turns than bits change nothing
  pub elements_turns : (m n : ℕ) (s : S) (bits : List Bool) → length bits ≤ m → length bits ≤ n → elements_at into m s bits ≡ elements_at into n s bits
  unfolding elements_at element_at
  elements_turns zero zero s bits lm ln = refl
  elements_turns zero (suc n) s [] lm ln = refl
  elements_turns zero (suc n) s (b ∷ bits) lm ln = absurd (omega arith)
  elements_turns (suc m) zero s [] lm ln = refl
  elements_turns (suc m) zero s (b ∷ bits) lm ln = absurd (omega arith)
  elements_turns (suc m) (suc n) s bits lm ln =
      follow_same (elements_at into m) (elements_at into n) s bits (element_at bits) refl (λ t rest lt. elements_turns m n t rest (omega arith) (omega arith))

  -- one element on
  pub elements_on : (s t : S) (bits rest : List Bool) (e : Element) → element_at bits ≡ Ok (Some e, rest) → into s e ≡ Ok t →
      elements_at into (length bits) s bits ≡ elements_at into (length rest) t rest
  unfolding elements_at element_at
  elements_on s t [] rest e read taken = absurd cc
  elements_on s t (b ∷ bits) rest e read taken =
      let lt = element_shorter (b ∷ bits) (Some e, rest) read in
      ap (follow (elements_at into (length bits)) s) read ∙ ap (λ (r : Result S MmFault). r >>= λ t. elements_at into (length bits) t rest) taken ∙
      elements_turns (length bits) (length rest) t rest (omega arith) (omega arith)

  pub elements_end : (s : S) (bits rest : List Bool) → element_at bits ≡ Ok (None, rest) → elements_at into (length bits) s bits ≡ Ok (s, rest)
  unfolding elements_at element_at
  elements_end s [] rest read = absurd cc
  elements_end s (b ∷ bits) rest read = ap (follow (elements_at into (length bits)) s) read

  pub elements_fail : (s : S) (bits : List Bool) (f : MmFault) → element_at bits ≡ Err f → elements_at into (length bits) s bits ≡ Err f
  unfolding elements_at element_at
  elements_fail s [] f read = err_same Short f read
  elements_fail s (b ∷ bits) f read = ap (follow (elements_at into (length bits)) s) read

  pub elements_refuse : (s : S) (bits rest : List Bool) (e : Element) (f : MmFault) → element_at bits ≡ Ok (Some e, rest) → into s e ≡ Err f → elements_at into (length bits) s bits ≡ Err f
  unfolding elements_at element_at
  elements_refuse s [] rest e f read refused = absurd cc
  elements_refuse s (b ∷ bits) rest e f read refused =
      ap (follow (elements_at into (length bits)) s) read ∙ ap (λ (r : Result S MmFault). r >>= λ t. elements_at into (length bits) t rest) refused
