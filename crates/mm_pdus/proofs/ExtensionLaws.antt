-- The two laws for what follows the fixed fields: what is read is spelt so, and what is spelt so is read.
use Rattle.std.proofs.Common.{◌≡◌, ℕ, zero, suc, ◌<◌, ◌≤◌, Bool, true, false, List, [], ◌∷◌, ◌++◌, length, Option, Some, None, Result, Ok, refl, sym, ap, ◌∙◌, arith, length-append, append_assoc}
use Rattle.std.specs.List.{flat_map, AllByRecursion}
use Rattle.base.proofs.Lists.{regroup_four}
use Rattle.mm_pdus.specs.declared.fault.MmFault.{MmFault}
use Rattle.mm_pdus.specs.Syntax.{optional, Element, element, IsElement, Extension, extension, IsExtension}
use Rattle.identity.specs.Number.{num}
use Rattle.mm_pdus.specs.Reading.{◌>>=◌, optionals_at, element_at, elements_at, ignore, extension_at}
use Rattle.mm_pdus.proofs.Steps.{bind_ok, ok_is, ok_rest, join}
use Rattle.mm_pdus.proofs.FieldLaws.{optionals_take, optionals_again, element_takes, element_ends, element_again}

module _ {S : Type 0} (into : S → Element → Result S MmFault) where
  -- what elements give
  unfoldable pub all_into : S → List Element → Result S MmFault
  all_into s [] = Ok s
  all_into s (e ∷ es) = into s e >>= λ t. all_into t es

  pub elements_take : (n : ℕ) (s : S) (bits : List Bool) (x : S × List Bool) → elements_at into n s bits ≡ Ok x
      → (es : List Element) × (bits ≡ flat_map element es ++ false ∷ x.1) × AllByRecursion IsElement es × (all_into s es ≡ Ok x.0)
  unfolding elements_at all_into
  elements_take zero s bits x h = absurd cc
  elements_take (suc n) s bits x h =
      let a = bind_ok (element_at bits) (λ next. elim next.0 [ Some e ↦ into s e >>= λ t. elements_at into n t next.1 | None ↦ Ok (s, next.1) ]) x h in
      by_next (λ t rest. elements_take n t rest x) a.0.0 a.0.1 a.1 a.2
    where
      by_next : ((t : S) (rest : List Bool) → elements_at into n t rest ≡ Ok x → (es : List Element) × (rest ≡ flat_map element es ++ false ∷ x.1) ×
          AllByRecursion IsElement es × (all_into t es ≡ Ok x.0))
          → (next : Option Element) (rest : List Bool) → element_at bits ≡ Ok (next, rest) →
          elim next as (λ _. Result (S × List Bool) MmFault) [ Some e ↦ into s e >>= λ t. elements_at into n t rest | None ↦ Ok (s, rest) ] ≡ Ok x
          → (es : List Element) × (bits ≡ flat_map element es ++ false ∷ x.1) × AllByRecursion IsElement es × (all_into s es ≡ Ok x.0)
      by_next later None rest e h = ([], element_ends bits rest e ∙ ap (λ (r : List Bool). false ∷ r) (ok_rest s rest x h), tt, ap (λ (p : S × List Bool). Ok p.0) (ok_is (s, rest) x h))
      by_next later (Some e) rest is h =
          let b = bind_ok (into s e) (λ t. elements_at into n t rest) x h in
          let first = element_takes bits e rest is in
          let others = later b.0 rest b.2 in (
            e ∷ others.0,
            join bits (element e) rest (flat_map element others.0) (false ∷ x.1) first.0 others.1,
            (first.1, others.2),
            ap (λ (r : Result S MmFault). r >>= λ t. all_into t others.0) b.1 ∙ others.3,
          )

  pub elements_again : (n : ℕ) (s : S) (es : List Element) (rest : List Bool) (t : S) → length es < n → AllByRecursion IsElement es →
      all_into s es ≡ Ok t → elements_at into n s (flat_map element es ++ false ∷ rest) ≡ Ok (t, rest)
  unfolding elements_at all_into element_at
  elements_again zero s es rest t lt fits h = absurd (omega arith)
  elements_again (suc n) s [] rest t lt fits h = ap (λ (u : S). Ok (u, rest)) (ok_is s t h)
  elements_again (suc n) s (e ∷ es) rest t lt fits h =
      let b = bind_ok (into s e) (λ t. all_into t es) t h in
      ap (elements_at into (suc n) s) (append_assoc (element e) (flat_map element es) (false ∷ rest))
      ∙ ap (λ (r : Result (Option Element × List Bool) MmFault). r >>= λ next.
      elim next.0 [ Some e ↦ into s e >>= λ t. elements_at into n t next.1 | None ↦ Ok (s, next.1) ])
      (element_again e (flat_map element es ++ false ∷ rest) fits.0)
      ∙ ap (λ (r : Result S MmFault). r >>= λ t. elements_at into n t (flat_map element es ++ false ∷ rest)) b.1
      ∙ elements_again n b.0 es rest t (omega arith) fits.1 b.2

following : (x b c : List Bool) → length (b ++ c) ≤ length (x ++ b ++ c)
following x b c = omega (arith, length-append (x ++ b) c, length-append x b, length-append b c)

-- as many elements have at least as many bits
pub elements_long : (es : List Element) (rest : List Bool) → length es < length (flat_map element es ++ false ∷ rest)
elements_long [] rest = omega arith
elements_long (e ∷ es) rest = let h = elements_long es rest in let b = following (num 4 e.identifier ++ num 11 (length e.body) ++ e.body) (flat_map element es) (false ∷ rest) in omega arith

ignored : (es : List Element) → all_into ignore tt es ≡ Ok tt
unfolding all_into
ignored [] = refl
ignored (e ∷ es) = ignored es

-- ---- what follows the fixed fields

pub extension_takes : (ws : List ℕ) (bits rest : List Bool) → extension_at ws bits ≡ Ok rest → (x : Option Extension) × (bits ≡ extension x ++ rest) × IsExtension ws x
unfolding extension_at
extension_takes ws [] rest h = absurd cc
extension_takes ws (false ∷ bits) rest h = (None, ap (λ (r : List Bool). false ∷ r) (ok_is bits rest h), tt)
extension_takes ws (true ∷ bits) rest h =
    let a = bind_ok (optionals_at ws bits) (λ rest. elements_at ignore (length rest) tt rest >>= λ ended. Ok ended.1) rest h in
    let b = bind_ok (elements_at ignore (length a.0) tt a.0) (λ ended. Ok ended.1) rest a.2 in
    let parts = optionals_take ws bits a.0 a.1 in
    let es = elements_take ignore (length a.0) tt a.0 b.0 b.1 in
    let whole = join bits (flat_map optional parts.0) a.0 (flat_map element es.0) (false ∷ b.0.1) parts.1 es.1 in
    let ended : false ∷ b.0.1 ≡ (false ∷ []) ++ rest = ap (λ (r : List Bool). false ∷ r) (ok_is b.0.1 rest b.2) in (
      Some (record { parts = parts.0; elements = es.0 }),
      ap (λ (r : List Bool). true ∷ r) (whole ∙ ap (λ (r : List Bool). (flat_map optional parts.0 ++ flat_map element es.0) ++ r) ended ∙
          sym (append_assoc (flat_map optional parts.0 ++ flat_map element es.0) (false ∷ []) rest)),
      (parts.2, es.2),
    )

pub extension_again : (ws : List ℕ) (x : Option Extension) (rest : List Bool) → IsExtension ws x → extension_at ws (extension x ++ rest) ≡ Ok rest
unfolding extension_at
extension_again ws None rest fits = refl
extension_again ws (Some x) rest fits =
    let tail = flat_map element x.elements ++ false ∷ rest in
    ap (λ (t : List Bool). extension_at ws (true ∷ t)) (regroup_four (flat_map optional x.parts) (flat_map element x.elements) (false ∷ []) rest)
    ∙ ap (λ (r : Result (List Bool) MmFault). r >>= λ rest. elements_at ignore (length rest) tt rest >>= λ ended. Ok ended.1) (optionals_again ws x.parts tail fits.0)
    ∙ ap (λ (r : Result (Unit {0} × List Bool) MmFault). r >>= λ ended. Ok ended.1)
    (elements_again ignore (length tail) tt x.elements rest tt (elements_long x.elements rest) fits.1 (ignored x.elements))
