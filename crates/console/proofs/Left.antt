-- Words that are cut by the marks of the spaces.
use Rattle.std.proofs.Common.{◌≡◌, ℕ, ◌+◌, ◌-◌, ◌<◌, ◌≤◌, inl, inr, false, List, [], ◌∷◌, length, take, drop, get_or, Some, sym, ap, ◌∙◌, arith}
use Rattle.std.specs.Prelude.{◌==◌}
use Rattle.std.specs.Int.{bit_at}
use Rattle.std.proofs.lemmas.Bool.Decides.{eqb_tells}
use Rattle.std.proofs.lemmas.Nat.Bits.{bit_at-zero}
use Rattle.std.proofs.lemmas.List.{take_all, drop-drop, get_or-drop, get_or-take, get_or_default}
use Rattle.std.proofs.lemmas.Option.{slice_get-get_or}
use Rattle.std.proofs.lemmas.Grind.{common_steps}
use Rattle.console.specs.Inside.Marks.{AreSpaces}
use Rattle.console.specs.Reading.{Lacks, words}
use Rattle.console.proofs.Splits.{words_none, words_some}

no_space : (b : ℕ) → (b ≡ 32 → ⊥) → (b == 32) ≡ false
no_space b other = elim (eqb_tells b 32) [
  | inl same ↦ absurd (other same.1)
  | inr apart ↦ apart.0
]

module _ (line : List ℕ) (start marks : ℕ) (within : start ≤ length line) (spaces : AreSpaces line start (length line) marks) where
  -- before a place below which there are no marks there is no space
  lacks : (n : ℕ) → start + n ≤ length line → ((k : ℕ) → k < start + n → bit_at marks k ≡ 0) → Lacks 32 (take n (drop start line))
  lacks n inside none = λ k d low.
      let small : k < n = grind (arith, common_steps) in
      let here : get_or (take n (drop start line)) k d ≡ get_or line (start + k) 0 =
      get_or-take n (drop start line) k d small ∙ get_or-drop start line k d ∙ get_or_default line (start + k) d 0 (omega (arith, small, inside)) in
      ap (λ b. b == 32) here ∙ no_space (get_or line (start + k) 0) (λ space.
      let set = spaces.marked (start + k) (omega arith) (omega (arith, small, inside)) space in
      omega (arith, set, none (start + k) (omega (arith, small))))

  pub last_word : marks ≡ 0 → words (drop start line) ≡ take (length line - start) (drop start line) ∷ []
  last_word empty =
      let whole : take (length line - start) (drop start line) ≡ drop start line = take_all (length line - start) (drop start line) (grind (arith, common_steps)) in
      let none : Lacks 32 (take (length line - start) (drop start line)) = lacks (length line - start) (omega (arith, within)) (λ k low. ap (λ m. bit_at m k) empty ∙ bit_at-zero k) in
      ap words (sym whole) ∙ words_none (take (length line - start) (drop start line)) none

  pub word_before : (at : ℕ) → bit_at marks at ≡ 1 → ((k : ℕ) → k < at → bit_at marks k ≡ 0) →
      words (drop start line) ≡ take (at - start) (drop start line) ∷ words (drop (at + 1) line)
  word_before at set below =
      let low = spaces.low at set in
      let high = spaces.high at set in
      let same : start + (at - start) ≡ at = omega (arith, low) in
      let inside : at - start < length (drop start line) = grind (arith, common_steps) in
      let none : Lacks 32 (take (at - start) (drop start line)) = lacks (at - start) (omega (arith, low, high)) (λ k less. below k (omega (arith, less, low))) in
      let space : get_or (drop start line) (at - start) 0 ≡ 32 = get_or-drop start line (at - start) 0 ∙ ap (λ i. get_or line i 0) same ∙ spaces.space at set in
      let more : start + (at - start + 1) ≡ at + 1 = omega (arith, low) in
      words_some (drop start line) (at - start) inside none (slice_get-get_or (drop start line) (at - start) 0 inside ∙ ap Some space)
      ∙ ap (λ rest. take (at - start) (drop start line) ∷ words rest) (drop-drop (at - start + 1) start line ∙ ap (λ i. drop i line) more)
