-- What the two laws of a command say of all bytes.
use Rattle.std.proofs.Common.{◌≡◌, ℕ, ◌≤◌, List, [], ◌∷◌, ◌++◌, length, Option, Some, None, refl, sym, ap, subst, ◌∙◌}
use Rattle.std.specs.Prelude.{IsSome, IfSome, IfNone}
use Rattle.std.proofs.lemmas.List.{append-nil}
use Rattle.base.proofs.Options.{some_is}
use Rattle.centre_core.specs.Asked.{Asked}
use Rattle.centre_core.specs.Ranges.{pdu_of}
use Rattle.identity.specs.Packed.{AreBytes}
use Rattle.command_bytes.specs.Reading.{Read, first_command, whole, command_of, pdu_in}
use Rattle.command_bytes.specs.Text.{IsCommand, Spells, command_text, longest}
use Rattle.command_bytes.proofs.Sizes.{command_short}
use Rattle.command_bytes.proofs.BodyLaws.{command_takes, command_again}

module _ {A : Type 0} where
  -- what is read of a text
  pub text_again : (c : Asked A) → IsCommand c → first_command (command_text c) ≡ Some (c, [])
  text_again c fits = sym (ap first_command (append-nil (command_text c))) ∙ command_again c [] fits

  pub whole_again : (c : Asked A) → IsCommand c → command_of (command_text c) ≡ Some c
  whole_again c fits = ap whole (text_again c fits)

  pub spelled_again : (c : Asked A) (bytes : List ℕ) → Spells c bytes → command_of bytes ≡ Some c
  spelled_again c bytes spells = ap command_of spells.1 ∙ whole_again c spells.0

  pub once : (c d : Asked A) (bytes : List ℕ) → Spells c bytes → Spells d bytes → c ≡ d
  once c d bytes one other = same c d (sym (spelled_again c bytes one) ∙ spelled_again d bytes other)
    where
      same : (x y : Asked A) → Some x ≡ Some y → x ≡ y
      same x y e = cc

  pub none_begins : (c d : Asked A) (text other more : List ℕ) → Spells c text → Spells d other → other ≡ text ++ more → (c ≡ d) × (more ≡ [])
  none_begins c d text other more one two e =
      parts (sym (command_again c more one.0) ∙ ap first_command (sym (sym two.1 ∙ e ∙ ap (λ (l : List ℕ). l ++ more) one.1)) ∙ text_again d two.0)
    where
      pair : Asked A → List ℕ → Asked A × List ℕ
      pair x l = (x, l)

      parts : Some (pair c more) ≡ Some (pair d []) → (c ≡ d) × (more ≡ [])
      parts e =
          let is : pair c more ≡ pair d [] = some_is (pair c more) (pair d []) e in
          (ap (λ (p : Asked A × List ℕ). p.0) is, ap (λ (p : Asked A × List ℕ). p.1) is)

  pub short : (c : Asked A) (bytes : List ℕ) → Spells c bytes → length bytes ≤ longest
  short c bytes spells = subst (λ (l : List ℕ). length l ≤ longest) (sym spells.1) (command_short c spells.0)

  pub only_text : (c : Asked A) (bytes rest : List ℕ) → AreBytes bytes → first_command bytes ≡ Some (c, rest) → IsCommand c × (bytes ≡ command_text c ++ rest)
  only_text c bytes rest are e = let takes = command_takes bytes c rest are e in (takes.0, takes.1)

  pub spelled : (c : Asked A) (bytes : List ℕ) → AreBytes bytes → command_of bytes ≡ Some c → Spells c bytes
  spelled c bytes are e = by (first_command bytes) refl e
    where
      by : (r : Read (Asked A)) → first_command bytes ≡ r → whole r ≡ Some c → Spells c bytes
      by None is e = absurd cc
      by (Some (d, b ∷ rest)) is e = absurd cc
      by (Some (d, [])) is e =
          let takes = only_text d bytes [] are is in
          let same : d ≡ c = some_is d c e in
          subst (λ (x : Asked A). Spells x bytes) same (takes.0, takes.1 ∙ append-nil (command_text d))

  pub is_spelled : (r : Option (Asked A)) (bytes : List ℕ) → AreBytes bytes → r ≡ command_of bytes → IfSome r (λ c. Spells c bytes)
  is_spelled None bytes are is = tt
  is_spelled (Some c) bytes are is = spelled c bytes are (sym is)

  pub spells_none : (r : Option (Asked A)) (bytes : List ℕ) → r ≡ command_of bytes → IfNone r ((c : Asked A) → Spells c bytes → ⊥)
  spells_none None bytes is = λ c spells. absurd (differ c (is ∙ spelled_again c bytes spells))
    where
      differ : (c : Asked A) → None ≡ Some c → ⊥
      differ c e = absurd cc
  spells_none (Some c) bytes is = tt

  pub wants : (bytes : List ℕ) → AreBytes bytes → IsSome (pdu_in (command_of {A = A} bytes)) → (c : Asked A) × Spells c bytes × IsSome (pdu_of c.body)
  wants bytes are some = by (command_of bytes) refl some
    where
      by : (r : Option (Asked A)) → command_of bytes ≡ r → IsSome (pdu_in r) → (c : Asked A) × Spells c bytes × IsSome (pdu_of c.body)
      by None is some = absurd cc
      by (Some c) is some = (c, spelled c bytes are is, some)
