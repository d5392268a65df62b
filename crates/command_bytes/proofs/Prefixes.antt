-- A prefix that is made of 48 bits and a length is those bits, unpadded.
use Rattle.std.proofs.Common.{◌≡◌, ℕ, ◌-◌, ◌≤◌, ◌<◌, ◌^◌, Bool, true, false, cond, List, length, take, drop, replicate, Option, Some, None, refl, ap, ◌∙◌}
use Rattle.std.specs.Prelude.{not, ◌↔◌, IsSome, IfSome}
use Rattle.std.specs.List.{list_all}
use Rattle.std.proofs.lemmas.Bool.{false≢true}
use Rattle.std.proofs.lemmas.List.{length-drop}
use Rattle.identity.specs.Number.{num}
use Rattle.identity.specs.Inside.NumberLaws.{length-num}
use Rattle.identity.specs.Path.{id_path}
use Rattle.command_bytes.specs.Fields.{unpadded}
use Rattle.command_bytes.proofs.Lefts.{all_zeros, zeros_all}

pub unpadded_is : (n k : ℕ) (bits : List Bool) (r : Option (List Bool)) → length (drop n bits) ≡ k → (IsSome r → drop n bits ≡ replicate k false) → (drop n bits ≡ replicate k false → IsSome r)
    → IfSome r (λ p. p ≡ take n bits) → r ≡ unpadded n bits
unpadded_is n k bits (Some p) long so thus is = rw (so refl, zeros_all k, is) refl
unpadded_is n k bits None long so thus is = closed (list_all not (drop n bits)) refl
  where
    closed : (b : Bool) → list_all not (drop n bits) ≡ b → None ≡ cond b (Some (take n bits)) None
    closed true e = absurd (false≢true (thus (all_zeros (drop n bits) e ∙ ap (λ (m : ℕ). replicate m false) long)))
    closed false e = refl

-- what `Prefix::new` gives
pub prefix_unpadded : (bits len : ℕ) (r : Option (List Bool)) → bits < 2 ^ 48 → len ≤ 48 → (IsSome r ↔ ((len ≤ 48) × (bits < 2 ^ 48) × (drop len (id_path bits) ≡ replicate (48 - len) false)))
    → IfSome r (λ p. p ≡ take len (id_path bits)) → r ≡ unpadded len (num 48 bits)
unfolding id_path
prefix_unpadded bits len r small few fits value =
    unpadded_is len (48 - len) (num 48 bits) r (length-drop len (num 48 bits) ∙ ap (λ (n : ℕ). n - len) (length-num 48 bits))
    (λ some. (fits.0 some).2) (λ zeros. fits.1 (few, small, zeros)) value
