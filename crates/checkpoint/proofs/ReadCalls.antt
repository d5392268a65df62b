-- The calls that read a slot.
use Rattle.std.proofs.Common.{◌≡◌, ℕ, zero, suc, ◌+◌, ◌<◌, ◌≤◌, List, [], ◌∷◌, ◌++◌, refl, sym, ap, subst, ◌∙◌, append_assoc, arith, inl, inr}
use Rattle.std.proofs.lemmas.List.{append-nil}
use Rattle.std.proofs.lemmas.Bool.{cases_lt}
use Rattle.sector_disk.specs.Disk.{View}
use Rattle.sector_disk.specs.Run.{HasMade}
use Rattle.sector_disk.specs.declared.record.Call.{Call}
use Rattle.sector_disk.specs.declared.record.Call.TheVariants.{Read}
use Rattle.sector_disk.proofs.Made.{all_made}
use Rattle.checkpoint.specs.Reading.{read_calls}

pub no_read_yet : (calls : List Call) (at : ℕ) → calls ≡ calls ++ read_calls at 0
unfolding read_calls
no_read_yet calls at = sym (append-nil calls)

one_more : (at k : ℕ) → read_calls at k ++ Read (at + k) ∷ [] ≡ read_calls at (k + 1)
unfolding read_calls
one_more at k = let next : k + 1 ≡ suc k = omega arith in rw next refl

pub one_read_more : (old mid new : List Call) (at k : ℕ) → mid ≡ old ++ read_calls at k → new ≡ mid ++ Read (at + k) ∷ [] → new ≡ old ++ read_calls at (k + 1)
one_read_more old mid new at k were is = all_made old mid new (read_calls at k) (Read (at + k)) were is ∙ ap (λ (some : List Call). old ++ some) (one_more at k)

-- the first k of n
record IsPrefix (at k n : ℕ) : Type 0 where
  pub left : List Call
  pub prefix : read_calls at n ≡ read_calls at k ++ left

prefix_of : (at k n : ℕ) → k ≤ n → IsPrefix at k n
unfolding read_calls
prefix_of at k zero le = let none : k ≡ zero = omega (arith, le) in rw none (record { left = []; prefix = refl })
prefix_of at k (suc n) le = elim (cases_lt n k) [
  | inl last ↦ let all : k ≡ suc n = omega (arith, le, last) in rw all (record { left = []; prefix = sym (append-nil (read_calls at (suc n))) })
  | inr before ↦ let part : IsPrefix at k n = prefix_of at k n before in record {
    left = part.left ++ Read (at + n) ∷ [];
    prefix = ap (λ (some : List Call). some ++ Read (at + n) ∷ []) part.prefix ∙ append_assoc (read_calls at k) part.left (Read (at + n) ∷ []);
  }
]

-- so many of them were made
pub some_reads : (old new : View) (at k n : ℕ) → k ≤ n → new.calls ≡ old.calls ++ read_calls at k → HasMade old new (read_calls at n)
some_reads old new at k n le is = let part = prefix_of at k n le in record { made = read_calls at k; left = part.left; prefix = part.prefix; now = is }

-- the one after them fails, or does not
pub read_made : (old mid new : View) (at k n : ℕ) → k < n → mid.calls ≡ old.calls ++ read_calls at k → HasMade mid new (Read (at + k) ∷ []) → HasMade old new (read_calls at n)
read_made old mid new at k n lt were has =
    let part = prefix_of at (k + 1) n (omega (arith, lt)) in
    record {
      made = read_calls at k ++ has.made;
      left = has.left ++ part.left;
      prefix = part.prefix ∙ ap (λ (some : List Call). some ++ part.left) (sym (one_more at k) ∙ ap (λ (some : List Call). read_calls at k ++ some) has.prefix)
          ∙ append_assoc (read_calls at k) (has.made ++ has.left) part.left ∙
          ap (λ (some : List Call). read_calls at k ++ some) (append_assoc has.made has.left part.left) ∙
          sym (append_assoc (read_calls at k) has.made (has.left ++ part.left));
      now = has.now ∙ ap (λ (some : List Call). some ++ has.made) were ∙ append_assoc old.calls (read_calls at k) has.made;
    }

-- where the slot of a side lies
pub made_at : (old new : View) (a b n m : ℕ) → a ≡ b → n ≡ m → HasMade old new (read_calls a n) → HasMade old new (read_calls b m)
made_at old new a b n m at size made = subst (λ (k : ℕ). HasMade old new (read_calls k m)) at (subst (λ (k : ℕ). HasMade old new (read_calls a k)) size made)

pub calls_at : (old new : List Call) (a b n m : ℕ) → a ≡ b → n ≡ m → new ≡ old ++ read_calls a n → new ≡ old ++ read_calls b m
calls_at old new a b n m at size made = subst (λ (k : ℕ). new ≡ old ++ read_calls k m) at (subst (λ (k : ℕ). new ≡ old ++ read_calls a k) size made)
