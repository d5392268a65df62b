-- The calls that a run has made.
use Rattle.std.proofs.Common.{◌≡◌, ℕ, zero, suc, ◌+◌, ◌<◌, ◌≤◌, List, [], ◌∷◌, ◌++◌, Result, Ok, Err, refl, sym, ap, ◌∙◌, append_assoc, arith, inl, inr}
use Rattle.std.proofs.lemmas.List.{append-nil}
use Rattle.std.proofs.lemmas.Bool.{cases_lt}
use Rattle.sector_disk.specs.Disk.{View, IsCalled}
use Rattle.sector_disk.specs.Run.{HasMade, writes}
use Rattle.sector_disk.specs.declared.disk.DiskError.{DiskError}
use Rattle.sector_disk.specs.declared.record.Call.{Call}
use Rattle.sector_disk.specs.declared.record.Call.TheVariants.{Write}

-- before the first of them
pub made_none : (disk : View) (calls : List Call) → HasMade disk disk calls
made_none disk calls = record { made = []; left = calls; prefix = refl; now = sym (append-nil disk.calls) }

-- more calls were to come
pub made_of_more : (old new : View) (calls more : List Call) → HasMade old new calls → HasMade old new (calls ++ more)
made_of_more old new calls more has = record {
  made = has.made;
  left = has.left ++ more;
  prefix = ap (λ (some : List Call). some ++ more) has.prefix ∙ append_assoc has.made has.left more;
  now = has.now;
}

-- one call more, which may have failed
pub made_on : (old mid new : View) (before after : List Call) (call : Call) (result : Result Unit DiskError) → mid.calls ≡ old.calls ++ before →
    IsCalled mid new call result → HasMade old new (before ++ call ∷ after)
made_on old mid new before after call (Ok u) were called = record {
  made = before ++ call ∷ [];
  left = after;
  prefix = sym (append_assoc before (call ∷ []) after);
  now = called.made ∙ ap (λ (some : List Call). some ++ call ∷ []) were ∙ append_assoc old.calls before (call ∷ []);
}
made_on old mid new before after call (Err e) were called = elim called.tried [
  | inl none ↦ record { made = before; left = call ∷ after; prefix = refl; now = none ∙ were }
  | inr one ↦ record {
    made = before ++ call ∷ [];
    left = after;
    prefix = sym (append_assoc before (call ∷ []) after);
    now = one ∙ ap (λ (some : List Call). some ++ call ∷ []) were ∙ append_assoc old.calls before (call ∷ []);
  }
]

-- one call more, which answered `Ok`
pub all_made : (old mid new before : List Call) (call : Call) → mid ≡ old ++ before → new ≡ mid ++ call ∷ [] → new ≡ old ++ (before ++ call ∷ [])
all_made old mid new before call were is = is ∙ ap (λ (some : List Call). some ++ call ∷ []) were ∙ append_assoc old before (call ∷ [])

-- ---- a run of writes

pub no_write_yet : (calls : List Call) (at : ℕ) (bytes : ℕ → List ℕ) → calls ≡ calls ++ writes at 0 bytes
unfolding writes
no_write_yet calls at bytes = sym (append-nil calls)

pub one_write_more : (at k : ℕ) (bytes : ℕ → List ℕ) (one : List ℕ) → one ≡ bytes k → writes at k bytes ++ Write (at + k) one ∷ [] ≡ writes at (k + 1) bytes
unfolding writes
one_write_more at k bytes one is = let next : k + 1 ≡ suc k = omega arith in rw (next, is) refl

-- the same bytes, given in another way
pub writes_as : (at n : ℕ) (bytes same : ℕ → List ℕ) → ((k : ℕ) → k < n → bytes k ≡ same k) → writes at n bytes ≡ writes at n same
unfolding writes
writes_as at zero bytes same are = refl
writes_as at (suc n) bytes same are =
    let before : writes at n bytes ≡ writes at n same = writes_as at n bytes same (λ k lt. are k (omega (arith, lt))) in
    rw (before, are n (omega arith)) refl

-- it has answered `Ok`
pub one_made : (old mid new : List Call) (at k : ℕ) (bytes : ℕ → List ℕ) (one : List ℕ) → one ≡ bytes k → mid ≡ old ++ writes at k bytes →
    new ≡ mid ++ Write (at + k) one ∷ [] → new ≡ old ++ writes at (k + 1) bytes
one_made old mid new at k bytes one is were called = all_made old mid new (writes at k bytes) (Write (at + k) one) were called ∙
    ap (λ (some : List Call). old ++ some) (one_write_more at k bytes one is)

-- the first k of n
pub record IsPrefix (at k n : ℕ) (bytes : ℕ → List ℕ) : Type 0 where
  pub left : List Call
  pub prefix : writes at n bytes ≡ writes at k bytes ++ left

pub prefix_of : (at k n : ℕ) (bytes : ℕ → List ℕ) → k ≤ n → IsPrefix at k n bytes
unfolding writes
prefix_of at k zero bytes le = let none : k ≡ zero = omega (arith, le) in rw none (record { left = []; prefix = refl })
prefix_of at k (suc n) bytes le = elim (cases_lt n k) [
  | inl last ↦ let all : k ≡ suc n = omega (arith, le, last) in rw all (record { left = []; prefix = sym (append-nil (writes at (suc n) bytes)) })
  | inr before ↦ let part : IsPrefix at k n bytes = prefix_of at k n bytes before in record {
    left = part.left ++ Write (at + n) (bytes n) ∷ [];
    prefix = ap (λ (some : List Call). some ++ Write (at + n) (bytes n) ∷ []) part.prefix ∙ append_assoc (writes at k bytes) part.left (Write (at + n) (bytes n) ∷ []);
  }
]

-- the write of the sector k fails, or does not
pub write_made : (old mid new : View) (at k n : ℕ) (bytes : ℕ → List ℕ) (one : List ℕ) (result : Result Unit DiskError) → k < n → one ≡ bytes k → mid.calls ≡ old.calls ++ writes at k bytes
    → IsCalled mid new (Write (at + k) one) result → HasMade old new (writes at n bytes)
write_made old mid new at k n bytes one result lt is were called =
    let rest : IsPrefix at (k + 1) n bytes = prefix_of at (k + 1) n bytes (omega (arith, lt)) in
    let all : writes at n bytes ≡ writes at k bytes ++ Write (at + k) one ∷ rest.left = rest.prefix ∙
    ap (λ (some : List Call). some ++ rest.left) (sym (one_write_more at k bytes one is)) ∙
    append_assoc (writes at k bytes) (Write (at + k) one ∷ []) rest.left in
    rw all (made_on old mid new (writes at k bytes) rest.left (Write (at + k) one) result were called)

-- all of them were made
pub whole_made : (old new : View) (calls : List Call) → new.calls ≡ old.calls ++ calls → HasMade old new calls
whole_made old new calls is = record { made = calls; left = []; prefix = sym (append-nil calls); now = is }
