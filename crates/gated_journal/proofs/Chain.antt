-- What the records of a half hang on.
use Rattle.std.proofs.Common.{cond, eqb, leb, ltb, ◌≡◌, ℕ, zero, suc, ◌-◌, ◌+◌, ◌*◌, ◌≤◌, ◌<◌, List, [], ◌∷◌, ◌++◌, length, slice_index, true, false}
use Rattle.std.proofs.Common.{Bool, Option, Some, None, Ok, Err, refl, sym, ap, ◌∙◌, arith}
use Rattle.std.proofs.lemmas.List.{get_or_past}
use Rattle.std.proofs.lemmas.List.FromFn.{get_or-map-range_with_len}
use Rattle.std.proofs.lemmas.Bool.Decides.{nat_tests}
use Rattle.sector_disk.specs.Disk.{sector}
use Rattle.std.specs.Prelude.{◌&&◌}
use Rattle.centre_core.specs.Asked.{Asked}
use Rattle.gated_journal.specs.declared.form.Form.{Form}
use Rattle.gated_journal.specs.Record.{most_data_sectors, record_of, data_sector, data_size}
use Rattle.gated_journal.specs.Half.{IsClosed, counted, data_from, stated_size, Found, found, record_at, RecordAt, Half, with_prefix, half_on, half_from, half_of}
use Rattle.gated_journal.proofs.Halves.{Opened, opened, both, stated_some}

data_same : (old new : List (List ℕ)) (at n : ℕ) → ((k : ℕ) → k < n → sector new (at + k) ≡ sector old (at + k)) → data_from new at n ≡ data_from old at n
unfolding data_from
data_same old new at zero same = refl
data_same old new at (suc n) same = let before = data_same old new at n (λ k lt. same k (omega (arith, lt))) in let last = same n (omega arith) in rw (before, last) refl

-- after a text are zeros
pub closed_after : (text : List ℕ) → IsClosed (data_sector text (data_size text))
unfolding data_sector
closed_after text is =
    let byte = λ (i : ℕ). slice_index text (512 * data_size text + i) in
    let past : slice_index text (512 * data_size text + 0) ≡ 0 = get_or_past text (512 * data_size text + 0) 0 (omega arith) in
    omega (arith, is, past, get_or-map-range_with_len byte 0 512 0 0 0 (omega arith) (omega arith))

module _ {A : Type 0} (form : Form) where
  -- ---- one gate

  pub shut : (before : ℕ) (image : List (List ℕ)) (at end : ℕ) → IsClosed (sector image at) → record_at {A = A} form before image at end ≡ Ok None
  unfolding record_at
  shut before image at end closed = let b : eqb (slice_index (sector image at) 0) 1 ≡ false = grind (arith, nat_tests) in rw b refl

  found_something : (at next : ℕ) (commands : Option (List (Asked A))) → found at next commands ≡ Ok None → ⊥
  found_something at next None e = cc
  found_something at next (Some commands) e = cc

  none_is : (b c d : Bool) (at s : ℕ) (r : Found A) → (r ≡ Ok None → ⊥) → cond b (cond c (Err at) (cond d r (Err s))) (Ok None) ≡ Ok None → b ≡ false
  none_is false c d at s r never e = refl
  none_is true true d at s r never e = absurd cc
  none_is true false true at s r never e = absurd (never e)
  none_is true false false at s r never e = absurd cc

  pub is_shut : (before : ℕ) (image : List (List ℕ)) (at end : ℕ) → record_at {A = A} form before image at end ≡ Ok None → IsClosed (sector image at)
  unfolding record_at
  is_shut before image at end e gate =
      let size = stated_size form (sector image (at + 1)) in
      let next = at + 1 + size in
      let read = found (at + 1) next (record_of form before (data_from image (at + 1) (stated_size form (sector image (at + 1))))) in
      let b = none_is (eqb (slice_index (sector image at) 0) 1) (eqb (at + 1) end) (leb size most_data_sectors && ltb next end) at (at + 1) read
      (found_something (at + 1) next (record_of form before (data_from image (at + 1) (stated_size form (sector image (at + 1)))))) e in
      grind (arith, nat_tests)

  pub record_there : (before : ℕ) (image : List (List ℕ)) (at end : ℕ) (commands : List (Asked A)) (next : ℕ) →
      Opened form before image at end commands next → record_at form before image at end ≡ Ok (Some (commands, next))
  unfolding record_at
  record_there before image at end commands next is =
      let a : eqb (slice_index (sector image at) 0) 1 ≡ true = let gate = is.gate in grind (arith, nat_tests) in
      let size = stated_size form (sector image (at + 1)) in
      let lt : at + 1 + size < end = omega (arith, is.next_is, is.within) in
      let b : eqb (at + 1) end ≡ false = grind (arith, nat_tests) in
      let d : (leb size most_data_sectors && ltb (at + 1 + size) end) ≡ true = both size (at + 1 + size) end is.few lt in
      rw (a, b, d, is.read, ← is.next_is) refl

  pub opened_same : (before : ℕ) (old new : List (List ℕ)) (at end : ℕ) (commands : List (Asked A)) (next : ℕ) →
      Opened form before old at end commands next → ((k : ℕ) → at ≤ k → k < next → sector new k ≡ sector old k) →
      Opened form before new at end commands next
  opened_same before old new at end commands next is same =
      let size = stated_size form (sector old (at + 1)) in
      let first : sector new at ≡ sector old at = same at (omega arith) (omega (arith, is.next_is)) in
      let second : sector new (at + 1) ≡ sector old (at + 1) = same (at + 1) (omega arith) (omega (arith, is.next_is, stated_some form (sector old (at + 1)))) in
      let all = data_same old new (at + 1) size (λ k lt. same (at + 1 + k) (omega arith) (omega (arith, is.next_is, lt))) in
      record {
        gate = ap (λ (bytes : List ℕ). slice_index bytes 0) first ∙ is.gate;
        next_is = rw second is.next_is;
        few = rw second is.few;
        within = is.within;
        read = rw (second, all) is.read;
      }

  -- ---- a chain

  ok_parts : (a b : List (RecordAt A)) (m n : ℕ) → ◌≡◌ {A = Half A} (Ok (a, m)) (Ok (b, n)) → (a ≡ b) × (m ≡ n)
  ok_parts a b m n e = let pair : ◌≡◌ {A = List (RecordAt A) × ℕ} (a, m) (b, n) = cc in (ap (λ (x : List (RecordAt A) × ℕ). x.0) pair, ap (λ (x : List (RecordAt A) × ℕ). x.1) pair)

  prefix_is : (prefix : List (RecordAt A)) (half : Half A) (entries : List (RecordAt A)) (gate : ℕ) → with_prefix prefix half ≡ Ok (entries, gate) →
      (rest : List (RecordAt A)) × (half ≡ Ok (rest, gate)) × (entries ≡ prefix ++ rest)
  prefix_is prefix (Ok half) entries gate e = let parts = ok_parts (prefix ++ half.0) entries half.1 gate e in (half.0, ap (λ (g : ℕ). Ok (half.0, g)) parts.1, sym parts.0)
  prefix_is prefix (Err s) entries gate e = absurd cc

  pub goes_up : (fuel before : ℕ) (image : List (List ℕ)) (at end : ℕ) (entries : List (RecordAt A)) (gate : ℕ) → half_from fuel form before image at end ≡ Ok (entries, gate) → at ≤ gate
  unfolding half_from
  goes_up zero before image at end entries gate e = let same : at ≡ gate = (ok_parts [] entries at gate e).1 in omega (arith, same)
  goes_up (suc fuel) before image at end entries gate e =
      elim (record_at {A = A} form before image at end) as
      (λ r. record_at form before image at end ≡ r → half_on at r (λ x. half_from fuel form (before + length x.0) image x.1 end) ≡ Ok
      (entries, gate) → at ≤ gate) [
        | Err fault ↦ λ is f. absurd cc
        | Ok o ↦ λ is f. on (λ x rest. goes_up fuel (before + length x.0) image x.1 end rest gate) o is f
      ] refl e
    where
      on : ((x : List (Asked A) × ℕ) (rest : List (RecordAt A)) → half_from fuel form (before + length x.0) image x.1 end ≡ Ok (rest, gate) →
          x.1 ≤ gate) → (o : Option (List (Asked A) × ℕ)) → record_at form before image at end ≡ Ok o
          → half_on at (Ok o) (λ x. half_from fuel form (before + length x.0) image x.1 end) ≡ Ok (entries, gate) → at ≤ gate
      on go None is f = let same : at ≡ gate = (ok_parts [] entries at gate f).1 in omega (arith, same)
      on go (Some x) is f =
          let rest = prefix_is ((at + 1, x.0) ∷ []) (half_from fuel form (before + length x.0) image x.1 end) entries gate f in
          omega (arith, (opened form before image at end x is).next_is, go x rest.0 rest.1)

  pub half_up : (before : ℕ) (image : List (List ℕ)) (at end : ℕ) (entries : List (RecordAt A)) (gate : ℕ) → half_of form before image at end ≡ Ok (entries, gate) → at ≤ gate
  half_up before image at end entries gate e = goes_up (end - at) before image at end entries gate e

  -- the first closed gate lies within the half

  stays_below : (fuel before : ℕ) (image : List (List ℕ)) (at end : ℕ) (entries : List (RecordAt A)) (gate : ℕ) → at < end → half_from fuel form before image at end ≡ Ok (entries, gate) → gate < end
  unfolding half_from
  stays_below zero before image at end entries gate within e = let same : at ≡ gate = (ok_parts [] entries at gate e).1 in omega (arith, same, within)
  stays_below (suc fuel) before image at end entries gate within e =
      elim (record_at {A = A} form before image at end) as
      (λ r. record_at form before image at end ≡ r → half_on at r (λ x. half_from fuel form (before + length x.0) image x.1 end) ≡ Ok
      (entries, gate) → gate < end) [
        | Err fault ↦ λ is f. absurd cc
        | Ok o ↦ λ is f. on (λ x rest below. stays_below fuel (before + length x.0) image x.1 end rest gate below) o is f
      ] refl e
    where
      on : ((x : List (Asked A) × ℕ) (rest : List (RecordAt A)) → x.1 < end → half_from fuel form (before + length x.0) image x.1 end ≡ Ok (rest, gate) →
          gate < end) → (o : Option (List (Asked A) × ℕ)) → record_at form before image at end ≡ Ok o
          → half_on at (Ok o) (λ x. half_from fuel form (before + length x.0) image x.1 end) ≡ Ok (entries, gate) → gate < end
      on go None is f = let same : at ≡ gate = (ok_parts [] entries at gate f).1 in omega (arith, same, within)
      on go (Some x) is f =
          let rest = prefix_is ((at + 1, x.0) ∷ []) (half_from fuel form (before + length x.0) image x.1 end) entries gate f in
          go x rest.0 ((opened form before image at end x is).within) rest.1

  pub half_below : (before : ℕ) (image : List (List ℕ)) (at end : ℕ) (entries : List (RecordAt A)) (gate : ℕ) → at < end → half_of form before image at end ≡ Ok (entries, gate) → gate < end
  half_below before image at end entries gate within e = stays_below (end - at) before image at end entries gate within e

  -- a half's records hang on the sectors from its first gate to its last alone
  pub same_from : (fuel before : ℕ) (old new : List (List ℕ)) (at end : ℕ) (entries : List (RecordAt A)) (gate : ℕ) →
      half_from fuel form before old at end ≡ Ok (entries, gate) → ((k : ℕ) → at ≤ k → k ≤ gate → sector new k ≡ sector old k)
      → half_from fuel form before new at end ≡ Ok (entries, gate)
  unfolding half_from
  same_from zero before old new at end entries gate e same = e
  same_from (suc fuel) before old new at end entries gate e same =
      elim (record_at {A = A} form before old at end) as
      (λ r. record_at form before old at end ≡ r → half_on at r (λ x. half_from fuel form (before + length x.0) old x.1 end) ≡ Ok
      (entries, gate) → half_on at (record_at form before new at end) (λ x. half_from fuel form (before + length x.0) new x.1 end) ≡ Ok
      (entries, gate)) [
        | Err fault ↦ λ is f. absurd cc
        | Ok o ↦ λ is f. on (λ x rest. same_from fuel (before + length x.0) old new x.1 end rest gate) o is f
      ] refl e
    where
      on : ((x : List (Asked A) × ℕ) (rest : List (RecordAt A)) → half_from fuel form (before + length x.0) old x.1 end ≡ Ok (rest, gate) →
          ((k : ℕ) → x.1 ≤ k → k ≤ gate → sector new k ≡ sector old k) → half_from fuel form (before + length x.0) new x.1 end ≡ Ok (rest, gate))
          → (o : Option (List (Asked A) × ℕ)) → record_at form before old at end ≡ Ok o →
          half_on at (Ok o) (λ x. half_from fuel form (before + length x.0) old x.1 end) ≡ Ok (entries, gate) →
          half_on at (record_at form before new at end) (λ x. half_from fuel form (before + length x.0) new x.1 end) ≡ Ok (entries, gate)
      on go None is f =
          let here : at ≡ gate = (ok_parts [] entries at gate f).1 in
          let closed : IsClosed (sector new at) = λ opened. is_shut before old at end is (ap (λ (bytes : List ℕ). slice_index bytes 0) (sym (same at (omega arith) (omega (arith, here)))) ∙ opened) in
          rw (shut before new at end closed) f
      on go (Some x) is f =
          let there = opened form before old at end x is in
          let rest = prefix_is ((at + 1, x.0) ∷ []) (half_from fuel form (before + length x.0) old x.1 end) entries gate f in
          let up = goes_up fuel (before + length x.0) old x.1 end rest.0 gate rest.1 in
          let new_there = record_there before new at end x.0 x.1 (opened_same before old new at end x.0 x.1 there (λ k le lt. same k le (omega (arith, lt, up)))) in
          let tail = go x rest.0 rest.1 (λ k le lt. same k (omega (arith, le, there.next_is)) lt) in
          rw (new_there, tail) (ap (λ (l : List (RecordAt A)). Ok (l, gate)) (sym rest.2))

  pub same_half : (before : ℕ) (old new : List (List ℕ)) (at end : ℕ) (entries : List (RecordAt A)) (gate : ℕ) →
      half_of form before old at end ≡ Ok (entries, gate) → ((k : ℕ) → at ≤ k → k ≤ gate → sector new k ≡ sector old k) →
      half_of form before new at end ≡ Ok (entries, gate)
  same_half before old new at end entries gate e same = same_from (end - at) before old new at end entries gate e same

  pub last_gate : (fuel before : ℕ) (new : List (List ℕ)) (next end : ℕ) → IsClosed (sector new next) → half_from {A = A} fuel form before new next end ≡ Ok ([], next)
  unfolding half_from
  last_gate zero before new next end closed = refl
  last_gate (suc fuel) before new next end closed = rw (shut before new next end closed) refl

  -- with one record more
  pub more_from : (fuel before : ℕ) (old new : List (List ℕ)) (at end : ℕ) (entries : List (RecordAt A)) (gate : ℕ) (commands : List (Asked A))
      (next : ℕ) → end ≤ at + fuel → gate < end → half_from fuel form before old at end ≡ Ok (entries, gate)
      → ((k : ℕ) → at ≤ k → k < gate → sector new k ≡ sector old k) → Opened form (counted before entries) new gate end commands next →
      IsClosed (sector new next) → half_from fuel form before new at end ≡ Ok (entries ++ (gate + 1, commands) ∷ [], next)
  unfolding half_from
  more_from zero before old new at end entries gate commands next le lt e same is closed = let here : at ≡ gate = (ok_parts [] entries at gate e).1 in absurd (omega (arith, here, le, lt))
  more_from (suc fuel) before old new at end entries gate commands next le lt e same is closed =
      elim (record_at {A = A} form before old at end) as
      (λ r. record_at form before old at end ≡ r → half_on at r (λ x. half_from fuel form (before + length x.0) old x.1 end) ≡ Ok
      (entries, gate) → half_on at (record_at form before new at end) (λ x. half_from fuel form (before + length x.0) new x.1 end) ≡ Ok
      (entries ++ (gate + 1, commands) ∷ [], next)) [
        | Err fault ↦ λ was f. absurd cc
        | Ok o ↦ λ was f. on (λ x rest. more_from fuel (before + length x.0) old new x.1 end rest gate commands next) o was f
      ] refl e
    where
      on : ((x : List (Asked A) × ℕ) (rest : List (RecordAt A)) → end ≤ x.1 + fuel → gate < end →
          half_from fuel form (before + length x.0) old x.1 end ≡ Ok (rest, gate) → ((k : ℕ) → x.1 ≤ k → k < gate → sector new k ≡ sector old k) →
          Opened form (counted (before + length x.0) rest) new gate end commands next → IsClosed (sector new next)
          → half_from fuel form (before + length x.0) new x.1 end ≡ Ok (rest ++ (gate + 1, commands) ∷ [], next))
          → (o : Option (List (Asked A) × ℕ)) → record_at form before old at end ≡ Ok o →
          half_on at (Ok o) (λ x. half_from fuel form (before + length x.0) old x.1 end) ≡ Ok (entries, gate) →
          half_on at (record_at form before new at end) (λ x. half_from fuel form (before + length x.0) new x.1 end) ≡ Ok
          (entries ++ (gate + 1, commands) ∷ [], next)
      on go None was f =
          let here : at ≡ gate = (ok_parts [] entries at gate f).1 in
          let none : entries ≡ [] = sym ((ok_parts [] entries at gate f).0) in
          let same_count : counted before entries ≡ before = ap (counted before) none in
          let there = record_there before new gate end commands next (rw same_count at is) in
          rw (here, there, last_gate fuel (before + length commands) new next end closed, none) refl
      on go (Some x) was f =
          let there = opened form before old at end x was in
          let rest = prefix_is ((at + 1, x.0) ∷ []) (half_from fuel form (before + length x.0) old x.1 end) entries gate f in
          let up = goes_up fuel (before + length x.0) old x.1 end rest.0 gate rest.1 in
          let new_there = record_there before new at end x.0 x.1 (opened_same before old new at end x.0 x.1 there (λ k le lt. same k le (omega (arith, lt, up)))) in
          let tail = go x rest.0 (omega (arith, there.next_is, le)) lt rest.1 (λ k le lt. same k (omega (arith, le, there.next_is)) lt) (rw (ap (counted before) rest.2) at is) closed in
          rw (new_there, tail) (ap (λ (l : List (RecordAt A)). Ok (l ++ (gate + 1, commands) ∷ [], next)) (sym rest.2))

  pub half_more : (before : ℕ) (old new : List (List ℕ)) (at end : ℕ) (entries : List (RecordAt A)) (gate : ℕ) (commands : List (Asked A)) (next : ℕ) →
      gate < end → half_of form before old at end ≡ Ok (entries, gate) → ((k : ℕ) → at ≤ k → k < gate → sector new k ≡ sector old k)
      → Opened form (counted before entries) new gate end commands next → IsClosed (sector new next) → half_of form before new at end ≡ Ok (entries ++ (gate + 1, commands) ∷ [], next)
  half_more before old new at end entries gate commands next lt e same is closed = more_from (end - at) before old new at end entries gate commands next (omega arith) lt e same is closed

  -- the last gate's sector may hold anything that is closed
  pub still_from : (fuel before : ℕ) (old new : List (List ℕ)) (at end : ℕ) (entries : List (RecordAt A)) (gate : ℕ) →
      half_from fuel form before old at end ≡ Ok (entries, gate) → ((k : ℕ) → at ≤ k → k < gate → sector new k ≡ sector old k) →
      IsClosed (sector new gate)
      → half_from fuel form before new at end ≡ Ok (entries, gate)
  unfolding half_from
  still_from zero before old new at end entries gate e same closed = e
  still_from (suc fuel) before old new at end entries gate e same closed =
      elim (record_at {A = A} form before old at end) as
      (λ r. record_at form before old at end ≡ r → half_on at r (λ x. half_from fuel form (before + length x.0) old x.1 end) ≡ Ok
      (entries, gate) → half_on at (record_at form before new at end) (λ x. half_from fuel form (before + length x.0) new x.1 end) ≡ Ok
      (entries, gate)) [
        | Err fault ↦ λ is f. absurd cc
        | Ok o ↦ λ is f. on (λ x rest. still_from fuel (before + length x.0) old new x.1 end rest gate) o is f
      ] refl e
    where
      on : ((x : List (Asked A) × ℕ) (rest : List (RecordAt A)) → half_from fuel form (before + length x.0) old x.1 end ≡ Ok (rest, gate) →
          ((k : ℕ) → x.1 ≤ k → k < gate → sector new k ≡ sector old k) → IsClosed (sector new gate) →
          half_from fuel form (before + length x.0) new x.1 end ≡ Ok (rest, gate))
          → (o : Option (List (Asked A) × ℕ)) → record_at form before old at end ≡ Ok o →
          half_on at (Ok o) (λ x. half_from fuel form (before + length x.0) old x.1 end) ≡ Ok (entries, gate) →
          half_on at (record_at form before new at end) (λ x. half_from fuel form (before + length x.0) new x.1 end) ≡ Ok (entries, gate)
      on go None is f =
          let here : at ≡ gate = (ok_parts [] entries at gate f).1 in
          let shut_here : IsClosed (sector new at) = rw here closed in
          rw (shut before new at end shut_here) f
      on go (Some x) is f =
          let there = opened form before old at end x is in
          let rest = prefix_is ((at + 1, x.0) ∷ []) (half_from fuel form (before + length x.0) old x.1 end) entries gate f in
          let up = goes_up fuel (before + length x.0) old x.1 end rest.0 gate rest.1 in
          let new_there = record_there before new at end x.0 x.1 (opened_same before old new at end x.0 x.1 there (λ k le lt. same k le (omega (arith, lt, up)))) in
          let tail = go x rest.0 rest.1 (λ k le lt. same k (omega (arith, le, there.next_is)) lt) closed in
          rw (new_there, tail) (ap (λ (l : List (RecordAt A)). Ok (l, gate)) (sym rest.2))

  pub still_shut : (before : ℕ) (old new : List (List ℕ)) (at end : ℕ) (entries : List (RecordAt A)) (gate : ℕ) →
      half_of form before old at end ≡ Ok (entries, gate) → ((k : ℕ) → at ≤ k → k < gate → sector new k ≡ sector old k) → IsClosed (sector new gate)
      → half_of form before new at end ≡ Ok (entries, gate)
  still_shut before old new at end entries gate e same closed = still_from (end - at) before old new at end entries gate e same closed
