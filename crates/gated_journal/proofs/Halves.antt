-- How a half is read, record by record.
use Rattle.std.proofs.Common.{cond, eqb, leb, ltb, ◌≡◌, ℕ, zero, suc, ◌-◌, ◌+◌, ◌≤◌, ◌<◌, List, [], ◌∷◌, ◌++◌, length, slice_index, true, false, Bool}
use Rattle.std.proofs.Common.{Option, Some, None, Result, Ok, Err, refl, sym, ap, ◌∙◌, append_assoc, arith}
use Rattle.std.proofs.lemmas.List.{append-nil}
use Rattle.std.specs.Prelude.{◌&&◌}
use Rattle.std.proofs.lemmas.Bool.{ltb-true, leb-true, eqb-true}
use Rattle.std.proofs.lemmas.Bool.Decides.{nat_tests}
use Rattle.base.proofs.Bools.{both_true}
use Rattle.sector_disk.specs.Disk.{sector}
use Rattle.gated_journal.specs.declared.fault.JournalError.{JournalError}
use Rattle.gated_journal.specs.declared.fault.JournalError.TheVariants.{JournalFull, DiskFault, Damaged, NoMemory}
use Rattle.gated_journal.specs.Reading.{Fails}
use Rattle.centre_core.specs.Asked.{Asked}
use Rattle.gated_journal.specs.Record.{most_data_sectors, record_of}
use Rattle.gated_journal.specs.declared.form.Form.{Form}
use Rattle.gated_journal.specs.declared.form.Form.TheVariants.{Numbered, Plain}
use Rattle.gated_journal.specs.Half.{counted, data_from, stated_size, Found, found, record_at, RecordAt, Half, with_prefix, half_on, half_from, half_of}

open_cond : {X : Type 0} (b : Bool) (x : Result (Option X) ℕ) (y : X) → cond b x (Ok None) ≡ Ok (Some y) → (b ≡ true) × (x ≡ Ok (Some y))
open_cond true x y e = (refl, e)
open_cond false x y e = absurd cc

good_cond : {X : Type 0} (b : Bool) (s : ℕ) (x : Result X ℕ) (y : X) → cond b (Err s) x ≡ Ok y → (b ≡ false) × (x ≡ Ok y)
good_cond true s x y e = absurd cc
good_cond false s x y e = (refl, e)

within_cond : {X : Type 0} (b : Bool) (s : ℕ) (x : Result X ℕ) (y : X) → cond b x (Err s) ≡ Ok y → (b ≡ true) × (x ≡ Ok y)
within_cond true s x y e = (refl, e)
within_cond false s x y e = absurd cc

pub both : (size next end : ℕ) → size ≤ most_data_sectors → next < end → (leb size most_data_sectors && ltb next end) ≡ true
both size next end few within =
    let a : leb size most_data_sectors ≡ true = grind (arith, nat_tests) in
    let b : ltb next end ≡ true = grind (arith, nat_tests) in
    rw (a, b) refl

-- a record takes one data sector at least
pub stated_some : (form : Form) (bytes : List ℕ) → 1 ≤ stated_size form bytes
stated_some Plain bytes = omega arith
stated_some Numbered bytes = omega arith

module _ {A : Type 0} where
  -- where a record ends
  found_is : (at next : ℕ) (commands : Option (List (Asked A))) (x : List (Asked A) × ℕ) → found at next commands ≡ Ok (Some x) → (commands ≡ Some x.0) × (x.1 ≡ next)
  found_is at next None x e = absurd cc
  found_is at next (Some commands) x e = (cc, cc)

  -- what an open gate with a record says
  pub record Opened (form : Form) (before : ℕ) (image : List (List ℕ)) (at end : ℕ) (commands : List (Asked A)) (next : ℕ) : Type 0 where
    pub gate : slice_index (sector image at) 0 ≡ 1
    pub next_is : next ≡ at + 1 + stated_size form (sector image (at + 1))
    pub few : stated_size form (sector image (at + 1)) ≤ most_data_sectors
    pub within : next < end
    pub read : record_of form before (data_from image (at + 1) (stated_size form (sector image (at + 1)))) ≡ Some commands

  pub opened : (form : Form) (before : ℕ) (image : List (List ℕ)) (at end : ℕ) (x : List (Asked A) × ℕ) → record_at form before image at end ≡ Ok (Some x) → Opened form before image at end x.0 x.1
  unfolding record_at
  opened form before image at end x e =
      let size = stated_size form (sector image (at + 1)) in
      let next = at + 1 + size in
      let read = found (at + 1) next (record_of form before (data_from image (at + 1) (stated_size form (sector image (at + 1))))) in
      let a = open_cond (eqb (slice_index (sector image at) 0) 1) (cond (eqb (at + 1) end) (Err at) (cond (leb size most_data_sectors && ltb next end) read (Err (at + 1)))) x e in
      let b = good_cond (eqb (at + 1) end) at (cond (leb size most_data_sectors && ltb next end) read (Err (at + 1))) (Some x) a.1 in
      let d = within_cond (leb size most_data_sectors && ltb next end) (at + 1) read (Some x) b.1 in
      let both = both_true (leb size most_data_sectors) (ltb next end) d.0 in
      let is = found_is (at + 1) next (record_of form before (data_from image (at + 1) (stated_size form (sector image (at + 1))))) x d.1 in
      record { gate = eqb-true _ _ a.0; next_is = is.1; few = leb-true _ _ both.0; within = rw is.1 (ltb-true _ _ both.1); read = is.0 }

  module _ (form : Form) where
    -- the same half, with more fuel
    same_fuel : (f g before : ℕ) (image : List (List ℕ)) (at end : ℕ) → at < end → end ≤ at + f → end ≤ at + g → half_from {A = A} f form before image at end ≡ half_from g form before image at end
    unfolding half_from
    same_fuel zero g before image at end lt lf lg = absurd (omega (arith, lt, lf))
    same_fuel (suc f) zero before image at end lt lf lg = absurd (omega (arith, lt, lg))
    same_fuel (suc f) (suc g) before image at end lt lf lg =
        elim (record_at {A = A} form before image at end) as
        (λ r. record_at form before image at end ≡ r → half_on at r (λ x. half_from f form (before + length x.0) image x.1 end) ≡ half_on at r
        (λ x. half_from g form (before + length x.0) image x.1 end)) [
          | Err fault ↦ λ e. refl
          | Ok o ↦ λ e. some_record (λ x. same_fuel f g (before + length x.0) image x.1 end) o e
        ] refl
      where
        some_record : ((x : List (Asked A) × ℕ) → x.1 < end → end ≤ x.1 + f → end ≤ x.1 + g →
            half_from {A = A} f form (before + length x.0) image x.1 end ≡ half_from g form (before + length x.0) image x.1 end)
            → (o : Option (List (Asked A) × ℕ)) → record_at form before image at end ≡ Ok o
            → half_on at (Ok o) (λ x. half_from f form (before + length x.0) image x.1 end) ≡ half_on at (Ok o) (λ x. half_from g form (before + length x.0) image x.1 end)
        some_record go None e = refl
        some_record go (Some x) e =
            let is = opened form before image at end x e in
            ap (with_prefix ((at + 1, x.0) ∷ [])) (go x is.within (omega (arith, is.next_is, lf)) (omega (arith, is.next_is, lg)))

    -- the half after a record
    abbrev following : ℕ → List (List ℕ) → ℕ → List (Asked A) × ℕ → Half A
    following before image end x = half_of form (before + length x.0) image x.1 end

    goes_same : (f before : ℕ) (image : List (List ℕ)) (at end : ℕ) → at < end → end ≤ at + suc f
        → half_on {A = A} at (record_at form before image at end) (λ x. half_from f form (before + length x.0) image x.1 end) ≡ half_on at
        (record_at form before image at end) (following before image end)
    goes_same f before image at end lt le =
        elim (record_at {A = A} form before image at end) as
        (λ r. record_at form before image at end ≡ r → half_on at r (λ x. half_from f form (before + length x.0) image x.1 end) ≡ half_on at r
        (following before image end)) [
          | Err fault ↦ λ e. refl
          | Ok o ↦ λ e. some_record o e
        ] refl
      where
        some_record : (o : Option (List (Asked A) × ℕ)) → record_at form before image at end ≡ Ok o →
            half_on at (Ok o) (λ x. half_from f form (before + length x.0) image x.1 end) ≡ half_on at (Ok o) (following before image end)
        some_record None e = refl
        some_record (Some x) e =
            let is = opened form before image at end x e in
            ap (with_prefix ((at + 1, x.0) ∷ [])) (same_fuel f (end - x.1) (before + length x.0) image x.1 end is.within (omega (arith, is.next_is, le)) (omega arith))

    -- a half is its first record and the half after it
    unrolled : (before : ℕ) (image : List (List ℕ)) (at end : ℕ) → at < end → half_of {A = A} form before image at end ≡ half_on at (record_at form before image at end) (following before image end)
    unfolding half_from
    unrolled before image at end lt =
        let k : end - at ≡ suc (end - (at + 1)) = omega arith in
        ap (λ (n : ℕ). half_from n form before image at end) k ∙ goes_same (end - (at + 1)) before image at end lt (omega arith)

  -- ---- in a loop

  prefixes_append : (prefix more : List (RecordAt A)) (half : Half A) → with_prefix prefix (with_prefix more half) ≡ with_prefix (prefix ++ more) half
  prefixes_append prefix more (Ok half) = ap (λ (entries : List (RecordAt A)). Ok (entries, half.1)) (sym (append_assoc prefix more half.0))
  prefixes_append prefix more (Err s) = refl

  pub prefix_none : (half : Half A) → with_prefix [] half ≡ half
  prefix_none (Ok half) = refl
  prefix_none (Err s) = refl

  module _ (form : Form) (before : ℕ) (image : List (List ℕ)) (at end : ℕ) (prefix : List (RecordAt A)) (total : Half A) (lt : at < end)
      (so_far : with_prefix prefix (half_of form before image at end) ≡ total) where
    first_is : (r : Found A) → record_at form before image at end ≡ r → half_of form before image at end ≡ half_on at r (following form before image end)
    first_is r e = unrolled form before image at end lt ∙ ap (λ (r : Found A). half_on at r (following form before image end)) e

    pub prefix_more : (commands : List (Asked A)) (next : ℕ) → record_at form before image at end ≡ Ok (Some (commands, next)) →
        with_prefix (prefix ++ (at + 1, commands) ∷ []) (half_of form (before + length commands) image next end) ≡ total
    prefix_more commands next e =
        sym (prefixes_append prefix ((at + 1, commands) ∷ []) (half_of form (before + length commands) image next end)) ∙
        ap (with_prefix prefix) (sym (first_is (Ok (Some (commands, next))) e)) ∙ so_far

    pub prefix_closed : record_at {A = A} form before image at end ≡ Ok None → total ≡ Ok (prefix, at)
    prefix_closed e = sym so_far ∙ ap (with_prefix prefix) (first_is (Ok None) e) ∙ ap (λ (entries : List (RecordAt A)). Ok (entries, at)) (append-nil prefix)

    prefix_fault : (s : ℕ) → record_at {A = A} form before image at end ≡ Err s → total ≡ Err s
    prefix_fault s e = sym so_far ∙ ap (with_prefix prefix) (first_is (Err s) e)

    -- an error of one record is one of the whole
    pub error_on : (e : JournalError) → Fails e (record_at {A = A} form before image at end) → Fails e total
    error_on (Damaged s) is = prefix_fault s is
    error_on DiskFault is = tt
    error_on NoMemory is = tt
    error_on JournalFull is = is

  -- ---- how many are accepted

  pub counted_more : (before : ℕ) (entries : List (RecordAt A)) (last : RecordAt A) → counted before (entries ++ last ∷ []) ≡ counted before entries + length last.1
  counted_more before [] last = refl
  counted_more before (entry ∷ entries) last = counted_more (before + length entry.1) entries last
