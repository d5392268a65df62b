-- Bytes at a gate, judged.
use Rattle.std.proofs.Common.{◌≡◌, ◌+◌, ℕ, Bool, true, false, cond, eqb, leb, ltb, List, length, slice_index, Option, option_map, Some, None, Result, Ok, Err, refl, ap, ◌∙◌}
use Rattle.std.specs.Prelude.{◌&&◌, IsSome}
use Rattle.sector_disk.specs.Disk.{sector}
use Rattle.centre_core.specs.Asked.{Asked}
use Rattle.gated_journal.specs.declared.fault.JournalError.{JournalError}
use Rattle.gated_journal.specs.declared.fault.JournalError.TheVariants.{JournalFull, DiskFault, Damaged, NoMemory}
use Rattle.gated_journal.specs.declared.form.Form.{Form}
use Rattle.gated_journal.specs.Half.{Found, bytes_at, data_from, found, judged, record_at, stated_size}
use Rattle.gated_journal.specs.Reading.{Fails, HasRecord}
use Rattle.gated_journal.specs.Record.{most_data_sectors, record_of}

module _ {A : Type 0} where
  by_cases : (form : Form) (before : ℕ) (b c d : Bool) (at next : ℕ) (bytes : List ℕ)
      → ◌≡◌ {A = Found A} (cond b (cond c (Err at) (cond d (found (at + 1) next (record_of form before bytes)) (Err (at + 1)))) (Ok None))
      (judged form before at (cond b (cond c (Err at) (cond d (Ok (Some (bytes, next))) (Err (at + 1)))) (Ok None)))
  by_cases form before false c d at next bytes = refl
  by_cases form before true true d at next bytes = refl
  by_cases form before true false true at next bytes = refl
  by_cases form before true false false at next bytes = refl

  pub judged_at : (form : Form) (before : ℕ) (image : List (List ℕ)) (at end : ℕ) → record_at {A = A} form before image at end ≡ judged form before at (bytes_at form image at end)
  unfolding record_at bytes_at
  judged_at form before image at end =
      let size = stated_size form (sector image (at + 1)) in
      by_cases form before (eqb (slice_index (sector image at) 0) 1) (eqb (at + 1) end) (leb size most_data_sectors && ltb (at + 1 + size) end) at
      (at + 1 + size) (data_from image (at + 1) (stated_size form (sector image (at + 1))))

  module _ (form : Form) (before : ℕ) (image : List (List ℕ)) (at end : ℕ) where
    judged_as : (r : Result (Option (List ℕ × ℕ)) ℕ) → bytes_at form image at end ≡ r → record_at {A = A} form before image at end ≡ judged form before at r
    judged_as r is = judged_at form before image at end ∙ ap (judged form before at) is

    pub no_bytes : bytes_at form image at end ≡ Ok None → record_at {A = A} form before image at end ≡ Ok None
    no_bytes is = judged_as (Ok None) is

    pub no_record : (bytes : List ℕ) (next : ℕ) → bytes_at form image at end ≡ Ok (Some (bytes, next)) → record_of {A = A} form before bytes ≡ None →
        record_at {A = A} form before image at end ≡ Err (at + 1)
    no_record bytes next is none = judged_as (Ok (Some (bytes, next))) is ∙ ap (found (at + 1) next) none

    pub some_record : (bytes : List ℕ) (next : ℕ) (commands : List (Asked A)) → bytes_at form image at end ≡ Ok (Some (bytes, next)) →
        record_of form before bytes ≡ Some commands → record_at form before image at end ≡ Ok (Some (commands, next))
    some_record bytes next commands is some = judged_as (Ok (Some (bytes, next))) is ∙ ap (found (at + 1) next) some

    -- the same where it is only judged
    pub not_judged : (bytes : List ℕ) (next : ℕ) → bytes_at form image at end ≡ Ok (Some (bytes, next)) →
        option_map (λ commands. length commands) (record_of {A = A} form before bytes) ≡ None →
        record_at {A = A} form before image at end ≡ Err (at + 1)
    not_judged bytes next is test = no_record bytes next is (none_is (record_of form before bytes) test)
      where
        none_is : (o : Option (List (Asked A))) → option_map (λ commands. length commands) o ≡ None → o ≡ None
        none_is None e = refl
        none_is (Some x) e = absurd cc

    pub is_judged : (bytes : List ℕ) (next count : ℕ) → bytes_at form image at end ≡ Ok (Some (bytes, next)) →
        option_map (λ commands. length commands) (record_of {A = A} form before bytes) ≡ Some count
        → (commands : List (Asked A)) × (length commands ≡ count) × (record_at form before image at end ≡ Ok (Some (commands, next)))
    is_judged bytes next count is test = let some = some_is (record_of form before bytes) test in (some.0, some.1, some_record bytes next some.0 is some.2)
      where
        some_is : (o : Option (List (Asked A))) → option_map (λ commands. length commands) o ≡ Some count → (commands : List (Asked A)) × (length commands ≡ count) × (o ≡ Some commands)
        some_is None e = absurd cc
        some_is (Some x) e = (x, cc, refl)

    pub some_judged : (bytes : List ℕ) (next : ℕ) → bytes_at form image at end ≡ Ok (Some (bytes, next)) → IsSome (record_of {A = A} form before bytes) → HasRecord A form before image at end
    some_judged bytes next is there = let some = some_is (record_of form before bytes) there in ((some.0, next), some_record bytes next some.0 is some.1)
      where
        some_is : (o : Option (List (Asked A))) → IsSome o → (commands : List (Asked A)) × (o ≡ Some commands)
        some_is None e = absurd cc
        some_is (Some x) e = (x, refl)

-- a fault of the bytes is one of the record
pub bytes_fail : (A : Type 0) (form : Form) (before : ℕ) (image : List (List ℕ)) (at end : ℕ) (e : JournalError) →
    Fails e (bytes_at form image at end) → Fails e (record_at {A = A} form before image at end)
bytes_fail A form before image at end (Damaged s) is = judged_at form before image at end ∙ ap (judged form before at) is
bytes_fail A form before image at end DiskFault is = tt
bytes_fail A form before image at end NoMemory is = tt
bytes_fail A form before image at end JournalFull is = is
