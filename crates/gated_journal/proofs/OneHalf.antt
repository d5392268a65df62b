-- One half while a record is added to it, whatever becomes of the sectors outside.
use Rattle.std.proofs.Common.{◌≡◌, ◌≢◌, ◌⊎◌, inl, inr, ℕ, ◌+◌, ◌<◌, ◌≤◌, List, [], ◌∷◌, ◌++◌, length, slice_index, Ok, sym, ◌∙◌, ap, arith}
use Rattle.std.proofs.lemmas.Bool.{cases_eq}
use Rattle.centre_core.specs.Asked.{Asked}
use Rattle.sector_disk.specs.Disk.{sector}
use Rattle.gated_journal.specs.Half.{RecordAt, IsOpen, IsClosed, counted, half_of}
use Rattle.gated_journal.specs.Record.{data_sector, data_size}
use Rattle.gated_journal.specs.Settled.{IsWithOrWithout}
use Rattle.gated_journal.specs.declared.place.Place.{Place}
use Rattle.gated_journal.specs.Inside.Next.{IsNext}
use Rattle.gated_journal.proofs.Halves.{Opened, counted_more}
use Rattle.gated_journal.proofs.Written.{record_written}
use Rattle.gated_journal.proofs.Chain.{same_half, still_shut, half_more, closed_after}

-- a sector outside the half is not among these
pub beyond_half : (x : Place) (at n : ℕ) → x.first ≤ at → at + n ≤ x.end → (k : ℕ) → (k < x.first) ⊎ (x.end ≤ k) → (k < at) ⊎ (at + n ≤ k)
beyond_half x at n low high k (inl below) = inl (omega (arith, low, below))
beyond_half x at n low high k (inr above) = inr (omega (arith, high, above))

closed_as : (old new : List ℕ) → new ≡ old → IsClosed old → IsClosed new
closed_as old new same closed is = closed (ap (λ (bytes : List ℕ). slice_index bytes 0) (sym same) ∙ is)

-- with one record more, so many are accepted
pub counted_on : {A : Type 0} (place : Place) (before : ℕ) (entries : List (RecordAt A)) (commands : List (Asked A)) →
    counted before entries ≡ place.count → counted before (entries ++ (place.next + 1, commands) ∷ []) ≡ place.count + length commands
counted_on place before entries commands counts = counted_more before entries (place.next + 1, commands) ∙ ap (λ (n : ℕ). n + length commands) counts

-- where the record's text follows an open gate, it is read
abbrev pub IsReadBack : {A : Type 0} → Place → ℕ → List (RecordAt A) → List (Asked A) → List ℕ → Type 0
IsReadBack place before entries commands text =
    (image : List (List ℕ)) → IsOpen (sector image place.next) → ((k : ℕ) → k < data_size text → sector image (place.next + 1 + k) ≡ data_sector text k)
    → Opened place.form (counted before entries) image place.next place.end commands (place.next + 1 + data_size text)

-- so is the text of the place's next record
pub next_read : {A : Type 0} (place : Place) (before : ℕ) (entries : List (RecordAt A)) (commands : List (Asked A)) (text : List ℕ) →
    IsNext place commands text → counted before entries ≡ place.count → place.next + data_size text + 2 ≤ place.end →
    IsReadBack place before entries commands text
next_read place before entries commands text is counts room image opened are =
    rw counts (record_written place.form place.count image place.next place.end commands is.number is.record_is text is.text_is opened are
    (omega (arith, room)))

module _ {A : Type 0} (place : Place) (before : ℕ) (entries : List (RecordAt A)) (commands : List (Asked A)) (text : List ℕ)
    (read : IsReadBack place before entries commands text) (room : place.next + data_size text + 2 ≤ place.end) where
  -- two disks are the same in the half, but for its next gate
  abbrev pub SameBut : List (List ℕ) → List (List ℕ) → Type 0
  SameBut sectors image = (k : ℕ) → place.first ≤ k → k < place.end → k ≢ place.next → sector image k ≡ sector sectors k

  -- the text's sectors and a closed gate after the gate at rest
  pub record IsStaged (sectors : List (List ℕ)) : Type 0 where
    pub chain : half_of place.form before sectors place.first place.end ≡ Ok (entries, place.next)
    pub after_it : (k : ℕ) → k < data_size text + 1 → sector sectors (place.next + 1 + k) ≡ data_sector text k

  -- nothing is torn up to the gate
  pub following : (was image : List (List ℕ)) → half_of place.form before was place.first place.end ≡ Ok (entries, place.next) →
      ((k : ℕ) → place.first ≤ k → k ≤ place.next → sector image k ≡ sector was k) →
      IsWithOrWithout place before entries (place.next + 1, commands) image
  following was image half same = inl (place.next, same_half place.form before was image place.first place.end entries place.next half same)

  -- the gate is open, with the text and a closed gate after it
  pub with_record : (sectors image : List (List ℕ)) → place.first ≤ place.next → IsStaged sectors → SameBut sectors image → IsOpen (sector image place.next)
      → half_of place.form before image place.first place.end ≡ Ok (entries ++ (place.next + 1, commands) ∷ [], place.next + (data_size text + 1))
  with_record sectors image up is same opened =
      let last : place.next + 1 + data_size text ≡ place.next + (data_size text + 1) = omega arith in
      let not_gate : place.next + 1 + data_size text ≢ place.next = omega arith in
      let after_it : IsClosed (sector image (place.next + 1 + data_size text)) =
      closed_as (data_sector text (data_size text)) (sector image (place.next + 1 + data_size text))
      (same (place.next + 1 + data_size text) (omega (arith, up)) (omega (arith, room)) not_gate ∙ is.after_it (data_size text) (omega arith))
      (closed_after text) in
      let there = read image opened (λ k lt. let other : place.next + 1 + k ≢ place.next = omega arith in
      same (place.next + 1 + k) (omega (arith, up)) (omega (arith, lt, room)) other ∙ is.after_it k (omega (arith, lt))) in
      rw (← last) (half_more place.form before sectors image place.first place.end entries place.next commands (place.next + 1 + data_size text) (omega (arith, room)) is.chain
      (λ k le lt. let other : k ≢ place.next = omega (arith, lt) in same k le (omega (arith, lt, room)) other) there after_it)

  -- whatever is in the gate's sector
  pub open_or_not : (sectors image : List (List ℕ)) → place.first ≤ place.next → IsStaged sectors → SameBut sectors image → IsWithOrWithout place before entries (place.next + 1, commands) image
  open_or_not sectors image up is same = elim (cases_eq (slice_index (sector image place.next) 0) 1) [
    | inl opened ↦ inr (place.next + (data_size text + 1), with_record sectors image up is same opened)
    | inr shut ↦ inl (
      place.next,
      still_shut place.form before sectors image place.first place.end entries place.next is.chain
          (λ k le lt. let other : k ≢ place.next = omega (arith, lt) in same k le (omega (arith, lt, room)) other) shut,
    )
  ]
