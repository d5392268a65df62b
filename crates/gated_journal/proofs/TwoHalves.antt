-- What a stop leaves in each step of an append to two halves.
use Rattle.std.proofs.Common.{◌≡◌, ◌≢◌, ◌⊎◌, inl, inr, ℕ, ◌+◌, ◌-◌, ◌<◌, ◌≤◌, false, List, [], ◌∷◌, ◌++◌, slice_index, Result, Ok, ◌∙◌, ap, arith}
use Rattle.std.proofs.lemmas.Bool.{cases_lt}
use Rattle.centre_core.specs.Asked.{Asked}
use Rattle.sector_disk.specs.Disk.{View, IsImageOf, sector}
use Rattle.sector_disk.specs.Run.{LeavesOnly}
use Rattle.sector_disk.specs.declared.disk.DiskError.{DiskError}
use Rattle.sector_disk.proofs.Moments.{run_on, weaker, durable_image}
use Rattle.gated_journal.specs.Inside.Filling.{HasFilledTwice}
use Rattle.gated_journal.specs.Twice.{IsTornTwiceImage}
use Rattle.gated_journal.specs.Half.{RecordAt, IsOpen, counted}
use Rattle.gated_journal.specs.Inside.Next.{IsNext, counting}
use Rattle.gated_journal.specs.Record.{data_sector, data_size}
use Rattle.gated_journal.specs.Settled.{IsSettled, LeavesBoth}
use Rattle.gated_journal.specs.declared.place.Place.{Place}
use Rattle.gated_journal.proofs.Chain.{half_up, same_half}
use Rattle.gated_journal.proofs.OneHalf.{IsReadBack, IsStaged, following, beyond_half, counted_on, next_read, open_or_not, with_record}

-- two halves of one disk
abbrev AreApart : Place → Place → Type 0
AreApart x y = (x.end ≤ y.first) ⊎ (y.end ≤ x.first)

swapped : (x y : Place) → AreApart x y → AreApart y x
swapped x y (inl a) = inr a
swapped x y (inr a) = inl a

-- a sector of x lies outside what is written of y
outside : (x y : Place) (at n : ℕ) → AreApart x y → y.first ≤ at → at + n ≤ y.end → (k : ℕ) → x.first ≤ k → k < x.end → (k < at) ⊎ (at + n ≤ k)
outside x y at n (inl a) low high k le lt = inl (omega (arith, a, low, lt))
outside x y at n (inr a) low high k le lt = inr (omega (arith, a, high, le))

-- a sector outside a half lies outside what is written there
beyond : (x : Place) (at n : ℕ) → x.first < x.end → x.first ≤ at → at + n ≤ x.end → (k : ℕ) → (k < x.first) ⊎ (x.first + (x.end - x.first) ≤ k) → (k < at) ⊎ (at + n ≤ k)
beyond x at n begins low high k (inl below) = inl (omega (arith, low, below))
beyond x at n begins low high k (inr above) = inr (omega (arith, high, above, begins))

other_than : (at k : ℕ) → k ≢ at → (k < at) ⊎ (at + 1 ≤ k)
other_than at k other = elim (cases_lt k at) [ inl below ↦ inl below | inr above ↦ inr (omega (arith, above, other)) ]

-- one of two halves, with what is added to it
pub record IsAdding {A : Type 0} (place : Place) (before : ℕ) (entries : List (RecordAt A)) (commands : List (Asked A)) (text : List ℕ) : Type 0 where
  pub read : IsReadBack place before entries commands text
  pub room : place.next + data_size text + 2 ≤ place.end

module _ {A : Type 0} (x y : Place) (before start : ℕ) (entries others : List (RecordAt A)) (commands : List (Asked A)) (text other : List ℕ)
    (adds : IsAdding x before entries commands text) (adds_other : IsAdding y start others commands other) (apart : AreApart x y) where
  abbrev pub Left : View → List (List ℕ) → Type 0
  Left old = LeavesBoth old x y before start entries others (x.next + 1, commands) (y.next + 1, commands)

  -- the texts are being written
  abbrev pub Texts : View → List (List ℕ) → Type 0
  Texts old = IsTornTwiceImage old (x.next + 1) (data_size text + 1) (y.next + 1) (data_size other + 1)

  abbrev pub Gates : View → List (List ℕ) → Type 0
  Gates mid = IsTornTwiceImage mid x.next 1 y.next 1

  module _ (old : View) (whole : IsImageOf old old.reads) (settled : IsSettled old x before entries) (also : IsSettled old y start others) where
    up : x.first ≤ x.next
    up = half_up x.form before old.reads x.first x.end entries x.next (settled.half old.reads whole)

    up_also : y.first ≤ y.next
    up_also = half_up y.form start old.reads y.first y.end others y.next (also.half old.reads whole)

    in_texts : (image : List (List ℕ)) → Texts old image → Left old image
    in_texts image (was, is, torn) = record {
      elsewhere = (
        was,
        is,
        record {
          count = torn.count;
          others = λ k out far.
              torn.others k (beyond x (x.next + 1) (data_size text + 1) settled.begins (omega (arith, up))
              (let room = adds.room in omega (arith, room)) k out)
              (beyond y (y.next + 1) (data_size other + 1) also.begins (omega (arith, up_also)) (let room = adds_other.room in omega (arith, room)) k
              far);
        },
      );
      half = following x before entries commands text adds.read adds.room was image (settled.half was is)
          (λ k le lt. torn.others k (inl (omega (arith, lt)))
          (outside x y (y.next + 1) (data_size other + 1) apart (omega (arith, up_also)) (let room = adds_other.room in omega (arith, room)) k le
          (let within = settled.within in omega (arith, lt, within))));
      other_half = following y start others commands other adds_other.read adds_other.room was image (also.half was is)
          (λ k le lt. torn.others k
          (outside y x (x.next + 1) (data_size text + 1) (swapped x y apart) (omega (arith, up)) (let room = adds.room in omega (arith, room)) k le
          (let within = also.within in omega (arith, lt, within))) (inl (omega (arith, lt))));
    }

    pub fills : (new : View) (result : Result Unit DiskError) → HasFilledTwice old new (x.next + 1) (data_size text + 1) (data_sector text)
        (y.next + 1) (data_size other + 1) (data_sector other) result → LeavesOnly old new (Left old)
    fills new result has = weaker old new (Texts old) (Left old) has.crash in_texts

    module _ (synced : View)
        (has : HasFilledTwice old synced (x.next + 1) (data_size text + 1) (data_sector text) (y.next + 1) (data_size other + 1) (data_sector other)
        (Ok tt)) (durable : (k : ℕ) → synced.pending k ≡ false) where
      staged : IsStaged x before entries commands text adds.read adds.room synced.reads
      staged = record {
        chain = same_half x.form before old.reads synced.reads x.first x.end entries x.next (settled.half old.reads whole)
            (λ k le lt. has.others k (inl (omega (arith, lt)))
            (outside x y (y.next + 1) (data_size other + 1) apart (omega (arith, up_also)) (let room = adds_other.room in omega (arith, room)) k le
            (let within = settled.within in omega (arith, lt, within))));
        after_it = has.written;
      }

      staged_also : IsStaged y start others commands other adds_other.read adds_other.room synced.reads
      staged_also = record {
        chain = same_half y.form start old.reads synced.reads y.first y.end others y.next (also.half old.reads whole)
            (λ k le lt. has.others k
            (outside y x (x.next + 1) (data_size text + 1) (swapped x y apart) (omega (arith, up)) (let room = adds.room in omega (arith, room)) k
            le (let within = also.within in omega (arith, lt, within))) (inl (omega (arith, lt))));
        after_it = has.also;
      }

      -- an image in which at most the gates differ from what reads
      module _ (image : List (List ℕ)) (same : (k : ℕ) → (k < x.next) ⊎ (x.next + 1 ≤ k) → (k < y.next) ⊎ (y.next + 1 ≤ k) → sector image k ≡ sector synced.reads k) where
        same_x : (k : ℕ) → x.first ≤ k → k < x.end → k ≢ x.next → sector image k ≡ sector synced.reads k
        same_x k le lt not_gate = same k (other_than x.next k not_gate) (outside x y y.next 1 apart up_also (let within = also.within in omega (arith, within)) k le lt)

        same_y : (k : ℕ) → y.first ≤ k → k < y.end → k ≢ y.next → sector image k ≡ sector synced.reads k
        same_y k le lt not_gate = same k (outside y x x.next 1 (swapped x y apart) up (let within = settled.within in omega (arith, within)) k le lt) (other_than y.next k not_gate)

      in_gates : (image : List (List ℕ)) → Gates synced image → Left old image
      in_gates image (was, is, torn) =
          let same = λ (k : ℕ) (out : (k < x.next) ⊎ (x.next + 1 ≤ k)) (far : (k < y.next) ⊎ (y.next + 1 ≤ k)). torn.others k out far ∙ durable_image synced durable was is k in
          record {
            elsewhere = (
              old.reads,
              whole,
              record {
                count = torn.count ∙ is.count ∙ has.count;
                others = λ k out far. same k (beyond x x.next 1 settled.begins up (let within = settled.within in omega (arith, within)) k out)
                    (beyond y y.next 1 also.begins up_also (let within = also.within in omega (arith, within)) k far)
                    ∙ has.others k (beyond x (x.next + 1) (data_size text + 1) settled.begins (omega (arith, up))
                    (let room = adds.room in omega (arith, room)) k out)
                    (beyond y (y.next + 1) (data_size other + 1) also.begins (omega (arith, up_also))
                    (let room = adds_other.room in omega (arith, room)) k far);
              },
            );
            half = open_or_not x before entries commands text adds.read adds.room synced.reads image up staged (same_x image same);
            other_half = open_or_not y start others commands other adds_other.read adds_other.room synced.reads image up_also staged_also (same_y image same);
          }

      -- the gates are being opened
      pub opens : (new : View) (gate gate_also : ℕ → List ℕ) (result : Result Unit DiskError) → HasFilledTwice synced new x.next 1 gate y.next 1 gate_also result → LeavesOnly old new (Left old)
      opens new gate gate_also result wrote = run_on old synced new (Left old) (Gates synced) (fills synced (Ok tt) has) wrote.crash in_gates

      -- then the record is in both halves
      pub at_end : (new : View) (gate gate_also : ℕ → List ℕ) → HasFilledTwice synced new x.next 1 gate y.next 1 gate_also (Ok tt) →
          ((k : ℕ) → new.pending k ≡ false) → IsOpen (gate 0) → IsOpen (gate_also 0)
          → IsSettled new (counting (record x { next = x.next + (data_size text + 1) }) commands) before (entries ++ (x.next + 1, commands) ∷ []) ×
          IsSettled new (counting (record y { next = y.next + (data_size other + 1) }) commands) start (others ++ (y.next + 1, commands) ∷ [])
      at_end new gate gate_also wrote rests opened opened_also =
          let each : (image : List (List ℕ)) → IsImageOf new image → (k : ℕ) → sector image k ≡ sector new.reads k = λ image is k. durable_image new rests image is k in
          let same = λ (image : List (List ℕ)) (is : IsImageOf new image) (k : ℕ) (out : (k < x.next) ⊎ (x.next + 1 ≤ k))
          (far : (k < y.next) ⊎ (y.next + 1 ≤ k)). each image is k ∙ wrote.others k out far in
          let here : x.next ≡ x.next + 0 = omega arith in
          let here_also : y.next ≡ y.next + 0 = omega arith in
          let there : sector new.reads x.next ≡ gate 0 = ap (λ (k : ℕ). sector new.reads k) here ∙ wrote.written 0 (omega arith) in
          let there_also : sector new.reads y.next ≡ gate_also 0 = ap (λ (k : ℕ). sector new.reads k) here_also ∙ wrote.also 0 (omega arith) in
          let room = adds.room in
          let room_also = adds_other.room in (
            record {
              begins = settled.begins;
              within = omega (arith, room);
              counts = counted_on x before entries commands settled.counts;
              half = λ image is. with_record x before entries commands text adds.read adds.room synced.reads image up staged
                  (same_x image (same image is)) (ap (λ (bytes : List ℕ). slice_index bytes 0) (each image is x.next ∙ there) ∙ opened);
            },
            record {
              begins = also.begins;
              within = omega (arith, room_also);
              counts = counted_on y start others commands also.counts;
              half = λ image is. with_record y start others commands other adds_other.read adds_other.room synced.reads image up_also staged_also
                  (same_y image (same image is)) (ap (λ (bytes : List ℕ). slice_index bytes 0) (each image is y.next ∙ there_also) ∙ opened_also);
            },
          )

-- ---- as it is called

module _ (x y : Place) (text other : List ℕ) (apart : (x.end ≤ y.first) ⊎ (y.end ≤ x.first)) (up : x.first ≤ x.next) (up_also : y.first ≤ y.next)
    (fits : x.next + data_size text + 2 ≤ x.end) (other_fits : y.next + data_size other + 2 ≤ y.end) where
  pub texts_apart : (x.next + 1 + (data_size text + 1) ≤ y.next + 1) ⊎ (y.next + 1 + (data_size other + 1) ≤ x.next + 1)
  texts_apart = elim apart [ inl a ↦ inl (omega (arith, a, fits, up_also)) | inr a ↦ inr (omega (arith, a, other_fits, up)) ]

  pub gates_apart : (x.next + 1 ≤ y.next) ⊎ (y.next + 1 ≤ x.next)
  gates_apart = elim apart [ inl a ↦ inl (omega (arith, a, fits, up_also)) | inr a ↦ inr (omega (arith, a, other_fits, up)) ]

pub is_adding : {A : Type 0} (place : Place) (before : ℕ) (entries : List (RecordAt A)) (commands : List (Asked A)) (text : List ℕ) →
    IsNext place commands text → counted before entries ≡ place.count → place.next + data_size text + 2 ≤ place.end
    → IsAdding place before entries commands text
is_adding place before entries commands text is counts room = record { read = next_read place before entries commands text is counts room; room = room }

module _ (x y : Place) (text other : List ℕ) (up : x.first ≤ x.next) (up_also : y.first ≤ y.next) (fits : x.next + data_size text + 2 ≤ x.end) (other_fits : y.next + data_size other + 2 ≤ y.end) where
  -- all outside both halves reads as before
  pub elsewhere : (old synced new : View) (bytes more gate gate_also : ℕ → List ℕ) (first result : Result Unit DiskError) →
      HasFilledTwice old synced (x.next + 1) (data_size text + 1) bytes (y.next + 1) (data_size other + 1) more first →
      HasFilledTwice synced new x.next 1 gate y.next 1 gate_also result
      → (k : ℕ) → (k < x.first) ⊎ (x.end ≤ k) → (k < y.first) ⊎ (y.end ≤ k) → sector new.reads k ≡ sector old.reads k
  elsewhere old synced new bytes more gate gate_also first result has wrote k out far =
      wrote.others k (beyond_half x x.next 1 up (omega (arith, fits)) k out) (beyond_half y y.next 1 up_also (omega (arith, other_fits)) k far)
      ∙ has.others k (beyond_half x (x.next + 1) (data_size text + 1) (omega (arith, up)) (omega (arith, fits)) k out)
      (beyond_half y (y.next + 1) (data_size other + 1) (omega (arith, up_also)) (omega (arith, other_fits)) k far)
