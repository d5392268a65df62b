-- Halves that are settled: a new one, and one that was read.
use Rattle.std.proofs.Common.{◌≡◌, ℕ, ◌-◌, ◌<◌, List, [], false, Ok, refl}
use Rattle.sector_disk.specs.Disk.{View, IsImageOf, IsSound, sector}
use Rattle.sector_disk.proofs.Moments.{only_image}
use Rattle.gated_journal.specs.Half.{RecordAt, IsClosed, counted, half_of}
use Rattle.gated_journal.specs.Settled.{IsSettled}
use Rattle.gated_journal.specs.declared.form.Form.{Form}
use Rattle.gated_journal.specs.declared.place.Place.{Place}
use Rattle.gated_journal.proofs.Chain.{last_gate}

module _ {A : Type 0} where
  pub begun : (disk : View) (first end before : ℕ) (form : Form) → first < end → ((image : List (List ℕ)) → IsImageOf disk image → IsClosed (sector image first))
      → IsSettled {A = A} disk (record { first = first; end = end; next = first; form = form; count = before }) before []
  begun disk first end before form lt closed = record { begins = lt; within = lt; counts = refl; half = λ image is. last_gate form (end - first) before image first end (closed image is) }

  pub was_read : (disk : View) (place : Place) (before : ℕ) (entries : List (RecordAt A)) → place.first < place.end → place.next < place.end →
      counted before entries ≡ place.count → ((k : ℕ) → disk.pending k ≡ false) →
      half_of place.form before disk.reads place.first place.end ≡ Ok (entries, place.next)
      → IsSettled disk place before entries
  was_read disk place before entries begins within counts durable reads = record {
    begins = begins;
    within = within;
    counts = counts;
    half = λ image is. rw (only_image disk durable image is) reads;
  }

  pub reads_so : (disk : View) (place : Place) (before : ℕ) (entries : List (RecordAt A)) → IsSound disk → IsSettled disk place before entries →
      half_of place.form before disk.reads place.first place.end ≡ Ok (entries, place.next)
  reads_so disk place before entries sound settled = settled.half disk.reads sound.reads_left
