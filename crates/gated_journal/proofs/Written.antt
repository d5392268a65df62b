-- A record that is on the disk is read back.
use Rattle.std.proofs.Common.{add-zero, length, map, replicate, ◌≡◌, ℕ, zero, suc, ◌-◌, ◌+◌, ◌*◌, ◌/◌, ◌<◌, ◌≤◌, List, [], ◌∷◌, ◌++◌, slice_index, refl, sym, ap, ◌∙◌, append_assoc, arith, inl, inr}
use Rattle.std.specs.List.{flat_map, range_with_len}
use Rattle.std.proofs.lemmas.List.{append-nil, length-append, length-replicate, get_or_past, get_or_append_left, get_or-append_right}
use Rattle.std.proofs.lemmas.List.FromFn.{get_or-map-range_with_len, map-range_with_len_more, fill_by_all}
use Rattle.std.proofs.lemmas.Bool.{cases_lt}
use Rattle.sector_disk.specs.Disk.{sector}
use Rattle.centre_core.specs.Asked.{Asked}
use Rattle.centre_core.specs.State.{last_number}
use Rattle.command_bytes.specs.Fields.{big}
use Rattle.command_bytes.specs.Text.{command_text, longest}
use Rattle.gated_journal.specs.Record.{Packed, IsRecord, data_sector, data_size, first_text, head_len, most_commands, most_data_sectors, pack, packed_text, record_text}
use Rattle.gated_journal.specs.declared.form.Form.{Form}
use Rattle.gated_journal.specs.declared.form.Form.TheVariants.{Numbered, Plain}
use Rattle.gated_journal.specs.Half.{IsOpen, data_from, stated_size}
use Rattle.gated_journal.specs.Inside.Next.{IsNext}
use Rattle.gated_journal.specs.declared.place.Place.{Place}
use Rattle.gated_journal.proofs.Halves.{Opened}
use Rattle.gated_journal.proofs.Listed.{fits, record_again}
use Rattle.gated_journal.proofs.Packed.{first_is, head_bytes, stated_bytes}
use Rattle.command_bytes.proofs.Numbers.{length-big}
use Rattle.gated_journal.proofs.Cut.{zeros_at}

-- ---- the sectors

ranges : (f : ℕ → ℕ) (a b : ℕ) → map f (range_with_len 0 (a + b)) ≡ map f (range_with_len 0 a) ++ map (λ i. f (a + i)) (range_with_len 0 b)
ranges f a zero = rw (append-nil, add-zero) refl
ranges f a (suc b) =
    let longer : a + suc b ≡ (a + b) + 1 = omega arith in
    let one : b + 1 ≡ suc b = omega arith in
    let here : 0 + b ≡ b = omega arith in
    let there : 0 + (a + b) ≡ a + b = omega arith in
    ap (λ (n : ℕ). map f (range_with_len 0 n)) longer ∙ map-range_with_len_more f 0 (a + b) (a + b) there ∙ ap (λ (l : List ℕ). l ++ f (a + b) ∷ []) (ranges f a b)
    ∙ append_assoc (map f (range_with_len 0 a)) (map (λ i. f (a + i)) (range_with_len 0 b)) (f (a + b) ∷ [])
    ∙ ap (λ (l : List ℕ). map f (range_with_len 0 a) ++ l) (sym (map-range_with_len_more (λ (i : ℕ). f (a + i)) 0 b b here) ∙ ap (λ (n : ℕ). map (λ (i : ℕ). f (a + i)) (range_with_len 0 n)) one)

data_text : (image : List (List ℕ)) (at n : ℕ) (text : List ℕ) → ((k : ℕ) → k < n → sector image (at + k) ≡ data_sector text k) →
    data_from image at n ≡ map (slice_index text) (range_with_len 0 (512 * n))
unfolding data_from data_sector
data_text image at zero text are = refl
data_text image at (suc n) text are =
    let longer : 512 * suc n ≡ 512 * n + 512 = omega arith in
    rw (longer, ranges (slice_index text) (512 * n) 512, data_text image at n text (λ k lt. are k (omega (arith, lt))), are n (omega arith)) refl

padded : (text : List ℕ) (z n : ℕ) → length text + z ≡ n → text ++ replicate z 0 ≡ map (slice_index text) (range_with_len 0 n)
padded text z n e = fill_by_all (slice_index text) (text ++ replicate z 0) n 0 (length-append text (replicate z 0) ∙ ap (λ (k : ℕ). length text + k) (length-replicate {A = ℕ} z 0) ∙ e)
    (λ k lt. elim (cases_lt k (length text)) [
      | inl within ↦ get_or_append_left text (replicate z 0) 0 k within
      | inr past ↦ get_or-append_right text (replicate z 0) (length text) k 0 refl past ∙ zeros_at z (k - length text) ∙ sym (get_or_past text k 0 past)
    ])

pub length-packed : (cs : Packed) → length (packed_text cs) ≡ 6 + length (first_text cs.first) + length cs.bytes
unfolding packed_text
length-packed cs =
    omega (
      arith,
      length-append (big 2 cs.count) (first_text cs.first ++ (big 4 (length cs.bytes) ++ cs.bytes)),
      length-append (first_text cs.first) (big 4 (length cs.bytes) ++ cs.bytes),
      length-append (big 4 (length cs.bytes)) cs.bytes,
      length-big 2 cs.count,
      length-big 4 (length cs.bytes),
    )

-- how long a record's text is
pub length-text : {A : Type 0} (form : Form) (before : ℕ) (cs : List (Asked A)) → length (record_text form before cs) ≡ head_len form + length (flat_map command_text cs)
length-text form before cs = omega (arith, length-packed (pack form before cs), head_bytes form before)

sector_byte : (text : List ℕ) (i : ℕ) → i < 512 → slice_index (data_sector text 0) i ≡ slice_index text i
unfolding data_sector
sector_byte text i lt = let here : 512 * 0 + i ≡ i = omega arith in get_or-map-range_with_len (λ (j : ℕ). slice_index text (512 * 0 + j)) 0 512 i i 0 lt (omega arith) ∙ ap (slice_index text) here

stated_sector : (form : Form) (text : List ℕ) → stated_size form (data_sector text 0) ≡ stated_size form text
stated_sector Plain text =
    let two = sector_byte text 2 (omega arith) in
    let three = sector_byte text 3 (omega arith) in
    let four = sector_byte text 4 (omega arith) in
    let five = sector_byte text 5 (omega arith) in
    rw (two, three, four, five) refl
stated_sector Numbered text =
    let ten = sector_byte text 10 (omega arith) in
    let eleven = sector_byte text 11 (omega arith) in
    let twelve = sector_byte text 12 (omega arith) in
    let thirteen = sector_byte text 13 (omega arith) in
    rw (ten, eleven, twelve, thirteen) refl

pub head_most : (form : Form) → (6 ≤ head_len form) × (head_len form ≤ 14)
head_most Plain = (omega arith, omega arith)
head_most Numbered = (omega arith, omega arith)

-- a record's text has a byte, and is not long
pub text_short : {A : Type 0} (form : Form) (before : ℕ) (cs : List (Asked A)) → IsRecord cs → (6 ≤ length (record_text form before cs)) ×
    (length (record_text form before cs) ≤ 14 + longest * most_commands)
text_short form before cs is =
    let packed = fits form before cs is in
    let most = head_most form in
    (omega (arith, length-text form before cs, most.0), omega (arith, length-text form before cs, most.1, packed.short, packed.few))

pub next_short : {A : Type 0} (place : Place) (cs : List (Asked A)) (text : List ℕ) → IsNext place cs text → (6 ≤ length text) × (length text ≤ 14 + longest * most_commands)
next_short place cs text is =
    let short = text_short place.form place.count cs is.record_is in
    (omega (arith, ap length is.text_is, short.0), omega (arith, ap length is.text_is, short.1))

-- the data sectors of a record after an open gate are read
pub record_written : {A : Type 0} (form : Form) (before : ℕ) (image : List (List ℕ)) (at end : ℕ) (cs : List (Asked A)) → before < last_number →
    IsRecord cs → (text : List ℕ) → text ≡ record_text form before cs → IsOpen (sector image at) →
    ((k : ℕ) → k < data_size text → sector image (at + 1 + k) ≡ data_sector text k)
    → at + 1 + data_size text < end → Opened form before image at end cs (at + 1 + data_size text)
record_written form before image at end cs small is text text_is opened are within =
    let packed = fits form before cs is in
    let short = text_short form before cs is in
    let long : length text ≡ length (record_text form before cs) = ap length text_is in
    let here : at + 1 + 0 ≡ at + 1 = omega arith in
    let first : sector image (at + 1) ≡ data_sector text 0 = rw here at (are 0 (omega (arith, long, short.0))) in
    let stated : stated_size form (sector image (at + 1)) ≡ (length (flat_map command_text cs) + (511 + head_len form)) / 512 =
    ap (stated_size form) first ∙ stated_sector form text ∙ ap (stated_size form) text_is ∙
    stated_bytes form (pack form before cs) (omega (arith, packed.short, packed.few)) (first_is form before small) in
    let size : stated_size form (sector image (at + 1)) ≡ data_size text = stated ∙ omega (arith, long, length-text form before cs) in
    let few : data_size text ≤ most_data_sectors = omega (arith, long, short.1) in
    let z = 512 * data_size text - length text in
    let whole : data_from image (at + 1) (data_size text) ≡ record_text form before cs ++ replicate z 0 =
    data_text image (at + 1) (data_size text) text are ∙ sym (padded text z (512 * data_size text) (omega arith)) ∙ ap (λ (t : List ℕ). t ++ replicate z 0) text_is in
    record { gate = opened; next_is = rw size refl; few = rw size few; within = within; read = rw (size, whole) (record_again form before cs z small is) }
