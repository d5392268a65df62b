-- The sectors of a text, as they are cut from it.
use Rattle.std.proofs.Common.{◌≡◌, ℕ, ◌-◌, ◌+◌, ◌*◌, ◌<◌, ◌≤◌, List, ◌++◌, length, map, slice_index, take, drop, replicate, zero, suc, refl, sym, ap, ◌∙◌, arith, inl, inr}
use Rattle.std.specs.Prelude.{min}
use Rattle.std.specs.List.{range_with_len}
use Rattle.std.proofs.lemmas.List.{length-append, length-replicate, length-take, length-drop, get_or_past, get_or_append_left, get_or-append_right, get_or-take, get_or-drop, take-append-le, take_all}
use Rattle.std.proofs.lemmas.List.FromFn.{fill_by_all}
use Rattle.std.proofs.lemmas.Bool.{cases_lt}
use Rattle.sector_disk.specs.Filling.{part_of}
use Rattle.gated_journal.specs.Inside.Padded.{IsPadded}
use Rattle.gated_journal.specs.Record.{data_sector}

pub zeros_at : (z i : ℕ) → slice_index (replicate z 0) i ≡ 0
zeros_at zero i = refl
zeros_at (suc z) zero = refl
zeros_at (suc z) (suc i) = zeros_at z i

pub cut_is : (text : List ℕ) (k first end : ℕ) → first ≡ min (length text) (512 * k) → end ≡ min (length text) (512 * k + 512)
    → take (end - first) (drop first text) ++ replicate (512 - length (take (end - first) (drop first text))) 0 ≡ data_sector text k
unfolding data_sector
cut_is text k first end first_is end_is =
    let part : List ℕ = take (end - first) (drop first text) in
    let rest : length (drop first text) ≡ length text - first = length-drop first text in
    let size : length part ≡ min (end - first) (length (drop first text)) = length-take (end - first) (drop first text) in
    fill_by_all (λ (i : ℕ). slice_index text (512 * k + i)) (part ++ replicate (512 - length part) 0) 512 0
    (length-append part (replicate (512 - length part) 0) ∙ ap (λ (n : ℕ). length part + n) (length-replicate {A = ℕ} (512 - length part) 0) ∙ omega (arith, rest, size, first_is, end_is))
    (λ i lt. elim (cases_lt i (length part)) [
      | inl within ↦ let there : first + i ≡ 512 * k + i = omega (arith, rest, size, first_is, end_is, within) in
          get_or_append_left part (replicate (512 - length part) 0) 0 i within ∙
          get_or-take (end - first) (drop first text) i 0 (omega (arith, size, within)) ∙ get_or-drop first text i 0 ∙ ap (slice_index text) there
      | inr past ↦ get_or-append_right part (replicate (512 - length part) 0) (length part) i 0 refl past ∙ zeros_at (512 - length part) (i - length part)
          ∙ sym (get_or_past text (512 * k + i) 0 (omega (arith, rest, size, first_is, end_is, past)))
    ])

-- a whole sector of a text is cut from it as it is
pub part_is : (text : List ℕ) (k : ℕ) → 512 * k + 512 ≤ length text → part_of text k ≡ data_sector text k
unfolding data_sector
part_is text k within =
    let rest : length (drop (512 * k) text) ≡ length text - 512 * k = length-drop (512 * k) text in
    let size : length (part_of text k) ≡ min 512 (length (drop (512 * k) text)) = length-take 512 (drop (512 * k) text) in
    fill_by_all (λ (i : ℕ). slice_index text (512 * k + i)) (part_of text k) 512 0 (size ∙ omega (arith, rest, within))
    (λ i lt. get_or-take 512 (drop (512 * k) text) i 0 lt ∙ get_or-drop (512 * k) text i 0)

-- the padded text is written sector by sector
pub run_of : (text padded : List ℕ) (n : ℕ) → length padded ≡ 512 * n → IsPadded text padded → (k : ℕ) → k < n → part_of padded k ≡ data_sector text k
run_of text padded n all same k lt = part_is padded k (omega (arith, all, lt)) ∙ same k

-- zeros after a text leave its sectors as they are
pub padded_is : (text : List ℕ) (z : ℕ) → IsPadded text (text ++ replicate z 0)
unfolding data_sector
padded_is text z k = λ j. map (λ (i : ℕ). byte (512 * k + i) j) (range_with_len 0 512)
  where
    byte : (i : ℕ) → slice_index (text ++ replicate z 0) i ≡ slice_index text i
    byte i = elim (cases_lt i (length text)) [
      | inl within ↦ get_or_append_left text (replicate z 0) 0 i within
      | inr past ↦ get_or-append_right text (replicate z 0) (length text) i 0 refl past ∙ zeros_at z (i - length text) ∙ sym (get_or_past text i 0 past)
    ]

-- and the text is their prefix
pub text_of : (text padded : List ℕ) (n z : ℕ) → n ≡ length text → padded ≡ text ++ replicate z 0 → take n padded ≡ text
text_of text padded n z count is =
    ap (λ (bytes : List ℕ). take n bytes) is ∙ take-append-le n text (replicate z 0) (omega (arith, count)) ∙ take_all n text (omega (arith, count))
