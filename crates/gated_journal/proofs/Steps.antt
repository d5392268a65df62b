-- Reading commands one after another, as a loop does, and sectors.
use Rattle.std.proofs.Common.{add-one, append_assoc, option_map, length, suc, ◌-◌, ◌*◌, ◌∷◌, ◌≢◌, Option, ap, sym, eqb, leb, ltb, slice_index, take}
use Rattle.std.proofs.Common.{drop, true, false, Bool, ◌⊎◌, Ok, Err, ◌≡◌, ℕ, ◌+◌, ◌≤◌, ◌<◌, List, [], ◌++◌, Some, None, refl, ◌∙◌, arith, inl, inr}
use Rattle.std.proofs.lemmas.List.{append-nil, get_or-take, get_or-drop}
use Rattle.std.specs.Prelude.{◌&&◌, ◌==◌}
use Rattle.std.specs.Option.{is_some}
use Rattle.std.specs.Int.{w32, from_be_bytes}
use Rattle.byteorder.specs.Endian.{big_from}
use Rattle.std.proofs.lemmas.Bool.Decides.{nat_tests}
use Rattle.sector_disk.specs.Disk.{sector}
use Rattle.gated_journal.specs.declared.form.Form.{Form}
use Rattle.gated_journal.specs.Half.{bytes_at, data_from, stated_size}
use Rattle.centre_core.specs.Asked.{Asked}
use Rattle.command_bytes.specs.Fields.{◌>>=◌}
use Rattle.command_bytes.specs.Reading.{first_command}
use Rattle.gated_journal.specs.Record.{commands_in, most_data_sectors}
use Rattle.gated_journal.proofs.Halves.{both}

-- ---- sectors

pub data_more : (image : List (List ℕ)) (at k : ℕ) (bytes more : List ℕ) → bytes ≡ data_from image at k → more ≡ sector image (at + k) → bytes ++ more ≡ data_from image at (k + 1)
unfolding data_from
data_more image at k bytes more was is = rw (add-one, was, is) refl

pub data_none : (image : List (List ℕ)) (at : ℕ) → [] ≡ data_from image at 0
unfolding data_from
data_none image at = refl

pub data_one : (image : List (List ℕ)) (at : ℕ) (prefix bytes : List ℕ) → prefix ≡ [] → bytes ≡ sector image at → prefix ++ bytes ≡ data_from image at 1
data_one image at prefix bytes none is = let here : at ≡ at + 0 = omega arith in data_more image at 0 prefix bytes (none ∙ data_none image at) (is ∙ ap (sector image) here)

-- ---- the bytes at a gate

no_and : (a b : Bool) → (a ≡ false) ⊎ (b ≡ false) → (a && b) ≡ false
no_and false b e = refl
no_and true false e = refl
no_and true true (inl e) = absurd cc
no_and true true (inr e) = absurd cc

not_both : (size next end : ℕ) → (most_data_sectors < size) ⊎ (end ≤ next) → (leb size most_data_sectors && ltb next end) ≡ false
not_both size next end (inl many) = no_and (leb size most_data_sectors) (ltb next end) (inl (grind (arith, nat_tests)))
not_both size next end (inr past) = no_and (leb size most_data_sectors) (ltb next end) (inr (grind (arith, nat_tests)))

pub gate_closed : (form : Form) (image : List (List ℕ)) (at end : ℕ) → slice_index (sector image at) 0 ≢ 1 → bytes_at form image at end ≡ Ok None
unfolding bytes_at
gate_closed form image at end closed =
    let a : eqb (slice_index (sector image at) 0) 1 ≡ false = grind (arith, nat_tests) in
    rw a refl

pub gate_last : (form : Form) (image : List (List ℕ)) (at end : ℕ) → slice_index (sector image at) 0 ≡ 1 → at + 1 ≡ end → bytes_at form image at end ≡ Err at
unfolding bytes_at
gate_last form image at end gate last =
    let a : eqb (slice_index (sector image at) 0) 1 ≡ true = grind (arith, nat_tests) in
    let b : eqb (at + 1) end ≡ true = grind (arith, nat_tests) in
    rw (a, b) refl

pub too_long : (form : Form) (image : List (List ℕ)) (at end size : ℕ) → at + 1 < end → slice_index (sector image at) 0 ≡ 1 →
    stated_size form (sector image (at + 1)) ≡ size → (most_data_sectors < size) ⊎ (end ≤ at + 1 + size) → bytes_at form image at end ≡ Err (at + 1)
unfolding bytes_at
too_long form image at end size lt gate stated past =
    let a : eqb (slice_index (sector image at) 0) 1 ≡ true = grind (arith, nat_tests) in
    let b : eqb (at + 1) end ≡ false = grind (arith, nat_tests) in
    let d : (leb size most_data_sectors && ltb (at + 1 + size) end) ≡ false = not_both size (at + 1 + size) end past in
    rw (a, b, stated, d) refl

pub bytes_found : (form : Form) (image : List (List ℕ)) (at end size : ℕ) → size ≤ most_data_sectors → at + 1 + size < end →
    slice_index (sector image at) 0 ≡ 1 → stated_size form (sector image (at + 1)) ≡ size
    → bytes_at form image at end ≡ Ok (Some (data_from image (at + 1) size, at + 1 + size))
unfolding bytes_at
bytes_found form image at end size few lt gate stated =
    let a : eqb (slice_index (sector image at) 0) 1 ≡ true = grind (arith, nat_tests) in
    let b : eqb (at + 1) end ≡ false = grind (arith, nat_tests) in
    let d : (leb size most_data_sectors && ltb (at + 1 + size) end) ≡ true = both size (at + 1 + size) end few lt in
    rw (a, b, stated, d) refl

-- a byte of a part of a sector
byte_in : (at : ℕ) (bytes : List ℕ) (i j : ℕ) → at + 4 ≤ 512 → i < 4 → at + i ≡ j → slice_index (take 4 (take (512 - at) (drop at bytes))) i ≡ slice_index bytes j
byte_in at bytes i j inside lt e =
    get_or-take 4 (take (512 - at) (drop at bytes)) i 0 lt ∙ get_or-take (512 - at) (drop at bytes) i 0 (omega (arith, lt, inside)) ∙ get_or-drop at bytes i 0 ∙ ap (λ (k : ℕ). slice_index bytes k) e

-- four bytes from a place on
pub number_in : (at : ℕ) (bytes : List ℕ) → at + 4 ≤ 512 → from_be_bytes w32 (take 4 (take (512 - at) (drop at bytes))) ≡ big_from at 4 bytes
number_in at bytes inside =
    let part : List ℕ = take 4 (take (512 - at) (drop at bytes)) in
    let zero : slice_index part 0 ≡ slice_index bytes at = byte_in at bytes 0 at inside (omega arith) (omega arith) in
    let one : slice_index part 1 ≡ slice_index bytes (suc at) = byte_in at bytes 1 (suc at) inside (omega arith) (omega arith) in
    let two : slice_index part 2 ≡ slice_index bytes (suc (suc at)) = byte_in at bytes 2 (suc (suc at)) inside (omega arith) (omega arith) in
    let three : slice_index part 3 ≡ slice_index bytes (suc (suc (suc at))) = byte_in at bytes 3 (suc (suc (suc at))) inside (omega arith) (omega arith) in
    let sum : from_be_bytes w32 part ≡ slice_index part 0 * 16777216 + slice_index part 1 * 65536 + slice_index part 2 * 256 + slice_index part 3 = refl in
    let from : big_from at 4 bytes ≡ slice_index bytes at * 16777216 +
    (slice_index bytes (suc at) * 65536 + (slice_index bytes (suc (suc at)) * 256 + (slice_index bytes (suc (suc (suc at))) * 1 + 0))) = refl in
    omega (arith, sum, from, zero, one, two, three)

-- ---- commands

option_prefix : {X : Type 0} (o : Option (List X)) → option_map (λ others. [] ++ others) o ≡ o
option_prefix (Some others) = refl
option_prefix None = refl

option_with_more : {X : Type 0} (prefix : List X) (x : X) (o : Option (List X)) →
    option_map (λ others. (prefix ++ x ∷ []) ++ others) o ≡ option_map (λ others. prefix ++ others) (o >>= λ others. Some (x ∷ others))
option_with_more prefix x (Some others) = ap Some (append_assoc prefix (x ∷ []) others)
option_with_more prefix x None = refl

module _ {A : Type 0} where
  -- before the first of them
  pub commands_none : (n : ℕ) (bytes : List ℕ) → option_map (λ others. [] ++ others) (commands_in {A = A} n bytes) ≡ commands_in n bytes
  commands_none n bytes = option_prefix (commands_in n bytes)

  -- one of them more
  pub commands_more : (prefix : List (Asked A)) (n : ℕ) (bytes rest : List ℕ) (c : Asked A) (all : Option (List (Asked A))) → first_command bytes ≡ Some (c, rest)
      → option_map (λ others. prefix ++ others) (commands_in (suc n) bytes) ≡ all → option_map (λ others. (prefix ++ c ∷ []) ++ others) (commands_in n rest) ≡ all
  unfolding commands_in
  commands_more prefix n bytes rest c all e so_far =
      option_with_more prefix c (commands_in n rest) ∙ rw e at so_far

  -- one of them is none
  pub commands_fault : (prefix : List (Asked A)) (n : ℕ) (bytes : List ℕ) (all : Option (List (Asked A))) → first_command {A = A} bytes ≡ None
      → option_map (λ others. prefix ++ others) (commands_in (suc n) bytes) ≡ all → None ≡ all
  unfolding commands_in
  commands_fault prefix n bytes all e so_far = rw e at so_far

  -- after the last of them: no byte, or others
  pub commands_end : (prefix : List (Asked A)) (bytes : List ℕ) (all : Option (List (Asked A))) → length bytes ≡ 0 →
      option_map (λ others. prefix ++ others) (commands_in 0 bytes) ≡ all → Some prefix ≡ all
  unfolding commands_in
  commands_end prefix [] all none so_far = ap Some (sym (append-nil prefix)) ∙ so_far
  commands_end prefix (b ∷ bytes) all none so_far = absurd (omega (arith, none))

  pub commands_past : (prefix : List (Asked A)) (bytes : List ℕ) (all : Option (List (Asked A))) → length bytes ≢ 0 →
      option_map (λ others. prefix ++ others) (commands_in {A = A} 0 bytes) ≡ all → None ≡ all
  unfolding commands_in
  commands_past prefix [] all some so_far = absurd (some refl)
  commands_past prefix (b ∷ bytes) all some so_far = so_far

-- ---- whether they are commands

only_rest : {X Y : Type 0} (read : Option (X × Y)) (rest : Y) → option_map (λ x. x.1) read ≡ Some rest → (x : X) × (read ≡ Some (x, rest))
only_rest (Some x) rest e = let same : x.1 ≡ rest = cc in (x.0, rw (← same) refl)
only_rest None rest e = absurd cc

no_rest : {X Y : Type 0} (read : Option (X × Y)) → option_map (λ x. x.1) read ≡ None → read ≡ None
no_rest (Some x) e = absurd cc
no_rest None e = refl

is_some_with_first : {X : Type 0} (x : X) (o : Option (List X)) → is_some (o >>= λ others. Some (x ∷ others)) ≡ is_some o
is_some_with_first x (Some others) = refl
is_some_with_first x None = refl

module _ (A : Type 0) where
  -- one of them more
  pub are_more : (n : ℕ) (bytes rest : List ℕ) → option_map (λ x. x.1) (first_command {A = A} bytes) ≡ Some rest → is_some (commands_in {A = A} (suc n) bytes) ≡ is_some (commands_in {A = A} n rest)
  unfolding commands_in
  are_more n bytes rest e =
      let read = only_rest (first_command {A = A} bytes) rest e in
      rw read.1 (is_some_with_first read.0 (commands_in {A = A} n rest))

  -- one of them is none
  pub are_not : (n : ℕ) (bytes : List ℕ) → option_map (λ x. x.1) (first_command {A = A} bytes) ≡ None → is_some (commands_in {A = A} (suc n) bytes) ≡ false
  unfolding commands_in
  are_not n bytes e = rw (no_rest (first_command {A = A} bytes) e) refl

  -- after the last of them
  pub are_all : (bytes : List ℕ) → is_some (commands_in {A = A} 0 bytes) ≡ (length bytes == 0)
  unfolding commands_in
  are_all [] = refl
  are_all (b ∷ bytes) = let some : eqb (suc (length bytes)) 0 ≡ false = grind (arith, nat_tests) in sym some
