-- Commands as bytes in a record: their text with zeros after it is read back.
use Rattle.std.proofs.Common.{◌≡◌, ℕ, zero, suc, ◌*◌, ◌^◌, ◌<◌, ◌≤◌, Bool, true, false, leb, List, ◌++◌, length, drop, replicate, Option, Some, None, refl, ap, ◌+◌, ◌/◌, ◌∙◌, append_assoc, arith}
use Rattle.std.specs.Prelude.{◌&&◌}
use Rattle.std.specs.List.{list_all}
use Rattle.std.proofs.lemmas.List.{length-append, take_at, drop_at}
use Rattle.std.proofs.lemmas.Bool.Decides.{nat_tests}
use Rattle.command_bytes.specs.Fields.{big}
use Rattle.command_bytes.specs.Text.{longest}
use Rattle.centre_core.specs.State.{last_number}
use Rattle.byteorder.specs.Numbers.{big_number-reads_back}
use Rattle.command_bytes.proofs.Numbers.{length-big, number_again}
use Rattle.gated_journal.specs.Record.{Packed, first_at, first_of, first_text, follows, head_len, is_in_range, is_zero, most_commands, packed_of, packed_text}
use Rattle.gated_journal.specs.Half.{stated_size}
use Rattle.gated_journal.specs.declared.form.Form.{Form}
use Rattle.gated_journal.specs.declared.form.Form.TheVariants.{Numbered, Plain}

-- the number that a record of this form has room for
abbrev pub IsFirst : Form → Option ℕ → Type 0
IsFirst Plain first = first ≡ None
IsFirst Numbered first = (number : ℕ) × (first ≡ Some number) × (number < 256 ^ 8)

-- commands as bytes that a record may have
pub record IsPacked (commands : Packed) : Type 0 where
  pub some : 1 ≤ commands.count
  pub few : commands.count ≤ most_commands
  pub short : length commands.bytes ≤ longest * commands.count

zeros_are : (z : ℕ) → list_all is_zero (replicate z 0) ≡ true
zeros_are zero = refl
zeros_are (suc z) = zeros_are z

all_good : (a b c : Bool) → a ≡ true → b ≡ true → c ≡ true → (a && b && c) ≡ true
all_good true true true a b c = refl
all_good false p q a b c = absurd cc
all_good true false q a b c = absurd cc
all_good true true false a b c = absurd cc

in_range : (commands : Packed) → IsPacked commands → is_in_range commands.count (length commands.bytes) ≡ true
in_range commands is =
    let some = is.some in
    let few = is.few in
    let short = is.short in
    let low : leb 1 commands.count ≡ true = grind (arith, nat_tests) in
    let high : leb commands.count most_commands ≡ true = grind (arith, nat_tests) in
    let room : leb (length commands.bytes) (longest * commands.count) ≡ true = grind (arith, nat_tests) in
    all_good (leb 1 commands.count) (leb commands.count most_commands) (leb (length commands.bytes) (longest * commands.count)) low high room

-- the number is read back
first_again : (form : Form) (first : Option ℕ) (rest : List ℕ) → IsFirst form first → first_at form (first_text first ++ rest) ≡ Some (first, rest)
unfolding first_at
first_again Plain first rest is = rw is refl
first_again Numbered first rest (n, is, small) = rw (is, number_again 8 n rest small) refl

pub packed_again : (form : Form) (commands : Packed) (z : ℕ) → IsPacked commands → IsFirst form commands.first → packed_of form (packed_text commands ++ replicate z 0) ≡ Some commands
unfolding packed_of packed_text
packed_again form commands z is stated =
    let count : ℕ = commands.count in
    let number : List ℕ = first_text commands.first in
    let body : List ℕ = commands.bytes in
    let filling : List ℕ = replicate z 0 in
    let regrouped : (big 2 count ++ (number ++ (big 4 (length body) ++ body))) ++ filling ≡ big 2 count ++ (number ++ (big 4 (length body) ++ (body ++ filling))) = simp append_assoc in
    let room : leb (length body) (length (body ++ filling)) ≡ true = let e = length-append body filling in grind (arith, nat_tests) in
    let after = drop_at body filling (length body) refl in
    let zeros : list_all is_zero (drop (length body) (body ++ filling)) ≡ true = rw after (zeros_are z) in
    let good = all_good (is_in_range count (length body)) (leb (length body) (length (body ++ filling))) (list_all is_zero (drop (length body) (body ++ filling))) (in_range commands is) room zeros in
    let small : count < 256 ^ 2 = omega (arith, is.few) in
    let short : length body < 256 ^ 4 = omega (arith, is.short, is.few) in
    ap (packed_of form) regrouped ∙
    rw (
      number_again 2 count (number ++ (big 4 (length body) ++ (body ++ filling))) small,
      first_again form commands.first (big 4 (length body) ++ (body ++ filling)) stated,
      number_again 4 (length body) (body ++ filling) short,
      good,
      take_at body filling (length body) refl,
    ) refl

-- the number that is written follows
pub it_follows : (form : Form) (before : ℕ) → follows before (first_of form before) ≡ true
it_follows Plain before = refl
it_follows Numbered before = grind (arith, nat_tests)

pub first_is : (form : Form) (before : ℕ) → before < last_number → IsFirst form (first_of form before)
first_is Plain before small = refl
first_is Numbered before small = (before + 1, refl, omega (arith, small))

-- how many data sectors it takes is stated by the first of them
pub stated_bytes : (form : Form) (commands : Packed) → length commands.bytes < 2 ^ 31 → IsFirst form commands.first →
    stated_size form (packed_text commands) ≡ (length commands.bytes + (511 + head_len form)) / 512
unfolding packed_text big
stated_bytes Plain commands short is = rw is (ap (λ (n : ℕ). (n + 517) / 512) (big_number-reads_back 4 (length commands.bytes) commands.bytes (omega (arith, short))))
stated_bytes Numbered commands short (n, is, small) = rw is (ap (λ (k : ℕ). (k + 525) / 512) (big_number-reads_back 4 (length commands.bytes) commands.bytes (omega (arith, short))))

-- how many bytes are before the commands
pub head_bytes : (form : Form) (before : ℕ) → 6 + length (first_text (first_of form before)) ≡ head_len form
head_bytes Plain before = refl
head_bytes Numbered before = omega (arith, length-big 8 (before + 1))
