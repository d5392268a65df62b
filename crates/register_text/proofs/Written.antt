-- What is written, and what is still to be written.
use Rattle.std.proofs.Common.{◌≡◌, ℕ, suc, ◌+◌, ◌-◌, ◌<◌, ◌≤◌, List, [], ◌++◌, length, Option, Some, None, option_map, refl, sym, ap, ◌∙◌, arith, append_assoc}
use Rattle.std.specs.Prelude.{map as each, codes}
use Rattle.std.specs.Io.KnownBytes.{Appends, Keeps, append_known}
use Rattle.std.proofs.KnownBytes.{Keeps-refl, append_known-moved}
use Rattle.std.proofs.lemmas.List.{append-nil}
use Rattle.registration.specs.declared.limits.Limits.{Limits}
use Rattle.prefix_tree.specs.Following.{one_by_one, then_on}
use Rattle.centre_core.specs.State.{State, IsState}
use Rattle.centre_core.specs.StateRanges.{StateInRange}
use Rattle.image_rows.specs.declared.place.RowPlace.{RowPlace}
use Rattle.image_rows.specs.Rows.{Row, rows_of}
use Rattle.image_rows.specs.Walking.{place_of, row_after}
use Rattle.image_rows.proofs.Walking.{rows_walk}
use Rattle.image_rows.proofs.Counts.{rows_fit}
use Rattle.register_text.specs.Lines.{row_line}
use Rattle.register_text.specs.Text.{head_line, row_ended}
use Rattle.register_text.specs.Dump.{ended, register_bytes}

-- all of the text was written
pub passed : (a b : Option (List ℕ)) (old new : List ℕ) → Appends a b old → new ≡ [] → Keeps (append_known a old) (append_known b new)
passed a b old new e none = append_known-moved a b old new old e (sym (append-nil old) ∙ ap (λ (l : List ℕ). old ++ l) (sym none))

-- nothing was written
pub same : (a : Option (List ℕ)) → Keeps a a
same a = Keeps-refl a

-- the text grew
pub grown : (a : Option (List ℕ)) (old new more : List ℕ) → new ≡ old ++ more → Appends (append_known a old) (append_known a new) more
grown None old new more e = tt
grown (Some x) old new more e = ap (λ (l : List ℕ). x ++ l) e ∙ sym (append_assoc x old more)

-- the text began with the first line, then grew as it was written, and then the rest of it was written
pub all_written : (a b c d : Option (List ℕ)) (empty first head last more : List ℕ) → empty ≡ [] → first ≡ empty ++ head →
    Appends (append_known a first) (append_known b last) more → Appends b c last → Keeps c d
    → Appends a d (head ++ more)
all_written None b c d empty first head last more e f p q r = tt
all_written (Some x) None c d empty first head last more e f p q r = absurd p
all_written (Some x) (Some y) None d empty first head last more e f p q r = absurd q
all_written (Some x) (Some y) (Some z) None empty first head last more e f p q r = absurd r
all_written (Some x) (Some y) (Some z) (Some w) empty first head last more e f p q r =
    let begun : first ≡ head = f ∙ ap (λ (l : List ℕ). l ++ head) e in
    r ∙ q ∙ p ∙ ap (λ (l : List ℕ). (x ++ l) ++ more) begun ∙ append_assoc x head more

-- the first line and those of the rows are the text
pub first_text : (s : State) (l : Limits) (empty first : List ℕ) → empty ≡ [] → first ≡ empty ++ (head_line l ++ codes "\n") → l ≡ s.registered.limits
    → first ++ ended (each row_line (rows_of 1 s)) ≡ register_bytes s
first_text s l empty first none is own =
    ap (λ (x : List ℕ). x ++ ended (each row_line (rows_of 1 s))) (is ∙ ap (λ (x : List ℕ). x ++ (head_line l ++ codes "\n")) none)
    ∙ ap (λ (m : Limits). (head_line m ++ codes "\n") ++ ended (each row_line (rows_of 1 s))) own

-- ---- rows one after another

abbrev pub turns : ℕ
turns = 18446744073709551615

-- a register has fewer rows
fits_turns : (s : State) → IsState s → StateInRange s → length (rows_of 1 s) ≤ turns
fits_turns s state ranges =
    let limits = ranges.limits in
    let rules = limits.most_rules in let radios = limits.most_radios in let mail = limits.most_mail in let stations = limits.most_stations in
    let rows = rows_fit 1 s state in
    omega (arith, rules, radios, mail, stations, rows)

module _ (s : State) where
  -- the lines of the rows after a place, so many at most
  pub lines_after : ℕ → Option RowPlace → List ℕ
  lines_after n after = ended (each row_line (one_by_one (row_after 1 s) place_of n after))

  -- after no place all rows come
  pub all_rows : IsState s → StateInRange s → lines_after turns None ≡ ended (each row_line (rows_of 1 s))
  unfolding lines_after
  all_rows state ranges = ap (λ (rows : List Row). ended (each row_line rows)) (rows_walk 1 s turns state ranges (fits_turns s state ranges))

  -- no line was added yet
  pub begun : (k : ℕ) (after : Option RowPlace) → k ≡ 0 → after ≡ None → [] ++ lines_after (turns - k) after ≡ lines_after turns None
  begun k after first none = ap (λ (m : ℕ). lines_after (turns - m) after) first ∙ ap (λ (p : Option RowPlace). lines_after turns p) none

  next_by : (n : ℕ) (place : RowPlace) (o : Option Row) → Some place ≡ option_map place_of o
      → ended (each row_line (then_on (λ x. one_by_one (row_after 1 s) place_of n (Some (place_of x))) o)) ≡ row_ended o ++ lines_after n (Some place)
  unfolding lines_after
  next_by n place None e = absurd cc
  next_by n place (Some row) e = ap (λ (q : Option RowPlace). row_ended (Some row) ++ lines_after n q) (sym e)

  last_by : (n : ℕ) (o : Option Row) → None ≡ option_map place_of o → ended (each row_line (then_on (λ x. one_by_one (row_after 1 s) place_of n (Some (place_of x))) o)) ≡ row_ended o
  last_by n None e = refl
  last_by n (Some row) e = absurd cc

  -- the line after a place was added, and the place of its row is this one
  pub one_more : (k : ℕ) (after : Option RowPlace) (place : RowPlace) → k < turns → Some place ≡ option_map place_of (row_after 1 s after)
      → lines_after (turns - k) after ≡ row_ended (row_after 1 s after) ++ lines_after (turns - (k + 1)) (Some place)
  unfolding lines_after
  one_more k after place more is =
      let n : turns - k ≡ suc (turns - (k + 1)) = omega (arith, more) in
      ap (λ (m : ℕ). lines_after m after) n ∙ next_by (turns - (k + 1)) place (row_after 1 s after) is

  -- there is no row after a place
  pub no_more : (k : ℕ) (after : Option RowPlace) → k < turns → None ≡ option_map place_of (row_after 1 s after)
      → lines_after (turns - k) after ≡ row_ended (row_after 1 s after)
  unfolding lines_after
  no_more k after more is =
      let n : turns - k ≡ suc (turns - (k + 1)) = omega (arith, more) in
      ap (λ (m : ℕ). lines_after m after) n ∙ last_by (turns - (k + 1)) (row_after 1 s after) is

  pub out_of_turns : (k : ℕ) (after : Option RowPlace) → turns ≤ k → lines_after (turns - k) after ≡ []
  unfolding lines_after
  out_of_turns k after done = let n : turns - k ≡ 0 = omega (arith, done) in ap (λ (m : ℕ). lines_after m after) n
