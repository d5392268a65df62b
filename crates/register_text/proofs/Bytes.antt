-- What the bytes of lines are read as, and which bytes are read as a register.
use Rattle.std.proofs.Common.{◌≡◌, ℕ, ◌+◌, Bool, true, false, List, [], ◌∷◌, ◌++◌, length, Option, Some, None, Result, Ok, Err, refl, sym, ap, subst, ◌∙◌, append_assoc}
use Rattle.std.specs.Prelude.{map as each, nat_le}
use Rattle.std.specs.Result.{result_ok}
use Rattle.std.specs.List.{All, slice_split, join_with_byte}
use Rattle.std.proofs.lemmas.List.Elements.{All-nil, All-cons, All-head, All-tail}
use Rattle.std.proofs.lemmas.List.Splits.{join_with_byte-slice_split}
use Rattle.registration.specs.declared.limits.Limits.{Limits}
use Rattle.centre_core.specs.State.{State, IsState}
use Rattle.centre_core.specs.StateRanges.{StateInRange}
use Rattle.console.proofs.Splits.{is_feed}
use Rattle.image_rows.specs.Loading.{Loading, begun, row_taken, state_of_rows}
use Rattle.image_rows.specs.Rows.{Row, rows_of}
use Rattle.register_text.specs.Lines.{row_line, IsLineRow}
use Rattle.register_text.specs.Text.{TextLoading, IsUnder, head_line, head_taken, line_taken, lines_taken, or_place, or_spelling, register_lines}
use Rattle.register_text.specs.Text.{state_of, text_begun, text_finished, then_lines, whole}
use Rattle.register_text.specs.Dump.{HasNoFeed, IsTextOf, cut_or_long, end_read, ended, long_cause, longest_dump_line, or_cut, parts_read, register_bytes, text_from, text_read, then_line}
use Rattle.register_text.specs.declared.cause.Cause.{Cause}
use Rattle.register_text.specs.declared.cause.Cause.TheVariants as cause
use Rattle.register_text.specs.declared.load_fault.LoadFault.{LoadFault}
use Rattle.register_text.specs.declared.load_fault.LoadFault.TheVariants as fault
use Rattle.register_text.proofs.Parts.{line_step}
use Rattle.register_text.proofs.Spaces.{line_has_no_feed}
use Rattle.register_text.proofs.Texts.{are_lines, head_again, head_has_no_feed, lines_again, lines_both, lines_made, lines_under}
use Rattle.register_text.proofs.Again.{line_again}

no_state : {P : Type 0} (s : State) (e : (let o : Option State = None in o) ≡ Some s) → P
no_state s e = absurd cc

no_result : {P : Type 0} (f : LoadFault) (s : State) (e : (let r : Result State LoadFault = Err f in r) ≡ Ok s) → P
no_result f s e = absurd cc

finished_is : (n : ℕ) (o : Option State) (s : State) → or_cut n o ≡ Ok s → o ≡ Some s
finished_is n None s e = no_result (fault.Cut n) s e
finished_is n (Some t) s e = let same : t ≡ s = cc in ap Some same

-- ---- lines that line feeds end

-- the first line and its line feed
pub ended_line : (n : ℕ) (t : TextLoading) (line : List ℕ) (lines : List (List ℕ)) → HasNoFeed line →
    text_from n t (ended (line ∷ lines)) ≡ then_line n (line_taken t line) (λ u. text_from (n + 1) u (ended lines))
ended_line n t line lines none = ap (text_from n t) (append_assoc line (10 ∷ []) (ended lines)) ∙ line_step n t line (ended lines) none

no_bytes : (n : ℕ) (t : TextLoading) → text_from n t [] ≡ or_cut n (text_finished t)
unfolding text_from
no_bytes n t = refl

module _ (n : ℕ) (lines : List (List ℕ)) (s : State) where
  then_read : (r : Result TextLoading Cause) → ((u : TextLoading) → whole (lines_taken u lines) ≡ Some s → text_from (n + 1) u (ended lines) ≡ Ok s)
      → whole (then_lines r (λ u. lines_taken u lines)) ≡ Some s → then_line n r (λ u. text_from (n + 1) u (ended lines)) ≡ Ok s
  then_read (Err cause) later e = no_state s e
  then_read (Ok u) later e = later u e

  then_back : (r : Result TextLoading Cause) → ((u : TextLoading) → text_from (n + 1) u (ended lines) ≡ Ok s → whole (lines_taken u lines) ≡ Some s)
      → then_line n r (λ u. text_from (n + 1) u (ended lines)) ≡ Ok s → whole (then_lines r (λ u. lines_taken u lines)) ≡ Some s
  then_back (Err cause) later e = no_result (fault.Line n cause) s e
  then_back (Ok u) later e = later u e

pub read_ended : (lines : List (List ℕ)) (n : ℕ) (t : TextLoading) (s : State) → All HasNoFeed lines → whole (lines_taken t lines) ≡ Some s → text_from n t (ended lines) ≡ Ok s
read_ended [] n t s none e = no_bytes n t ∙ ap (or_cut n) e
read_ended (line ∷ lines) n t s none e =
    ended_line n t line lines (All-head HasNoFeed line lines none)
    ∙ then_read n lines s (line_taken t line) (λ u e. read_ended lines (n + 1) u s (All-tail HasNoFeed line lines none) e) e

pub read_back : (lines : List (List ℕ)) (n : ℕ) (t : TextLoading) (s : State) → All HasNoFeed lines → text_from n t (ended lines) ≡ Ok s → whole (lines_taken t lines) ≡ Some s
read_back [] n t s none e = finished_is n (text_finished t) s (sym (no_bytes n t) ∙ e)
read_back (line ∷ lines) n t s none e =
    then_back n lines s (line_taken t line) (λ u e. read_back lines (n + 1) u s (All-tail HasNoFeed line lines none) e) (sym (ended_line n t line lines (All-head HasNoFeed line lines none)) ∙ e)

-- ---- the lines of a register

rows_plain : (rows : List Row) → All IsLineRow rows → All HasNoFeed (each row_line rows)
rows_plain [] are = All-nil HasNoFeed
rows_plain (row ∷ rows) are = All-cons HasNoFeed (row_line row) (each row_line rows) (line_has_no_feed row (All-head IsLineRow row rows are).is_row) (rows_plain rows (All-tail IsLineRow row rows are))

pub lines_plain : (s : State) → IsState s → StateInRange s → All HasNoFeed (register_lines s)
lines_plain s state ranges = All-cons HasNoFeed _ (each row_line (rows_of 1 s)) (head_has_no_feed s.registered.limits ranges.limits) (rows_plain (rows_of 1 s) (are_lines s state ranges))

-- what was written is read as the register
pub bytes_again : (s : State) → IsState s → StateInRange s → text_read s.registered.limits (register_bytes s) ≡ Ok s
bytes_again s state ranges = read_ended (register_lines s) 1 (text_begun s.registered.limits) s (lines_plain s state ranges) (lines_again s state ranges)

-- under other limits as a register with the same rows
pub bytes_under : (limits : Limits) (s t : State) → IsState s → StateInRange s → text_read limits (register_bytes s) ≡ Ok t → IsUnder limits (rows_of 1 s) t
bytes_under limits s t state ranges e = lines_under limits s t state ranges (read_back (register_lines s) 1 (text_begun limits) t (lines_plain s state ranges) e)

-- ---- what they make under any limits

finished_ok : (n : ℕ) (o : Option State) → result_ok (or_cut n o) ≡ o
finished_ok n None = refl
finished_ok n (Some t) = refl

then_same : (n : ℕ) (lines : List (List ℕ)) (r : Result TextLoading Cause) → ((u : TextLoading) → result_ok (text_from (n + 1) u (ended lines)) ≡ whole (lines_taken u lines))
    → result_ok (then_line n r (λ u. text_from (n + 1) u (ended lines))) ≡ whole (then_lines r (λ u. lines_taken u lines))
then_same n lines (Err cause) later = refl
then_same n lines (Ok u) later = later u

read_same : (lines : List (List ℕ)) (n : ℕ) (t : TextLoading) → All HasNoFeed lines → result_ok (text_from n t (ended lines)) ≡ whole (lines_taken t lines)
read_same [] n t none = ap result_ok (no_bytes n t) ∙ finished_ok n (text_finished t)
read_same (line ∷ lines) n t none =
    ap result_ok (ended_line n t line lines (All-head HasNoFeed line lines none))
    ∙ then_same n lines (line_taken t line) (λ u. read_same lines (n + 1) u (All-tail HasNoFeed line lines none))

pub bytes_made : (limits : Limits) (s : State) → IsState s → StateInRange s → result_ok (text_read limits (register_bytes s)) ≡ state_of (state_of_rows limits (rows_of 1 s))
bytes_made limits s state ranges = read_same (register_lines s) 1 (text_begun limits) (lines_plain s state ranges) ∙ lines_made limits s state ranges

-- ---- why they make none

-- a row can't come, or does not come
abbrev pub IsOfRow : LoadFault → Type 0
IsOfRow fault.Memory = ⊥
IsOfRow fault.Read = ⊥
IsOfRow (fault.Line n why) = why ≡ cause.Place
IsOfRow (fault.Cut n) = Unit {0}

one_fault : (a b : LoadFault) → ◌≡◌ {A = Result State LoadFault} (Err a) (Err b) → a ≡ b
one_fault a b same = cc

no_fault : {P : Type 0} (s : State) (f : LoadFault) (e : (let r : Result State LoadFault = Ok s in r) ≡ Err f) → P
no_fault s f e = absurd cc

end_refused : (n : ℕ) (o : Option State) (fault : LoadFault) → or_cut n o ≡ Err fault → IsOfRow fault
end_refused n None f e = subst IsOfRow (one_fault (fault.Cut n) f e) tt
end_refused n (Some s) f e = no_fault s f e

module _ (n : ℕ) (lines : List (List ℕ)) (f : LoadFault) where
  place_then : (o : Option Loading) → ((l : Loading) → text_from (n + 1) (record { stated = None; headed = true; rows = l }) (ended lines) ≡ Err f → IsOfRow f)
      → then_line n (or_place o) (λ u. text_from (n + 1) u (ended lines)) ≡ Err f → IsOfRow f
  place_then None later e = subst IsOfRow (one_fault (fault.Line n cause.Place) f e) refl
  place_then (Some l) later e = later l e

rows_refused : (rows : List Row) (n : ℕ) (l : Loading) (f : LoadFault) → All IsLineRow rows
    → text_from n (record { stated = None; headed = true; rows = l }) (ended (each row_line rows)) ≡ Err f → IsOfRow f
unfolding line_taken
rows_refused [] n l f are e = end_refused n _ f (sym (no_bytes n (record { stated = None; headed = true; rows = l })) ∙ e)
rows_refused (row ∷ rows) n l f are e =
    let is = All-head IsLineRow row rows are in
    place_then n (each row_line rows) f (row_taken l row) (λ m. rows_refused rows (n + 1) m f (All-tail IsLineRow row rows are)) (
    sym (
    ended_line n (record { stated = None; headed = true; rows = l }) (row_line row) (each row_line rows) (line_has_no_feed row is.is_row)
    ∙ ap (λ (o : Option Row). then_line n (or_spelling None l o) (λ u. text_from (n + 1) u (ended (each row_line rows)))) (line_again row is)
    )
    ∙ e
    )

pub rows_at_fault : (m : ℕ) (limits : Limits) (s : State) (f : LoadFault) → IsState s → StateInRange s → text_from m (text_begun limits) (register_bytes s) ≡ Err f → IsOfRow f
unfolding line_taken
rows_at_fault m limits s f state ranges e =
    let own = s.registered.limits in
    rows_refused (rows_of 1 s) (m + 1) (begun limits) f (are_lines s state ranges) (
    sym (
    ended_line m (text_begun limits) (head_line own) (each row_line (rows_of 1 s)) (head_has_no_feed own ranges.limits)
    ∙ ap (λ (b : Bool). then_line m (head_taken None (begun limits) b) (λ u. text_from (m + 1) u (ended (each row_line (rows_of 1 s))))) (head_again own ranges.limits)
    )
    ∙ e
    )

-- ---- bytes that are read

-- the parts of a text that is read are lines, and nothing
record AreRead (n : ℕ) (t : TextLoading) (parts : List (List ℕ)) (s : State) : Type 0 where
  pub lines : List (List ℕ)
  pub are : join_with_byte 10 parts ≡ ended lines
  pub made : whole (lines_taken t lines) ≡ Some s

end_only : (n : ℕ) (t : TextLoading) (end : List ℕ) (s : State) → end_read n t end ≡ Ok s → AreRead n t (end ∷ []) s
end_only n t [] s e = record { lines = []; are = refl; made = finished_is n (text_finished t) s e }
end_only n t (b ∷ part) s e = by (nat_le (length (b ∷ part)) longest_dump_line) e
  where
    by : (v : Bool) → cut_or_long n t v ≡ Ok s → AreRead n t ((b ∷ part) ∷ []) s
    by true e = no_result (fault.Cut n) s e
    by false e = no_result (fault.Line n (long_cause t.headed)) s e

then_only : (n : ℕ) (t : TextLoading) (line next : List ℕ) (parts : List (List ℕ)) (s : State) (r : Result TextLoading Cause) → line_taken t line ≡ r
    → ((u : TextLoading) → parts_read (n + 1) u (next ∷ parts) ≡ Ok s → AreRead (n + 1) u (next ∷ parts) s) →
    then_line n r (λ u. parts_read (n + 1) u (next ∷ parts)) ≡ Ok s → AreRead n t (line ∷ next ∷ parts) s
then_only n t line next parts s (Err cause) is later e = no_result (fault.Line n cause) s e
then_only n t line next parts s (Ok u) is later e =
    let rest = later u e in
    record {
      lines = line ∷ rest.lines;
      are = ap (λ (l : List ℕ). line ++ 10 ∷ l) rest.are ∙ sym (append_assoc line (10 ∷ []) (ended rest.lines));
      made = ap (λ (r : Result TextLoading Cause). whole (then_lines r (λ v. lines_taken v rest.lines))) is ∙ rest.made;
    }

parts_only : (parts : List (List ℕ)) (n : ℕ) (t : TextLoading) (s : State) → parts_read n t parts ≡ Ok s → AreRead n t parts s
parts_only [] n t s e = record { lines = []; are = refl; made = finished_is n (text_finished t) s e }
parts_only (end ∷ []) n t s e = end_only n t end s e
parts_only (line ∷ next ∷ parts) n t s e = then_only n t line next parts s (line_taken t line) refl (λ u e. parts_only (next ∷ parts) (n + 1) u s e) e

pub bytes_only : (limits : Limits) (text : List ℕ) (t : State) → text_read limits text ≡ Ok t → IsTextOf text t × (t.registered.limits ≡ limits)
unfolding text_from
bytes_only limits text t e =
    let read = parts_only (slice_split is_feed text) 1 (text_begun limits) t e in
    let lines = lines_both limits read.lines t read.made in
    (record { lines = read.lines; are = sym (join_with_byte-slice_split 10 text) ∙ read.are; of = lines.0 }, lines.1)
