-- A text comes apart into its lines.
use Rattle.std.proofs.Common.{◌≡◌, ℕ, ◌+◌, ◌<◌, ◌≤◌, true, false, List, [], ◌∷◌, ◌++◌, length, Option, None, Some, Result, Ok, Err, append_assoc, refl, sym, ◌∙◌, ap, subst, arith}
use Rattle.std.specs.Prelude.{◌==◌, IfSome, nat_le}
use Rattle.std.specs.List.{slice_split, onto_first}
use Rattle.std.proofs.lemmas.List.{append-nil, length-append}
use Rattle.std.proofs.lemmas.List.Elements.{All-nil, All-append, All-head, All-tail}
use Rattle.std.proofs.lemmas.List.Splits.{slice_split_none, slice_split_at, slice_split-cons_no}
use Rattle.centre_core.specs.State.{State}
use Rattle.console.proofs.Splits.{IsNonempty, is_feed, split_nonempty}
use Rattle.register_text.specs.declared.cause.Cause.{Cause}
use Rattle.register_text.specs.declared.load_fault.LoadFault.{LoadFault}
use Rattle.register_text.specs.declared.load_fault.LoadFault.TheVariants as fault
use Rattle.register_text.specs.declared.loader.TakeFault.{TakeFault}
use Rattle.register_text.specs.declared.loader.TakeFault.TheVariants as take
use Rattle.register_text.specs.Text.{TextLoading, line_taken}
use Rattle.register_text.specs.Dump.{HasNoFeed, IsLoadFault, cut_or_long, end_read, long_cause, longest_dump_line, parts_read, text_from, then_line}
use Rattle.register_text.specs.Faults.{IsFault}
use Rattle.register_text.specs.Inside.Going.{IsLineSoFar, IsOfLine, fault_of_line}
use Rattle.register_text.proofs.Widths.{long_refused}

-- what holds wherever it is known
pub if_known : {X : Type 0} (known : Option X) (P : X → Type 0) → ((x : X) → known ≡ Some x → P x) → IfSome known P
if_known None P holds = tt
if_known (Some x) P holds = holds x refl

-- a fault of one outcome is that of another
pub fault_from : (a b : Result State LoadFault) (fault : LoadFault) → a ≡ b → IsLoadFault b fault → IsLoadFault a fault
fault_from a b fault same is = subst (λ (r : Result State LoadFault). IsLoadFault r fault) (sym same) is

-- ---- a line that a line feed ends

line_of_parts : (n : ℕ) (t : TextLoading) (line : List ℕ) (parts : List (List ℕ)) → IsNonempty parts → parts_read n t (line ∷ parts) ≡ then_line n (line_taken t line) (λ u. parts_read (n + 1) u parts)
line_of_parts n t line parts some = rw some.2 refl

pub line_step : (n : ℕ) (t : TextLoading) (line left : List ℕ) → HasNoFeed line → text_from n t (line ++ 10 ∷ left) ≡ then_line n (line_taken t line) (λ u. text_from (n + 1) u left)
unfolding text_from
line_step n t line left none = ap (parts_read n t) (slice_split_at is_feed line 10 left none refl) ∙ line_of_parts n t line (slice_split is_feed left) (split_nonempty is_feed left)

module _ (n : ℕ) (t : TextLoading) (line end whole left : List ℕ) (kept : IsLineSoFar line) (plain : HasNoFeed end) (is : whole ≡ line ++ end) where
  whole_step : text_from n t (line ++ (end ++ 10 ∷ left)) ≡ then_line n (line_taken t whole) (λ u. text_from (n + 1) u left)
  whole_step =
      ap (text_from n t) (sym (append_assoc line end (10 ∷ left)))
      ∙ line_step n t (line ++ end) left (All-append (λ b. (b == 10) ≡ false) line end kept.0 plain)
      ∙ ap (λ (w : List ℕ). then_line n (line_taken t w) (λ u. text_from (n + 1) u left)) (sym is)

  pub line_made : (u : TextLoading) → line_taken t whole ≡ Ok u → text_from n t (line ++ (end ++ 10 ∷ left)) ≡ text_from (n + 1) u left
  line_made u e = whole_step ∙ ap (λ (r : Result TextLoading Cause). then_line n r (λ u. text_from (n + 1) u left)) e

  by_cause : (cause : Cause) → line_taken t whole ≡ Err cause → text_from n t (line ++ (end ++ 10 ∷ left)) ≡ Err (fault.Line n cause)
  by_cause cause e = whole_step ∙ ap (λ (r : Result TextLoading Cause). then_line n r (λ u. text_from (n + 1) u left)) e

  by_fault : (why : TakeFault) → IsFault (line_taken t whole) why → IsLoadFault (text_from n t (line ++ (end ++ 10 ∷ left))) (fault_of_line n why)
  by_fault take.Memory is_so = tt
  by_fault (take.Line cause) is_so = by_cause cause is_so

  pub line_refused : (why : TakeFault) (fault : LoadFault) → fault ≡ fault_of_line n why → IsFault (line_taken t whole) why → IsLoadFault (text_from n t (line ++ (end ++ 10 ∷ left))) fault
  line_refused why fault same is_so = subst (λ (f : LoadFault). IsLoadFault (text_from n t (line ++ (end ++ 10 ∷ left))) f) (sym same) (by_fault why is_so)

pub of_line : (n : ℕ) (why : TakeFault) → IsOfLine (fault_of_line n why)
of_line n take.Memory = tt
of_line n (take.Line cause) = tt

-- ---- a line that is too long

long_end : (n : ℕ) (t : TextLoading) (text : List ℕ) → longest_dump_line < length text → end_read n t text ≡ Err (fault.Line n (long_cause t.headed))
long_end n t [] long = absurd (omega (arith, long))
long_end n t (b ∷ part) long =
    let no : nat_le (length (b ∷ part)) longest_dump_line ≡ false = grind (arith, long) in
    ap (cut_or_long n t) no

long_parts : (n : ℕ) (t : TextLoading) (line : List ℕ) (parts : List (List ℕ)) → longest_dump_line < length line → parts_read n t (line ∷ parts) ≡ Err (fault.Line n (long_cause t.headed))
long_parts n t line [] long = long_end n t line long
long_parts n t line (next ∷ parts) long = ap (λ (r : Result TextLoading Cause). then_line n r (λ u. parts_read (n + 1) u (next ∷ parts))) (long_refused t line long)

split_onto : (line left x : List ℕ) (more : List (List ℕ)) → HasNoFeed line → slice_split is_feed left ≡ x ∷ more → slice_split is_feed (line ++ left) ≡ (line ++ x) ∷ more
split_onto [] left x more none e = e
split_onto (c ∷ line) left x more none e =
    slice_split-cons_no is_feed c (line ++ left) (All-head (λ b. (b == 10) ≡ false) c line none)
    ∙ ap (onto_first c) (split_onto line left x more (All-tail (λ b. (b == 10) ≡ false) c line none) e)

pub long_line : (n : ℕ) (t : TextLoading) (line part whole left : List ℕ) → IsLineSoFar line → HasNoFeed part → whole ≡ line ++ part → longest_dump_line < length whole
    → text_from n t (line ++ (part ++ left)) ≡ Err (fault.Line n (long_cause t.headed))
unfolding text_from
long_line n t line part whole left kept plain is long =
    let none : HasNoFeed (line ++ part) = All-append (λ b. (b == 10) ≡ false) line part kept.0 plain in
    let some = split_nonempty is_feed left in
    let count : length ((line ++ part) ++ some.0) ≡ length whole + length some.0 = length-append (line ++ part) some.0 ∙ ap (λ (w : List ℕ). length w + length some.0) (sym is) in
    ap (text_from n t) (sym (append_assoc line part left))
    ∙ ap (parts_read n t) (split_onto (line ++ part) left some.0 some.1 none some.2)
    ∙ long_parts n t ((line ++ part) ++ some.0) some.1 (omega (arith, count, long))

-- ---- what is kept of a line

pub kept_more : (n : ℕ) (t : TextLoading) (line part whole left : List ℕ) → whole ≡ line ++ part → text_from n t (line ++ (part ++ left)) ≡ text_from n t (whole ++ left)
kept_more n t line part whole left is = ap (text_from n t) (sym (append_assoc line part left) ∙ ap (λ (w : List ℕ). w ++ left) (sym is))

pub is_kept : (line part whole : List ℕ) → IsLineSoFar line → HasNoFeed part → whole ≡ line ++ part → length whole ≤ longest_dump_line → IsLineSoFar whole
is_kept line part whole kept plain is short = (subst HasNoFeed (sym is) (All-append (λ b. (b == 10) ≡ false) line part kept.0 plain), short)

pub none_kept : (line : List ℕ) → line ≡ [] → IsLineSoFar line
none_kept line is = subst IsLineSoFar (sym is) (All-nil (λ b. (b == 10) ≡ false), omega arith)

-- ---- the end

pub at_end : (n : ℕ) (t : TextLoading) (line : List ℕ) → IsLineSoFar line → text_from n t (line ++ []) ≡ end_read n t line
unfolding text_from
at_end n t line kept = ap (text_from n t) (append-nil line) ∙ ap (parts_read n t) (slice_split_none is_feed line kept.0)

pub cut_end : (n : ℕ) (t : TextLoading) (line : List ℕ) → 0 < length line → length line ≤ longest_dump_line → end_read n t line ≡ Err (fault.Cut n)
cut_end n t [] some short = absurd (omega (arith, some))
cut_end n t (b ∷ part) some short =
    let yes : nat_le (length (b ∷ part)) longest_dump_line ≡ true = grind (arith, short) in
    ap (cut_or_long n t) yes
