-- A text is refused as cut exactly where it is cut.
use Rattle.std.proofs.Common.{◌≡◌, ℕ, ◌+◌, ◌-◌, Bool, true, false, cond, List, [], ◌∷◌, length, Option, Some, None, Result, Ok, Err, refl, sym, ap, subst, ◌∙◌, arith}
use Rattle.std.specs.Prelude.{not, nat_le, nat_lt}
use Rattle.base.proofs.Options.{some_is, some_where}
use Rattle.registration.specs.declared.limits.Limits.{Limits}
use Rattle.centre_core.specs.State.{State, IsState}
use Rattle.centre_core.specs.StateRanges.{StateInRange}
use Rattle.console.specs.Reading.{words}
use Rattle.console.proofs.Splits.{is_feed, split_nonempty}
use Rattle.image_rows.specs.Rows.{Row, HeaderRow, RuleRow, RadioRow, MailRow, ServedRow, Header, row_count}
use Rattle.image_rows.specs.Loading.{Loading, all_done, finished, header_may, put, row_taken, take_by}
use Rattle.image_rows.proofs.Exactly.{bind_some}
use Rattle.register_text.specs.Reading.{line_row}
use Rattle.register_text.specs.Text.{TextLoading, count_after, count_in, count_taken, head_in, head_taken, is_as_stated, is_head, is_same, line_taken}
use Rattle.register_text.specs.Text.{line_taken_by, or_place, or_spelling, state_of, stated_taken, text_begun}
use Rattle.register_text.specs.Dump.{IsOfPlace, cut_or_long, end_read, longest_dump_line, or_cut, parts_read, register_bytes, text_from, text_read, then_line}
use Rattle.register_text.specs.Cut.{IsCutAt, are_cut, due_after, is_cut, is_cut_by, is_due, parts_of}
use Rattle.register_text.specs.declared.cause.Cause.{Cause}
use Rattle.register_text.specs.declared.cause.Cause.TheVariants as cause
use Rattle.register_text.specs.declared.load_fault.LoadFault.{LoadFault}
use Rattle.register_text.specs.declared.load_fault.LoadFault.TheVariants as fault
use Rattle.register_text.proofs.Counting.{IsWithin, done_is, filled, none_filled, opposite, put_counted}
use Rattle.register_text.proofs.Only.{line_only}
use Rattle.register_text.proofs.Spaces.{words_of}
use Rattle.register_text.proofs.Bytes.{IsOfRow, bytes_again, rows_at_fault}

-- so many rows are due after those that came
abbrev IsDue : Option ℕ → Option Header → State → Type 0
IsDue None None s = filled s ≡ 0
IsDue None (Some h) s = ⊥
IsDue (Some due) None s = ⊥
IsDue (Some due) (Some h) s = IsWithin h s × (due + filled s ≡ row_count h - 1)

-- so many lines are due after those that were taken
record Stands (due : Option ℕ) (t : TextLoading) : Type 0 where
  pub rows : IsDue due t.rows.header t.rows.state
  pub none : t.headed ≡ false → due ≡ None

-- ---- no line before the rows is a count line

count_is_no_head : (h : Header) (line : List ℕ) → line_row line ≡ Some (HeaderRow h) → is_head line ≡ false
unfolding is_head
count_is_no_head h line e =
    let spelt = line_only line (HeaderRow h) e in
    ap (λ (ws : List (List ℕ)). is_same line (head_in ws)) (ap words spelt.1 ∙ words_of (HeaderRow h) spelt.0.is_row)

header_states_none : (h : Header) (line : List ℕ) → line_row line ≡ Some (HeaderRow h) → count_in line ≡ None
header_states_none h line e = ap count_in (line_only line (HeaderRow h) e).1

none_due : (line : List ℕ) (o : Option Row) → line_row line ≡ o → ((h : Header) → line_row line ≡ Some (HeaderRow h) → ⊥) → due_after None o ≡ None
none_due line None e never = refl
none_due line (Some (HeaderRow h)) e never = absurd (never h e)
none_due line (Some (RuleRow prefix rule)) e never = refl
none_due line (Some (RadioRow itsi radio groups)) e never = refl
none_due line (Some (MailRow w)) e never = refl
none_due line (Some (ServedRow station last)) e never = refl

-- ---- a line that is taken

is_ok : (t u : TextLoading) → ◌≡◌ {A = Result TextLoading Cause} (Ok t) (Ok u) → t ≡ u
is_ok t u e = cc

not_ok : {P : Type 0} (c : Cause) (u : TextLoading) → ◌≡◌ {A = Result TextLoading Cause} (Err c) (Ok u) → P
not_ok c u e = absurd cc

begin_due : (s : State) (limits : Limits) (h : Header) (n : Loading) → filled s ≡ 0 → cond (header_may limits h) (Some (record { header = Some h; state = record s { count = h.count } })) None ≡ Some n
    → IsDue (Some (row_count h - 1)) n.header n.state
begin_due s limits h n none e =
    let c = some_where (header_may limits h) (record { header = Some h; state = record s { count = h.count } }) n e in
    subst (λ (m : Loading). IsDue (Some (row_count h - 1)) m.header m.state) c.1 (within, omega (arith, none))
  where
    within : IsWithin h (record s { count = h.count })
    within = record { rules = omega (arith, none); radios = omega (arith, none); mail = omega (arith, none); served = omega (arith, none) }

row_due : (due : Option ℕ) (header : Option Header) (s : State) (row : Row) (n : Loading) → IsDue due header s → take_by header s row ≡ Some n → IsDue (due_after due (Some row)) n.header n.state
row_due None None s (HeaderRow h) n is e = begin_due s s.registered.limits h n is e
row_due None None s (RuleRow prefix rule) n is e = absurd cc
row_due None None s (RadioRow itsi radio groups) n is e = absurd cc
row_due None None s (MailRow w) n is e = absurd cc
row_due None None s (ServedRow station last) n is e = absurd cc
row_due None (Some h) s row n is e = absurd is
row_due (Some due) None s row n is e = absurd is
row_due (Some due) (Some h) s row n is e =
    let b = bind_some (put h s row) (λ m. Some (record { header = Some h; state = m })) n e in
    let more = put_counted h s b.0 row is.0 b.1 in
    let p = more.0.rules in let q = more.0.radios in let r = more.0.mail in let t = more.0.served in
    let sum = is.1 in let one = more.1 in
    subst (λ (m : Loading). IsDue (Some (due - 1)) m.header m.state) (some_is (record { header = Some h; state = b.0 }) n b.2) (more.0, omega (arith, p, q, r, t, sum, one))

row_stands : (due : Option ℕ) (l : Loading) (row : Row) (u : TextLoading) (o : Option Loading) →
    ((n : Loading) → o ≡ Some n → row_taken l row ≡ Some n) → IsDue due l.header l.state → or_place o ≡ Ok u → Stands (due_after due (Some row)) u
unfolding row_taken
row_stands due l row u None made is e = not_ok cause.Place u e
row_stands due l row u (Some n) made is e =
    subst (Stands (due_after due (Some row))) (is_ok (record { stated = None; headed = true; rows = n }) u e)
    (record { rows = row_due due l.header l.state row n is (made n refl); none = λ f. absurd cc })

taken_so : (b : Bool) (o : Option Loading) (n : Loading) → cond b o None ≡ Some n → o ≡ Some n
taken_so true o n e = e
taken_so false o n e = absurd cc

spelling_stands : (due stated : Option ℕ) (l : Loading) (u : TextLoading) (o : Option Row) → IsDue due l.header l.state → or_spelling stated l o ≡ Ok u → Stands (due_after due o) u
spelling_stands due stated l u None is e = not_ok cause.Spelling u e
spelling_stands due stated l u (Some row) is e = row_stands due l row u (stated_taken stated l row) (λ n made. taken_so (is_as_stated stated row) (row_taken l row) n made) is e

head_stands : (stated : Option ℕ) (l : Loading) (line : List ℕ) (u : TextLoading) (b : Bool) → is_head line ≡ b → IsDue None l.header l.state →
    head_taken stated l b ≡ Ok u → Stands (due_after None (line_row line)) u
head_stands stated l line u false head is e = not_ok cause.Head u e
head_stands stated l line u true head is e =
    let none = none_due line (line_row line) refl (λ h said. opposite (is_head line) head (count_is_no_head h line said)) in
    subst (λ (due : Option ℕ). Stands due u) (sym none) (subst (Stands None) (is_ok (record { stated = stated; headed = true; rows = l }) u e) (record { rows = is; none = λ f. refl }))

states_none : {P : Type 0} (n : ℕ) (o : Option ℕ) → o ≡ None → o ≡ Some n → P
states_none n o none some = absurd cc

stated_by : (stated : Option ℕ) (line : List ℕ) (n : ℕ) → count_after stated line ≡ Some n → count_in line ≡ Some n
stated_by None line n e = e
stated_by (Some m) line n e = absurd cc

first_stands : (stated : Option ℕ) (l : Loading) (line : List ℕ) (u : TextLoading) (o : Option ℕ) → count_after stated line ≡ o →
    IsDue None l.header l.state → count_taken stated l line o ≡ Ok u → Stands (due_after None (line_row line)) u
first_stands stated l line u None count is e = head_stands stated l line u (is_head line) refl is e
first_stands stated l line u (Some n) count is e =
    let none = none_due line (line_row line) refl (λ h said. states_none n (count_in line) (header_states_none h line said) (stated_by stated line n count)) in
    subst (λ (due : Option ℕ). Stands due u) (sym none) (subst (Stands None) (is_ok (record { stated = Some n; headed = false; rows = l }) u e) (record { rows = is; none = λ f. refl }))

by_headed : (due stated : Option ℕ) (b : Bool) (l : Loading) (line : List ℕ) (u : TextLoading) → Stands due (record { stated = stated; headed = b; rows = l })
    → line_taken_by b stated l line ≡ Ok u → Stands (due_after due (line_row line)) u
by_headed due stated true l line u is e = spelling_stands due stated l u (line_row line) is.rows e
by_headed due stated false l line u is e =
    let none : due ≡ None = is.none refl in
    subst (λ (d : Option ℕ). Stands (due_after d (line_row line)) u) (sym none)
    (first_stands stated l line u (count_after stated line) refl (subst (λ (d : Option ℕ). IsDue d l.header l.state) none is.rows) e)

line_stands : (due : Option ℕ) (t u : TextLoading) (line : List ℕ) → Stands due t → line_taken t line ≡ Ok u → Stands (due_after due (line_row line)) u
unfolding line_taken
line_stands due t u line is e = by_headed due t.stated t.headed t.rows line u is e

-- ---- the end

-- the outcome, by whether the text is cut
abbrev Agrees : Result State LoadFault → ℕ → Bool → Type 0
Agrees (Ok s) n cut = cut ≡ false
Agrees (Err fault.Memory) n cut = Unit {0}
Agrees (Err fault.Read) n cut = Unit {0}
Agrees (Err (fault.Line m cause)) n cut = Unit {0}
Agrees (Err (fault.Cut m)) n cut = (cut ≡ true) × (m ≡ n)

done_agrees : (n due : ℕ) (b : Bool) (epoch : ℕ) (s : State) → nat_lt 0 due ≡ not b → Agrees (or_cut n (state_of (cond b (Some (epoch, s)) None))) n (nat_lt 0 due)
done_agrees n due true epoch s e = e
done_agrees n due false epoch s e = (e, refl)

finished_agrees : (n : ℕ) (due : Option ℕ) (header : Option Header) (s : State) → IsDue due header s → Agrees (or_cut n (state_of (finished (record { header = header; state = s })))) n (is_due due)
unfolding finished
finished_agrees n None None s is = (refl, refl)
finished_agrees n None (Some h) s is = absurd is
finished_agrees n (Some due) None s is = absurd is
finished_agrees n (Some due) (Some h) s is = done_agrees n due (all_done h s) h.epoch s (done_is h s due (all_done h s) is.0 is.1 refl)

long_agrees : (n : ℕ) (t : TextLoading) (b : Bool) → Agrees (cut_or_long n t b) n true
long_agrees n t true = (refl, refl)
long_agrees n t false = tt

end_agrees : (n : ℕ) (t : TextLoading) (due : Option ℕ) (end : List ℕ) → Stands due t → Agrees (end_read n t end) n (is_cut_by due end)
end_agrees n t due [] is = finished_agrees n due t.rows.header t.rows.state is.rows
end_agrees n t due (b ∷ part) is = long_agrees n t (nat_le (length (b ∷ part)) longest_dump_line)

then_agrees : (n m : ℕ) (due : Option ℕ) (t : TextLoading) (line next : List ℕ) (parts : List (List ℕ)) (r : Result TextLoading Cause) → line_taken t line ≡ r → Stands due t
    → ((u : TextLoading) → Stands (due_after due (line_row line)) u → Agrees (parts_read (n + 1) u (next ∷ parts)) m (are_cut (due_after due (line_row line)) (next ∷ parts)))
    → Agrees (then_line n r (λ u. parts_read (n + 1) u (next ∷ parts))) m (are_cut (due_after due (line_row line)) (next ∷ parts))
then_agrees n m due t line next parts (Err cause) made is later = tt
then_agrees n m due t line next parts (Ok u) made is later = later u (line_stands due t u line is made)

parts_agree : (parts : List (List ℕ)) (first : List ℕ) (n m : ℕ) (t : TextLoading) (due : Option ℕ) → m ≡ n + length parts → Stands due t →
    Agrees (parts_read n t (first ∷ parts)) m (are_cut due (first ∷ parts))
parts_agree [] first n m t due at is = subst (λ (k : ℕ). Agrees (end_read n t first) k (is_cut_by due first)) (here at) (end_agrees n t due first is)
  where
    here : m ≡ n + 0 → n ≡ m
    here e = omega (arith, e)
parts_agree (next ∷ parts) first n m t due at is =
    then_agrees n m due t first next parts (line_taken t first) refl is (λ u stands. parts_agree parts next (n + 1) m u (due_after due (line_row first)) (omega (arith, at)) stands)

begun_stands : (limits : Limits) → Stands None (text_begun limits)
begun_stands limits = record { rows = none_filled limits; none = λ f. refl }

text_agrees : (limits : Limits) (text : List ℕ) → Agrees (text_read limits text) (length (parts_of text)) (is_cut text)
unfolding text_from is_cut
text_agrees limits text =
    let some = split_nonempty is_feed text in
    subst (λ (parts : List (List ℕ)). Agrees (parts_read 1 (text_begun limits) parts) (length parts) (are_cut None parts)) (sym some.2)
    (parts_agree some.1 some.0 1 (length (some.0 ∷ some.1)) (text_begun limits) None (omega arith) (begun_stands limits))

pub cut_only : (limits : Limits) (text : List ℕ) (n : ℕ) → text_read limits text ≡ Err (fault.Cut n) → IsCutAt text n
cut_only limits text n e =
    let a : Agrees (Err (fault.Cut n)) (length (parts_of text)) (is_cut text) = subst (λ (r : Result State LoadFault). Agrees r (length (parts_of text)) (is_cut text)) e (text_agrees limits text) in
    a

pub read_whole : (limits : Limits) (text : List ℕ) (t : State) → text_read limits text ≡ Ok t → is_cut text ≡ false
read_whole limits text t e =
    let a : Agrees (Ok t) (length (parts_of text)) (is_cut text) = subst (λ (r : Result State LoadFault). Agrees r (length (parts_of text)) (is_cut text)) e (text_agrees limits text) in
    a

-- ---- the bytes of a register are not cut, so only a row is at fault

pub of_place : (f : LoadFault) → IsOfRow f → ((n : ℕ) → f ≡ fault.Cut n → ⊥) → IsOfPlace f
of_place fault.Memory is never = is
of_place fault.Read is never = is
of_place (fault.Line n cause) is never = is
of_place (fault.Cut n) is never = never n refl

pub bytes_refused : (limits : Limits) (s : State) (f : LoadFault) → IsState s → StateInRange s → text_read limits (register_bytes s) ≡ Err f → IsOfPlace f
bytes_refused limits s f state ranges e =
    let whole = read_whole s.registered.limits (register_bytes s) s (bytes_again s state ranges) in
    of_place f (rows_at_fault 1 limits s f state ranges e) (λ n is.
    opposite (is_cut (register_bytes s)) (cut_only limits (register_bytes s) n (e ∙ ap (λ (g : LoadFault). Err g) is)).0 whole)
