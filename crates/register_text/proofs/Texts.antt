-- The lines of a register are taken as that register, and no others are.
use Rattle.std.proofs.Common.{◌≡◌, ℕ, ◌+◌, Bool, true, false, cond, List, [], ◌∷◌, ◌++◌, length, Option, Some, None, Result, Ok, Err, refl, sym, ap, subst, inl, inr, ◌∙◌, arith}
use Rattle.std.specs.Prelude.{map as each, codes, decimal}
use Rattle.std.specs.List.{All}
use Rattle.std.specs.FinMap as map
use Rattle.std.proofs.lemmas.List.Elements.{All-nil, All-cons, All-append, All-head, All-tail}
use Rattle.std.proofs.lemmas.Bool.{eqb-true}
use Rattle.std.proofs.lemmas.Slice.Eq.{bytes_eq-Decides}
use Rattle.base.proofs.Options.{some_is}
use Rattle.identity.specs.Number.{number}
use Rattle.identity.specs.Path.{Path}
use Rattle.registration.specs.Limits.{AreLimits}
use Rattle.registration.specs.declared.limits.Limits.{Limits}
use Rattle.registration.specs.declared.radio.Radio.{Radio}
use Rattle.group_attach.specs.Attached.{of_radio}
use Rattle.centre_core.specs.State.{State, LastAccepted, IsState}
use Rattle.centre_core.specs.StateRanges.{StateInRange}
use Rattle.console.specs.Reading.{Lacks, words}
use Rattle.image_rows.specs.Rows.{Row, HeaderRow, RuleRow, RadioRow, MailRow, ServedRow, RowInRange, header_of, rule_row, radio_row, group_of, served_rows, rows_of}
use Rattle.image_rows.specs.RowReading.{IsRow}
use Rattle.image_rows.specs.RowSizes.{HasFewGroups}
use Rattle.image_rows.specs.Loading.{◌>>=◌, Loading, all_taken, begun, finished, row_taken, state_of_rows}
use Rattle.image_rows.proofs.Counts.{rows_counted}
use Rattle.image_rows.proofs.Exactly.{only_these_rows}
use Rattle.image_rows.proofs.Groups.{length_each}
use Rattle.image_rows.proofs.Images.{are_rows}
use Rattle.image_rows.proofs.RowsOfState.{rows_make_state}
use Rattle.register_text.specs.Lines.{row_line, HasFirstEpoch, IsLineRow}
use Rattle.register_text.specs.Reading.{line_row}
use Rattle.register_text.specs.Text.{head_text, head_line, head_of, head_in, is_same, is_head, count_in, line_count, agrees_with, register_lines}
use Rattle.register_text.specs.Text.{TextLoading, count_taken, head_taken, or_place, or_spelling, line_taken, then_lines, lines_taken, state_of}
use Rattle.register_text.specs.Text.{whole, state_in, IsUnder, AreLinesOf}
use Rattle.register_text.specs.declared.cause.Cause.{Cause}
use Rattle.register_text.specs.declared.cause.Cause.TheVariants as cause
use Rattle.register_text.proofs.Spaces.{AllPlain, decimal_plain, letters, no_feeds, words_back}
use Rattle.register_text.proofs.Again.{line_again, number_again}
use Rattle.register_text.proofs.Counted.{count_only}
use Rattle.register_text.proofs.Only.{line_only}

-- ---- the first line

head_same : (r p m s : ℕ) (r' p' m' s' : Option ℕ) → r' ≡ Some r → p' ≡ Some p → m' ≡ Some m → s' ≡ Some s → head_of r' p' m' s' ≡ Some (head_text r p m s)
head_same r p m s r' p' m' s' er ep em es = rw (er, ep, em, es) refl

same_itself : (line : List ℕ) (text : Option (List ℕ)) → text ≡ Some line → is_same line text ≡ true
same_itself line text e = ap (is_same line) e ∙ (bytes_eq-Decides line line).1 refl

-- the words of the first line
head_words : Limits → List (List ℕ)
head_words l =
    codes "register" ∷ codes "1" ∷ codes "rules" ∷ decimal l.rules ∷ codes "radios" ∷ decimal l.radios ∷ codes "items" ∷ decimal l.mail ∷ codes "stations" ∷ decimal l.stations ∷ []

head_plain : (l : Limits) → AreLimits l.rules l.radios l.mail l.stations → AllPlain (codes "tetra-switch" ∷ head_words l)
unfolding head_words
head_plain l fit =
    let r = fit.most_rules in let p = fit.most_radios in let m = fit.most_mail in let s = fit.most_stations in (
      letters (codes "tetra-switch") refl,
      (
        letters (codes "register") refl,
        (
          letters (codes "1") refl,
          (
            letters (codes "rules") refl,
            (
              decimal_plain l.rules (omega (arith, r)),
              (
                letters (codes "radios") refl,
                (
                  decimal_plain l.radios (omega (arith, p)),
                  (
                    letters (codes "items") refl,
                    (
                      decimal_plain l.mail (omega (arith, m)),
                      (letters (codes "stations") refl, (decimal_plain l.stations (omega (arith, s)), tt)),
                    ),
                  ),
                ),
              ),
            ),
          ),
        ),
      ),
    )

pub head_has_no_feed : (l : Limits) → AreLimits l.rules l.radios l.mail l.stations → Lacks 10 (head_line l)
unfolding head_words
head_has_no_feed l fit = no_feeds (codes "tetra-switch") (head_words l) (head_plain l fit)

pub head_again : (l : Limits) → AreLimits l.rules l.radios l.mail l.stations → is_head (head_line l) ≡ true
unfolding is_head head_words
head_again l fit =
    let r = fit.most_rules in let p = fit.most_radios in let m = fit.most_mail in let s = fit.most_stations in
    let split : words (head_line l) ≡ codes "tetra-switch" ∷ head_words l = words_back (codes "tetra-switch") (head_words l) (head_plain l fit) in
    same_itself (head_line l) (head_in (words (head_line l))) (
    ap head_in split
    ∙ head_same l.rules l.radios l.mail l.stations _ _ _ _ (number_again _ l.rules (omega (arith, r)) (omega arith)) (number_again _ l.radios (omega (arith, p)) (omega arith))
    (number_again _ l.mail (omega (arith, m)) (omega arith)) (number_again _ l.stations (omega (arith, s)) (omega arith))
    )

-- ---- the rows of a state

-- no more groups than may be, and the first epoch
IsFit : Row → Type 0
IsFit row = HasFewGroups row × HasFirstEpoch row

all_each : {X : Type 0} (f : X → Row) → ((x : X) → IsFit (f x)) → (xs : List X) → All IsFit (each f xs)
all_each f fit [] = All-nil IsFit
all_each f fit (x ∷ xs) = All-cons IsFit (f x) (each f xs) (fit x) (all_each f fit xs)

all_served : (station : ℕ) (served : List (Option LastAccepted)) → All IsFit (served_rows station served)
unfolding IsFit
all_served station [] = All-nil IsFit
all_served station (None ∷ served) = all_served (station + 1) served
all_served station (Some last ∷ served) = All-cons IsFit (ServedRow station last) (served_rows (station + 1) served) (tt, tt) (all_served (station + 1) served)

radio_fit : (s : State) → IsState s → (e : Path × Radio) → IsFit (radio_row s.groups e)
unfolding IsFit
radio_fit s state e =
    let a = length_each group_of (map.entries (of_radio s.groups (number e.0))) in
    let b = map.len-entries (of_radio s.groups (number e.0)) in
    let c = state.attachments.0 (number e.0) in
    (omega (arith, a, b, c), tt)

rows_fit : (s : State) → IsState s → All IsFit (rows_of 1 s)
unfolding IsFit
rows_fit s state =
    let served = all_served 1 s.served in
    let mail = All-append IsFit (each MailRow s.mail.items) (served_rows 1 s.served) (all_each MailRow (λ w. (tt, tt)) s.mail.items) served in
    let radios = All-append IsFit (each (radio_row s.groups) (map.entries s.registered.radios)) _ (all_each (radio_row s.groups) (radio_fit s state) (map.entries s.registered.radios)) mail in
    let rules = All-append IsFit (each rule_row (map.entries s.registered.rules)) _ (all_each rule_row (λ e. (tt, tt)) (map.entries s.registered.rules)) radios in
    All-cons IsFit (HeaderRow (header_of 1 s)) _ (tt, refl) rules

both : (rows : List Row) → All IsRow rows → All IsFit rows → All IsLineRow rows
unfolding IsFit
both [] are fit = All-nil IsLineRow
both (row ∷ rows) are fit =
    let f = All-head IsFit row rows fit in
    All-cons IsLineRow row rows (record { is_row = All-head IsRow row rows are; few = f.0; first = f.1 }) (both rows (All-tail IsRow row rows are) (All-tail IsFit row rows fit))

pub are_lines : (s : State) → IsState s → StateInRange s → All IsLineRow (rows_of 1 s)
are_lines s state ranges = both (rows_of 1 s) (are_rows 1 s (omega arith) (omega arith) state ranges) (rows_fit s state)

-- ---- lines of rows

headed : Loading → TextLoading
headed l = record { stated = None; headed = true; rows = l }

-- what comes of a row that is taken
with_row : (o : Option Loading) (rows : List Row) → ((n : Loading) → lines_taken (headed n) (each row_line rows) ≡ or_place (all_taken n rows)) →
    then_lines (or_place o) (λ u. lines_taken u (each row_line rows)) ≡ or_place (o >>= λ n. all_taken n rows)
unfolding headed
with_row None rows later = refl
with_row (Some n) rows later = later n

rows_taken : (rows : List Row) (l : Loading) → All IsLineRow rows → lines_taken (headed l) (each row_line rows) ≡ or_place (all_taken l rows)
unfolding headed line_taken
rows_taken [] l are = refl
rows_taken (row ∷ rows) l are =
    ap (λ o. then_lines (or_spelling None l o) (λ u. lines_taken u (each row_line rows))) (line_again row (All-head IsLineRow row rows are))
    ∙ with_row (row_taken l row) rows (λ n. rows_taken rows n (All-tail IsLineRow row rows are))

whole_place : (o : Option Loading) → whole (or_place o) ≡ state_of (o >>= finished)
whole_place None = refl
whole_place (Some l) = refl

-- the lines of a register stand for what its rows stand for
pub lines_made : (limits : Limits) (s : State) → IsState s → StateInRange s → state_in limits (register_lines s) ≡ state_of (state_of_rows limits (rows_of 1 s))
unfolding headed line_taken
lines_made limits s state ranges =
    ap (λ b. whole (then_lines (head_taken None (begun limits) b) (λ u. lines_taken u (each row_line (rows_of 1 s))))) (head_again s.registered.limits ranges.limits)
    ∙ ap whole (rows_taken (rows_of 1 s) (begun limits) (are_lines s state ranges))
    ∙ whole_place (all_taken (begun limits) (rows_of 1 s))

-- they stand for the register itself under its own limits
pub lines_again : (s : State) → IsState s → StateInRange s → state_in s.registered.limits (register_lines s) ≡ Some s
lines_again s state ranges = lines_made s.registered.limits s state ranges ∙ ap state_of (rows_make_state 1 s state ranges)

-- ---- no other lines

none_some : {X P : Type 0} (x : X) → None ≡ Some x → P
none_some x e = absurd cc

-- the epoch and the state
stood_as : (o : Option (ℕ × State)) (t : State) → state_of o ≡ Some t → (e : ℕ) × (o ≡ Some (e, t))
stood_as None t is = none_some t is
stood_as (Some x) t is = (x.0, ap (λ (u : State). Some (x.0, u)) (some_is x.1 t is))

first_epoch : List Row → ℕ
first_epoch [] = 1
first_epoch (HeaderRow h ∷ rows) = h.epoch
first_epoch (RuleRow prefix rule ∷ rows) = 1
first_epoch (RadioRow itsi radio groups ∷ rows) = 1
first_epoch (MailRow w ∷ rows) = 1
first_epoch (ServedRow station last ∷ rows) = 1

first_is : (rows : List Row) → All IsLineRow rows → first_epoch rows ≡ 1
unfolding first_epoch
first_is [] are = refl
first_is (HeaderRow h ∷ rows) are = (All-head IsLineRow (HeaderRow h) rows are).first
first_is (RuleRow prefix rule ∷ rows) are = refl
first_is (RadioRow itsi radio groups ∷ rows) are = refl
first_is (MailRow w ∷ rows) are = refl
first_is (ServedRow station last ∷ rows) are = refl

in_range : (rows : List Row) → All IsLineRow rows → All RowInRange rows
in_range [] are = All-nil RowInRange
in_range (row ∷ rows) are = All-cons RowInRange row rows (All-head IsLineRow row rows are).is_row.range (in_range rows (All-tail IsLineRow row rows are))

read_as : (limits : Limits) (rows : List Row) (t : State) → All IsLineRow rows → state_of (state_of_rows limits rows) ≡ Some t → IsUnder limits rows t
unfolding first_epoch
read_as limits rows t are is =
    let a = stood_as (state_of_rows limits rows) t is in
    let only = only_these_rows limits rows a.0 t (in_range rows are) a.1 in
    let one : a.0 ≡ 1 = sym (ap first_epoch only.0) ∙ first_is rows are in
    record { are = only.0 ∙ ap (λ (e : ℕ). rows_of e t) one; state = only.1; ranges = only.2; under = only.3 }

-- under other limits a register's lines stand for a register with the same rows, or for none
pub lines_under : (limits : Limits) (s t : State) → IsState s → StateInRange s → state_in limits (register_lines s) ≡ Some t → IsUnder limits (rows_of 1 s) t
lines_under limits s t state ranges e = read_as limits (rows_of 1 s) t (are_lines s state ranges) (sym (lines_made limits s state ranges) ∙ e)

-- lines that were taken are those of rows
record AreTaken (l : Loading) (lines : List (List ℕ)) (r : TextLoading) : Type 0 where
  pub rows : List Row
  pub are : lines ≡ each row_line rows
  pub fit : All IsLineRow rows
  pub taken : all_taken l rows ≡ Some r.rows

ok_same : (t u : TextLoading) (e : (let r : Result TextLoading Cause = Ok t in r) ≡ Ok u) → t ≡ u
ok_same t u e = cc

err_ok : {P : Type 0} (c : Cause) (u : TextLoading) (e : (let r : Result TextLoading Cause = Err c in r) ≡ Ok u) → P
err_ok c u e = absurd cc

module _ (line : List ℕ) (lines : List (List ℕ)) (l : Loading) (r : TextLoading) (later : (n : Loading) → lines_taken (headed n) lines ≡ Ok r → AreTaken n lines r) where
  row_then : (row : Row) → line_row line ≡ Some row → (o : Option Loading) → row_taken l row ≡ o → then_lines (or_place o) (λ u. lines_taken u lines) ≡ Ok r → AreTaken l (line ∷ lines) r
  unfolding headed
  row_then row said None made e = err_ok cause.Place r e
  row_then row said (Some n) made e =
      let rest = later n e in
      let spelt = line_only line row said in
      record {
        rows = row ∷ rest.rows;
        are = ap (λ (x : List ℕ). x ∷ lines) spelt.1 ∙ ap (λ (xs : List (List ℕ)). row_line row ∷ xs) rest.are;
        fit = All-cons IsLineRow row rest.rows spelt.0 rest.fit;
        taken = ap (λ (o : Option Loading). o >>= λ m. all_taken m rest.rows) made ∙ rest.taken;
      }

  line_then : (o : Option Row) → line_row line ≡ o → then_lines (or_spelling None l o) (λ u. lines_taken u lines) ≡ Ok r → AreTaken l (line ∷ lines) r
  line_then None said e = err_ok cause.Spelling r e
  line_then (Some row) said e = row_then row said (row_taken l row) refl e

taken_only : (lines : List (List ℕ)) (l : Loading) (r : TextLoading) → lines_taken (headed l) lines ≡ Ok r → AreTaken l lines r
unfolding headed line_taken
taken_only [] l r e = record { rows = []; are = refl; fit = All-nil IsLineRow; taken = ap (λ (t : TextLoading). Some t.rows) (ok_same _ r e) }
taken_only (line ∷ lines) l r e = line_then line lines l r (λ n. taken_only lines n r) (line_row line) refl e

-- lines of a register with these limits
abbrev pub AreLinesUnder : Limits → List (List ℕ) → State → Type 0
AreLinesUnder limits lines t = AreLinesOf lines t × (t.registered.limits ≡ limits)

-- the lines after the first are those of all rows
rows_by : (limits : Limits) (lines : List (List ℕ)) (t : State) (o : Result TextLoading Cause) → lines_taken (headed (begun limits)) lines ≡ o → whole o ≡ Some t
    → (lines ≡ each row_line (rows_of 1 t)) × IsUnder limits (rows_of 1 t) t
unfolding headed
rows_by limits lines t (Err c) made e = none_some t e
rows_by limits lines t (Ok r) made e =
    let rows = taken_only lines (begun limits) r made in
    let stood : state_of (state_of_rows limits rows.rows) ≡ Some t = ap (λ (o : Option Loading). state_of (o >>= finished)) rows.taken ∙ e in
    let read = read_as limits rows.rows t rows.fit stood in
    (rows.are ∙ ap (each row_line) read.are, record { are = refl; state = read.state; ranges = read.ranges; under = read.under })

rows_are : (limits : Limits) (lines : List (List ℕ)) (t : State) → whole (lines_taken (headed (begun limits)) lines) ≡ Some t → (lines ≡ each row_line (rows_of 1 t)) × IsUnder limits (rows_of 1 t) t
rows_are limits lines t e = rows_by limits lines t (lines_taken (headed (begun limits)) lines) refl e

head_then : (limits : Limits) (first : List ℕ) (lines : List (List ℕ)) (t : State) (b : Bool) → is_head first ≡ b →
    whole (then_lines (head_taken None (begun limits) b) (λ u. lines_taken u lines)) ≡ Some t → AreLinesUnder limits (first ∷ lines) t
unfolding headed
head_then limits first lines t false is e = none_some t e
head_then limits first lines t true is e =
    let rows = rows_are limits lines t e in
    (record { counts = []; first = first; head = is; stated = inl refl; are = ap (λ (xs : List (List ℕ)). first ∷ xs) rows.0 }, rows.1.under)

-- ---- after a line that states their number

-- the first of the rows agrees with what was stated
FirstAgrees : ℕ → List (List ℕ) → Type 0
FirstAgrees n lines = (line : List ℕ) (more : List (List ℕ)) (row : Row) → lines ≡ line ∷ more → line_row line ≡ Some row → agrees_with n row ≡ true

-- the first line was taken, and this number was stated before it
stated_as : ℕ → Loading → TextLoading
stated_as n l = record { stated = Some n; headed = true; rows = l }

first_line : (line other : List ℕ) (more others : List (List ℕ)) → line ∷ more ≡ other ∷ others → line ≡ other
first_line line other more others e = cc

one_row : (row other : Row) → Some row ≡ Some other → row ≡ other
one_row row other e = cc

module _ (n : ℕ) (limits : Limits) (line : List ℕ) (more : List (List ℕ)) (t : State) where
  row_agrees : (row : Row) → line_row line ≡ Some row → (b : Bool) → agrees_with n row ≡ b
      → whole (then_lines (or_place (cond b (row_taken (begun limits) row) None)) (λ u. lines_taken u more)) ≡ Some t
      → (whole (then_lines (or_spelling None (begun limits) (Some row)) (λ u. lines_taken u more)) ≡ Some t) × FirstAgrees n (line ∷ more)
  unfolding FirstAgrees
  row_agrees row said true agrees e = (
    e,
    λ other others found is reads.
        ap (agrees_with n) (one_row found row (sym reads ∙ ap line_row (sym (first_line line other more others is)) ∙ said)) ∙ agrees,
  )
  row_agrees row said false agrees e = none_some t e

  spelling_agrees : (o : Option Row) → line_row line ≡ o → whole (then_lines (or_spelling (Some n) (begun limits) o) (λ u. lines_taken u more)) ≡ Some t
      → (whole (then_lines (or_spelling None (begun limits) o) (λ u. lines_taken u more)) ≡ Some t) × FirstAgrees n (line ∷ more)
  spelling_agrees None said e = none_some t e
  spelling_agrees (Some row) said e = row_agrees row said (agrees_with n row) refl e

rows_agree : (n : ℕ) (limits : Limits) (lines : List (List ℕ)) (t : State) → whole (lines_taken (stated_as n (begun limits)) lines) ≡ Some t
    → (whole (lines_taken (headed (begun limits)) lines) ≡ Some t) × FirstAgrees n lines
unfolding stated_as headed line_taken finished
rows_agree n limits [] t e = none_some t e
rows_agree n limits (line ∷ more) t e = spelling_agrees n limits line more t (line_row line) refl e

-- so many lines there are
lines_counted : (n : ℕ) (t : State) → IsState t → StateInRange t → FirstAgrees n (each row_line (rows_of 1 t)) → n ≡ 1 + length (rows_of 1 t)
unfolding FirstAgrees
lines_counted n t state ranges agrees =
    let header : IsLineRow (HeaderRow (header_of 1 t)) = All-head IsLineRow (HeaderRow (header_of 1 t)) _ (are_lines t state ranges) in
    let same : agrees_with n (HeaderRow (header_of 1 t)) ≡ true = agrees (row_line (HeaderRow (header_of 1 t))) _ (HeaderRow (header_of 1 t)) refl (line_again (HeaderRow (header_of 1 t)) header) in
    eqb-true n (line_count (header_of 1 t)) same ∙ ap (λ (k : ℕ). 1 + k) (sym (rows_counted 1 t))

module _ (limits : Limits) (count : List ℕ) (n : ℕ) (stated : count_in count ≡ Some n) (t : State) where
  stated_head : (first : List ℕ) (lines : List (List ℕ)) (b : Bool) → is_head first ≡ b → whole (then_lines (head_taken (Some n) (begun limits) b) (λ u. lines_taken u lines)) ≡ Some t
      → AreLinesUnder limits (count ∷ first ∷ lines) t
  unfolding stated_as
  stated_head first lines false is e = none_some t e
  stated_head first lines true is e =
      let agree = rows_agree n limits lines t e in
      let rows = rows_are limits lines t agree.0 in
      let n_is : n ≡ 1 + length (rows_of 1 t) = lines_counted n t rows.1.state rows.1.ranges (subst (FirstAgrees n) rows.0 agree.1) in (
        record {
          counts = count ∷ [];
          first = first;
          head = is;
          stated = inr (ap (λ (line : List ℕ). line ∷ []) (count_only count n stated ∙ ap (λ (k : ℕ). codes "dump " ++ decimal k) n_is));
          are = ap (λ (xs : List (List ℕ)). count ∷ first ∷ xs) rows.0;
        },
        rows.1.under,
      )

  after_count : (lines : List (List ℕ)) → whole (lines_taken (record { stated = Some n; headed = false; rows = begun limits }) lines) ≡ Some t → AreLinesUnder limits (count ∷ lines) t
  unfolding line_taken finished
  after_count [] e = none_some t e
  after_count (first ∷ lines) e = stated_head first lines (is_head first) refl e

-- the first of these lines states their number, or is the first line
count_then : (limits : Limits) (first : List ℕ) (lines : List (List ℕ)) (t : State) (o : Option ℕ) → count_in first ≡ o
    → whole (then_lines (count_taken None (begun limits) first o) (λ u. lines_taken u lines)) ≡ Some t → AreLinesUnder limits (first ∷ lines) t
count_then limits first lines t None is e = head_then limits first lines t (is_head first) refl e
count_then limits first lines t (Some n) is e = after_count limits first n is t lines e

pub lines_both : (limits : Limits) (lines : List (List ℕ)) (t : State) → state_in limits lines ≡ Some t → AreLinesUnder limits lines t
unfolding line_taken finished
lines_both limits [] t e = none_some t e
lines_both limits (first ∷ lines) t e = count_then limits first lines t (count_in first) refl e

pub lines_only : (limits : Limits) (lines : List (List ℕ)) (t : State) → state_in limits lines ≡ Some t → AreLinesOf lines t
lines_only limits lines t e = (lines_both limits lines t e).0
