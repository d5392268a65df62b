-- The rows of a slot, taken one after another.
use Rattle.std.proofs.Common.{◌≡◌, ℕ, suc, ◌+◌, ◌-◌, ◌^◌, ◌<◌, ◌≤◌, true, false, List, [], ◌∷◌, ◌++◌, length, Option, Some, None, Result, Ok, Err, refl, sym, ap, subst, ◌∙◌, arith}
use Rattle.std.specs.Prelude.{map as each, IfSome, IsSome}
use Rattle.std.specs.Option.{is_some}
use Rattle.std.specs.List.{All}
use Rattle.std.proofs.lemmas.List.Elements.{All-nil, All-push}
use Rattle.std.proofs.lemmas.List.{length-append}
use Rattle.base.proofs.Options.{some_is}
use Rattle.sector_disk.specs.Disk.{IsSector, sector}
use Rattle.registration.specs.declared.limits.Limits.{Limits}
use Rattle.centre_core.specs.State.{State}
use Rattle.image_rows.specs.Rows.{Row, HeaderRow, RuleRow, RadioRow, MailRow, ServedRow, Header, RowInRange, rows_of}
use Rattle.image_rows.specs.RowReading.{row_in}
use Rattle.image_rows.specs.Loading.{◌>>=◌, Loading, all_done, all_taken, begin, begun, finished, finished_by, header_may, mail_may, put, radio_may}
use Rattle.image_rows.specs.Loading.{row_taken, rule_may, served_may, state_of_rows, take_by, taken_mail, taken_radio, taken_rule, taken_served}
use Rattle.image_rows.specs.Slot.{or_later, read_from, with_row}
use Rattle.command_bytes.proofs.Steps.{some_where}
use Rattle.image_rows.proofs.Exactly.{bind_some, only_these_rows}
use Rattle.image_rows.proofs.Rules.{all_taken-append}
use Rattle.image_rows.proofs.Settled.{row_is_spelt}
use Rattle.image_rows.specs.Image.{slot_of}
use Rattle.checkpoint.specs.declared.layout.Layout.{Layout}
use Rattle.checkpoint.specs.declared.read_fault.ReadFault.{ReadFault}
use Rattle.checkpoint.specs.declared.read_fault.ReadFault.TheVariants.{Damaged}
use Rattle.checkpoint.specs.declared.side.Side.{Side}
use Rattle.checkpoint.specs.Layout.{disk_size, slot_at, slot_size}
use Rattle.checkpoint.specs.OnSide.{Base, sectors_from, slot_in}
use Rattle.image_rows.specs.Held.{taken_from}
use Rattle.checkpoint.proofs.Apart.{lies}

-- whether all rows came

pub none_whole : (o : Option Base) → false ≡ is_some o → o ≡ None
none_whole None e = refl
none_whole (Some image) e = absurd cc

pub some_whole : (o : Option Base) → true ≡ is_some o → (image : Base) × (o ≡ Some image)
some_whole None e = absurd cc
some_whole (Some image) e = (image, refl)

-- the image of which it is stated
pub of_whole : (o : Option Base) (image : Base) (P : Base → Type 0) → o ≡ Some image → IfSome o P → P image
of_whole None image P e has = absurd cc
of_whole (Some last) image P e has = subst P (some_is last image e) has

pub damaged_is : (x y : ℕ) → (let r : Result Unit ReadFault = Err (Damaged x) in r) ≡ Err (Damaged y) → x ≡ y
damaged_is x y e = cc

err_is : (x y : ℕ) → (let r : Result Base ℕ = Err x in r) ≡ Err y → x ≡ y
err_is x y e = cc

-- no bad place lies before the one where the reading begins
not_before : (place : ℕ) (l : Loading) (rows : List (Option Row)) (at : ℕ) → read_from place l rows ≡ Err at → place ≤ at
not_before place l [] at e = let same = err_is place at e in omega (arith, same)
not_before place l (None ∷ rows) at e = let same = err_is place at e in omega (arith, same)
not_before place l (Some row ∷ rows) at e =
    elim (row_taken l row) as (λ r. with_row place r (λ n. read_from (place + 1) n rows) ≡ Err at → place ≤ at) [
      | None ↦ λ none. let same = err_is place at none in omega (arith, same)
      | Some n ↦ λ on.
          elim (finished n) as (λ o. or_later o (read_from (place + 1) n rows) ≡ Err at → place ≤ at) [
            | Some last ↦ λ done. absurd cc
            | None ↦ λ later. let less = not_before (place + 1) n rows at later in omega (arith, less)
          ] on
    ] e

not_before_or : (place : ℕ) (l : Loading) (rows : List (Option Row)) (at : ℕ) → or_later (finished l) (read_from place l rows) ≡ Err at → place ≤ at
not_before_or place l rows at e =
    elim (finished l) as (λ o. or_later o (read_from place l rows) ≡ Err at → place ≤ at) [
      | Some last ↦ λ done. absurd cc
      | None ↦ λ later. not_before place l rows at later
    ] e

-- one sector, and the others
one_and_rest : (reads : List (List ℕ)) (first size k : ℕ) → k < size → sectors_from reads (first + k) (size - k) ≡ sector reads (first + k) ∷ sectors_from reads (first + (k + 1)) (size - (k + 1))
unfolding sectors_from
one_and_rest reads first size k lt =
    let more : size - k ≡ suc (size - (k + 1)) = omega (arith, lt) in
    let next : first + (k + 1) ≡ first + k + 1 = omega arith in
    rw (more, next) refl

none_left : (reads : List (List ℕ)) (first size k : ℕ) → size ≤ k → sectors_from reads (first + k) (size - k) ≡ []
unfolding sectors_from
none_left reads first size k le =
    let none : size - k ≡ 0 = omega (arith, le) in
    rw none refl

module _ (reads : List (List ℕ)) (first size : ℕ) where
  -- what the rest of a slot is read as, once so many of its sectors were
  abbrev pub rest_of : ℕ → Loading → Result Base ℕ
  rest_of k l = or_later (finished l) (read_from k l (each row_in (sectors_from reads (first + k) (size - k))))

  -- what is taken of the next sector
  abbrev pub next_taken : ℕ → Loading → Option Loading
  next_taken k l = taken_from l (sector reads (first + k))

  begun_rest : (limits : Limits) → rest_of 0 (begun limits) ≡ slot_of limits (sectors_from reads first size)
  unfolding finished
  begun_rest limits =
      let here : first + 0 ≡ first = omega arith in
      let all : size - 0 ≡ size = omega arith in
      ap (λ (at : ℕ). read_from 0 (begun limits) (each row_in (sectors_from reads at (size - 0)))) here ∙ ap (λ (n : ℕ). read_from 0 (begun limits) (each row_in (sectors_from reads first n))) all

  pub rest_begun : (limits : Limits) (l : Loading) → l ≡ begun limits → rest_of 0 l ≡ slot_of limits (sectors_from reads first size)
  rest_begun limits l is = ap (λ (n : Loading). rest_of 0 n) is ∙ begun_rest limits

  pub rest_whole : (k : ℕ) (l : Loading) (image : Base) → finished l ≡ Some image → rest_of k l ≡ Ok image
  rest_whole k l image whole = ap (λ o. or_later o (read_from k l (each row_in (sectors_from reads (first + k) (size - k))))) whole

  pub rest_ended : (k : ℕ) (l : Loading) → finished l ≡ None → size ≤ k → rest_of k l ≡ Err k
  rest_ended k l more le =
      ap (λ o. or_later o (read_from k l (each row_in (sectors_from reads (first + k) (size - k))))) more
      ∙ ap (λ (rest : List (List ℕ)). read_from k l (each row_in rest)) (none_left reads first size k le)

  module _ (k : ℕ) (l : Loading) (more : finished l ≡ None) (lt : k < size) where
    stepped : rest_of k l ≡ with_row k (next_taken k l) (λ n. read_from (k + 1) n (each row_in (sectors_from reads (first + (k + 1)) (size - (k + 1)))))
    stepped =
        ap (λ o. or_later o (read_from k l (each row_in (sectors_from reads (first + k) (size - k))))) more
        ∙ ap (λ (rest : List (List ℕ)). read_from k l (each row_in rest)) (one_and_rest reads first size k lt)

    pub rest_bad : next_taken k l ≡ None → rest_of k l ≡ Err k
    rest_bad bad = stepped ∙ ap (λ r. with_row k r (λ n. read_from (k + 1) n (each row_in (sectors_from reads (first + (k + 1)) (size - (k + 1)))))) bad

    pub rest_next : (n : Loading) → next_taken k l ≡ Some n → rest_of k l ≡ rest_of (k + 1) n
    rest_next n is = stepped ∙ ap (λ r. with_row k r (λ m. read_from (k + 1) m (each row_in (sectors_from reads (first + (k + 1)) (size - (k + 1)))))) is

    -- where the next one is good, no bad one lies before or at it
    pub bad_after : IsSome (next_taken k l) → (place : ℕ) → rest_of k l ≡ Err place → k + 1 ≤ place
    bad_after good place e =
        elim (next_taken k l) as (λ r. IsSome r → with_row k r (λ n. read_from (k + 1) n (each row_in (sectors_from reads (first + (k + 1)) (size - (k + 1))))) ≡ Err place → k + 1 ≤ place) [
          | None ↦ λ none on. absurd cc
          | Some n ↦ λ some on. not_before_or (k + 1) n (each row_in (sectors_from reads (first + (k + 1)) (size - (k + 1)))) place on
        ] good (sym stepped ∙ e)

-- the slot of a side
module _ (layout : Layout) (side : Side) (first size : ℕ) (f : first ≡ slot_at layout side) (s : size ≡ slot_size layout) where
  pub slot_within : first + size ≤ disk_size layout
  slot_within =
      let places = lies layout side in
      let ends : slot_at layout side + slot_size layout ≤ disk_size layout = omega (arith, places.slot, places.half) in
      rw (f, s) ends

  pub slot_before : first + size < disk_size layout
  slot_before =
      let places = lies layout side in
      let some = layout.in_range.fewest in
      let ends : slot_at layout side + slot_size layout < disk_size layout = omega (arith, places.slot, places.half, some) in
      rw (f, s) ends

  pub slot_fits : first + size < 2 ^ 64
  slot_fits = let places = lies layout side in let within = slot_within in omega (arith, within, places.short)

  pub slot_is : (reads : List (List ℕ)) → slot_of layout.limits (sectors_from reads first size) ≡ slot_in layout side reads
  slot_is reads = ap (λ (at : ℕ). slot_of layout.limits (sectors_from reads at size)) f ∙ ap (λ (n : ℕ). slot_of layout.limits (sectors_from reads (slot_at layout side) n)) s

-- ---- the rows that were taken

-- so many rows were taken, each in its range
pub record HasTaken (limits : Limits) (k : ℕ) (l : Loading) : Type 0 where
  pub rows : List Row
  pub so_many : length rows ≡ k
  pub in_range : All RowInRange rows
  pub taken : all_taken (begun limits) rows ≡ Some l

none_taken : (limits : Limits) → HasTaken limits 0 (begun limits)
none_taken limits = record { rows = []; so_many = refl; in_range = All-nil RowInRange; taken = refl }

pub taken_begun : (limits : Limits) (l : Loading) → l ≡ begun limits → HasTaken limits 0 l
taken_begun limits l is = subst (λ (n : Loading). HasTaken limits 0 n) (sym is) (none_taken limits)

pub one_taken : (limits : Limits) (k : ℕ) (l n : Loading) (bytes : List ℕ) → IsSector bytes → taken_from l bytes ≡ Some n → HasTaken limits k l → HasTaken limits (k + 1) n
one_taken limits k l n bytes is e has =
    let found = bind_some (row_in bytes) (row_taken l) n e in
    let row : Row = found.0 in
    let spelt = row_is_spelt row bytes is.bytes found.1 in
    let many = has.so_many in
    let longer = length-append has.rows (row ∷ []) in
    record {
      rows = has.rows ++ row ∷ [];
      so_many = omega (arith, many, longer);
      in_range = All-push RowInRange has.rows row has.in_range spelt.0.range;
      taken = all_taken-append (begun limits) has.rows (row ∷ []) ∙ ap (λ r. r >>= λ m. all_taken m (row ∷ [])) has.taken ∙ ap (λ r. r >>= λ m. all_taken m []) found.2;
    }

-- no row changes the limits
put_limits : (h : Header) (s n : State) (row : Row) → put h s row ≡ Some n → n.registered.limits ≡ s.registered.limits
put_limits h s n (HeaderRow again) e = absurd cc
put_limits h s n (RuleRow prefix rule) e = let is = some_where (rule_may h s prefix) (Some (taken_rule s prefix rule)) n e in ap (λ (t : State). t.registered.limits) (sym (some_is _ n is.1))
put_limits h s n (RadioRow itsi radio groups) e = let is = some_where (radio_may h s itsi radio groups) (Some (taken_radio s itsi radio groups)) n e
    in ap (λ (t : State). t.registered.limits) (sym (some_is _ n is.1))
put_limits h s n (MailRow w) e = let is = some_where (mail_may h s w) (Some (taken_mail s w)) n e in ap (λ (t : State). t.registered.limits) (sym (some_is _ n is.1))
put_limits h s n (ServedRow station last) e = let is = some_where (served_may h s station last) (Some (taken_served s station last)) n e in
    ap (λ (t : State). t.registered.limits) (sym (some_is _ n is.1))

begin_limits : (s : State) (n : Loading) (row : Row) → begin s row ≡ Some n → n.state.registered.limits ≡ s.registered.limits
begin_limits s n (HeaderRow h) e = let is =
    some_where (header_may s.registered.limits h) (Some (record { header = Some h; state = record s { count = h.count } })) n e in
    ap (λ (l : Loading). l.state.registered.limits) (sym (some_is _ n is.1))
begin_limits s n (RuleRow prefix rule) e = absurd cc
begin_limits s n (RadioRow itsi radio groups) e = absurd cc
begin_limits s n (MailRow w) e = absurd cc
begin_limits s n (ServedRow station last) e = absurd cc

row_limits : (header : Option Header) (s : State) (n : Loading) (row : Row) → take_by header s row ≡ Some n → n.state.registered.limits ≡ s.registered.limits
row_limits None s n row e = begin_limits s n row e
row_limits (Some h) s n row e =
    let found = bind_some (put h s row) (λ t. Some (record { header = Some h; state = t })) n e in
    ap (λ (l : Loading). l.state.registered.limits) (sym (some_is _ n found.2)) ∙ put_limits h s found.0 row found.1

pub taken_limits : (l n : Loading) (bytes : List ℕ) → taken_from l bytes ≡ Some n → n.state.registered.limits ≡ l.state.registered.limits
unfolding row_taken
taken_limits l n bytes e = let found = bind_some (row_in bytes) (row_taken l) n e in row_limits l.header l.state n found.0 found.2

-- nor does the end
finished_state : (header : Option Header) (s : State) (image : Base) → finished_by header s ≡ Some image → image.1.registered.limits ≡ s.registered.limits
finished_state None s image e = absurd cc
finished_state (Some h) s image e = let is = some_where (all_done h s) (Some (h.epoch, s)) image e in ap (λ (b : Base). b.1.registered.limits) (sym (some_is (h.epoch, s) image is.1))

pub whole_limits : (l : Loading) (image : Base) → finished l ≡ Some image → image.1.registered.limits ≡ l.state.registered.limits
unfolding finished
whole_limits l image e = finished_state l.header l.state image e

-- once all rows came, they are those of the image
pub all_came : (limits : Limits) (k : ℕ) (l : Loading) (image : Base) → finished l ≡ Some image → HasTaken limits k l → k ≡ length (rows_of image.0 image.1)
all_came limits k l image whole has =
    let on_side : state_of_rows limits has.rows ≡ Some image = ap (λ r. r >>= finished) has.taken ∙ whole in
    let only = only_these_rows limits has.rows image.0 image.1 has.in_range on_side in
    sym has.so_many ∙ ap (λ (rows : List Row). length rows) only.0
