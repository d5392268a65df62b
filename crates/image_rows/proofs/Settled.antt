-- A row whose PDU is in its written form is read as it is; and what is read is such a row.
use Rattle.std.proofs.Common.{◌≡◌, ℕ, ◌≤◌, Bool, true, cond, List, ◌++◌, length, Option, Some, None, refl, sym, ap, subst, ◌∙◌, arith, inl}
use Rattle.base.proofs.Bools.{and_is_true, first_true, second_true}
use Rattle.base.proofs.Options.{some_is}
use Rattle.sds_tl.specs.declared.fault.SdsFault.{SdsFault}
use Rattle.sds_tl.specs.declared.pdu.Head.{Head}
use Rattle.sds_tl.specs.Syntax.{Spells}
use Rattle.sds_tl.specs.Reading.{fault, unless, value, heading, head_value, cleared}
use Rattle.sds_tl.proofs.Spelling.{value_takes}
use Rattle.sds_tl.proofs.Cleared.{cleared_is_canon, cleared_spells, heading-cleared}
use Rattle.mailbox.specs.declared.key.Kind.{Kind}
use Rattle.mailbox.specs.declared.key.Kind.TheVariants.{Message, Report}
use Rattle.mailbox.specs.Values.{Item}
use Rattle.mailbox.specs.Sound.{is_head_of, may_have_group, is_as_named}
use Rattle.identity.specs.Packed.{AreBytes}
use Rattle.command_bytes.specs.Fields.{◌>>=◌, number_at}
use Rattle.command_bytes.proofs.Steps.{bind_some, some_where, last_again}
use Rattle.image_rows.specs.Rows.{Row, HeaderRow, RuleRow, RadioRow, MailRow, ServedRow}
use Rattle.image_rows.specs.RowText.{tag_of, row_bytes}
use Rattle.image_rows.specs.RowReading.{row_at, fields_at, fields_in, row_in, is_known, written, settled, IsRow, RowAsRead, Spells as SpellsRow}
use Rattle.image_rows.proofs.RowLaws.{row_takes, row_again}

-- ---- PDUs

-- what has a head has no fault
pub faultless : (kind : Kind) (n : ℕ) (f : Option SdsFault) (h : Head) → is_head_of kind n (unless f h) ≡ true → f ≡ None
faultless Message n None h e = refl
faultless Message n (Some f) h e = absurd cc
faultless Report n None h e = refl
faultless Report n (Some f) h e = absurd cc

-- what a PDU without fault is written as
record IsCleared (bits : List Bool) : Type 0 where
  pub head : heading (cleared bits) ≡ heading bits
  pub again : cleared (cleared bits) ≡ cleared bits
  pub room : length (cleared bits) ≤ 2047

cleared_again : (bits : List Bool) → fault bits ≡ None → IsCleared bits
cleared_again bits none =
    let spells : Spells {A = ℕ} (value bits) bits = value_takes ℕ bits none in
    let after : Spells {A = ℕ} (value bits) (cleared bits) = cleared_spells ℕ (value bits) bits spells in
    record {
      head = heading-cleared ℕ bits none;
      again = cleared_is_canon ℕ (value bits) (cleared bits) after ∙ sym (cleared_is_canon ℕ (value bits) bits spells);
      room = after.room;
    }

-- what is as its key says has a PDU of its kind and reference
pub headed : (w : Item) → is_as_named w ≡ true → is_head_of w.key.kind w.key.reference (heading w.pdu) ≡ true
headed w known = second_true (may_have_group w.key.kind w.group) _ known

-- such a PDU is written as one without fault
cleared_of : (w : Item) → is_as_named w ≡ true → IsCleared w.pdu
cleared_of w known = cleared_again w.pdu (faultless w.key.kind w.key.reference (fault w.pdu) (head_value w.pdu) (headed w known))

-- what is as its key says still is, once its PDU is written
pub still_known : (w : Item) → is_as_named w ≡ true → is_as_named (record w { pdu = cleared w.pdu }) ≡ true
still_known w known =
    and_is_true (may_have_group w.key.kind w.group) _ (first_true (may_have_group w.key.kind w.group) _ known)
    (ap (is_head_of w.key.kind w.key.reference) (cleared_of w known).head ∙ headed w known)

-- ---- what is read is a row

is_row : (seen : Row) → RowAsRead seen → is_known seen ≡ true → IsRow (written seen)
is_row (HeaderRow h) fits known = record { range = fits; known = refl }
is_row (RuleRow prefix rule) fits known = record { range = fits; known = refl }
is_row (RadioRow itsi radio groups) fits known = record { range = fits; known = refl }
is_row (MailRow w) fits known =
    let so = cleared_of w known in
    record {
      range = record {
        item = record { key = fits.key; deadline = fits.deadline; pdu = so.room; group = fits.group };
        number = fits.number;
        written = so.again;
      };
      known = still_known w known;
    }
is_row (ServedRow station last) fits known = record { range = fits; known = refl }

bind_bind : {X Y Z : Type 0} (r : Option X) (f : X → Option Y) (g : Y → Option Z) → (r >>= λ x. f x >>= g) ≡ ((r >>= f) >>= g)
bind_bind None f g = refl
bind_bind (Some x) f g = refl

settle : Row × List ℕ → Option Row
settle row = settled row.0

by_row : (bytes : List ℕ) → row_in bytes ≡ (row_at bytes >>= settle)
unfolding row_in fields_in row_at settle
by_row bytes = bind_bind (number_at 1 bytes) (λ tag. fields_at tag.0 tag.1) settle

pub row_is_spelt : (row : Row) (bytes : List ℕ) → AreBytes bytes → row_in bytes ≡ Some row → IsRow row × SpellsRow row bytes
unfolding settle
row_is_spelt row bytes are e =
    let a = bind_some (row_at bytes) settle row (sym (by_row bytes) ∙ e) in
    let seen : Row × List ℕ = a.0 in
    let takes = row_takes bytes seen are a.1 in
    let b = some_where (is_known seen.0) (Some (written seen.0)) row a.2 in
    let same : written seen.0 ≡ row = some_is (written seen.0) row b.1 in
    (subst IsRow same (is_row seen.0 takes.3 b.0), record { seen = seen.0; tag = takes.0; tagged = takes.1; rest = seen.1; is = takes.2; fits = takes.3; known = b.0; same = same })

-- ---- a row is read

pub spelt_is_read : (row : Row) (bytes : List ℕ) → SpellsRow row bytes → row_in bytes ≡ Some row
unfolding settle
spelt_is_read row bytes spells =
    by_row bytes ∙ ap (λ (l : List ℕ). row_at l >>= settle) spells.is
    ∙ last_again settle (row_again spells.seen spells.tag spells.rest spells.tagged spells.fits)
    (ap (λ (b : Bool). cond b (Some (written spells.seen)) None) spells.known ∙ ap Some spells.same)

as_read : (row : Row) → IsRow row → RowAsRead row
as_read (HeaderRow h) is = is.range
as_read (RuleRow prefix rule) is = is.range
as_read (RadioRow itsi radio groups) is = is.range
as_read (MailRow w) is =
    let item = is.range.item in
    let few = item.pdu in
    record { key = item.key; number = is.range.number; deadline = item.deadline; pdu = omega (arith, few); group = item.group }
as_read (ServedRow station last) is = is.range

as_written : (row : Row) → IsRow row → written row ≡ row
as_written (HeaderRow h) is = refl
as_written (RuleRow prefix rule) is = refl
as_written (RadioRow itsi radio groups) is = refl
as_written (MailRow w) is = ap (λ (pdu : List Bool). MailRow (record w { pdu = pdu })) is.range.written
as_written (ServedRow station last) is = refl

pub written_is_read : (row : Row) (rest : List ℕ) → IsRow row → row_in (row_bytes row ++ rest) ≡ Some row
unfolding row_bytes
written_is_read row rest is =
    spelt_is_read row (row_bytes row ++ rest) (record { seen = row; tag = tag_of row; tagged = inl refl; rest = rest; is = refl; fits = as_read row is; known = is.known; same = as_written row is })
