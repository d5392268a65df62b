-- A line that is read as a row is that row's line.
use Rattle.std.proofs.Common.{◌≡◌, ℕ, zero, suc, ◌-◌, Bool, true, false, cond, List, [], ◌∷◌, ◌++◌, length, replicate, refl, sym, ◌∙◌, ap, subst, arith, Option, Some, None, nat_le}
use Rattle.std.specs.Prelude.{option_map}
use Rattle.std.specs.List.{flat_map}
use Rattle.std.specs.Str.{bytes_eq}
use Rattle.std.proofs.lemmas.Bool.{leb-true}
use Rattle.std.proofs.lemmas.Slice.Eq.{bytes_eq-Decides}
use Rattle.base.proofs.Options.{some_is}
use Rattle.identity.specs.Packed.{AreBytes}
use Rattle.identity.specs.Path.{Path}
use Rattle.mailbox.specs.declared.key.Key.{Key}
use Rattle.command_bytes.specs.Fields.{◌>>=◌, big, left, bytes_for}
use Rattle.command_bytes.specs.Text.{prefix_text, key_text, bits_text}
use Rattle.command_bytes.proofs.Numbers.{are-big}
use Rattle.command_bytes.proofs.Steps.{bind_some, some_where}
use Rattle.console.specs.Reading.{words}
use Rattle.image_rows.specs.Rows.{Row, HeaderRow, RuleRow, RadioRow, MailRow, ServedRow, Group, Header}
use Rattle.image_rows.specs.RowText.{copied_text, fields_of, group_text, padded, reply_bits, row_bytes, sector_of, tag_of, usage_number}
use Rattle.image_rows.specs.RowReading.{IsRow, row_in}
use Rattle.image_rows.specs.RowSizes.{HasFewGroups}
use Rattle.image_rows.proofs.Settled.{row_is_spelt}
use Rattle.register_text.specs.Lines.{fields, group_words, keyword, row_line, HasFirstEpoch, Spells}
use Rattle.register_text.specs.Reading.{if_spelt, line_row, row_given, sector_in}
use Rattle.register_text.proofs.Spaces.{words_of}
use Rattle.register_text.proofs.Again.{header_back, sector_read, three_words}

-- ---- bytes

are_none : AreBytes []
are_none i = omega arith

are_both : (xs ys : List ℕ) → AreBytes xs → AreBytes ys → AreBytes (xs ++ ys)
are_both [] ys ax ay i = ay i
are_both (x ∷ xs) ys ax ay zero = ax 0
are_both (x ∷ xs) ys ax ay (suc i) = are_both xs ys (λ j. ax (suc j)) ay i

are_zeros : (n : ℕ) → AreBytes (replicate n 0)
are_zeros zero i = omega arith
are_zeros (suc n) zero = omega arith
are_zeros (suc n) (suc i) = are_zeros n i

are_padded : (bytes : List ℕ) → AreBytes bytes → AreBytes (padded bytes)
are_padded bytes are = are_both bytes (replicate (512 - length bytes) 0) are (are_zeros (512 - length bytes))

-- a number more
more : (bytes : List ℕ) (width n : ℕ) → AreBytes bytes → AreBytes (bytes ++ big width n)
more bytes width n are = are_both bytes (big width n) are (are-big width n)

are_left : (width : ℕ) (bits : List Bool) → AreBytes (left width bits)
unfolding left
are_left width bits = are-big width _

are_prefix : (p : Path) → AreBytes (prefix_text p)
are_prefix p = are_both (big 1 (length p)) (left 6 p) (are-big 1 (length p)) (are_left 6 p)

are_bits : (bits : List Bool) → AreBytes (bits_text bits)
are_bits bits = are_both (big 2 (length bits)) (left (bytes_for (length bits)) bits) (are-big 2 (length bits)) (are_left (bytes_for (length bits)) bits)

are_key : (key : Key) → AreBytes (key_text key)
are_key key = more _ 1 _ (more _ 1 key.reference (more _ 6 key.source (are-big 6 key.destination)))

are_copied : (group : Option ℕ) → AreBytes (copied_text group)
are_copied None = are_none
are_copied (Some gtsi) = are-big 6 gtsi

are_groups : (groups : List Group) → AreBytes (flat_map group_text groups)
are_groups [] = are_none
are_groups (g ∷ groups) = are_both (group_text g) (flat_map group_text groups) (more _ 1 (usage_number g.1) (are-big 6 g.0)) (are_groups groups)

are_fields : (row : Row) → AreBytes (fields_of row)
are_fields (HeaderRow h) = more _ 4 h.served (more _ 4 h.mail (more _ 4 h.radios (more _ 4 h.rules (more _ 8 h.count (are-big 8 h.epoch)))))
are_fields (RuleRow prefix rule) = are_both (prefix_text prefix) _ (are_prefix prefix) (more _ 4 rule.keep (more _ 1 _ (more _ 2 rule.high (are-big 2 rule.low))))
are_fields (RadioRow itsi radio groups) =
    are_both _ (flat_map group_text groups) (more _ 1 (length groups) (more _ 1 _ (more _ 2 radio.area (more _ 2 radio.station (are-big 6 itsi))))) (are_groups groups)
are_fields (MailRow w) =
    are_both _ (bits_text w.pdu) (are_both _ (copied_text w.group) (are_both _ (key_text w.key) (more _ 8 w.deadline (are-big 8 w.number)) (are_key w.key)) (are_copied w.group)) (are_bits w.pdu)
are_fields (ServedRow station last) = are_both _ (bits_text (reply_bits last.pdu)) (more _ 8 last.number (more _ 4 last.sequence (are-big 2 station))) (are_bits (reply_bits last.pdu))

-- the sector of any row is of bytes
are_sector : (row : Row) → AreBytes (sector_of row)
unfolding sector_of row_bytes
are_sector row = are_padded (big 1 (tag_of row) ++ fields_of row) (are_both (big 1 (tag_of row)) (fields_of row) (are-big 1 (tag_of row)) (are_fields row))

are_read : (o : Option Row) (sector : List ℕ) → option_map sector_of o ≡ Some sector → AreBytes sector
are_read None sector e = absurd cc
are_read (Some row) sector e = subst AreBytes (some_is (sector_of row) sector e) (are_sector row)

-- ---- the whole

was_true : (b : Bool) (o : Option Row) (sector : List ℕ) → option_map sector_of (cond b o None) ≡ Some sector → b ≡ true
was_true true o sector e = refl
was_true false o sector e = absurd cc

few_of : (row : Row) (sector : List ℕ) → sector_in (keyword row ∷ fields row) ≡ Some sector → HasFewGroups row
few_of (HeaderRow h) sector e = tt
few_of (RuleRow prefix rule) sector e = tt
few_of (RadioRow itsi radio groups) sector e =
    let few = leb-true _ _ (was_true (nat_le (length (flat_map group_words groups)) 96) _ sector e) in
    omega (arith, few, three_words groups)
few_of (MailRow w) sector e = tt
few_of (ServedRow station last) sector e = tt

epoch_of : Row → ℕ
epoch_of (HeaderRow h) = h.epoch
epoch_of (RuleRow prefix rule) = 1
epoch_of (RadioRow itsi radio groups) = 1
epoch_of (MailRow w) = 1
epoch_of (ServedRow station last) = 1

first_of : (row : Row) (sector : List ℕ) → IsRow row → sector_in (keyword row ∷ fields row) ≡ Some sector → row_in sector ≡ Some row → HasFirstEpoch row
unfolding epoch_of
first_of (HeaderRow h) sector is e read =
    let r = is.range in
    let first : Header = record h { epoch = 1 } in
    let is_first : IsRow (HeaderRow first) =
    record {
      range = record {
        some = omega arith;
        most = omega arith;
        count = r.count;
        rules = r.rules;
        radios = r.radios;
        mail = r.mail;
        served =
            r.served;
      };
      known = refl;
    } in
    let same : sector_of (HeaderRow first) ≡ sector = some_is _ _ (sym (ap (option_map sector_of) (header_back h is)) ∙ e) in
    let rows : HeaderRow h ≡ HeaderRow first = some_is _ _ (sym read ∙ ap row_in (sym same) ∙ sector_read (HeaderRow first) is_first) in
    ap epoch_of rows
first_of (RuleRow prefix rule) sector is e read = tt
first_of (RadioRow itsi radio groups) sector is e read = tt
first_of (MailRow w) sector is e read = tt
first_of (ServedRow station last) sector is e read = tt

spelt_by : (line sector : List ℕ) (row : Row) → sector_in (words line) ≡ Some sector → row_in sector ≡ Some row → row_line row ≡ line → Spells line row
spelt_by line sector row said read spelt =
    let is : IsRow row = (row_is_spelt row sector (are_read (row_given (words line)) sector said) read).0 in
    let own : sector_in (keyword row ∷ fields row) ≡ Some sector = ap sector_in (sym (words_of row is) ∙ ap words spelt) ∙ said in
    (record { is_row = is; few = few_of row sector own; first = first_of row sector is own read }, sym spelt)

pub line_only : (line : List ℕ) (row : Row) → line_row line ≡ Some row → Spells line row
unfolding line_row
line_only line row e =
    let a = bind_some (sector_in (words line)) (λ sector. row_in sector >>= if_spelt line) row e in
    let b = bind_some (row_in a.0) (if_spelt line) row a.2 in
    let c = some_where (bytes_eq (row_line b.0) line) (Some b.0) row b.2 in
    let same : b.0 ≡ row = some_is b.0 row c.1 in
    subst (Spells line) same (spelt_by line a.0 b.0 a.1 b.1 ((bytes_eq-Decides (row_line b.0) line).0 c.0))
