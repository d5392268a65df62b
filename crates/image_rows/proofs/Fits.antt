-- How long rows are, and a radio's attachments as the groups of its row.
use Rattle.std.proofs.Common.{◌≡◌, ℕ, ◌*◌, ◌≤◌, Bool, List, [], ◌∷◌, ◌++◌, length, Option, Some, None, refl, ap, arith}
use Rattle.std.specs.Prelude.{map}
use Rattle.std.specs.List.{flat_map}
use Rattle.std.specs.FinMap as finite
use Rattle.std.proofs.lemmas.List.{length-append}
use Rattle.centre_core.specs.StateRanges.{IsReply}
use Rattle.group_attach.specs.Attached.{Attached, Pair, Usage, attachment_of, of_radio, groups_of as attachments_of}
use Rattle.command_bytes.specs.Fields.{big}
use Rattle.command_bytes.specs.Text.{prefix_text, rule_text, key_text, bits_text}
use Rattle.command_bytes.proofs.Numbers.{length-big}
use Rattle.command_bytes.proofs.Sizes.{length-prefix, length-bits, length-rule, length-key}
use Rattle.image_rows.specs.Rows.{Row, HeaderRow, RuleRow, RadioRow, MailRow, ServedRow, Header, Group, RowInRange, group_of, groups_of}
use Rattle.image_rows.specs.RowText.{header_text, present_number, group_in, group_text, copied_text, reply_bits, tag_of, fields_of, row_bytes}
use Rattle.image_rows.specs.RowSizes.{HasFewGroups, longest_row}

length-group : (g : Group) → length (group_text g) ≡ 7
unfolding big
length-group g = refl

length-groups : (gs : List Group) → length (flat_map group_text gs) ≡ 7 * length gs
length-groups [] = refl
length-groups (g ∷ gs) = omega (arith, length-append (group_text g) (flat_map group_text gs), length-group g, length-groups gs)

length-copied : (group : Option ℕ) → length (copied_text group) ≤ 6
length-copied None = omega arith
length-copied (Some gtsi) = omega (arith, length-big 6 gtsi)

length-reply : (pdu : Option (List Bool)) → IsReply pdu → length (reply_bits pdu) ≤ 2048
length-reply None is = omega arith
length-reply (Some bits) is = is.1

length-header : (h : Header) → length (header_text h) ≡ 32
unfolding big
length-header h = refl

fields_short : (row : Row) → RowInRange row → HasFewGroups row → length (fields_of row) ≤ 294
fields_short (HeaderRow h) fits few = omega (arith, length-header h)
fields_short (RuleRow prefix rule) fits few = omega (arith, length-append (prefix_text prefix) (rule_text rule), length-prefix prefix, length-rule rule)
fields_short (RadioRow itsi radio groups) fits few =
    let t5 = flat_map group_text groups in
    omega (
      arith,
      few,
      length-groups groups,
      length-append (big 6 itsi ++ big 2 radio.station ++ big 2 radio.area ++ big 1 (present_number radio.present) ++ big 1 (length groups)) t5,
      length-append (big 6 itsi ++ big 2 radio.station ++ big 2 radio.area ++ big 1 (present_number radio.present)) (big 1 (length groups)),
      length-append (big 6 itsi ++ big 2 radio.station ++ big 2 radio.area) (big 1 (present_number radio.present)),
      length-append (big 6 itsi ++ big 2 radio.station) (big 2 radio.area),
      length-append (big 6 itsi) (big 2 radio.station),
      length-big 6 itsi,
      length-big 2 radio.station,
      length-big 2 radio.area,
      length-big 1 (present_number radio.present),
      length-big 1 (length groups),
    )
fields_short (MailRow w) fits few =
    let short = fits.item.pdu in
    omega (
      arith,
      short,
      length-bits w.pdu,
      length-copied w.group,
      length-key w.key,
      length-append (big 8 w.number ++ big 8 w.deadline ++ key_text w.key ++ copied_text w.group) (bits_text w.pdu),
      length-append (big 8 w.number ++ big 8 w.deadline ++ key_text w.key) (copied_text w.group),
      length-append (big 8 w.number ++ big 8 w.deadline) (key_text w.key),
      length-append (big 8 w.number) (big 8 w.deadline),
      length-big 8 w.number,
      length-big 8 w.deadline,
    )
fields_short (ServedRow station last) fits few =
    let short = length-reply last.pdu fits.kept.pdu in
    omega (
      arith,
      short,
      length-bits (reply_bits last.pdu),
      length-append (big 2 station ++ big 4 last.sequence ++ big 8 last.number) (bits_text (reply_bits last.pdu)),
      length-append (big 2 station ++ big 4 last.sequence) (big 8 last.number),
      length-append (big 2 station) (big 4 last.sequence),
      length-big 2 station,
      length-big 4 last.sequence,
      length-big 8 last.number,
    )

pub row_short : (row : Row) → RowInRange row → HasFewGroups row → length (row_bytes row) ≤ longest_row
unfolding row_bytes
row_short row fits few = omega (arith, length-append (big 1 (tag_of row)) (fields_of row), length-big 1 (tag_of row), fields_short row fits few)

-- ---- a radio's attachments

each_group : (es : List (Pair × Usage)) → map group_in (map attachment_of es) ≡ map group_of es
each_group [] = refl
each_group (e ∷ es) = ap (λ (gs : List Group). group_of e ∷ gs) (each_group es)

pub same_groups : (m : Attached) (itsi : ℕ) → map group_in (attachments_of m itsi) ≡ groups_of m itsi
same_groups m itsi = each_group (finite.entries (of_radio m itsi))
