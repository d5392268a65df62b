-- The two laws of a row: what is read is its bytes, in range, and its bytes are read again, whatever follows them.
use Rattle.std.proofs.Common.{◌≡◌, ℕ, ◌^◌, ◌<◌, ◌≤◌, Bool, true, false, cond, leb, eqb, List, [], ◌∷◌, ◌++◌, length, Option, Some, None, refl, sym, ap, subst, ◌∙◌, arith, inl, inr, ◌||◌}
use Rattle.std.specs.Prelude.{IfSome}
use Rattle.std.specs.List.{flat_map}
use Rattle.std.proofs.lemmas.Bool.{eqb-true, leb-true, le-leb, ne_eqb}
use Rattle.base.proofs.Numbers.{not_zero}
use Rattle.base.proofs.Options.{some_is}
use Rattle.registration.specs.declared.rule.Rule.{Rule}
use Rattle.registration.specs.declared.radio.Radio.{Radio}
use Rattle.mailbox.specs.declared.key.Key.{Key}
use Rattle.mailbox.specs.Values.{Item, latest_deadline}
use Rattle.identity.specs.BitsText.{most_bits}
use Rattle.centre_core.specs.StateRanges.{IsReply}
use Rattle.centre_core.specs.State.{LastAccepted}
use Rattle.identity.specs.Packed.{AreBytes}
use Rattle.command_bytes.specs.Fields.{◌>>=◌, big, number_at}
use Rattle.command_bytes.specs.Text.{prefix_text, rule_text, key_text, bits_text}
use Rattle.command_bytes.specs.Reading.{Read, prefix_at, rule_at, area_at, key_at, bits_at}
use Rattle.command_bytes.proofs.Numbers.{number_small, number_again}
use Rattle.command_bytes.proofs.Steps.{Takes, takes_both, bind_some, some_where, some_unless, then_again, last_again}
use Rattle.command_bytes.proofs.PartLaws.{number_read, prefix_takes, prefix_again, rule_takes, rule_again, area_takes, area_again, key_takes, key_again, bits_takes, bits_again}
use Rattle.image_rows.specs.Rows.{Row, HeaderRow, RuleRow, RadioRow, MailRow, ServedRow, Header, Group, RadioRowInRange, ServedRowInRange}
use Rattle.image_rows.specs.RowText.{present_number, group_text, radio_text, copied_text, item_text, reply_bits, served_text, mail_tag, header_tag, plain_header_tag, tag_of, fields_of}
use Rattle.image_rows.specs.RowReading.{header_at, rule_row_at, present_of, groups_at, radio_row_at, copied_at, item_at, reply_of, served_row_at}
use Rattle.image_rows.specs.RowReading.{is_header_tag, fields_at, row_at, ItemAsRead, RowAsRead, IsTagOf}
use Rattle.image_rows.proofs.RowParts.{header_takes, header_again, present_is, present_back, groups_take, groups_again}

-- what was read after a tag
record Reads (tag : ℕ) (bytes : List ℕ) (x : Row × List ℕ) : Type 0 where
  pub tagged : IsTagOf x.0 tag
  pub takes : Takes bytes (fields_of x.0) x.1
  pub fits : RowAsRead x.0

-- ---- a header

header_row : Header × List ℕ → Read Row
header_row h = Some (HeaderRow h.0, h.1)

header_tagged : (tag : ℕ) (h : Header) → is_header_tag tag ≡ true → IsTagOf (HeaderRow h) tag
header_tagged tag h e = by (eqb tag header_tag) refl e
  where
    by : (b : Bool) → eqb tag header_tag ≡ b → (b || eqb tag plain_header_tag) ≡ true → IsTagOf (HeaderRow h) tag
    by true is e = inl (eqb-true tag header_tag is)
    by false is e = inr (h, refl, eqb-true tag plain_header_tag e)

header_row_takes : (tag : ℕ) (bytes : List ℕ) (x : Row × List ℕ) → AreBytes bytes → is_header_tag tag ≡ true → (header_at bytes >>= header_row) ≡ Some x → Reads tag bytes x
unfolding header_row
header_row_takes tag bytes x are stated e =
    let a = bind_some (header_at bytes) header_row x e in
    let h : Header × List ℕ = a.0 in
    let first = header_takes bytes h are a.1 in
    subst (λ (y : Row × List ℕ). Reads tag bytes y) (some_is (HeaderRow h.0, h.1) x a.2) (record { tagged = header_tagged tag h.0 stated; takes = first.0; fits = first.1 })

-- ---- a rule

rule_step : List Bool → Rule × List ℕ → Read Row
rule_step prefix rule = Some (RuleRow prefix rule.0, rule.1)

prefix_step : List Bool × List ℕ → Read Row
prefix_step prefix = rule_at prefix.1 >>= rule_step prefix.0

rule_row_takes : (bytes : List ℕ) (x : Row × List ℕ) → AreBytes bytes → rule_row_at bytes ≡ Some x → Reads 17 bytes x
unfolding rule_row_at prefix_step rule_step
rule_row_takes bytes x are e =
    let a = bind_some (prefix_at bytes) prefix_step x e in
    let prefix : List Bool × List ℕ = a.0 in
    let first = prefix_takes bytes prefix are a.1 in
    let b = bind_some (rule_at prefix.1) (rule_step prefix.0) x a.2 in
    let rule : Rule × List ℕ = b.0 in
    let second = rule_takes prefix.1 rule first.0.are b.1 in
    subst (λ (y : Row × List ℕ). Reads 17 bytes y) (some_is (RuleRow prefix.0 rule.0, rule.1) x b.2)
    (record { tagged = inl refl; takes = takes_both (prefix_text prefix.0) (rule_text rule.0) first.0 second.0; fits = (first.1, second.1) })

-- ---- a radio

groups_step : ℕ → ℕ → ℕ → Bool → List Group × List ℕ → Read Row
groups_step itsi station area present groups = Some (RadioRow itsi (record { station = station; area = area; present = present }) groups.0, groups.1)

count_step : ℕ → ℕ → ℕ → Bool → ℕ × List ℕ → Read Row
count_step itsi station area present count = groups_at count.0 count.1 >>= groups_step itsi station area present

present_step : ℕ → ℕ → ℕ → List ℕ → Bool → Read Row
present_step itsi station area rest present = number_at 1 rest >>= count_step itsi station area present

number_step : ℕ → ℕ → ℕ → ℕ × List ℕ → Read Row
number_step itsi station area number = present_of number.0 >>= present_step itsi station area number.1

area_step : ℕ → ℕ → ℕ × List ℕ → Read Row
area_step itsi station area = number_at 1 area.1 >>= number_step itsi station area.0

station_step : ℕ → ℕ × List ℕ → Read Row
station_step itsi station = area_at station.1 >>= area_step itsi station.0

itsi_step : ℕ × List ℕ → Read Row
itsi_step itsi = number_at 2 itsi.1 >>= station_step itsi.0

radio_row_takes : (bytes : List ℕ) (x : Row × List ℕ) → AreBytes bytes → radio_row_at bytes ≡ Some x → Reads 18 bytes x
unfolding radio_row_at itsi_step station_step area_step number_step present_step count_step groups_step big
radio_row_takes bytes x are e =
    let a = bind_some (number_at 6 bytes) itsi_step x e in
    let itsi : ℕ × List ℕ = a.0 in
    let first = number_read 6 bytes itsi are a.1 in
    let b = bind_some (number_at 2 itsi.1) (station_step itsi.0) x a.2 in
    let station : ℕ × List ℕ = b.0 in
    let second = number_read 2 itsi.1 station first.are b.1 in
    let c = bind_some (area_at station.1) (area_step itsi.0 station.0) x b.2 in
    let area : ℕ × List ℕ = c.0 in
    let third = area_takes station.1 area second.are c.1 in
    let d = bind_some (number_at 1 area.1) (number_step itsi.0 station.0 area.0) x c.2 in
    let number : ℕ × List ℕ = d.0 in
    let fourth = number_read 1 area.1 number third.0.are d.1 in
    let f = bind_some (present_of number.0) (present_step itsi.0 station.0 area.0 number.1) x d.2 in
    let present : Bool = f.0 in
    let named : Takes area.1 (big 1 (present_number present)) number.1 = subst (λ (n : ℕ). Takes area.1 (big 1 n) number.1) (sym (present_is number.0 present f.1)) fourth in
    let g = bind_some (number_at 1 number.1) (count_step itsi.0 station.0 area.0 present) x f.2 in
    let count : ℕ × List ℕ = g.0 in
    let fifth = number_read 1 number.1 count fourth.are g.1 in
    let few = number_small 1 number.1 count fourth.are g.1 in
    let h = bind_some (groups_at count.0 count.1) (groups_step itsi.0 station.0 area.0 present) x g.2 in
    let groups : List Group × List ℕ = h.0 in
    let sixth = groups_take count.0 count.1 groups fifth.are h.1 in
    let counted : Takes number.1 (big 1 (length groups.0)) count.1 = subst (λ (n : ℕ). Takes number.1 (big 1 n) count.1) (sym sixth.1) fifth in
    let radio : Radio = record { station = station.0; area = area.0; present = present } in
    subst (λ (y : Row × List ℕ). Reads 18 bytes y) (some_is (RadioRow itsi.0 radio groups.0, groups.1) x h.2)
    (record {
      tagged = inl refl;
      takes =
          takes_both (big 6 itsi.0) (big 2 station.0 ++ big 2 area.0 ++ big 1 (present_number present) ++ big 1 (length groups.0) ++ flat_map group_text groups.0) first
          (takes_both (big 2 station.0) (big 2 area.0 ++ big 1 (present_number present) ++ big 1 (length groups.0) ++ flat_map group_text groups.0) second
          (takes_both (big 2 area.0) (big 1 (present_number present) ++ big 1 (length groups.0) ++ flat_map group_text groups.0) third.0
          (takes_both (big 1 (present_number present)) (big 1 (length groups.0) ++ flat_map group_text groups.0) named
          (takes_both (big 1 (length groups.0)) (flat_map group_text groups.0) counted sixth.0))));
      fits = record {
        number = number_small 6 bytes itsi are a.1;
        station = number_small 2 itsi.1 station first.are b.1;
        area = third.1;
        count = subst (λ (n : ℕ). n < 2 ^ 8) (sym sixth.1) few;
        each_group = sixth.2;
      };
    })

radio_row_again : (itsi : ℕ) (radio : Radio) (groups : List Group) (rest : List ℕ) → RadioRowInRange itsi radio groups →
    radio_row_at (radio_text itsi radio groups ++ rest) ≡ Some (RadioRow itsi radio groups, rest)
unfolding radio_row_at itsi_step station_step area_step number_step present_step count_step groups_step big
radio_row_again itsi radio groups rest fits =
    let y : Row × List ℕ = (RadioRow itsi radio groups, rest) in
    let back = present_back radio.present in
    let t5 = flat_map group_text groups in
    let t4 = big 1 (length groups) ++ t5 in
    let t3 = big 1 (present_number radio.present) ++ t4 in
    let t2 = big 2 radio.area ++ t3 in
    let t1 = big 2 radio.station ++ t2 in
    then_again (big 6 itsi) t1 rest (number_at 6) itsi_step itsi y (number_again 6 itsi (t1 ++ rest) fits.number)
    (then_again (big 2 radio.station) t2 rest (number_at 2) (station_step itsi) radio.station y (number_again 2 radio.station (t2 ++ rest) fits.station)
    (then_again (big 2 radio.area) t3 rest area_at (area_step itsi radio.station) radio.area y (area_again radio.area (t3 ++ rest) fits.area)
    (then_again (big 1 (present_number radio.present)) t4 rest (number_at 1) (number_step itsi radio.station radio.area)
    (present_number radio.present) y (number_again 1 (present_number radio.present) (t4 ++ rest) back.1)
    (last_again (present_step itsi radio.station radio.area (t4 ++ rest)) back.0
    (then_again (big 1 (length groups)) t5 rest (number_at 1) (count_step itsi radio.station radio.area radio.present) (length groups) y (number_again 1 (length groups) (t5 ++ rest) fits.count)
    (last_again (groups_step itsi radio.station radio.area radio.present) (groups_again groups rest fits.each_group) refl))))))

-- ---- an item

copied_of : ℕ × List ℕ → Read (Option ℕ)
copied_of gtsi = Some (Some gtsi.0, gtsi.1)

copied_takes : (copied : Bool) (bytes : List ℕ) (x : Option ℕ × List ℕ) → AreBytes bytes → copied_at copied bytes ≡ Some x →
    Takes bytes (copied_text x.0) x.1 × IfSome x.0 (λ gtsi. gtsi < 2 ^ 48) × (mail_tag x.0 ≡ cond copied 21 19)
unfolding copied_of
copied_takes false bytes x are e =
    subst (λ (y : Option ℕ × List ℕ). Takes bytes (copied_text y.0) y.1 × IfSome y.0 (λ gtsi. gtsi < 2 ^ 48) × (mail_tag y.0 ≡ 19))
    (some_is (None, bytes) x e) (record { is = refl; are = are }, tt, refl)
copied_takes true bytes x are e =
    let a = bind_some (number_at 6 bytes) copied_of x e in
    let gtsi : ℕ × List ℕ = a.0 in
    subst (λ (y : Option ℕ × List ℕ). Takes bytes (copied_text y.0) y.1 × IfSome y.0 (λ gtsi. gtsi < 2 ^ 48) × (mail_tag y.0 ≡ 21)) (some_is (Some gtsi.0, gtsi.1) x a.2)
    (number_read 6 bytes gtsi are a.1, number_small 6 bytes gtsi are a.1, refl)

is_copy : Option ℕ → Bool
is_copy None = false
is_copy (Some gtsi) = true

copied_again : (group : Option ℕ) (rest : List ℕ) → IfSome group (λ gtsi. gtsi < 2 ^ 48) → copied_at (is_copy group) (copied_text group ++ rest) ≡ Some (group, rest)
unfolding copied_of is_copy
copied_again None rest fits = refl
copied_again (Some gtsi) rest fits = last_again copied_of (number_again 6 gtsi rest fits) refl

pdu_step : ℕ → ℕ → Key → Option ℕ → List Bool × List ℕ → Read Item
pdu_step number deadline key group pdu = cond (leb deadline latest_deadline) (Some (record { key = key; number = number; deadline = deadline; pdu = pdu.0; group = group }, pdu.1)) None

group_step : ℕ → ℕ → Key → Option ℕ × List ℕ → Read Item
group_step number deadline key group = bits_at group.1 >>= pdu_step number deadline key group.0

key_step : Bool → ℕ → ℕ → Key × List ℕ → Read Item
key_step copied number deadline key = copied_at copied key.1 >>= group_step number deadline key.0

deadline_step : Bool → ℕ → ℕ × List ℕ → Read Item
deadline_step copied number deadline = key_at deadline.1 >>= key_step copied number deadline.0

first_step : Bool → ℕ × List ℕ → Read Item
first_step copied number = number_at 8 number.1 >>= deadline_step copied number.0

item_takes : (copied : Bool) (bytes : List ℕ) (x : Item × List ℕ) → AreBytes bytes → item_at copied bytes ≡ Some x → Takes bytes (item_text x.0) x.1 ×
    ItemAsRead x.0 × (mail_tag x.0.group ≡ cond copied 21 19)
unfolding item_at first_step deadline_step key_step group_step pdu_step big
item_takes copied bytes x are e =
    let a = bind_some (number_at 8 bytes) (first_step copied) x e in
    let number : ℕ × List ℕ = a.0 in
    let first = number_read 8 bytes number are a.1 in
    let b = bind_some (number_at 8 number.1) (deadline_step copied number.0) x a.2 in
    let deadline : ℕ × List ℕ = b.0 in
    let second = number_read 8 number.1 deadline first.are b.1 in
    let c = bind_some (key_at deadline.1) (key_step copied number.0 deadline.0) x b.2 in
    let key : Key × List ℕ = c.0 in
    let third = key_takes deadline.1 key second.are c.1 in
    let d = bind_some (copied_at copied key.1) (group_step number.0 deadline.0 key.0) x c.2 in
    let group : Option ℕ × List ℕ = d.0 in
    let fourth = copied_takes copied key.1 group third.0.are d.1 in
    let f = bind_some (bits_at group.1) (pdu_step number.0 deadline.0 key.0 group.0) x d.2 in
    let pdu : List Bool × List ℕ = f.0 in
    let fifth = bits_takes group.1 pdu fourth.0.are f.1 in
    let made : Item × List ℕ = (record { key = key.0; number = number.0; deadline = deadline.0; pdu = pdu.0; group = group.0 }, pdu.1) in
    let h = some_where (leb deadline.0 latest_deadline) (Some made) x f.2 in
    subst (λ (y : Item × List ℕ). Takes bytes (item_text y.0) y.1 × ItemAsRead y.0 × (mail_tag y.0.group ≡ cond copied 21 19)) (some_is made x h.1) (
      takes_both (big 8 number.0) (big 8 deadline.0 ++ key_text key.0 ++ copied_text group.0 ++ bits_text pdu.0) first
          (takes_both (big 8 deadline.0) (key_text key.0 ++ copied_text group.0 ++ bits_text pdu.0) second
          (takes_both (key_text key.0) (copied_text group.0 ++ bits_text pdu.0) third.0
          (takes_both (copied_text group.0) (bits_text pdu.0) fourth.0 fifth.0))),
      record { key = third.1; number = number_small 8 bytes number are a.1; deadline = leb-true _ _ h.0; pdu = fifth.1; group = fourth.1 },
      fourth.2,
    )

item_again : (w : Item) (rest : List ℕ) → ItemAsRead w → item_at (is_copy w.group) (item_text w ++ rest) ≡ Some (w, rest)
unfolding item_at first_step deadline_step key_step group_step pdu_step big
item_again w rest fits =
    let y : Item × List ℕ = (w, rest) in
    let copied = is_copy w.group in
    let t4 = bits_text w.pdu in
    let t3 = copied_text w.group ++ t4 in
    let t2 = key_text w.key ++ t3 in
    let t1 = big 8 w.deadline ++ t2 in
    let small : w.deadline < 256 ^ 8 = omega (arith, fits.deadline) in
    then_again (big 8 w.number) t1 rest (number_at 8) (first_step copied) w.number y (number_again 8 w.number (t1 ++ rest) fits.number)
    (then_again (big 8 w.deadline) t2 rest (number_at 8) (deadline_step copied w.number) w.deadline y (number_again 8 w.deadline (t2 ++ rest) small)
    (then_again (key_text w.key) t3 rest key_at (key_step copied w.number w.deadline) w.key y (key_again w.key (t3 ++ rest) fits.key)
    (then_again (copied_text w.group) t4 rest (copied_at copied) (group_step w.number w.deadline w.key) w.group y (copied_again w.group (t4 ++ rest) fits.group)
    (last_again (pdu_step w.number w.deadline w.key w.group) (bits_again w.pdu rest fits.pdu)
    (ap (λ (b : Bool). cond b (Some y) None) (le-leb _ _ fits.deadline))))))

mail_row : Item × List ℕ → Read Row
mail_row item = Some (MailRow item.0, item.1)

mail_row_takes : (copied : Bool) (bytes : List ℕ) (x : Row × List ℕ) → AreBytes bytes → (item_at copied bytes >>= mail_row) ≡ Some x → Reads (cond copied 21 19) bytes x
unfolding mail_row
mail_row_takes copied bytes x are e =
    let a = bind_some (item_at copied bytes) mail_row x e in
    let item : Item × List ℕ = a.0 in
    let first = item_takes copied bytes item are a.1 in
    subst (λ (y : Row × List ℕ). Reads (cond copied 21 19) bytes y) (some_is (MailRow item.0, item.1) x a.2) (record { tagged = inl (sym first.2); takes = first.0; fits = first.1 })

-- ---- what is kept of a station

reply_is : (bits : List Bool) → length bits ≤ most_bits → (reply_bits (reply_of bits) ≡ bits) × IsReply (reply_of bits)
reply_is [] few = (refl, tt)
reply_is (b ∷ bits) few = (refl, (omega arith, few))

reply_back : (pdu : Option (List Bool)) → IsReply pdu → (reply_of (reply_bits pdu) ≡ pdu) × (length (reply_bits pdu) ≤ most_bits)
reply_back None is = (refl, omega arith)
reply_back (Some []) is = let some = is.0 in absurd (omega (arith, some))
reply_back (Some (b ∷ bits)) is = (refl, is.1)

reply_step : ℕ → ℕ → ℕ → List Bool × List ℕ → Read Row
reply_step station sequence number pdu = cond (eqb sequence 0) None (Some (ServedRow station (record { sequence = sequence; number = number; pdu = reply_of pdu.0 }), pdu.1))

served_number_step : ℕ → ℕ → ℕ × List ℕ → Read Row
served_number_step station sequence number = bits_at number.1 >>= reply_step station sequence number.0

sequence_step : ℕ → ℕ × List ℕ → Read Row
sequence_step station sequence = number_at 8 sequence.1 >>= served_number_step station sequence.0

served_station_step : ℕ × List ℕ → Read Row
served_station_step station = number_at 4 station.1 >>= sequence_step station.0

served_row_takes : (bytes : List ℕ) (x : Row × List ℕ) → AreBytes bytes → served_row_at bytes ≡ Some x → Reads 20 bytes x
unfolding served_row_at served_station_step sequence_step served_number_step reply_step big
served_row_takes bytes x are e =
    let a = bind_some (number_at 2 bytes) served_station_step x e in
    let station : ℕ × List ℕ = a.0 in
    let first = number_read 2 bytes station are a.1 in
    let b = bind_some (number_at 4 station.1) (sequence_step station.0) x a.2 in
    let sequence : ℕ × List ℕ = b.0 in
    let second = number_read 4 station.1 sequence first.are b.1 in
    let c = bind_some (number_at 8 sequence.1) (served_number_step station.0 sequence.0) x b.2 in
    let number : ℕ × List ℕ = c.0 in
    let third = number_read 8 sequence.1 number second.are c.1 in
    let d = bind_some (bits_at number.1) (reply_step station.0 sequence.0 number.0) x c.2 in
    let pdu : List Bool × List ℕ = d.0 in
    let fourth = bits_takes number.1 pdu third.are d.1 in
    let reply = reply_is pdu.0 fourth.1 in
    let said : Takes number.1 (bits_text (reply_bits (reply_of pdu.0))) pdu.1 = subst (λ (l : List Bool). Takes number.1 (bits_text l) pdu.1) (sym reply.0) fourth.0 in
    let last : LastAccepted = record { sequence = sequence.0; number = number.0; pdu = reply_of pdu.0 } in
    let h = some_unless (eqb sequence.0 0) (Some (ServedRow station.0 last, pdu.1)) x d.2 in
    subst (λ (y : Row × List ℕ). Reads 20 bytes y) (some_is (ServedRow station.0 last, pdu.1) x h.1)
    (record {
      tagged = inl refl;
      takes =
          takes_both (big 2 station.0) (big 4 sequence.0 ++ big 8 number.0 ++ bits_text (reply_bits (reply_of pdu.0))) first
          (takes_both (big 4 sequence.0) (big 8 number.0 ++ bits_text (reply_bits (reply_of pdu.0))) second
          (takes_both (big 8 number.0) (bits_text (reply_bits (reply_of pdu.0))) third said));
      fits = record {
        place = number_small 2 bytes station are a.1;
        kept = record { above = not_zero sequence.0 h.0; sequence = number_small 4 station.1 sequence first.are b.1; pdu = reply.1 };
        number = number_small 8 sequence.1 number second.are c.1;
      };
    })

served_row_again : (station : ℕ) (last : LastAccepted) (rest : List ℕ) → ServedRowInRange station last → served_row_at (served_text station last ++ rest) ≡ Some (ServedRow station last, rest)
unfolding served_row_at served_station_step sequence_step served_number_step reply_step big
served_row_again station last rest fits =
    let y : Row × List ℕ = (ServedRow station last, rest) in
    let range = fits.kept in
    let reply = reply_back last.pdu range.pdu in
    let t3 = bits_text (reply_bits last.pdu) in
    let t2 = big 8 last.number ++ t3 in
    let t1 = big 4 last.sequence ++ t2 in
    let above : eqb last.sequence 0 ≡ false = ne_eqb last.sequence 0 (λ e. omega (arith, e, range.above)) in
    then_again (big 2 station) t1 rest (number_at 2) served_station_step station y (number_again 2 station (t1 ++ rest) fits.place)
    (then_again (big 4 last.sequence) t2 rest (number_at 4) (sequence_step station) last.sequence y (number_again 4 last.sequence (t2 ++ rest) range.sequence)
    (then_again (big 8 last.number) t3 rest (number_at 8) (served_number_step station last.sequence) last.number y (number_again 8 last.number (t3 ++ rest) fits.number)
    (last_again (reply_step station last.sequence last.number) (bits_again (reply_bits last.pdu) rest reply.1)
    (ap (λ (b : Bool). cond b None (Some (ServedRow station (record { sequence = last.sequence; number = last.number; pdu = reply_of (reply_bits last.pdu) }), rest))) above
    ∙ ap (λ (pdu : Option (List Bool)). Some (ServedRow station (record { sequence = last.sequence; number = last.number; pdu = pdu }), rest)) reply.0))))

-- ---- the whole

-- a case of the tags
on_tag : (n tag : ℕ) (bytes : List ℕ) (x : Row × List ℕ) (here others : Read Row) → (here ≡ Some x → Reads n bytes x) →
    (others ≡ Some x → Reads tag bytes x) → cond (eqb tag n) here others ≡ Some x → Reads tag bytes x
on_tag n tag bytes x here others found later e = by (eqb tag n) refl e
  where
    by : (b : Bool) → eqb tag n ≡ b → cond b here others ≡ Some x → Reads tag bytes x
    by true is e = subst (λ (k : ℕ). Reads k bytes x) (sym (eqb-true tag n is)) (found e)
    by false is e = later e

on_header : (tag : ℕ) (bytes : List ℕ) (x : Row × List ℕ) (here others : Read Row) → (is_header_tag tag ≡ true → here ≡ Some x → Reads tag bytes x) →
    (others ≡ Some x → Reads tag bytes x) → cond (is_header_tag tag) here others ≡ Some x → Reads tag bytes x
on_header tag bytes x here others found later e = by (is_header_tag tag) refl e
  where
    by : (b : Bool) → is_header_tag tag ≡ b → cond b here others ≡ Some x → Reads tag bytes x
    by true is e = found is e
    by false is e = later e

fields_take : (tag : ℕ) (bytes : List ℕ) (x : Row × List ℕ) → AreBytes bytes → fields_at tag bytes ≡ Some x → Reads tag bytes x
unfolding fields_at header_row mail_row
fields_take tag bytes x are e =
    on_header tag bytes x (header_at bytes >>= header_row) _ (header_row_takes tag bytes x are)
    (on_tag 17 tag bytes x (rule_row_at bytes) _ (rule_row_takes bytes x are)
    (on_tag 18 tag bytes x (radio_row_at bytes) _ (radio_row_takes bytes x are)
    (on_tag 19 tag bytes x (item_at false bytes >>= mail_row) _ (mail_row_takes false bytes x are)
    (on_tag 20 tag bytes x (served_row_at bytes) _ (served_row_takes bytes x are)
    (on_tag 21 tag bytes x (item_at true bytes >>= mail_row) None (mail_row_takes true bytes x are) (λ e. absurd cc)))))) e

mail_again : (copied : Bool) (w : Item) (rest : List ℕ) → ItemAsRead w → is_copy w.group ≡ copied → fields_at (cond copied 21 19) (item_text w ++ rest) ≡ Some (MailRow w, rest)
unfolding fields_at mail_row
mail_again false w rest fits is = last_again mail_row (subst (λ (c : Bool). item_at c (item_text w ++ rest) ≡ Some (w, rest)) is (item_again w rest fits)) refl
mail_again true w rest fits is = last_again mail_row (subst (λ (c : Bool). item_at c (item_text w ++ rest) ≡ Some (w, rest)) is (item_again w rest fits)) refl

tag_is : (group : Option ℕ) → mail_tag group ≡ cond (is_copy group) 21 19
unfolding is_copy
tag_is None = refl
tag_is (Some gtsi) = refl

fields_again : (row : Row) (rest : List ℕ) → RowAsRead row → fields_at (tag_of row) (fields_of row ++ rest) ≡ Some (row, rest)
unfolding fields_at header_row rule_row_at prefix_step rule_step
fields_again (HeaderRow h) rest fits = last_again header_row (header_again h rest fits) refl
fields_again (RuleRow prefix rule) rest fits =
    then_again (prefix_text prefix) (rule_text rule) rest prefix_at prefix_step prefix (RuleRow prefix rule, rest) (prefix_again prefix (rule_text rule ++ rest) fits.0)
    (last_again (rule_step prefix) (rule_again rule rest fits.1) refl)
fields_again (RadioRow itsi radio groups) rest fits = radio_row_again itsi radio groups rest fits
fields_again (MailRow w) rest fits = ap (λ (tag : ℕ). fields_at tag (item_text w ++ rest)) (tag_is w.group) ∙ mail_again (is_copy w.group) w rest fits refl
fields_again (ServedRow station last) rest fits = served_row_again station last rest fits

tag_small : (row : Row) → tag_of row < 256 ^ 1
tag_small (HeaderRow h) = omega arith
tag_small (RuleRow prefix rule) = omega arith
tag_small (RadioRow itsi radio groups) = omega arith
tag_small (MailRow w) = by w.group
  where
    by : (group : Option ℕ) → mail_tag group < 256 ^ 1
    by None = omega arith
    by (Some gtsi) = omega arith
tag_small (ServedRow station last) = omega arith

plain_again : (row : Row) (h : Header) (rest : List ℕ) → row ≡ HeaderRow h → RowAsRead row → fields_at plain_header_tag (fields_of row ++ rest) ≡ Some (row, rest)
unfolding fields_at header_row
plain_again row h rest is fits =
    subst (λ (r : Row). fields_at plain_header_tag (fields_of r ++ rest) ≡ Some (r, rest)) (sym is)
    (last_again header_row (header_again h rest (subst RowAsRead is fits)) refl)

tagged_again : (row : Row) (tag : ℕ) (rest : List ℕ) → IsTagOf row tag → RowAsRead row → fields_at tag (fields_of row ++ rest) ≡ Some (row, rest)
tagged_again row tag rest (inl is) fits = ap (λ (n : ℕ). fields_at n (fields_of row ++ rest)) is ∙ fields_again row rest fits
tagged_again row tag rest (inr (h, is, plain)) fits = ap (λ (n : ℕ). fields_at n (fields_of row ++ rest)) plain ∙ plain_again row h rest is fits

tagged_small : (row : Row) (tag : ℕ) → IsTagOf row tag → tag < 256 ^ 1
tagged_small row tag (inl is) = let small = tag_small row in omega (arith, small, is)
tagged_small row tag (inr (h, is, plain)) = omega (arith, plain)

tag_step : ℕ × List ℕ → Read Row
tag_step tag = fields_at tag.0 tag.1

-- what is read, its PDU as it is there, is a tag that it may have, and its fields
pub row_takes : (bytes : List ℕ) (x : Row × List ℕ) → AreBytes bytes → row_at bytes ≡ Some x → (tag : ℕ) × IsTagOf x.0 tag × (bytes ≡ big 1 tag ++ fields_of x.0 ++ x.1) × RowAsRead x.0
unfolding row_at tag_step
row_takes bytes x are e =
    let a = bind_some (number_at 1 bytes) tag_step x e in
    let tag : ℕ × List ℕ = a.0 in
    let first = number_read 1 bytes tag are a.1 in
    let second = fields_take tag.0 tag.1 x first.are a.2 in
    (tag.0, second.tagged, (takes_both (big 1 tag.0) (fields_of x.0) first second.takes).is, second.fits)

-- these bytes are read again
pub row_again : (row : Row) (tag : ℕ) (rest : List ℕ) → IsTagOf row tag → RowAsRead row → row_at (big 1 tag ++ fields_of row ++ rest) ≡ Some (row, rest)
unfolding row_at tag_step
row_again row tag rest tagged fits =
    then_again (big 1 tag) (fields_of row) rest (number_at 1) tag_step tag (row, rest) (number_again 1 tag (fields_of row ++ rest) (tagged_small row tag tagged))
    (tagged_again row tag rest tagged fits)
