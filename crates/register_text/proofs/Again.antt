-- The line of a row is read as that row.
use Rattle.std.proofs.Common.{◌≡◌, ℕ, zero, suc, ◌+◌, ◌*◌, ◌<◌, ◌≤◌, ◌^◌, Bool, true, false, List, [], ◌∷◌, length, refl, sym, ◌∙◌, ap, arith, Option, Some, None, nat_le}
use Rattle.std.specs.Prelude.{IfSome, codes, decimal, cond, option_map}
use Rattle.std.specs.List.{All, flat_map}
use Rattle.std.specs.Option.{option_and_then}
use Rattle.std.specs.Result.{result_ok}
use Rattle.std.specs.Str.{bytes_eq}
use Rattle.std.proofs.lemmas.List.Elements.{All-head, All-tail}
use Rattle.std.proofs.lemmas.Slice.Eq.{bytes_eq-Decides}
use Rattle.identity.specs.Path.{Path}
use Rattle.identity.specs.NumberText.{cut}
use Rattle.identity.specs.IdentityText.{identity_text, prefix_text as prefix_word}
use Rattle.identity.specs.BitsText.{bits_form, bits_text as bits_word, reading_bits}
use Rattle.identity.proofs.Texts.{reading_number_again}
use Rattle.identity.proofs.IdentityTexts.{reading_identity_again, reading_prefix_again}
use Rattle.identity.proofs.BitsTexts.{bits_printed, reading_bits_again}
use Rattle.mm_pdus.specs.declared.lifetime.Lifetime.{Lifetime}
use Rattle.mm_pdus.specs.Values.{lifetime_of, lifetime_number}
use Rattle.mm_pdus.proofs.ValueLaws.{lifetime_of-lifetime_number}
use Rattle.registration.specs.declared.rule.Rule.{Rule}
use Rattle.registration.specs.declared.radio.Radio.{Radio}
use Rattle.mailbox.specs.declared.key.Key.{Key}
use Rattle.mailbox.specs.declared.key.Kind.{Kind}
use Rattle.mailbox.specs.declared.key.Kind.TheVariants.{Message, Report}
use Rattle.mailbox.specs.Values.{Item, KeyInRange}
use Rattle.centre_core.specs.StateRanges.{IsReply}
use Rattle.centre_core.specs.State.{LastAccepted}
use Rattle.command_bytes.specs.Fields.{◌>>=◌}
use Rattle.listings.specs.Words.{kind_word, pdu_text}
use Rattle.console.specs.Reading.{words, area_in, identity_in, lifetime_in, prefix_in, pdu_in, reference_in, rule_in, rule_of, sequence_in, kind_in, key_of, key_in, not_zero}
use Rattle.image_rows.specs.Rows.{Row, HeaderRow, RuleRow, RadioRow, MailRow, ServedRow, Header, Group, GroupInRange}
use Rattle.image_rows.specs.RowText.{row_bytes, sector_of}
use Rattle.image_rows.specs.RowReading.{IsRow, row_in}
use Rattle.image_rows.proofs.Settled.{written_is_read}
use Rattle.register_text.specs.Lines.{copied_words, fields, group_words, keyword, presence_word, row_line, IsLineRow}
use Rattle.register_text.specs.Reading.{copied_in, group_in, group_of, groups_in, header_in, header_of, if_spelt, item_in, item_of, last_in, last_of}
use Rattle.register_text.specs.Reading.{line_row, number_in, place_in, place_of, presence_in, radio_in, radio_of, reply_in, row_given, rule_row_in}
use Rattle.register_text.specs.Reading.{sector_in}
use Rattle.register_text.proofs.Spaces.{lifetime_small, words_of}

-- ---- one word

pub number_again : (most n : ℕ) → n ≤ most → most < 2 ^ 64 → number_in most (decimal n) ≡ Some n
number_again most n le small = ap result_ok (reading_number_again most n le small)

identity_again : (n : ℕ) → n < 2 ^ 48 → identity_in (identity_text n) ≡ Some n
identity_again n small = ap result_ok (reading_identity_again n small)

prefix_again : (p : Path) → length p ≤ 48 → prefix_in (prefix_word p) ≡ Some p
prefix_again p few = ap result_ok (reading_prefix_again p few)

pdu_again : (bits : List Bool) → length bits ≤ 2048 → pdu_in (bits_word bits) ≡ Some bits
pdu_again bits few = ap result_ok (reading_bits_again bits (bits_word bits) few (bits_printed bits (omega (arith, few))))

kind_again : (kind : Kind) → kind_in (kind_word kind) ≡ Some kind
kind_again Message = refl
kind_again Report = refl

presence_again : (present : Bool) → presence_in (presence_word present) ≡ Some present
presence_again true = refl
presence_again false = refl

copied_again : (group : Option ℕ) → IfSome group (λ gtsi. gtsi < 2 ^ 48) → copied_in (copied_words group) ≡ Some group
copied_again None fits = refl
copied_again (Some gtsi) fits = ap (λ (o : Option ℕ). copied_of o) (identity_again gtsi fits)
  where
    copied_of : Option ℕ → Option (Option ℕ)
    copied_of None = None
    copied_of (Some n) = Some (Some n)

key_same : (key : Key) (d s r : Option ℕ) (k : Option Kind) → d ≡ Some key.destination → s ≡ Some key.source → r ≡ Some key.reference → k ≡ Some key.kind → key_of d s r k ≡ Some key
key_same key d s r k ed es er ek = rw (ed, es, er, ek) refl

key_again : (key : Key) → KeyInRange key → key_in (identity_text key.destination) (identity_text key.source) (decimal key.reference) (kind_word key.kind) ≡ Some key
key_again key range =
    let reference = range.2 in
    key_same key (identity_in (identity_text key.destination)) (identity_in (identity_text key.source)) (reference_in (decimal key.reference)) (kind_in (kind_word key.kind))
    (identity_again key.destination range.0) (identity_again key.source range.1) (number_again 255 key.reference (omega (arith, reference)) (omega arith)) (kind_again key.kind)

lifetime_again : (life : Lifetime) → lifetime_in (decimal (lifetime_number life)) ≡ Some life
lifetime_again life =
    let small = lifetime_small life in
    ap (option_and_then lifetime_of) (number_again 3 (lifetime_number life) (omega (arith, small)) (omega arith)) ∙ lifetime_of-lifetime_number life

sequence_again : (n : ℕ) → 0 < n → n < 2 ^ 32 → sequence_in (decimal n) ≡ Some n
sequence_again zero above below = absurd (omega (arith, above))
sequence_again (suc n) above below = ap (option_and_then not_zero) (number_again 4294967295 (suc n) (omega (arith, below)) (omega arith))

-- - is not the word of bits
dash_is_none : pdu_in (codes "-") ≡ None
unfolding reading_bits bits_form cut
dash_is_none = refl

reply_by : (b : Bool) (bits : List Bool) → (b ≡ true → bits_word bits ≡ codes "-") → pdu_in (bits_word bits) ≡ Some bits →
    cond b (Some None) (option_map Some (pdu_in (bits_word bits))) ≡ Some (Some bits)
reply_by false bits dash e = ap (option_map Some) e
reply_by true bits dash e =
    let none : Some bits ≡ None = sym e ∙ ap pdu_in (dash refl) ∙ dash_is_none in
    absurd cc

reply_again : (pdu : Option (List Bool)) → IsReply pdu → reply_in (pdu_text pdu) ≡ Some pdu
reply_again None fits = refl
reply_again (Some bits) fits = reply_by (bytes_eq (bits_word bits) (codes "-")) bits (λ e. (bytes_eq-Decides (bits_word bits) (codes "-")).0 e) (pdu_again bits fits.1)

-- ---- each kind of row

header_same : (c r p m s : ℕ) (c' r' p' m' s' : Option ℕ) → c' ≡ Some c → r' ≡ Some r → p' ≡ Some p → m' ≡ Some m → s' ≡ Some s →
    header_of c' r' p' m' s' ≡ Some (HeaderRow (record { epoch = 1; count = c; rules = r; radios = p; mail = m; served = s }))
header_same c r p m s c' r' p' m' s' ec er ep em es = rw (ec, er, ep, em, es) refl

pub header_back : (h : Header) → IsRow (HeaderRow h) → header_in (fields (HeaderRow h)) ≡ Some (HeaderRow (record h { epoch = 1 }))
header_back h is =
    let r = is.range in let c = r.count in let a = r.rules in let b = r.radios in let m = r.mail in let s = r.served in
    header_same h.count h.rules h.radios h.mail h.served _ _ _ _ _ (number_again _ h.count (omega (arith, c)) (omega arith)) (number_again _ h.rules (omega (arith, a)) (omega arith))
    (number_again _ h.radios (omega (arith, b)) (omega arith)) (number_again _ h.mail (omega (arith, m)) (omega arith)) (number_again _ h.served (omega (arith, s)) (omega arith))

in_order : (low high : ℕ) (r : Rule) → low ≤ high → cond (nat_le low high) (Some r) None ≡ Some r
in_order low high r le =
    let same : nat_le low high ≡ true = grind (arith, le) in
    rw same refl

rule_same : (rule : Rule) (l h k : Option ℕ) (t : Option Lifetime) → l ≡ Some rule.low → h ≡ Some rule.high → t ≡ Some rule.lifetime →
    k ≡ Some rule.keep → rule.low ≤ rule.high → rule_of l h t k ≡ Some rule
rule_same rule l h k t el eh et ek le = rw (el, eh, et, ek) (in_order rule.low rule.high rule le)

rule_back : (prefix : Path) (rule : Rule) → IsRow (RuleRow prefix rule) → rule_row_in (fields (RuleRow prefix rule)) ≡ Some (RuleRow prefix rule)
rule_back prefix rule is =
    let r = is.range in let low = r.1.0 in let high = r.1.1 in let keep = r.1.2 in
    let is_rule : rule_in (decimal rule.low) (decimal rule.high) (decimal (lifetime_number rule.lifetime)) (decimal rule.keep) ≡ Some rule =
    rule_same rule _ _ _ _ (number_again 16383 rule.low (omega (arith, low, high)) (omega arith)) (number_again 16383 rule.high (omega (arith, high)) (omega arith))
    (lifetime_again rule.lifetime) (number_again 4294967295 rule.keep (omega (arith, keep)) (omega arith)) low in
    rw (prefix_again prefix r.0, is_rule) refl

group_same : (g : Group) (n c : Option ℕ) (l : Option Lifetime) → n ≡ Some g.0 → c ≡ Some g.1.0 → l ≡ Some g.1.1 → group_of n c l ≡ Some g
group_same g n c l en ec el = rw (en, ec, el) refl

group_back : (g : Group) → GroupInRange g → group_in (identity_text g.0) (decimal g.1.0) (decimal (lifetime_number g.1.1)) ≡ Some g
group_back g fits =
    let class = fits.1 in
    group_same g _ _ _ (identity_again g.0 fits.0) (number_again 7 g.1.0 (omega (arith, class)) (omega arith)) (lifetime_again g.1.1)

more_groups : (g : Group) (gs : List Group) (group : Option Group) (groups : Option (List Group)) → group ≡ Some g → groups ≡ Some gs → (group >>= λ g. groups >>= λ gs. Some (g ∷ gs)) ≡ Some (g ∷ gs)
more_groups g gs group groups e f = rw (e, f) refl

groups_back : (groups : List Group) → All GroupInRange groups → groups_in (flat_map group_words groups) ≡ Some groups
groups_back [] fit = refl
groups_back (g ∷ groups) fit = more_groups g groups _ _ (group_back g (All-head GroupInRange g groups fit)) (groups_back groups (All-tail GroupInRange g groups fit))

pub three_words : (groups : List Group) → length (flat_map group_words groups) ≡ 3 * length groups
three_words [] = refl
three_words (g ∷ groups) = let rest = three_words groups in omega (arith, rest)

place_same : (radio : Radio) (s a : Option ℕ) (p : Option Bool) → s ≡ Some radio.station → a ≡ Some radio.area → p ≡ Some radio.present → place_of s a p ≡ Some radio
place_same radio s a p es ea ep = rw (es, ea, ep) refl

radio_same : (itsi : ℕ) (radio : Radio) (groups : List Group) (few : Bool) (n : Option ℕ) (r : Option Radio) (gs : Option (List Group)) → few ≡ true →
    n ≡ Some itsi → r ≡ Some radio → gs ≡ Some groups →
    cond few (radio_of n r gs) None ≡ Some (RadioRow itsi radio groups)
radio_same itsi radio groups few n r gs is en er eg = rw (is, en, er, eg) refl

radio_back : (itsi : ℕ) (radio : Radio) (groups : List Group) → IsRow (RadioRow itsi radio groups) → length groups ≤ 32 →
    radio_in (fields (RadioRow itsi radio groups)) ≡ Some (RadioRow itsi radio groups)
radio_back itsi radio groups is few =
    let r = is.range in let station = r.station in let area = r.area in let three = three_words groups in
    let short : nat_le (length (flat_map group_words groups)) 96 ≡ true = grind (arith, three, few) in
    let place : place_in (decimal radio.station) (decimal radio.area) (presence_word radio.present) ≡ Some radio =
    place_same radio _ _ _ (number_again 65535 radio.station (omega (arith, station)) (omega arith))
    (number_again 16383 radio.area (omega (arith, area)) (omega arith)) (presence_again radio.present) in
    radio_same itsi radio groups _ _ _ _ short (identity_again itsi r.number) place (groups_back groups r.each_group)

item_same : (w : Item) (n : Option ℕ) (k : Option Key) (d : Option ℕ) (g : Option (Option ℕ)) (p : Option (List Bool)) →
    n ≡ Some w.number → k ≡ Some w.key → d ≡ Some w.deadline → g ≡ Some w.group → p ≡ Some w.pdu → item_of n k d g p ≡ Some (MailRow w)
item_same w n k d g p en ek ed eg ep = rw (en, ek, ed, eg, ep) refl

item_back : (w : Item) → IsRow (MailRow w) → item_in (fields (MailRow w)) ≡ Some (MailRow w)
item_back w is =
    let r = is.range in let number = r.number in let item = r.item in let deadline = item.deadline in let few = item.pdu in
    item_same w _ _ _ _ _ (number_again _ w.number (omega (arith, number)) (omega arith)) (key_again w.key item.key)
    (number_again _ w.deadline (omega (arith, deadline)) (omega arith)) (copied_again w.group item.group) (pdu_again w.pdu (omega (arith, few)))

last_same : (station : ℕ) (last : LastAccepted) (s q n : Option ℕ) (p : Option (Option (List Bool))) → s ≡ Some station → q ≡ Some last.sequence → n ≡ Some last.number → p ≡ Some last.pdu →
    last_of s q n p ≡ Some (ServedRow station last)
last_same station last s q n p es eq en ep = rw (es, eq, en, ep) refl

last_back : (station : ℕ) (last : LastAccepted) → IsRow (ServedRow station last) → last_in (fields (ServedRow station last)) ≡ Some (ServedRow station last)
last_back station last is =
    let r = is.range in let place = r.place in let number = r.number in
    last_same station last _ _ _ _ (number_again 65535 station (omega (arith, place)) (omega arith)) (sequence_again last.sequence r.kept.above r.kept.sequence)
    (number_again _ last.number (omega (arith, number)) (omega arith)) (reply_again last.pdu r.kept.pdu)

given_back : (row : Row) → IsLineRow row → row_given (keyword row ∷ fields row) ≡ Some row
given_back (HeaderRow h) is = header_back h is.is_row ∙ ap (λ (n : ℕ). Some (HeaderRow (record h { epoch = n }))) (sym is.first)
given_back (RuleRow prefix rule) is = rule_back prefix rule is.is_row
given_back (RadioRow itsi radio groups) is = radio_back itsi radio groups is.is_row is.few
given_back (MailRow w) is = item_back w is.is_row
given_back (ServedRow station last) is = last_back station last is.is_row

pub sector_back : (row : Row) → IsLineRow row → sector_in (keyword row ∷ fields row) ≡ Some (sector_of row)
sector_back row is = ap (option_map sector_of) (given_back row is)

-- ---- the whole

-- a sector that is written is read
pub sector_read : (row : Row) → IsRow row → row_in (sector_of row) ≡ Some row
unfolding sector_of
sector_read row is = written_is_read row _ is

spelt_itself : (line : List ℕ) (row : Row) → line ≡ row_line row → if_spelt line row ≡ Some row
spelt_itself line row e =
    let same : bytes_eq (row_line row) line ≡ true = (bytes_eq-Decides (row_line row) line).1 (sym e) in
    rw same refl

bound : {A B : Type 0} (r : Option A) (x : A) (f : A → Option B) (y : Option B) → r ≡ Some x → f x ≡ y → (r >>= f) ≡ y
bound r x f y e h = rw e h

pub line_again : (row : Row) → IsLineRow row → line_row (row_line row) ≡ Some row
unfolding line_row
line_again row is =
    let line = row_line row in
    bound (sector_in (words line)) (sector_of row) (λ sector. row_in sector >>= if_spelt line) (Some row) (ap sector_in (words_of row is.is_row) ∙ sector_back row is)
    (bound (row_in (sector_of row)) row (if_spelt line) (Some row) (sector_read row is.is_row) (spelt_itself line row refl))
