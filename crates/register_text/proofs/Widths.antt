-- No line has more than 4,096 bytes: each word is short, and there are few of them.
use Rattle.std.proofs.Common.{◌≡◌, ℕ, ◌+◌, ◌*◌, ◌/◌, ◌<◌, ◌≤◌, ◌^◌, Bool, true, false, List, [], ◌∷◌, ◌++◌, length, take, drop, cond, Option, Some, None, Err, refl, ap, subst, ◌∙◌, arith, length-drop}
use Rattle.std.specs.Prelude.{IfSome, codes, decimal}
use Rattle.std.specs.Str.{bytes_eq}
use Rattle.std.specs.List.{All, flat_map}
use Rattle.std.proofs.lemmas.List.{length-append}
use Rattle.std.proofs.lemmas.List.Elements.{All-head, All-tail}
use Rattle.std.proofs.lemmas.Slice.Eq.{bytes_eq-Decides}
use Rattle.base.proofs.Options.{some_is}
use Rattle.base.proofs.Results.{ok_of_some}
use Rattle.identity.specs.IdentityText.{identity_text, prefix_text}
use Rattle.identity.specs.BitsText.{bits_text}
use Rattle.identity.proofs.Texts.{reading_number_only}
use Rattle.identity.proofs.Lengths.{decimal_fits, identity_fits, prefix_fits, bits_fit}
use Rattle.mm_pdus.specs.Values.{lifetime_number}
use Rattle.mailbox.specs.declared.key.Kind.{Kind}
use Rattle.mailbox.specs.declared.key.Kind.TheVariants.{Message, Report}
use Rattle.centre_core.specs.StateRanges.{IsReply}
use Rattle.listings.specs.Words.{pdu_text}
use Rattle.console.specs.Reading.{words}
use Rattle.listings.specs.Words.{kind_word}
use Rattle.image_rows.specs.Rows.{Row, HeaderRow, RuleRow, RadioRow, MailRow, ServedRow, Group, GroupInRange}
use Rattle.image_rows.specs.Loading.{Loading}
use Rattle.register_text.specs.Lines.{fields, presence_word, group_words, copied_words, spaced, row_line, IsLineRow}
use Rattle.register_text.specs.Reading.{line_row, number_in, most_4, most_8}
use Rattle.register_text.specs.Text.{TextLoading, count_after, count_taken, head_text, head_of, head_in, is_head, is_same, limits_in, head_taken, line_taken, line_taken_by, or_spelling}
use Rattle.register_text.specs.Dump.{longest_dump_line, long_cause}
use Rattle.register_text.specs.declared.cause.Cause.TheVariants as cause
use Rattle.register_text.proofs.Short.{number_most}
use Rattle.register_text.proofs.Spaces.{lifetime_small}
use Rattle.register_text.proofs.Only.{line_only}

-- ---- words

-- how many bytes these words have, each after a space
wide : List (List ℕ) → ℕ
wide [] = 0
wide (w ∷ ws) = length w + 1 + wide ws

spaced_length : (ws : List (List ℕ)) → length (spaced ws) ≡ wide ws
unfolding wide
spaced_length [] = refl
spaced_length (w ∷ ws) =
    let rest = spaced_length ws in
    let whole : length (32 ∷ w) + length (spaced ws) ≡ length w + 1 + wide ws = omega (arith, rest) in
    length-append (32 ∷ w) (spaced ws) ∙ whole

line_length : (w : List ℕ) (ws : List (List ℕ)) → length (w ++ spaced ws) ≡ length w + wide ws
line_length w ws = length-append w (spaced ws) ∙ ap (λ (n : ℕ). length w + n) (spaced_length ws)

kind_short : (kind : Kind) → length (kind_word kind) ≤ 1
kind_short Message = let n : length (kind_word Message) ≡ 1 = refl in omega (arith, n)
kind_short Report = let n : length (kind_word Report) ≡ 1 = refl in omega (arith, n)

presence_short : (present : Bool) → length (presence_word present) ≤ 7
presence_short true = let n : length (presence_word true) ≡ 7 = refl in omega (arith, n)
presence_short false = let n : length (presence_word false) ≡ 6 = refl in omega (arith, n)

reply_short : (pdu : Option (List Bool)) → IsReply pdu → length (pdu_text pdu) ≤ 534
reply_short None fits = let n : length (pdu_text None) ≡ 1 = refl in omega (arith, n)
reply_short (Some bits) fits = let few = fits.1 in let n : length (pdu_text (Some bits)) ≤ 21 + (length bits + 3) / 4 = bits_fit bits (omega (arith, few)) in omega (arith, few, n)

life_short : (g : Group) → length (decimal (lifetime_number g.1.1)) ≤ 20
life_short g = decimal_fits (lifetime_number g.1.1) (omega (arith, lifetime_small g.1.1))

copied_short : (group : Option ℕ) → IfSome group (λ gtsi. gtsi < 2 ^ 48) → wide (copied_words group) ≤ 63
unfolding wide
copied_short None fits = let n : wide (copied_words None) ≡ 0 = refl in omega (arith, n)
copied_short (Some gtsi) fits =
    let n = identity_fits gtsi fits in
    let whole : wide (copied_words (Some gtsi)) ≡ length (identity_text gtsi) + 1 + 0 = refl in
    omega (arith, n, whole)

groups_short : (groups : List Group) → All GroupInRange groups → wide (flat_map group_words groups) ≤ 105 * length groups
unfolding wide
groups_short [] fit = let n : wide (flat_map group_words []) ≡ 0 = refl in omega (arith, n)
groups_short (g ∷ groups) fit =
    let here : GroupInRange g = All-head GroupInRange g groups fit in
    let rest = groups_short groups (All-tail GroupInRange g groups fit) in
    let a = identity_fits g.0 here.0 in
    let b = decimal_fits g.1.0 (omega (arith, here.1)) in
    let c = life_short g in
    let whole : wide (flat_map group_words (g ∷ groups)) ≡ length (identity_text g.0) + 1 +
    (length (decimal g.1.0) + 1 + (length (decimal (lifetime_number g.1.1)) + 1 + wide (flat_map group_words groups))) = refl in
    omega (arith, rest, a, b, c, whole)

-- ---- the line of a row

pub row_short : (row : Row) → IsLineRow row → length (row_line row) ≤ longest_dump_line
unfolding wide
row_short (HeaderRow h) is =
    let r = is.is_row.range in
    let a = decimal_fits h.count r.count in
    let b = decimal_fits h.rules (let s = r.rules in omega (arith, s)) in
    let c = decimal_fits h.radios (let s = r.radios in omega (arith, s)) in
    let d = decimal_fits h.mail (let s = r.mail in omega (arith, s)) in
    let e = decimal_fits h.served (let s = r.served in omega (arith, s)) in
    let whole : length (row_line (HeaderRow h)) ≡ 5 +
    (length (decimal h.count) + 1 +
    (5 + 1 + (length (decimal h.rules) + 1 +
    (6 + 1 + (length (decimal h.radios) + 1 + (5 + 1 + (length (decimal h.mail) + 1 + (8 + 1 + (length (decimal h.served) + 1 + 0))))))))) =
    line_length (codes "count") (fields (HeaderRow h)) in
    omega (arith, a, b, c, d, e, whole)
row_short (RuleRow prefix rule) is =
    let r = is.is_row.range in let low = r.1.0 in let high = r.1.1 in let keep = r.1.2 in
    let a = prefix_fits prefix r.0 in
    let b = decimal_fits rule.low (omega (arith, low, high)) in
    let c = decimal_fits rule.high (omega (arith, high)) in
    let d = decimal_fits (lifetime_number rule.lifetime) (omega (arith, lifetime_small rule.lifetime)) in
    let e = decimal_fits rule.keep (omega (arith, keep)) in
    let whole : length (row_line (RuleRow prefix rule)) ≡ 4 +
    (length (prefix_text prefix) + 1 +
    (length (decimal rule.low) + 1 +
    (length (decimal rule.high) + 1 + (length (decimal (lifetime_number rule.lifetime)) + 1 + (length (decimal rule.keep) + 1 + 0))))) =
    line_length (codes "rule") (fields (RuleRow prefix rule)) in
    omega (arith, a, b, c, d, e, whole)
row_short (RadioRow itsi radio groups) is =
    let r = is.is_row.range in let station = r.station in let area = r.area in let few = is.few in
    let a = identity_fits itsi r.number in
    let b = decimal_fits radio.station (omega (arith, station)) in
    let c = decimal_fits radio.area (omega (arith, area)) in
    let d = presence_short radio.present in
    let e = groups_short groups r.each_group in
    let whole : length (row_line (RadioRow itsi radio groups)) ≡ 5 +
    (length (identity_text itsi) + 1 +
    (7 + 1 + (length (decimal radio.station) + 1 +
    (2 + 1 + (length (decimal radio.area) + 1 + (length (presence_word radio.present) + 1 + wide (flat_map group_words groups))))))) =
    line_length (codes "radio") (fields (RadioRow itsi radio groups)) in
    omega (arith, a, b, c, d, e, few, whole)
row_short (MailRow w) is =
    let r = is.is_row.range in let item = r.item in let key = item.key in let deadline = item.deadline in let reference = key.2 in let few = item.pdu in
    let a = decimal_fits w.number r.number in
    let b = identity_fits w.key.destination key.0 in
    let c = kind_short w.key.kind in
    let d = identity_fits w.key.source key.1 in
    let e = decimal_fits w.key.reference (omega (arith, reference)) in
    let f = decimal_fits w.deadline (omega (arith, deadline)) in
    let g = bits_fit w.pdu (omega (arith, few)) in
    let h = copied_short w.group item.group in
    let whole : length (row_line (MailRow w)) ≡ 4 +
    (length (decimal w.number) + 1 +
    (length (identity_text w.key.destination) + 1 +
    (length (kind_word w.key.kind) + 1 +
    (length (identity_text w.key.source) + 1 +
    (length (decimal w.key.reference) + 1 + (length (decimal w.deadline) + 1 + (length (bits_text w.pdu) + 1 + wide (copied_words w.group))))))))
    =
    line_length (codes "item") (fields (MailRow w)) in
    omega (arith, a, b, c, d, e, f, g, h, few, whole)
row_short (ServedRow station last) is =
    let r = is.is_row.range in let place = r.place in let sequence = r.kept.sequence in
    let a = decimal_fits station (omega (arith, place)) in
    let b = decimal_fits last.sequence (omega (arith, sequence)) in
    let c = decimal_fits last.number r.number in
    let d = reply_short last.pdu r.kept.pdu in
    let whole : length (row_line (ServedRow station last)) ≡ 4 +
    (length (decimal station) + 1 +
    (length (decimal last.sequence) + 1 + (length (decimal last.number) + 1 + (length (pdu_text last.pdu) + 1 + 0)))) =
    line_length (codes "last") (fields (ServedRow station last)) in
    omega (arith, a, b, c, d, whole)

-- ---- the first line

no_text : {P : Type 0} (text : List ℕ) (e : (let o : Option (List ℕ) = None in o) ≡ Some text) → P
no_text text e = absurd cc

head_short : (r p m s : ℕ) → r ≤ most_4 → p ≤ most_4 → m ≤ most_4 → s ≤ most_4 → length (head_text r p m s) ≤ longest_dump_line
unfolding wide
head_short r p m s lr lp lm ls =
    let a = decimal_fits r (omega (arith, lr)) in
    let b = decimal_fits p (omega (arith, lp)) in
    let c = decimal_fits m (omega (arith, lm)) in
    let d = decimal_fits s (omega (arith, ls)) in
    let ws : List (List ℕ) = codes "rules" ∷ decimal r ∷ codes "radios" ∷ decimal p ∷ codes "items" ∷ decimal m ∷ codes "stations" ∷ decimal s ∷ [] in
    let whole : length (head_text r p m s) ≡ 23 +
    (5 + 1 + (length (decimal r) + 1 +
    (6 + 1 + (length (decimal p) + 1 + (5 + 1 + (length (decimal m) + 1 + (8 + 1 + (length (decimal s) + 1 + 0)))))))) =
    line_length (codes "tetra-switch register 1") ws in
    omega (arith, a, b, c, d, whole)

-- the number of a word
Small : Option ℕ → Type 0
Small o = (n : ℕ) → o ≡ Some n → n ≤ most_4

word_small : (word : List ℕ) → Small (number_in most_4 word)
unfolding Small
word_small word n e = number_most most_4 n word (ok_of_some _ n e)

of_short : (r p m s : Option ℕ) (text : List ℕ) → Small r → Small p → Small m → Small s → head_of r p m s ≡ Some text → length text ≤ longest_dump_line
unfolding Small
of_short None p m s text fr fp fm fs e = no_text text e
of_short (Some r) None m s text fr fp fm fs e = no_text text e
of_short (Some r) (Some p) None s text fr fp fm fs e = no_text text e
of_short (Some r) (Some p) (Some m) None text fr fp fm fs e = no_text text e
of_short (Some r) (Some p) (Some m) (Some s) text fr fp fm fs e =
    subst (λ (t : List ℕ). length t ≤ longest_dump_line) (some_is (head_text r p m s) text e) (head_short r p m s (fr r refl) (fp p refl) (fm m refl) (fs s refl))

limits_short : (ws : List (List ℕ)) (text : List ℕ) → limits_in ws ≡ Some text → length text ≤ longest_dump_line
limits_short [] text e = no_text text e
limits_short (a ∷ []) text e = no_text text e
limits_short (a ∷ r ∷ []) text e = no_text text e
limits_short (a ∷ r ∷ b ∷ []) text e = no_text text e
limits_short (a ∷ r ∷ b ∷ p ∷ []) text e = no_text text e
limits_short (a ∷ r ∷ b ∷ p ∷ c ∷ []) text e = no_text text e
limits_short (a ∷ r ∷ b ∷ p ∷ c ∷ m ∷ []) text e = no_text text e
limits_short (a ∷ r ∷ b ∷ p ∷ c ∷ m ∷ d ∷ []) text e = no_text text e
limits_short (a ∷ r ∷ b ∷ p ∷ c ∷ m ∷ d ∷ s ∷ []) text e =
    of_short (number_in most_4 r) (number_in most_4 p) (number_in most_4 m) (number_in most_4 s) text (word_small r) (word_small p) (word_small m) (word_small s) e
limits_short (a ∷ r ∷ b ∷ p ∷ c ∷ m ∷ d ∷ s ∷ x ∷ more) text e = no_text text e

numbers_short : (ws : List (List ℕ)) (text : List ℕ) → head_in ws ≡ Some text → length text ≤ longest_dump_line
numbers_short [] text e = no_text text e
numbers_short (a ∷ []) text e = no_text text e
numbers_short (a ∷ b ∷ []) text e = no_text text e
numbers_short (a ∷ b ∷ c ∷ ws) text e = limits_short ws text e

same_short : (line : List ℕ) (o : Option (List ℕ)) → ((text : List ℕ) → o ≡ Some text → length text ≤ longest_dump_line) → is_same line o ≡ true → length line ≤ longest_dump_line
same_short line None short e = absurd cc
same_short line (Some text) short e = subst (λ (t : List ℕ). length t ≤ longest_dump_line) ((bytes_eq-Decides text line).0 e) (short text refl)

first_short : (line : List ℕ) → is_head line ≡ true → length line ≤ longest_dump_line
unfolding is_head
first_short line e = same_short line (head_in (words line)) (numbers_short (words line)) e

-- ---- a line that is longer

no_head : (stated : Option ℕ) (l : Loading) (line : List ℕ) (b : Bool) → longest_dump_line < length line → (b ≡ true → length line ≤ longest_dump_line) → head_taken stated l b ≡ Err cause.Head
no_head stated l line true long short = let n = short refl in absurd (omega (arith, long, n))
no_head stated l line false long short = refl

no_row : (stated : Option ℕ) (l : Loading) (line : List ℕ) (o : Option Row) → longest_dump_line < length line → line_row line ≡ o → or_spelling stated l o ≡ Err cause.Spelling
no_row stated l line None long e = refl
no_row stated l line (Some row) long e =
    let spelt = line_only line row e in
    let n = row_short row spelt.0 in
    let m : length line ≡ length (row_line row) = ap length spelt.1 in
    absurd (omega (arith, long, n, m))

-- it has no number of 64 bits after its first 5 bytes
no_number : (line : List ℕ) (o : Option ℕ) → longest_dump_line < length line → number_in most_8 (drop 5 line) ≡ o → o ≡ None
no_number line None long e = refl
no_number line (Some n) long e =
    let only = reading_number_only most_8 n (drop 5 line) (omega arith) (ok_of_some _ n e) in
    let fits = decimal_fits n (omega (arith, only.0)) in
    let short : length (drop 5 line) ≡ length (decimal n) = ap length only.1 in
    let all = length-drop 5 line in
    absurd (omega (arith, long, fits, short, all))

none_stated : (line : List ℕ) (b : Bool) → longest_dump_line < length line → cond b (number_in most_8 (drop 5 line)) None ≡ None
none_stated line true long = no_number line (number_in most_8 (drop 5 line)) long refl
none_stated line false long = refl

none_after : (stated : Option ℕ) (line : List ℕ) → longest_dump_line < length line → count_after stated line ≡ None
none_after None line long = none_stated line (bytes_eq (take 5 line) (codes "dump ")) long
none_after (Some n) line long = refl

no_head_by : (stated : Option ℕ) (l : Loading) (line : List ℕ) (o : Option ℕ) → longest_dump_line < length line → o ≡ None → count_taken stated l line o ≡ Err cause.Head
no_head_by stated l line None long e = no_head stated l line (is_head line) long (first_short line)
no_head_by stated l line (Some n) long e = absurd cc

refused_by : (headed : Bool) (stated : Option ℕ) (l : Loading) (line : List ℕ) → longest_dump_line < length line → line_taken_by headed stated l line ≡ Err (long_cause headed)
refused_by false stated l line long = no_head_by stated l line (count_after stated line) long (none_after stated line long)
refused_by true stated l line long = no_row stated l line (line_row line) long refl

-- no line that is longer can be taken
pub long_refused : (t : TextLoading) (line : List ℕ) → longest_dump_line < length line → line_taken t line ≡ Err (long_cause t.headed)
unfolding line_taken
long_refused t line long = refused_by t.headed t.stated t.rows line long
