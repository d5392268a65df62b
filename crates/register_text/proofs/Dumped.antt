-- The lines of the listing of a whole register are the lines of its text.
use Rattle.std.proofs.Common.{◌≡◌, ℕ, ◌+◌, ◌≤◌, Bool, true, false, cond, List, [], ◌∷◌, ◌++◌, length, Option, Some, None, Result, Ok, Err, refl, sym, ap, subst, ◌∙◌, arith, append_assoc}
use Rattle.std.specs.Prelude.{◌==◌, map as each, codes, decimal}
use Rattle.std.specs.List.{filter, flat_map}
use Rattle.std.proofs.lemmas.List.Elements.{All-head}
use Rattle.std.specs.FinMap as map
use Rattle.std.proofs.lemmas.List.{append-nil, length-map, map-append}
use Rattle.base.proofs.Numbers.{same_test}
use Rattle.identity.specs.Number.{number}
use Rattle.identity.specs.Path.{Path}
use Rattle.registration.specs.declared.limits.Limits.{Limits}
use Rattle.registration.specs.declared.radio.Radio.{Radio}
use Rattle.registration.specs.declared.rule.Rule.{Rule}
use Rattle.group_attach.specs.Attached.{Attached, Pair, Usage, attachment_of, of_radio}
use Rattle.mailbox.specs.Values.{Item}
use Rattle.centre_core.specs.State.{State, LastAccepted, IsState}
use Rattle.centre_core.specs.StateRanges.{StateInRange}
use Rattle.listings.specs.Entries.{RuleEntry, ItemEntry, is_under, rule_entry, radio_entry}
use Rattle.identity.specs.BitsText.{bits_text}
use Rattle.identity.specs.IdentityText.{identity_text, prefix_text}
use Rattle.mm_pdus.specs.Values.{lifetime_number}
use Rattle.listings.specs.Lines.{count_text, entry_line, item_end, radio_words}
use Rattle.listings.specs.Texts.{listing_text}
use Rattle.listings.specs.declared.listing.Listing.TheVariants as listing
use Rattle.listings.specs.Words.{kind_word, pdu_text, presence_text}
use Rattle.listings.specs.Dump.{count_line, dump_lines, dumped_line, first_line, last_line, last_lines}
use Rattle.listings.specs.Dump.{group_words as listed_words}
use Rattle.image_rows.specs.Rows.{Row, HeaderRow, RuleRow, MailRow, ServedRow, header_of, group_of, rule_row, radio_row, served_rows, rows_of}
use Rattle.register_text.specs.Lines.{IsLineRow, copied_words, fields, group_words, presence_word, row_line, spaced}
use Rattle.image_rows.specs.Loading.{begun, row_taken}
use Rattle.image_rows.proofs.Counts.{rows_counted, rows_fit}
use Rattle.register_text.specs.Reading.{line_row, most_8}
use Rattle.register_text.specs.Text.{IsUnder, TextLoading, count_in, count_taken, head_line, head_taken, line_count, line_taken, or_place, or_spelling, register_lines, text_begun}
use Rattle.register_text.specs.Cut.{is_cut}
use Rattle.register_text.specs.Dump.{HasNoFeed, IsOfPlace, ended, register_bytes, text_from, text_read, then_line}
use Rattle.register_text.specs.declared.cause.Cause.{Cause}
use Rattle.register_text.proofs.Spaces.{decimal_plain, letters, line_has_no_feed, no_feeds}
use Rattle.register_text.specs.declared.load_fault.LoadFault.{LoadFault}
use Rattle.register_text.proofs.Again.{line_again, number_again}
use Rattle.register_text.proofs.Parts.{line_step}
use Rattle.register_text.proofs.Texts.{are_lines, head_again, head_has_no_feed, lines_again, lines_under}
use Rattle.register_text.proofs.Bytes.{ended_line, lines_plain, read_back, read_ended, rows_at_fault}
use Rattle.register_text.proofs.Counting.{opposite}
use Rattle.register_text.proofs.CutTexts.{cut_only, of_place, read_whole}

-- a line with its line feed
abbrev pub with_feed : List ℕ → List ℕ
with_feed line = line ++ codes "\n"

-- a row's line with its line feed
abbrev line_of : Row → List ℕ
line_of row = with_feed (row_line row)

-- ---- a line of each kind

-- words, each after a space, and what comes after them
abbrev spread : List (List ℕ) → List ℕ → List ℕ
spread [] rest = rest
spread (w ∷ ws) rest = 32 ∷ (w ++ spread ws rest)

spread_is : (ws : List (List ℕ)) (rest : List ℕ) → spaced ws ++ rest ≡ spread ws rest
spread_is [] rest = refl
spread_is (w ∷ ws) rest = ap (λ t. 32 ∷ t) (append_assoc w (spaced ws) rest ∙ ap (λ t. w ++ t) (spread_is ws rest))

-- a line of a word and others, with its line feed
line_is : (word : List ℕ) (ws : List (List ℕ)) → with_feed (word ++ spaced ws) ≡ word ++ spread ws (codes "\n")
line_is word ws = append_assoc word (spaced ws) (codes "\n") ∙ ap (λ t. word ++ t) (spread_is ws (codes "\n"))

first_parts : (a b c d e : List ℕ) → codes "tetra-switch register 1 rules " ++ a ++ codes " radios " ++ b ++ codes " items " ++ c ++ codes " stations " ++ d ++ e
    ≡ codes "tetra-switch register 1" ++ spread (codes "rules" ∷ a ∷ codes "radios" ∷ b ∷ codes "items" ∷ c ∷ codes "stations" ∷ d ∷ []) e
first_parts a b c d e = simp append_assoc

first_same : (l : Limits) → first_line l ≡ with_feed (head_line l)
unfolding first_line
first_same l = first_parts (decimal l.rules) (decimal l.radios) (decimal l.mail) (decimal l.stations) (codes "\n") ∙ sym (line_is (codes "tetra-switch register 1")
    (codes "rules" ∷ decimal l.rules ∷ codes "radios" ∷ decimal l.radios ∷ codes "items" ∷ decimal l.mail ∷ codes "stations" ∷ decimal l.stations ∷ []))

count_parts : (n a b c d e : List ℕ) → codes "count " ++ n ++ codes " rules " ++ a ++ codes " radios " ++ b ++ codes " items " ++ c ++ codes " stations " ++ d ++ e
    ≡ codes "count" ++ spread (n ∷ codes "rules" ∷ a ∷ codes "radios" ∷ b ∷ codes "items" ∷ c ∷ codes "stations" ∷ d ∷ []) e
count_parts n a b c d e = simp append_assoc

count_same : (s : State) → count_line s ≡ line_of (HeaderRow (header_of 1 s))
unfolding count_line
count_same s =
    let h = header_of 1 s in
    count_parts (decimal h.count) (decimal h.rules) (decimal h.radios) (decimal h.mail) (decimal h.served) (codes "\n") ∙ sym (line_is (codes "count") (fields (HeaderRow h)))

rule_parts : (a b c d e f : List ℕ) → codes "rule " ++ (a ++ codes " " ++ b ++ codes " " ++ c ++ codes " " ++ d ++ codes " " ++ e) ++ f ≡ codes "rule" ++ spread (a ∷ b ∷ c ∷ d ∷ e ∷ []) f
rule_parts a b c d e f = simp append_assoc

rule_same : (prefix : Path) (rule : Rule) → entry_line (RuleEntry prefix rule) ≡ line_of (RuleRow prefix rule)
rule_same prefix rule =
    rule_parts (prefix_text prefix) (decimal rule.low) (decimal rule.high) (decimal (lifetime_number rule.lifetime)) (decimal rule.keep) (codes "\n")
    ∙ sym (line_is (codes "rule") (fields (RuleRow prefix rule)))

group_parts : (a b c rest : List ℕ) → codes " " ++ a ++ codes " " ++ b ++ codes " " ++ c ++ rest ≡ spread (a ∷ b ∷ c ∷ []) rest
group_parts a b c rest = simp append_assoc

group_same : (e : Pair × Usage) (rest : List ℕ) → listed_words (attachment_of e) ++ rest ≡ spaced (group_words (group_of e)) ++ rest
group_same e rest = group_parts (identity_text e.0.1) (decimal e.1.0) (decimal (lifetime_number e.1.1)) rest ∙ sym (spread_is (group_words (group_of e)) rest)

spaced_more : (ws vs : List (List ℕ)) → spaced (ws ++ vs) ≡ spaced ws ++ spaced vs
spaced_more [] vs = refl
spaced_more (w ∷ ws) vs = ap (λ t. 32 ∷ (w ++ t)) (spaced_more ws vs) ∙ ap (λ t. 32 ∷ t) (sym (append_assoc w (spaced ws) (spaced vs)))

groups_same : (es : List (Pair × Usage)) → flat_map listed_words (each attachment_of es) ≡ spaced (flat_map group_words (each group_of es))
groups_same [] = refl
groups_same (e ∷ es) =
    ap (λ t. listed_words (attachment_of e) ++ t) (groups_same es)
    ∙ group_same e (spaced (flat_map group_words (each group_of es)))
    ∙ sym (spaced_more (group_words (group_of e)) (flat_map group_words (each group_of es)))

radio_flat : (k a s n b m c p groups e : List ℕ) → k ++ a ++ s ++ (n ++ b ++ m ++ c ++ p) ++ groups ++ e ≡ k ++ (a ++ (s ++ (n ++ (b ++ (m ++ (c ++ (p ++ (groups ++ e))))))))
radio_flat k a s n b m c p groups e = simp append_assoc

present_spread : (present : Bool) (rest : List ℕ) → presence_text present ++ rest ≡ 32 ∷ (presence_word present ++ rest)
present_spread true rest = refl
present_spread false rest = refl

radio_parts : (itsi : ℕ) (radio : Radio) (words : List (List ℕ)) (groups : List ℕ) → groups ≡ spaced words
    → codes "radio " ++ identity_text itsi ++ codes " " ++ radio_words radio ++ groups ++ codes "\n"
    ≡ with_feed (codes "radio" ++ spaced (identity_text itsi ∷ codes "station" ∷ decimal radio.station ∷ codes "la" ∷ decimal radio.area ∷ presence_word radio.present ∷ words))
radio_parts itsi radio words groups same =
    let a = identity_text itsi in
    let b = decimal radio.station in
    let c = decimal radio.area in
    let rest : presence_text radio.present ++ (groups ++ codes "\n") ≡ 32 ∷ (presence_word radio.present ++ spread words (codes "\n")) =
    present_spread radio.present (groups ++ codes "\n") ∙ ap (λ t. 32 ∷ (presence_word radio.present ++ t)) (ap (λ t. t ++ codes "\n") same ∙ spread_is words (codes "\n")) in
    radio_flat (codes "radio ") a (codes " ") (codes "station ") b (codes " la ") c (presence_text radio.present) groups (codes "\n")
    ∙ ap (λ t. codes "radio" ++ spread (a ∷ codes "station" ∷ b ∷ codes "la" ∷ c ∷ []) t) rest
    ∙ sym (line_is (codes "radio") (a ∷ codes "station" ∷ b ∷ codes "la" ∷ c ∷ presence_word radio.present ∷ words))

radio_same : (groups : Attached) (e : Path × Radio) → dumped_line groups (radio_entry e) ≡ line_of (radio_row groups e)
radio_same groups e = radio_parts (number e.0) e.1 _ _ (groups_same (map.entries (of_radio groups (number e.0))))

item_flat : (i n s a s' k t b t' r u d u' p e : List ℕ) → i ++ n ++ s ++ a ++ s' ++ (k ++ t ++ b ++ t' ++ r) ++ u ++ d ++ u' ++ p ++ e
    ≡ i ++ (n ++ (s ++ (a ++ (s' ++ (k ++ (t ++ (b ++ (t' ++ (r ++ (u ++ (d ++ (u' ++ (p ++ e)))))))))))))
item_flat i n s a s' k t b t' r u d u' p e = simp append_assoc

item_end_is : (group : Option ℕ) → item_end group ≡ spread (copied_words group) (codes "\n")
item_end_is None = refl
item_end_is (Some gtsi) = refl

item_same : (w : Item) → entry_line (ItemEntry w) ≡ line_of (MailRow w)
item_same w =
    let key = w.key in
    let ws : List (List ℕ) = decimal w.number ∷ identity_text key.destination ∷ kind_word key.kind ∷ identity_text key.source ∷ decimal key.reference ∷ decimal w.deadline ∷ bits_text w.pdu ∷ [] in
    item_flat (codes "item ") (decimal w.number) (codes " ") (identity_text key.destination) (codes " ") (kind_word key.kind) (codes " ") (identity_text key.source) (codes " ")
    (decimal key.reference) (codes " ") (decimal w.deadline) (codes " ") (bits_text w.pdu) (item_end w.group)
    ∙ ap (λ t. codes "item" ++ spread ws t) (item_end_is w.group)
    ∙ sym (line_is (codes "item") (fields (MailRow w)))

last_parts : (a b c d e : List ℕ) → codes "last " ++ a ++ codes " " ++ b ++ codes " " ++ c ++ codes " " ++ d ++ e ≡ codes "last" ++ spread (a ∷ b ∷ c ∷ d ∷ []) e
last_parts a b c d e = simp append_assoc

last_same : (station : ℕ) (last : LastAccepted) → last_line station last ≡ line_of (ServedRow station last)
last_same station last = last_parts (decimal station) (decimal last.sequence) (decimal last.number) (pdu_text last.pdu) (codes "\n") ∙ sym (line_is (codes "last") (fields (ServedRow station last)))

-- ---- all lines

lasts_same : (n : ℕ) (served : List (Option LastAccepted)) → last_lines n served ≡ each line_of (served_rows n served)
lasts_same n [] = refl
lasts_same n (None ∷ served) = lasts_same (n + 1) served
lasts_same n (Some last ∷ served) = λ i. last_same n last i ∷ lasts_same (n + 1) served i

rules_same : (groups : Attached) (rs : List (Path × Rule)) → each (dumped_line groups) (each rule_entry rs) ≡ each line_of (each rule_row rs)
rules_same groups [] = refl
rules_same groups (r ∷ rs) = λ i. rule_same r.0 r.1 i ∷ rules_same groups rs i

radios_same : (groups : Attached) (es : List (Path × Radio)) → each (dumped_line groups) (each radio_entry (filter (λ e. is_under None e.0) es)) ≡ each line_of (each (radio_row groups) es)
radios_same groups [] = refl
radios_same groups (e ∷ es) = λ i. radio_same groups e i ∷ radios_same groups es i

items_same : (groups : Attached) (ws : List Item) → each (dumped_line groups) (each ItemEntry ws) ≡ each line_of (each MailRow ws)
items_same groups [] = refl
items_same groups (w ∷ ws) = λ i. item_same w i ∷ items_same groups ws i

each_twice : (rows : List Row) → each line_of rows ≡ each with_feed (each row_line rows)
each_twice [] = refl
each_twice (row ∷ rows) = ap (λ t. line_of row ∷ t) (each_twice rows)

-- the listing's lines are those of the text, each with its line feed
pub lines_same : (s : State) → dump_lines s ≡ each with_feed (register_lines s)
unfolding dump_lines
lines_same s =
    let rules = each rule_entry (map.entries s.registered.rules) in
    let radios = each radio_entry (filter (λ e. is_under None e.0) (map.entries s.registered.radios)) in
    let items = each ItemEntry s.mail.items in
    let f = dumped_line s.groups in
    let rule_rows = each rule_row (map.entries s.registered.rules) in
    let radio_rows = each (radio_row s.groups) (map.entries s.registered.radios) in
    let mail_rows = each MailRow s.mail.items in
    let served = served_rows 1 s.served in
    let split : each f (rules ++ (radios ++ items)) ++ last_lines 1 s.served ≡ each f rules ++ (each f radios ++ (each f items ++ last_lines 1 s.served)) =
    ap (λ t. t ++ last_lines 1 s.served) (map-append f rules (radios ++ items) ∙ ap (λ t. each f rules ++ t) (map-append f radios items))
    ∙ append_assoc (each f rules) (each f radios ++ each f items) (last_lines 1 s.served)
    ∙ ap (λ t. each f rules ++ t) (append_assoc (each f radios) (each f items) (last_lines 1 s.served)) in
    let rows : each f rules ++ (each f radios ++ (each f items ++ last_lines 1 s.served)) ≡ each line_of rule_rows ++ (each line_of radio_rows ++ (each line_of mail_rows ++ each line_of served)) =
    λ i. rules_same s.groups (map.entries s.registered.rules) i ++ (radios_same s.groups (map.entries s.registered.radios) i ++ (items_same s.groups s.mail.items i ++ lasts_same 1 s.served i)) in
    let joined : each line_of rule_rows ++ (each line_of radio_rows ++ (each line_of mail_rows ++ each line_of served)) ≡ each line_of (rule_rows ++ (radio_rows ++ (mail_rows ++ served))) =
    sym (
    map-append line_of rule_rows (radio_rows ++ (mail_rows ++ served))
    ∙ ap (λ t. each line_of rule_rows ++ t) (map-append line_of radio_rows (mail_rows ++ served) ∙ ap (λ t. each line_of radio_rows ++ t) (map-append line_of mail_rows served))
    ) in
    (λ i. first_same s.registered.limits i ∷ count_same s i ∷ (split ∙ rows ∙ joined ∙ each_twice (rule_rows ++ (radio_rows ++ (mail_rows ++ served)))) i)

flat_each : (lines : List (List ℕ)) → flat_map (λ line. line) (each with_feed lines) ≡ flat_map with_feed lines
flat_each [] = refl
flat_each (line ∷ lines) = ap (λ t. with_feed line ++ t) (flat_each lines)

-- put one after another they are the bytes of the text
pub bytes_same : (s : State) → flat_map (λ line. line) (dump_lines s) ≡ register_bytes s
bytes_same s = ap (λ lines. flat_map (λ line. line) lines) (lines_same s) ∙ flat_each (register_lines s)

pub count_of_lines : (s : State) → length (dump_lines s) ≡ length (register_lines s)
count_of_lines s = ap length (lines_same s) ∙ length-map (register_lines s) with_feed

-- the whole listing
pub listing_same : (s : State) → listing_text s listing.Dump ≡ codes "dump " ++ (count_text (length (register_lines s)) ++ register_bytes s)
listing_same s = λ i. codes "dump " ++ (count_text (count_of_lines s i) ++ bytes_same s i)

-- ---- the listing, read

count_said : (n : ℕ) → n ≤ most_8 → count_in (codes "dump " ++ decimal n) ≡ Some n
count_said n small = number_again most_8 n small (omega arith)

count_plain : (n : ℕ) → n ≤ most_8 → HasNoFeed (codes "dump " ++ decimal n)
count_plain n small =
    subst (λ (t : List ℕ). HasNoFeed (codes "dump " ++ t)) (append-nil (decimal n))
    (no_feeds (codes "dump") (decimal n ∷ []) (letters (codes "dump") refl, (decimal_plain n (omega (arith, small)), tt)))

-- so many lines were stated, and no other line was taken
counted : Limits → ℕ → TextLoading
counted limits n = record { stated = Some n; headed = false; rows = begun limits }

count_first : (limits : Limits) (n : ℕ) → n ≤ most_8 → line_taken (text_begun limits) (codes "dump " ++ decimal n) ≡ Ok (counted limits n)
unfolding line_taken counted
count_first limits n small = ap (count_taken None (begun limits) (codes "dump " ++ decimal n)) (count_said n small)

-- the text comes after the number of its lines
after_count : (limits : Limits) (s : State) (n : ℕ) → n ≤ most_8
    → text_read limits (codes "dump " ++ (count_text n ++ register_bytes s)) ≡ text_from 2 (counted limits n) (register_bytes s)
after_count limits s n small =
    let bytes = register_bytes s in
    let line : List ℕ = codes "dump " ++ decimal n in
    ap (text_from 1 (text_begun limits)) (ap (λ (t : List ℕ). codes "dump " ++ t) (append_assoc (decimal n) (codes "\n") bytes) ∙ sym (append_assoc (codes "dump ") (decimal n) (10 ∷ bytes)))
    ∙ line_step 1 (text_begun limits) line bytes (count_plain n small)
    ∙ ap (λ (r : Result TextLoading Cause). then_line 1 r (λ u. text_from 2 u bytes)) (count_first limits n small)

-- the first line and the header make the same, whether so many lines were stated or none
header_same : (limits : Limits) (s : State) → IsState s → StateInRange s →
    line_taken (record { stated = Some (length (register_lines s)); headed = true; rows = begun limits }) (row_line (HeaderRow (header_of 1 s)))
    ≡ line_taken (record { stated = None; headed = true; rows = begun limits }) (row_line (HeaderRow (header_of 1 s)))
unfolding line_taken
header_same limits s state ranges =
    let h = header_of 1 s in
    let n = length (register_lines s) in
    let again : line_row (row_line (HeaderRow h)) ≡ Some (HeaderRow h) = line_again (HeaderRow h) (All-head IsLineRow (HeaderRow h) _ (are_lines s state ranges)) in
    let rows : length (each row_line (rows_of 1 s)) ≡ length (rows_of 1 s) = length-map (rows_of 1 s) row_line in
    let count = rows_counted 1 s in
    let is : (n == line_count h) ≡ true = ap (λ (k : ℕ). n == k) (omega (arith, rows, count)) ∙ same_test n in
    ap (or_spelling (Some n) (begun limits)) again
    ∙ ap (λ (b : Bool). or_place (cond b (row_taken (begun limits) (HeaderRow h)) None)) is
    ∙ sym (ap (or_spelling None (begun limits)) again)

stated_lines : (limits : Limits) (s : State) (m : ℕ) (more : List (List ℕ)) → IsState s → StateInRange s
    → text_from m (counted limits (length (register_lines s))) (ended (head_line s.registered.limits ∷ row_line (HeaderRow (header_of 1 s)) ∷ more))
    ≡ text_from m (text_begun limits) (ended (head_line s.registered.limits ∷ row_line (HeaderRow (header_of 1 s)) ∷ more))
unfolding line_taken counted
stated_lines limits s m more state ranges =
    let n = length (register_lines s) in
    let line = row_line (HeaderRow (header_of 1 s)) in
    let own = s.registered.limits in
    let rows = ended (line ∷ more) in
    let none = head_has_no_feed own ranges.limits in
    let plain : HasNoFeed line = line_has_no_feed (HeaderRow (header_of 1 s)) (All-head IsLineRow (HeaderRow (header_of 1 s)) _ (are_lines s state ranges)).is_row in
    ended_line m (counted limits n) (head_line own) (line ∷ more) none
    ∙ ap (λ (b : Bool). then_line m (head_taken (Some n) (begun limits) b) (λ u. text_from (m + 1) u rows)) (head_again own ranges.limits)
    ∙ ended_line (m + 1) (record { stated = Some n; headed = true; rows = begun limits }) line more plain
    ∙ ap (λ (r : Result TextLoading Cause). then_line (m + 1) r (λ u. text_from (m + 1 + 1) u (ended more))) (header_same limits s state ranges)
    ∙ sym (ended_line (m + 1) (record { stated = None; headed = true; rows = begun limits }) line more plain)
    ∙ sym (ap (λ (b : Bool). then_line m (head_taken None (begun limits) b) (λ u. text_from (m + 1) u rows)) (head_again own ranges.limits))
    ∙ sym (ended_line m (text_begun limits) (head_line own) (line ∷ more) none)

stated_same : (limits : Limits) (s : State) (m : ℕ) → IsState s → StateInRange s
    → text_from m (counted limits (length (register_lines s))) (register_bytes s) ≡ text_from m (text_begun limits) (register_bytes s)
stated_same limits s m state ranges = stated_lines limits s m _ state ranges

few_lines : (s : State) → IsState s → StateInRange s → length (register_lines s) ≤ most_8
few_lines s state ranges =
    let all = rows_fit 1 s state in
    let lines : length (each row_line (rows_of 1 s)) ≡ length (rows_of 1 s) = length-map (rows_of 1 s) row_line in
    let l = ranges.limits in
    omega (arith, all, lines, l.most_rules, l.most_radios, l.most_mail, l.most_stations)

-- the listing makes what its text makes from the second line on
listing_made : (limits : Limits) (s : State) → IsState s → StateInRange s → text_read limits (listing_text s listing.Dump) ≡ text_from 2 (text_begun limits) (register_bytes s)
listing_made limits s state ranges =
    ap (text_read limits) (listing_same s)
    ∙ after_count limits s (length (register_lines s)) (few_lines s state ranges)
    ∙ stated_same limits s 2 state ranges

pub listing_again : (s : State) → IsState s → StateInRange s → text_read s.registered.limits (listing_text s listing.Dump) ≡ Ok s
listing_again s state ranges =
    listing_made s.registered.limits s state ranges
    ∙ read_ended (register_lines s) 2 (text_begun s.registered.limits) s (lines_plain s state ranges) (lines_again s state ranges)

pub listing_under : (limits : Limits) (s t : State) → IsState s → StateInRange s → text_read limits (listing_text s listing.Dump) ≡ Ok t → IsUnder limits (rows_of 1 s) t
listing_under limits s t state ranges e =
    lines_under limits s t state ranges (read_back (register_lines s) 2 (text_begun limits) t (lines_plain s state ranges) (sym (listing_made limits s state ranges) ∙ e))

-- under other limits it is refused for a row's place
pub listing_refused : (limits : Limits) (s : State) (f : LoadFault) → IsState s → StateInRange s → text_read limits (listing_text s listing.Dump) ≡ Err f → IsOfPlace f
listing_refused limits s f state ranges e =
    let text = listing_text s listing.Dump in
    let whole = read_whole s.registered.limits text s (listing_again s state ranges) in
    of_place f (rows_at_fault 2 limits s f state ranges (sym (listing_made limits s state ranges) ∙ e))
    (λ n is. opposite (is_cut text) (cut_only limits text n (e ∙ ap (λ (g : LoadFault). Err g) is)).0 whole)
