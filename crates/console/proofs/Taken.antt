-- What spells a command, a query or a listing is taken for it.
use Rattle.std.proofs.Common.{◌≡◌, ℕ, zero, suc, ◌+◌, ◌-◌, ◌<◌, ◌≤◌, ◌^◌, Bool, true, false, List, [], ◌∷◌, ◌++◌, length, replicate, refl, sym, ◌∙◌}
use Rattle.std.proofs.Common.{ap, subst, arith, Option, Some, None, not, nat_lt, nat_le}
use Rattle.std.specs.Prelude.{◌==◌, codes, decimal}
use Rattle.std.specs.Char.{is_ascii_digit, is_ascii_hexdigit}
use Rattle.std.specs.List.{list_all}
use Rattle.std.specs.Option.{option_and_then, option_map}
use Rattle.std.specs.Result.{result_ok}
use Rattle.std.proofs.lemmas.Grind.{common_steps}
use Rattle.std.proofs.lemmas.Fmt.{decimal_nonempty}
use Rattle.std.proofs.lemmas.List.{length-append}
use Rattle.std.proofs.lemmas.List.Elements.{All-nil, All-cons, All-append}
use Rattle.std.proofs.lemmas.List.Splits.{slice_split_at, slice_split_none}
use Rattle.base.proofs.Bools.{first_true, second_true}
use Rattle.identity.specs.Number.{number}
use Rattle.identity.specs.Inside.NumberLaws.{number-lt}
use Rattle.identity.specs.Path.{Path, left_aligned}
use Rattle.identity.specs.Identity.{mcc_of, mnc_of, ssi_of}
use Rattle.identity.specs.IdentityText.{identity_text, prefix_text, reading_identity, reading_prefix}
use Rattle.identity.specs.BitsText.{SpellsBits, reading_bits}
use Rattle.identity.proofs.NumberText.{all_of_number}
use Rattle.identity.proofs.Texts.{reading_number_again, number_of_decimal}
use Rattle.identity.proofs.IdentityTexts.{reading_identity_again, reading_prefix_again}
use Rattle.identity.proofs.BitsTexts.{reading_bits_again}
use Rattle.identity.proofs.Lengths.{decimal_fits, prefix_fits}
use Rattle.mm_pdus.specs.declared.lifetime.Lifetime.{Lifetime}
use Rattle.mm_pdus.specs.declared.lifetime.Lifetime.TheVariants.{NotNeeded, NextItsiAttach, NotAllowedAtNextItsiAttach, NextLocationUpdate}
use Rattle.mm_pdus.specs.Values.{lifetime_of, lifetime_number}
use Rattle.registration.specs.Rule.{Rule}
use Rattle.mailbox.specs.declared.key.Key.{Key}
use Rattle.mailbox.specs.declared.key.Kind.{Kind}
use Rattle.mailbox.specs.declared.key.Kind.TheVariants.{Message, Report}
use Rattle.centre_core.specs.declared.command.Body.{Body}
use Rattle.centre_core.specs.declared.command.Body.TheVariants.{RuleSet, RuleClear, Mm, Sds, GroupSds, Sent, Expire, Delete}
use Rattle.centre_core.specs.declared.query.Query.{Query}
use Rattle.centre_core.specs.declared.query.Query.TheVariants.{Whereabouts, Look, GroupsOf, MembersOf, Waiting, Total}
use Rattle.listings.specs.declared.listing.Listing.{Listing}
use Rattle.listings.specs.declared.listing.Listing.TheVariants.{Entries, Last, Room, Dump}
use Rattle.listings.specs.declared.listing.Table.TheVariants.{Rules, Radios, Items, Due, WaitingAt}
use Rattle.console.specs.declared.body.Head.{Head}
use Rattle.console.specs.declared.line.Line.{Line}
use Rattle.console.specs.declared.line.Line.TheVariants.{Apply, Ask, Print}
use Rattle.console.specs.Reading.{Lacks, words, of_words, reading, is_silent, longest_line, seconds_in, not_zero, sequence_in, head_of, head_in}
use Rattle.console.specs.Reading.{area_in, lifetime_in, rule_of, rule_in, reference_in, kind_in, key_of, key_in, rule_body, mm_body, sds_body}
use Rattle.console.specs.Reading.{group_sds_body, command_of, line_of, prefix_in, station_in, radios_under, due_at, waiting_at}
use Rattle.listings.specs.Words.{kind_word}
use Rattle.mailbox.specs.Values.{KeyInRange}
use Rattle.centre_core.specs.Ranges.{BodyInRange}
use Rattle.console.specs.Spelling.{spaced, key_words, SpellsBody, AllCommands, AllQueries, AllListings}
use Rattle.console.proofs.Splits.{is_space}

-- ---- no space in a word

digit_is_no_space : (c : ℕ) → is_ascii_digit c ≡ true → (c == 32) ≡ false
digit_is_no_space c e = grind (arith, e)

hexdigit_is_no_space : (c : ℕ) → is_ascii_hexdigit c ≡ true → (c == 32) ≡ false
hexdigit_is_no_space c e = grind (arith, e)

-- bytes of a kind that differs from the mark
pub all_lack : (is_so : ℕ → Bool) (mark : ℕ) → ((c : ℕ) → is_so c ≡ true → (c == mark) ≡ false) → (ds : List ℕ) → list_all is_so ds ≡ true → Lacks mark ds
all_lack is_so mark other [] e = All-nil (λ b. (b == mark) ≡ false)
all_lack is_so mark other (c ∷ ds) e =
    All-cons (λ b. (b == mark) ≡ false) c ds (other c (first_true (is_so c) (list_all is_so ds) e)) (all_lack is_so mark other ds (second_true (is_so c) (list_all is_so ds) e))

digits_lack : (ds : List ℕ) → list_all is_ascii_digit ds ≡ true → Lacks 32 ds
digits_lack ds e = all_lack is_ascii_digit 32 digit_is_no_space ds e

hexdigits_lack : (ds : List ℕ) → list_all is_ascii_hexdigit ds ≡ true → Lacks 32 ds
hexdigits_lack ds e = all_lack is_ascii_hexdigit 32 hexdigit_is_no_space ds e

pub decimal_digits : (n : ℕ) → n < 2 ^ 64 → list_all is_ascii_digit (decimal n) ≡ true
decimal_digits n small = all_of_number (decimal n) (number_of_decimal n small)

decimal_lacks : (n : ℕ) → n < 2 ^ 64 → Lacks 32 (decimal n)
decimal_lacks n small = digits_lack (decimal n) (decimal_digits n small)

pub letters_lack : (text : List ℕ) → list_all (λ b. not (b == 32)) text ≡ true → Lacks 32 text
letters_lack [] e = All-nil (λ b. (b == 32) ≡ false)
letters_lack (c ∷ text) e =
    let first : (c == 32) ≡ false = let other = first_true (not (c == 32)) (list_all (λ b. not (b == 32)) text) e in grind (arith, other) in
    All-cons (λ b. (b == 32) ≡ false) c text first (letters_lack text (second_true (not (c == 32)) (list_all (λ b. not (b == 32)) text) e))

-- two words around a mark
marked_lack : (a b : List ℕ) (mark : ℕ) → (mark == 32) ≡ false → Lacks 32 a → Lacks 32 b → Lacks 32 (a ++ mark ∷ b)
marked_lack a b mark other la lb = All-append (λ b. (b == 32) ≡ false) a (mark ∷ b) la (All-cons (λ b. (b == 32) ≡ false) mark b other lb)

identity_lacks : (n : ℕ) → n < 2 ^ 48 → Lacks 32 (identity_text n)
unfolding identity_text
identity_lacks n small = marked_lack (decimal (mcc_of n) ++ 45 ∷ decimal (mnc_of n)) (decimal (ssi_of n)) 45 refl
    (marked_lack (decimal (mcc_of n)) (decimal (mnc_of n)) 45 refl (decimal_lacks (mcc_of n) (omega (arith, small))) (decimal_lacks (mnc_of n) (omega (arith, small))))
    (decimal_lacks (ssi_of n) (omega (arith, small)))

pub aligned_below : (p : Path) → length p ≤ 48 → left_aligned p < 2 ^ 48
unfolding left_aligned
aligned_below p few =
    let whole : length (p ++ replicate (48 - length p) false) ≡ 48 = grind (arith, common_steps, few) in
    subst (λ (n : ℕ). number (p ++ replicate (48 - length p) false) < 2 ^ n) whole (number-lt (p ++ replicate (48 - length p) false))

prefix_lacks : (p : Path) → length p ≤ 48 → Lacks 32 (prefix_text p)
unfolding prefix_text
prefix_lacks p few = marked_lack (identity_text (left_aligned p)) (decimal (length p)) 47 refl (identity_lacks (left_aligned p) (aligned_below p few)) (decimal_lacks (length p) (omega (arith, few)))

bits_lack : (text : List ℕ) (bits : List Bool) → length bits ≤ 2048 → SpellsBits text bits → Lacks 32 text
bits_lack text bits few spelt =
    subst (Lacks 32) (sym spelt.spelt) (marked_lack (decimal (length bits)) spelt.digits 58 refl (decimal_lacks (length bits) (omega (arith, few))) (hexdigits_lack spelt.digits spelt.hexadecimal))

-- ---- words with single spaces between them

abbrev pub AllLack : List (List ℕ) → Type 0
AllLack [] = Unit {0}
AllLack (w ∷ ws) = Lacks 32 w × AllLack ws

pub words_back : (w : List ℕ) (ws : List (List ℕ)) → AllLack (w ∷ ws) → words (spaced (w ∷ ws)) ≡ w ∷ ws
words_back w [] lack = slice_split_none is_space w lack.0
words_back w (v ∷ vs) lack = slice_split_at is_space w 32 (spaced (v ∷ vs)) lack.0 refl ∙ ap (λ more. w ∷ more) (words_back v vs lack.1)

-- ---- one word

seconds_again : (n : ℕ) → n < 2 ^ 32 → seconds_in (decimal n) ≡ Some n
seconds_again n small = ap result_ok (reading_number_again 4294967295 n (omega (arith, small)) (omega arith))

not_zero_again : (n : ℕ) → 0 < n → not_zero n ≡ Some n
not_zero_again zero some = absurd (omega (arith, some))
not_zero_again (suc n) some = refl

sequence_again : (n : ℕ) → 0 < n → n < 2 ^ 32 → sequence_in (decimal n) ≡ Some n
sequence_again n some small = ap (λ o. option_and_then not_zero o) (seconds_again n small) ∙ not_zero_again n some

station_again : (n : ℕ) → n < 2 ^ 16 → station_in (decimal n) ≡ Some n
station_again n small = ap result_ok (reading_number_again 65535 n (omega (arith, small)) (omega arith))

area_again : (n : ℕ) → n < 2 ^ 14 → area_in (decimal n) ≡ Some n
area_again n small = ap result_ok (reading_number_again 16383 n (omega (arith, small)) (omega arith))

pub lifetime_small : (life : Lifetime) → lifetime_number life ≤ 3
lifetime_small NotNeeded = omega arith
lifetime_small NextItsiAttach = omega arith
lifetime_small NotAllowedAtNextItsiAttach = omega arith
lifetime_small NextLocationUpdate = omega arith

lifetime_back : (life : Lifetime) → lifetime_of (lifetime_number life) ≡ Some life
lifetime_back NotNeeded = refl
lifetime_back NextItsiAttach = refl
lifetime_back NotAllowedAtNextItsiAttach = refl
lifetime_back NextLocationUpdate = refl

lifetime_again : (life : Lifetime) → lifetime_in (decimal (lifetime_number life)) ≡ Some life
lifetime_again life = ap (λ r. option_and_then lifetime_of (result_ok r)) (reading_number_again 3 (lifetime_number life) (lifetime_small life) (omega arith)) ∙ lifetime_back life

rule_again : (rule : Rule) → rule.low ≤ rule.high → rule_of (Some rule.low) (Some rule.high) (Some rule.lifetime) (Some rule.keep) ≡ Some rule
rule_again rule order = let le : nat_le rule.low rule.high ≡ true = grind (arith, order) in rw le refl

rules_same : (rule : Rule) (low high : Option ℕ) (life : Option Lifetime) (keep : Option ℕ) → rule.low ≤ rule.high →
    low ≡ Some rule.low → high ≡ Some rule.high → life ≡ Some rule.lifetime → keep ≡ Some rule.keep → rule_of low high life keep ≡ Some rule
rules_same rule low high life keep order e f g h = rw (e, f, g, h) (rule_again rule order)

kind_again : (kind : Kind) → kind_in (kind_word kind) ≡ Some kind
kind_again Message = refl
kind_again Report = refl

kind_lacks : (kind : Kind) → Lacks 32 (kind_word kind)
kind_lacks Message = letters_lack (codes "m") refl
kind_lacks Report = letters_lack (codes "r") refl

reference_again : (n : ℕ) → n < 2 ^ 8 → reference_in (decimal n) ≡ Some n
reference_again n small = ap result_ok (reading_number_again 255 n (omega (arith, small)) (omega arith))

-- the key that the words of a key give
abbrev pub key_words_in : Key → Option Key
key_words_in key = key_in (identity_text key.destination) (identity_text key.source) (decimal key.reference) (kind_word key.kind)

key_same : (key : Key) (d s r : Option ℕ) (k : Option Kind) → d ≡ Some key.destination → s ≡ Some key.source → r ≡ Some key.reference → k ≡ Some key.kind → key_of d s r k ≡ Some key
key_same key d s r k ed es er ek = rw (ed, es, er, ek) refl

key_again : (key : Key) → KeyInRange key → key_words_in key ≡ Some key
key_again key range =
    key_same key (result_ok (reading_identity (identity_text key.destination))) (result_ok (reading_identity (identity_text key.source)))
    (reference_in (decimal key.reference)) (kind_in (kind_word key.kind))
    (ap result_ok (reading_identity_again key.destination range.0)) (ap result_ok (reading_identity_again key.source range.1)) (reference_again key.reference range.2) (kind_again key.kind)

key_lacks : (key : Key) → KeyInRange key → AllLack (key_words key)
key_lacks key range = (identity_lacks key.destination range.0, (identity_lacks key.source range.1, (decimal_lacks key.reference (omega (arith, range.2)), (kind_lacks key.kind, tt))))

made_again : {V S : Type 0} (makes : V → S) (o : Option V) (v : V) → o ≡ Some v → option_map makes o ≡ Some (makes v)
made_again makes o v e = rw e refl

head_again : (s m : ℕ) (s' m' : Option ℕ) → s' ≡ Some s → m' ≡ Some m → head_of s' m' ≡ Some (record { sequence = s; moment = m })
head_again s m s' m' es em = rw (es, em) refl

-- ---- lines

first_speaks : (ds rest : List ℕ) → list_all is_ascii_digit ds ≡ true → 0 < length ds → is_silent (ds ++ rest) ≡ false
first_speaks [] rest all some = absurd (omega (arith, some))
first_speaks (c ∷ ds) rest all some = let digit = first_true (is_ascii_digit c) (list_all is_ascii_digit ds) all in grind (arith, digit)

module _ {A : Type 0} where
  pub passes : (station : ℕ) (line : List ℕ) (said : Line A) → length line ≤ longest_line → is_silent line ≡ false → of_words station (words line) ≡ said → reading station line ≡ said
  passes station line said short speaks is = let fits : nat_lt longest_line (length line) ≡ false = grind (arith, short) in rw (fits, speaks) is

  mm_same : (i a : ℕ) (p : List Bool) (i' a' : Option ℕ) (p' : Option (List Bool)) → i' ≡ Some i → a' ≡ Some a → p' ≡ Some p → mm_body {A = A} i' a' p' ≡ Some (Mm i a p)
  mm_same i a p i' a' p' ei ea ep = rw (ei, ea, ep) refl

  sds_same : (s d : ℕ) (p : List Bool) (s' d' : Option ℕ) (p' : Option (List Bool)) → s' ≡ Some s → d' ≡ Some d → p' ≡ Some p → sds_body {A = A} s' d' p' ≡ Some (Sds s d p)
  sds_same s d p s' d' p' es ed ep = rw (es, ed, ep) refl

  group_sds_same : (s g : ℕ) (p : List Bool) (s' g' : Option ℕ) (p' : Option (List Bool)) → s' ≡ Some s → g' ≡ Some g → p' ≡ Some p → group_sds_body {A = A} s' g' p' ≡ Some (GroupSds s g p)
  group_sds_same s g p s' g' p' es eg ep = rw (es, eg, ep) refl

  rule_same : (p : Path) (r : Rule) (p' : Option Path) (r' : Option Rule) → p' ≡ Some p → r' ≡ Some r → rule_body {A = A} p' r' ≡ Some (RuleSet p r)
  rule_same p r p' r' ep er = rw (ep, er) refl

  -- after a head the words say the body, and none has a space
  abbrev pub IsTaken : Body A → List (List ℕ) → Type 0
  IsTaken b words = ((station : ℕ) (s m : List ℕ) → of_words station (s ∷ m ∷ words) ≡ line_of Apply (command_of station (head_in s m) (Some b))) × AllLack words

  -- the words say the body, as they are read
  with_head : (station : ℕ) (s m : List ℕ) (said : Option (Body A)) (b : Body A) → said ≡ Some b →
      line_of Apply (command_of station (head_in s m) said) ≡ line_of Apply (command_of station (head_in s m) (Some b))
  with_head station s m said b e = ap (λ (o : Option (Body A)). line_of Apply (command_of station (head_in s m) o)) e

  body_taken : (b : Body A) (body : List (List ℕ)) → BodyInRange b → SpellsBody b body → IsTaken b body
  body_taken (RuleSet prefix rule) body range spelt =
      let high_low : rule.low < 2 ^ 14 = omega (arith, range.1.0, range.1.1) in
      subst (λ (ws : List (List ℕ)). IsTaken (RuleSet prefix rule) ws) (sym spelt) (
        λ station s m. with_head station s m _ (RuleSet prefix rule) (rule_same prefix rule (result_ok (reading_prefix (prefix_text prefix)))
            (rule_in (decimal rule.low) (decimal rule.high) (decimal (lifetime_number rule.lifetime)) (decimal rule.keep))
            (ap result_ok (reading_prefix_again prefix range.0))
            (rules_same rule (area_in (decimal rule.low)) (area_in (decimal rule.high)) (lifetime_in (decimal (lifetime_number rule.lifetime))) (seconds_in (decimal rule.keep)) range.1.0
            (area_again rule.low high_low) (area_again rule.high range.1.1) (lifetime_again rule.lifetime) (seconds_again rule.keep range.1.2))),
        (
          letters_lack (codes "rule") refl,
          (
            prefix_lacks prefix range.0,
            (
              decimal_lacks rule.low (omega (arith, high_low)),
              (
                decimal_lacks rule.high (omega (arith, range.1.1)),
                (decimal_lacks (lifetime_number rule.lifetime) (omega (arith, lifetime_small rule.lifetime)), (decimal_lacks rule.keep (omega (arith, range.1.2)), tt)),
              ),
            ),
          ),
        ),
      )
  body_taken (RuleClear prefix) body range spelt =
      subst (λ (ws : List (List ℕ)). IsTaken (RuleClear prefix) ws) (sym spelt) (
        λ station s m. with_head station s m _ (RuleClear prefix)
            (made_again RuleClear (result_ok (reading_prefix (prefix_text prefix))) prefix (ap result_ok (reading_prefix_again prefix range))),
        (letters_lack (codes "unrule") refl, (prefix_lacks prefix range, tt)),
      )
  body_taken (Mm itsi area pdu) body range spelt =
      subst (λ (ws : List (List ℕ)). IsTaken (Mm itsi area pdu) ws) (sym spelt.2) (
        λ station s m. with_head station s m _ (Mm itsi area pdu) (mm_same itsi area pdu (result_ok (reading_identity (identity_text itsi))) (area_in (decimal area)) (result_ok (reading_bits spelt.0))
            (ap result_ok (reading_identity_again itsi range.0)) (area_again area range.1) (ap result_ok (reading_bits_again pdu spelt.0 range.2 spelt.1))),
        (letters_lack (codes "mm") refl, (identity_lacks itsi range.0, (decimal_lacks area (omega (arith, range.1)), (bits_lack spelt.0 pdu range.2 spelt.1, tt)))),
      )
  body_taken (Sds source destination pdu) body range spelt =
      subst (λ (ws : List (List ℕ)). IsTaken (Sds source destination pdu) ws) (sym spelt.2) (
        λ station s m. with_head station s m _ (Sds source destination pdu)
            (sds_same source destination pdu (result_ok (reading_identity (identity_text source)))
            (result_ok (reading_identity (identity_text destination))) (result_ok (reading_bits spelt.0))
            (ap result_ok (reading_identity_again source range.0)) (ap result_ok (reading_identity_again destination range.1)) (ap result_ok (reading_bits_again pdu spelt.0 range.2 spelt.1))),
        (letters_lack (codes "sds") refl, (identity_lacks source range.0, (identity_lacks destination range.1, (bits_lack spelt.0 pdu range.2 spelt.1, tt)))),
      )
  body_taken (GroupSds source group pdu) body range spelt =
      subst (λ (ws : List (List ℕ)). IsTaken (GroupSds source group pdu) ws) (sym spelt.2) (
        λ station s m. with_head station s m _ (GroupSds source group pdu)
            (group_sds_same source group pdu (result_ok (reading_identity (identity_text source))) (result_ok (reading_identity (identity_text group)))
            (result_ok (reading_bits spelt.0))
            (ap result_ok (reading_identity_again source range.0)) (ap result_ok (reading_identity_again group range.1)) (ap result_ok (reading_bits_again pdu spelt.0 range.2 spelt.1))),
        (letters_lack (codes "gsds") refl, (identity_lacks source range.0, (identity_lacks group range.1, (bits_lack spelt.0 pdu range.2 spelt.1, tt)))),
      )
  body_taken (Sent key) body range spelt =
      subst (λ (ws : List (List ℕ)). IsTaken (Sent key) ws) (sym spelt)
      (λ station s m. with_head station s m _ (Sent key) (made_again Sent (key_words_in key) key (key_again key range)), (letters_lack (codes "sent") refl, key_lacks key range))
  body_taken Expire body range spelt =
      subst (λ (ws : List (List ℕ)). IsTaken Expire ws) (sym spelt) (λ station s m. refl, (letters_lack (codes "expire") refl, tt))
  body_taken (Delete key) body range spelt =
      subst (λ (ws : List (List ℕ)). IsTaken (Delete key) ws) (sym spelt)
      (λ station s m. with_head station s m _ (Delete key) (made_again Delete (key_words_in key) key (key_again key range)), (letters_lack (codes "delete") refl, key_lacks key range))

  command_again : (station s m : ℕ) (b : Body A) (head : Option Head) → head ≡ Some (record { sequence = s; moment = m }) →
      line_of Apply (command_of station head (Some b)) ≡ Apply (record { station = station; sequence = s; moment = m; body = b })
  command_again station s m b head is_head = rw is_head refl

  pub all_commands : AllCommands A
  all_commands line c range spelt short =
      let s = c.sequence in let m = c.moment in let body = spelt.0 in
      let small_s : s < 2 ^ 64 = omega (arith, range.sequence) in
      let small_m : m < 2 ^ 64 = omega (arith, range.moment) in
      let taken = body_taken c.body body range.body spelt.1 in
      let split : words line ≡ decimal s ∷ decimal m ∷ body = ap words spelt.2 ∙ words_back (decimal s) (decimal m ∷ body) (decimal_lacks s small_s, (decimal_lacks m small_m, taken.1)) in
      let speaks : is_silent line ≡ false = ap is_silent spelt.2 ∙ first_speaks (decimal s) (32 ∷ spaced (decimal m ∷ body)) (decimal_digits s small_s) (decimal_nonempty s small_s) in
      passes c.station line (Apply c) short speaks (
      ap (λ ws. of_words c.station ws) split ∙ taken.0 c.station (decimal s) (decimal m)
      ∙ command_again c.station s m c.body (head_in (decimal s) (decimal m))
      (head_again s m (sequence_in (decimal s)) (seconds_in (decimal m)) (sequence_again s range.above range.sequence) (seconds_again m range.moment))
      )

  -- a query about an identity is taken for itself, where its keyword and an identity are
  about_again : (about : ℕ → Query) (station : ℕ) (keyword : List ℕ) (n : ℕ) → n < 2 ^ 48 → list_all (λ b. not (b == 32)) keyword ≡ true →
      ((word : List ℕ) → of_words {A = A} station (keyword ∷ word ∷ []) ≡ line_of Ask (option_map about (result_ok (reading_identity word)))) →
      is_silent (spaced (keyword ∷ identity_text n ∷ [])) ≡ false → length (spaced (keyword ∷ identity_text n ∷ [])) ≤ longest_line →
      reading {A = A} station (spaced (keyword ∷ identity_text n ∷ [])) ≡ Ask (about n)
  about_again about station keyword n small letters named speaks short =
      passes station (spaced (keyword ∷ identity_text n ∷ [])) (Ask (about n)) short speaks (
      ap (λ ws. of_words station ws) (words_back keyword (identity_text n ∷ []) (letters_lack keyword letters, (identity_lacks n small, tt)))
      ∙ named (identity_text n)
      ∙ ap (λ o. line_of Ask o) (made_again about (result_ok (reading_identity (identity_text n))) n (ap result_ok (reading_identity_again n small)))
      )

  pub all_queries : AllQueries A
  all_queries station (Whereabouts itsi) small short = about_again Whereabouts station (codes "where") itsi small refl (λ word. refl) refl short
  all_queries station (Look itsi) small short = about_again Look station (codes "look") itsi small refl (λ word. refl) refl short
  all_queries station (GroupsOf itsi) small short = about_again GroupsOf station (codes "groups") itsi small refl (λ word. refl) refl short
  all_queries station (MembersOf gtsi) small short = about_again MembersOf station (codes "members") gtsi small refl (λ word. refl) refl short
  all_queries station (Waiting itsi) small short = about_again Waiting station (codes "mail") itsi small refl (λ word. refl) refl short
  all_queries station Total small short =
      passes station (codes "count") (Ask Total) short refl (ap (λ ws. of_words station ws) (words_back (codes "count") [] (letters_lack (codes "count") refl, tt)))

  -- a listing that is named by a word alone
  alone_again : (station : ℕ) (keyword : List ℕ) (l : Listing) → list_all (λ b. not (b == 32)) keyword ≡ true → of_words {A = A} station (keyword ∷ []) ≡ Print l →
      is_silent keyword ≡ false → length keyword ≤ 6 → reading {A = A} station keyword ≡ Print l
  alone_again station keyword l letters said speaks short =
      passes station keyword (Print l) (omega (arith, short)) speaks (ap (λ ws. of_words station ws) (words_back keyword [] (letters_lack keyword letters, tt)) ∙ said)

  -- a listing of a part
  part_again : (station : ℕ) (keyword word : List ℕ) (l : Listing) → list_all (λ b. not (b == 32)) keyword ≡ true → Lacks 32 word → of_words {A = A} station (keyword ∷ word ∷ []) ≡ Print l →
      is_silent (spaced (keyword ∷ word ∷ [])) ≡ false → length keyword ≤ 7 → length word ≤ 83 → reading {A = A} station (spaced (keyword ∷ word ∷ [])) ≡ Print l
  part_again station keyword word l letters lacks said speaks few short =
      let whole : length (keyword ++ 32 ∷ word) ≡ length keyword + length (32 ∷ word) = length-append keyword (32 ∷ word) in
      passes station (spaced (keyword ∷ word ∷ [])) (Print l) (omega (arith, whole, few, short)) speaks
      (ap (λ ws. of_words station ws) (words_back keyword (word ∷ []) (letters_lack keyword letters, (lacks, tt))) ∙ said)

  pub all_listings : AllListings A
  all_listings station (Entries Rules) range = alone_again station (codes "rules") (Entries Rules) refl refl refl (omega arith)
  all_listings station (Entries (Radios None)) range = alone_again station (codes "radios") (Entries (Radios None)) refl refl refl (omega arith)
  all_listings station (Entries (Radios (Some prefix))) range =
      part_again station (codes "radios") (prefix_text prefix) (radios_under prefix) refl (prefix_lacks prefix range)
      (ap (λ (o : Option Listing). let line : Line A = line_of Print o in line)
      (made_again radios_under (prefix_in (prefix_text prefix)) prefix (ap result_ok (reading_prefix_again prefix range)))) refl (omega arith)
      (prefix_fits prefix range)
  all_listings station (Entries Items) range = alone_again station (codes "items") (Entries Items) refl refl refl (omega arith)
  all_listings station (Entries (Due moment)) range =
      part_again station (codes "due") (decimal moment) (due_at moment) refl (decimal_lacks moment (omega (arith, range)))
      (ap (λ (o : Option Listing). let line : Line A = line_of Print o in line) (made_again due_at (seconds_in (decimal moment)) moment (seconds_again moment range))) refl (omega arith)
      (let fits = decimal_fits moment (omega (arith, range)) in omega (arith, fits))
  all_listings station (Entries (WaitingAt n)) range =
      part_again station (codes "waiting") (decimal n) (waiting_at n) refl (decimal_lacks n (omega (arith, range)))
      (ap (λ (o : Option Listing). let line : Line A = line_of Print o in line) (made_again waiting_at (station_in (decimal n)) n (station_again n range))) refl (omega arith)
      (let fits = decimal_fits n (omega (arith, range)) in omega (arith, fits))
  all_listings station (Last n) range =
      part_again station (codes "last") (decimal n) (Last n) refl (decimal_lacks n (omega (arith, range)))
      (ap (λ (o : Option Listing). let line : Line A = line_of Print o in line) (made_again Last (station_in (decimal n)) n (station_again n range))) refl (omega arith)
      (let fits = decimal_fits n (omega (arith, range)) in omega (arith, fits))
  all_listings station Room range = alone_again station (codes "room") Room refl refl refl (omega arith)
  all_listings station Dump range = alone_again station (codes "dump") Dump refl refl refl (omega arith)
