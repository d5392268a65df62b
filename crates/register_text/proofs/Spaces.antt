-- No word has a space, so that a line comes apart into its words. No line has a line feed.
use Rattle.std.proofs.Common.{◌≡◌, ℕ, ◌<◌, ◌≤◌, ◌^◌, Bool, true, false, List, [], ◌∷◌, ◌++◌, length, refl, sym, ◌∙◌, ap, subst, arith, Option, Some, None}
use Rattle.std.specs.Prelude.{◌==◌, nat_lt, IfSome, codes, decimal}
use Rattle.std.specs.Char.{is_ascii_digit, is_ascii_hexdigit}
use Rattle.std.specs.List.{All, flat_map, list_all}
use Rattle.std.proofs.lemmas.List.{append-nil}
use Rattle.std.proofs.lemmas.List.Elements.{All-nil, All-cons, All-append, All-head, All-tail}
use Rattle.std.proofs.lemmas.List.Splits.{slice_split_at, slice_split_none}
use Rattle.base.proofs.Bools.{first_true, second_true}
use Rattle.identity.specs.Path.{Path, left_aligned}
use Rattle.identity.specs.Identity.{mcc_of, mnc_of, ssi_of}
use Rattle.identity.specs.IdentityText.{identity_text, prefix_text}
use Rattle.identity.specs.BitsText.{bits_text}
use Rattle.identity.proofs.Texts.{decimal_all}
use Rattle.identity.proofs.IdentityTexts.{aligned_below}
use Rattle.identity.proofs.BitsTexts.{bits_printed}
use Rattle.mm_pdus.specs.declared.lifetime.Lifetime.{Lifetime}
use Rattle.mm_pdus.specs.declared.lifetime.Lifetime.TheVariants.{NotNeeded, NextItsiAttach, NotAllowedAtNextItsiAttach, NextLocationUpdate}
use Rattle.mm_pdus.specs.Values.{lifetime_number}
use Rattle.mailbox.specs.declared.key.Kind.{Kind}
use Rattle.mailbox.specs.declared.key.Kind.TheVariants.{Message, Report}
use Rattle.centre_core.specs.StateRanges.{IsReply}
use Rattle.listings.specs.Words.{pdu_text}
use Rattle.console.specs.Reading.{Lacks, words}
use Rattle.listings.specs.Words.{kind_word}
use Rattle.console.proofs.Splits.{is_space}
use Rattle.image_rows.specs.Rows.{Row, HeaderRow, RuleRow, RadioRow, MailRow, ServedRow, Group, GroupInRange}
use Rattle.image_rows.specs.RowReading.{IsRow}
use Rattle.register_text.specs.Lines.{keyword, fields, presence_word, group_words, copied_words, spaced, row_line}

-- ---- words

-- each byte is greater than a space, and so also than a line feed
abbrev pub Plain : List ℕ → Type 0
Plain text = All (λ b. nat_lt 32 b ≡ true) text

-- what only has bytes that pass a test, which no space passes
plain_by : (p : ℕ → Bool) → ((c : ℕ) → p c ≡ true → nat_lt 32 c ≡ true) → (text : List ℕ) → list_all p text ≡ true → Plain text
plain_by p other [] e = All-nil (λ b. nat_lt 32 b ≡ true)
plain_by p other (c ∷ text) e = All-cons (λ b. nat_lt 32 b ≡ true) c text (other c (first_true (p c) (list_all p text) e)) (plain_by p other text (second_true (p c) (list_all p text) e))

digit_is_plain : (c : ℕ) → is_ascii_digit c ≡ true → nat_lt 32 c ≡ true
digit_is_plain c e = grind (arith, e)

hexdigit_is_plain : (c : ℕ) → is_ascii_hexdigit c ≡ true → nat_lt 32 c ≡ true
hexdigit_is_plain c e = grind (arith, e)

pub letters : (text : List ℕ) → list_all (nat_lt 32) text ≡ true → Plain text
letters text e = plain_by (nat_lt 32) (λ c is. is) text e

no_space : (c : ℕ) → nat_lt 32 c ≡ true → (c == 32) ≡ false
no_space c e = grind (arith, e)

no_feed : (c : ℕ) → nat_lt 32 c ≡ true → (c == 10) ≡ false
no_feed c e = grind (arith, e)

lacks_space : (text : List ℕ) → Plain text → Lacks 32 text
lacks_space [] plain = All-nil (λ b. (b == 32) ≡ false)
lacks_space (c ∷ text) plain = All-cons (λ b. (b == 32) ≡ false) c text (no_space c (All-head (λ b. nat_lt 32 b ≡ true) c text plain))
    (lacks_space text (All-tail (λ b. nat_lt 32 b ≡ true) c text plain))

lacks_feed : (text : List ℕ) → Plain text → Lacks 10 text
lacks_feed [] plain = All-nil (λ b. (b == 10) ≡ false)
lacks_feed (c ∷ text) plain = All-cons (λ b. (b == 10) ≡ false) c text (no_feed c (All-head (λ b. nat_lt 32 b ≡ true) c text plain)) (lacks_feed text (All-tail (λ b. nat_lt 32 b ≡ true) c text plain))

pub decimal_plain : (n : ℕ) → n < 2 ^ 64 → Plain (decimal n)
decimal_plain n small = plain_by is_ascii_digit digit_is_plain (decimal n) (decimal_all n small)

-- two words around a mark
marked_plain : (a b : List ℕ) (mark : ℕ) → nat_lt 32 mark ≡ true → Plain a → Plain b → Plain (a ++ mark ∷ b)
marked_plain a b mark other la lb = All-append (λ b. nat_lt 32 b ≡ true) a (mark ∷ b) la (All-cons (λ b. nat_lt 32 b ≡ true) mark b other lb)

identity_plain : (n : ℕ) → n < 2 ^ 48 → Plain (identity_text n)
unfolding identity_text
identity_plain n small = marked_plain (decimal (mcc_of n) ++ 45 ∷ decimal (mnc_of n)) (decimal (ssi_of n)) 45 refl
    (marked_plain (decimal (mcc_of n)) (decimal (mnc_of n)) 45 refl (decimal_plain (mcc_of n) (omega (arith, small))) (decimal_plain (mnc_of n) (omega (arith, small))))
    (decimal_plain (ssi_of n) (omega (arith, small)))

prefix_plain : (p : Path) → length p ≤ 48 → Plain (prefix_text p)
unfolding prefix_text
prefix_plain p few = marked_plain (identity_text (left_aligned p)) (decimal (length p)) 47 refl (identity_plain (left_aligned p) (aligned_below p few)) (decimal_plain (length p) (omega (arith, few)))

bits_plain : (bits : List Bool) → length bits ≤ 2048 → Plain (bits_text bits)
bits_plain bits few =
    let spelt = bits_printed bits (omega (arith, few)) in
    subst Plain (sym spelt.spelt)
    (marked_plain (decimal (length bits)) spelt.digits 58 refl (decimal_plain (length bits) (omega (arith, few)))
    (plain_by is_ascii_hexdigit hexdigit_is_plain spelt.digits spelt.hexadecimal))

pub lifetime_small : (life : Lifetime) → lifetime_number life ≤ 3
lifetime_small NotNeeded = omega arith
lifetime_small NextItsiAttach = omega arith
lifetime_small NotAllowedAtNextItsiAttach = omega arith
lifetime_small NextLocationUpdate = omega arith

lifetime_plain : (life : Lifetime) → Plain (decimal (lifetime_number life))
lifetime_plain life = decimal_plain (lifetime_number life) (omega (arith, lifetime_small life))

kind_plain : (kind : Kind) → Plain (kind_word kind)
kind_plain Message = letters (codes "m") refl
kind_plain Report = letters (codes "r") refl

presence_plain : (present : Bool) → Plain (presence_word present)
presence_plain true = letters (codes "present") refl
presence_plain false = letters (codes "absent") refl

reply_plain : (pdu : Option (List Bool)) → IsReply pdu → Plain (pdu_text pdu)
reply_plain None fits = letters (codes "-") refl
reply_plain (Some bits) fits = bits_plain bits fits.1

-- ---- words of a row

abbrev pub AllPlain : List (List ℕ) → Type 0
AllPlain [] = Unit {0}
AllPlain (w ∷ ws) = Plain w × AllPlain ws

copied_plain : (group : Option ℕ) → IfSome group (λ gtsi. gtsi < 2 ^ 48) → AllPlain (copied_words group)
copied_plain None fits = tt
copied_plain (Some gtsi) fits = (identity_plain gtsi fits, tt)

groups_plain : (groups : List Group) → All GroupInRange groups → AllPlain (flat_map group_words groups)
groups_plain [] fit = tt
groups_plain (g ∷ groups) fit =
    let here : GroupInRange g = All-head GroupInRange g groups fit in
    (identity_plain g.0 here.0, (decimal_plain g.1.0 (omega (arith, here.1)), (lifetime_plain g.1.1, groups_plain groups (All-tail GroupInRange g groups fit))))

pub fields_plain : (row : Row) → IsRow row → AllPlain (keyword row ∷ fields row)
fields_plain (HeaderRow h) is =
    let r = is.range in (
      letters (codes "count") refl,
      (
        decimal_plain h.count r.count,
        (
          letters (codes "rules") refl,
          (
            decimal_plain h.rules (let s = r.rules in omega (arith, s)),
            (
              letters (codes "radios") refl,
              (
                decimal_plain h.radios (let s = r.radios in omega (arith, s)),
                (
                  letters (codes "items") refl,
                  (
                    decimal_plain h.mail (let s = r.mail in omega (arith, s)),
                    (letters (codes "stations") refl, (decimal_plain h.served (let s = r.served in omega (arith, s)), tt)),
                  ),
                ),
              ),
            ),
          ),
        ),
      ),
    )
fields_plain (RuleRow prefix rule) is =
    let r = is.range in let low = r.1.0 in let high = r.1.1 in let keep = r.1.2 in (
      letters (codes "rule") refl,
      (
        prefix_plain prefix r.0,
        (
          decimal_plain rule.low (omega (arith, low, high)),
          (decimal_plain rule.high (omega (arith, high)), (lifetime_plain rule.lifetime, (decimal_plain rule.keep (omega (arith, keep)), tt))),
        ),
      ),
    )
fields_plain (RadioRow itsi radio groups) is =
    let r = is.range in let station = r.station in let area = r.area in (
      letters (codes "radio") refl,
      (
        identity_plain itsi r.number,
        (
          letters (codes "station") refl,
          (
            decimal_plain radio.station (omega (arith, station)),
            (
              letters (codes "la") refl,
              (decimal_plain radio.area (omega (arith, area)), (presence_plain radio.present, groups_plain groups r.each_group)),
            ),
          ),
        ),
      ),
    )
fields_plain (MailRow w) is =
    let r = is.range in let item = r.item in let key = item.key in let deadline = item.deadline in let reference = key.2 in let few = item.pdu in (
      letters (codes "item") refl,
      (
        decimal_plain w.number r.number,
        (
          identity_plain w.key.destination key.0,
          (
            kind_plain w.key.kind,
            (
              identity_plain w.key.source key.1,
              (
                decimal_plain w.key.reference (omega (arith, reference)),
                (decimal_plain w.deadline (omega (arith, deadline)), (bits_plain w.pdu (omega (arith, few)), copied_plain w.group item.group)),
              ),
            ),
          ),
        ),
      ),
    )
fields_plain (ServedRow station last) is =
    let r = is.range in let place = r.place in let sequence = r.kept.sequence in (
      letters (codes "last") refl,
      (
        decimal_plain station (omega (arith, place)),
        (decimal_plain last.sequence (omega (arith, sequence)), (decimal_plain last.number r.number, (reply_plain last.pdu r.kept.pdu, tt))),
      ),
    )

pub words_back : (w : List ℕ) (ws : List (List ℕ)) → AllPlain (w ∷ ws) → words (w ++ spaced ws) ≡ w ∷ ws
words_back w [] lack = ap words (append-nil w) ∙ slice_split_none is_space w (lacks_space w lack.0)
words_back w (v ∷ vs) lack = slice_split_at is_space w 32 (v ++ spaced vs) (lacks_space w lack.0) refl ∙ ap (λ (more : List (List ℕ)). w ∷ more) (words_back v vs lack.1)

-- the words of a row's line
pub words_of : (row : Row) → IsRow row → words (row_line row) ≡ keyword row ∷ fields row
words_of row is = words_back (keyword row) (fields row) (fields_plain row is)

-- no word has a line feed, and so no line has
pub no_feeds : (w : List ℕ) (ws : List (List ℕ)) → AllPlain (w ∷ ws) → Lacks 10 (w ++ spaced ws)
no_feeds w [] lack = All-append (λ b. (b == 10) ≡ false) w [] (lacks_feed w lack.0) (All-nil (λ b. (b == 10) ≡ false))
no_feeds w (v ∷ vs) lack =
    All-append (λ b. (b == 10) ≡ false) w (32 ∷ v ++ spaced vs) (lacks_feed w lack.0) (All-cons (λ b. (b == 10) ≡ false) 32 (v ++ spaced vs) refl (no_feeds v vs lack.1))

pub line_has_no_feed : (row : Row) → IsRow row → Lacks 10 (row_line row)
line_has_no_feed row is = no_feeds (keyword row) (fields row) (fields_plain row is)
