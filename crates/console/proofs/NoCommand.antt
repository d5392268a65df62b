-- No command has the letter k, which is byte 107.
use Rattle.std.proofs.Common.{◌≡◌, ℕ, suc, ◌<◌, ◌≤◌, ◌^◌, Bool, true, false, List, [], ◌∷◌, ◌++◌, length, refl, sym, subst, arith, not}
use Rattle.std.specs.Prelude.{◌==◌, codes, decimal}
use Rattle.std.specs.Char.{is_ascii_digit, is_ascii_hexdigit}
use Rattle.std.specs.List.{list_all}
use Rattle.std.proofs.lemmas.Bool.{true≢false}
use Rattle.std.proofs.lemmas.List.Elements.{All-nil, All-cons, All-append}
use Rattle.identity.specs.Identity.{mcc_of, mnc_of, ssi_of}
use Rattle.identity.specs.IdentityText.{identity_text, prefix_text}
use Rattle.identity.specs.BitsText.{SpellsBits}
use Rattle.identity.specs.Path.{Path, left_aligned}
use Rattle.mm_pdus.specs.Values.{lifetime_number}
use Rattle.mailbox.specs.Values.{KeyInRange}
use Rattle.mailbox.specs.declared.key.Key.{Key}
use Rattle.mailbox.specs.declared.key.Kind.{Kind}
use Rattle.mailbox.specs.declared.key.Kind.TheVariants.{Message, Report}
use Rattle.centre_core.specs.declared.command.Body.{Body}
use Rattle.centre_core.specs.declared.command.Body.TheVariants.{RuleSet, RuleClear, Mm, Sds, GroupSds, Sent, Expire, Delete}
use Rattle.centre_core.specs.Ranges.{BodyInRange}
use Rattle.listings.specs.Words.{kind_word}
use Rattle.console.specs.Reading.{Lacks}
use Rattle.console.specs.Spelling.{spaced, key_words, SpellsBody, MarkCompletesNoCommand}
use Rattle.console.proofs.Spelled.{only_commands}
use Rattle.console.proofs.Taken.{all_lack, aligned_below, decimal_digits, lifetime_small}

digit_no_k : (c : ℕ) → is_ascii_digit c ≡ true → (c == 107) ≡ false
digit_no_k c e = grind (arith, e)

hexdigit_no_k : (c : ℕ) → is_ascii_hexdigit c ≡ true → (c == 107) ≡ false
hexdigit_no_k c e = grind (arith, e)

letter_no_k : (c : ℕ) → not (c == 107) ≡ true → (c == 107) ≡ false
letter_no_k c e = grind (arith, e)

word_k : (text : List ℕ) → list_all (λ b. not (b == 107)) text ≡ true → Lacks 107 text
word_k text e = all_lack (λ b. not (b == 107)) 107 letter_no_k text e

decimal_k : (n : ℕ) → n < 2 ^ 64 → Lacks 107 (decimal n)
decimal_k n small = all_lack is_ascii_digit 107 digit_no_k (decimal n) (decimal_digits n small)

both_k : (a b : List ℕ) (mark : ℕ) → (mark == 107) ≡ false → Lacks 107 a → Lacks 107 b → Lacks 107 (a ++ mark ∷ b)
both_k a b mark other la lb = All-append (λ b. (b == 107) ≡ false) a (mark ∷ b) la (All-cons (λ b. (b == 107) ≡ false) mark b other lb)

identity_k : (n : ℕ) → n < 2 ^ 48 → Lacks 107 (identity_text n)
unfolding identity_text
identity_k n small = both_k (decimal (mcc_of n) ++ 45 ∷ decimal (mnc_of n)) (decimal (ssi_of n)) 45 refl
    (both_k (decimal (mcc_of n)) (decimal (mnc_of n)) 45 refl (decimal_k (mcc_of n) (omega (arith, small))) (decimal_k (mnc_of n) (omega (arith, small))))
    (decimal_k (ssi_of n) (omega (arith, small)))

prefix_k : (p : Path) → length p ≤ 48 → Lacks 107 (prefix_text p)
unfolding prefix_text
prefix_k p few = both_k (identity_text (left_aligned p)) (decimal (length p)) 47 refl (identity_k (left_aligned p) (aligned_below p few)) (decimal_k (length p) (omega (arith, few)))

bits_k : (text : List ℕ) (bits : List Bool) → length bits ≤ 2048 → SpellsBits text bits → Lacks 107 text
bits_k text bits few spelt = subst (Lacks 107) (sym spelt.spelt)
    (both_k (decimal (length bits)) spelt.digits 58 refl (decimal_k (length bits) (omega (arith, few))) (all_lack is_ascii_hexdigit 107 hexdigit_no_k spelt.digits spelt.hexadecimal))

kind_k : (kind : Kind) → Lacks 107 (kind_word kind)
kind_k Message = word_k (codes "m") refl
kind_k Report = word_k (codes "r") refl

abbrev AllLackK : List (List ℕ) → Type 0
AllLackK [] = Unit {0}
AllLackK (w ∷ ws) = Lacks 107 w × AllLackK ws

spaced_k : (ws : List (List ℕ)) → AllLackK ws → Lacks 107 (spaced ws)
spaced_k [] lack = All-nil (λ b. (b == 107) ≡ false)
spaced_k (w ∷ []) lack = lack.0
spaced_k (w ∷ v ∷ ws) lack = both_k w (spaced (v ∷ ws)) 32 refl lack.0 (spaced_k (v ∷ ws) lack.1)

key_k : (key : Key) → KeyInRange key → AllLackK (key_words key)
key_k key range = (identity_k key.destination range.0, (identity_k key.source range.1, (decimal_k key.reference (omega (arith, range.2)), (kind_k key.kind, tt))))

body_k : {A : Type 0} (b : Body A) (body : List (List ℕ)) → BodyInRange b → SpellsBody b body → AllLackK body
body_k (RuleSet prefix rule) body range spelt = let low : rule.low < 2 ^ 64 = omega (arith, range.1.0, range.1.1) in subst AllLackK (sym spelt) (
  word_k (codes "rule") refl,
  (
    prefix_k prefix range.0,
    (
      decimal_k rule.low low,
      (decimal_k rule.high (omega (arith, range.1.1)), (decimal_k (lifetime_number rule.lifetime) (omega (arith, lifetime_small rule.lifetime)), (decimal_k rule.keep (omega (arith, range.1.2)), tt))),
    ),
  ),
)
body_k (RuleClear prefix) body range spelt = subst AllLackK (sym spelt) (word_k (codes "unrule") refl, (prefix_k prefix range, tt))
body_k (Mm itsi area pdu) body range spelt = subst AllLackK (sym spelt.2)
    (word_k (codes "mm") refl, (identity_k itsi range.0, (decimal_k area (omega (arith, range.1)), (bits_k spelt.0 pdu range.2 spelt.1, tt))))
body_k (Sds source destination pdu) body range spelt = subst AllLackK (sym spelt.2)
    (word_k (codes "sds") refl, (identity_k source range.0, (identity_k destination range.1, (bits_k spelt.0 pdu range.2 spelt.1, tt))))
body_k (GroupSds source group pdu) body range spelt = subst AllLackK (sym spelt.2)
    (word_k (codes "gsds") refl, (identity_k source range.0, (identity_k group range.1, (bits_k spelt.0 pdu range.2 spelt.1, tt))))
body_k (Sent key) body range spelt = subst AllLackK (sym spelt) (word_k (codes "sent") refl, key_k key range)
body_k Expire body range spelt = subst AllLackK (sym spelt) (word_k (codes "expire") refl, tt)
body_k (Delete key) body range spelt = subst AllLackK (sym spelt) (word_k (codes "delete") refl, key_k key range)

has_k : (before word : List ℕ) → Lacks 107 (before ++ codes "mark " ++ word) → ⊥
has_k [] word lacks = true≢false (lacks 3 0 (omega arith))
has_k (b ∷ before) word lacks = has_k before word (λ k d low. lacks (suc k) d (omega (arith, low)))

pub no_command : {A : Type 0} → MarkCompletesNoCommand A
no_command {A = A} station before word c e =
    let only = only_commands A station (before ++ codes "mark " ++ word) c e in
    let words : AllLackK (decimal c.sequence ∷ decimal c.moment ∷ only.spelt.0) = (
      decimal_k c.sequence (omega (arith, only.in_range.sequence)),
      (decimal_k c.moment (omega (arith, only.in_range.moment)), body_k c.body only.spelt.0 only.in_range.body only.spelt.1),
    ) in
    has_k before word (subst (Lacks 107) (sym only.spelt.2) (spaced_k (decimal c.sequence ∷ decimal c.moment ∷ only.spelt.0) words))
