-- What a line is read as it spells.
use Rattle.std.proofs.Common.{◌≡◌, ℕ, zero, suc, ◌<◌, ◌≤◌, ◌^◌, Bool, true, false, List, [], ◌∷◌, length, refl, sym, ◌∙◌, ap, subst, arith, Option, Some, None, Result, Ok, Err, nat_lt, nat_le}
use Rattle.std.specs.Prelude.{if◌then◌else◌, codes, decimal}
use Rattle.std.specs.Option.{option_and_then, option_map}
use Rattle.std.specs.Result.{result_ok}
use Rattle.std.specs.Str.{bytes_eq}
use Rattle.std.proofs.lemmas.List.Splits.{join_with_byte-slice_split}
use Rattle.std.proofs.lemmas.Slice.Eq.{bytes_eq-Decides}
use Rattle.base.proofs.Numbers.{le_by_test}
use Rattle.base.proofs.Options.{some_is}
use Rattle.identity.specs.Path.{Path}
use Rattle.identity.specs.IdentityText.{identity_text, prefix_text, reading_identity, reading_prefix}
use Rattle.identity.specs.BitsText.{reading_bits}
use Rattle.identity.specs.NumberText.{reading_number}
use Rattle.identity.proofs.Texts.{reading_number_only, none_some, chosen_some}
use Rattle.identity.proofs.IdentityTexts.{reading_identity_only, reading_prefix_only}
use Rattle.identity.proofs.BitsTexts.{reading_bits_only}
use Rattle.mm_pdus.specs.declared.lifetime.Lifetime.{Lifetime}
use Rattle.mm_pdus.specs.declared.lifetime.Lifetime.TheVariants.{NotNeeded, NextItsiAttach, NotAllowedAtNextItsiAttach, NextLocationUpdate}
use Rattle.mm_pdus.specs.Values.{lifetime_of, lifetime_number}
use Rattle.registration.specs.Rule.{Rule}
use Rattle.mailbox.specs.declared.key.Key.{Key}
use Rattle.mailbox.specs.declared.key.Kind.{Kind}
use Rattle.mailbox.specs.declared.key.Kind.TheVariants.{Message, Report}
use Rattle.centre_core.specs.declared.command.Command.{Command}
use Rattle.centre_core.specs.declared.command.Body.{Body}
use Rattle.centre_core.specs.declared.command.Body.TheVariants.{RuleSet, RuleClear, Mm, Sds, GroupSds, Sent, Expire, Delete}
use Rattle.centre_core.specs.declared.query.Query.{Query}
use Rattle.centre_core.specs.declared.query.Query.TheVariants.{Whereabouts, Look, GroupsOf, MembersOf, Waiting}
use Rattle.listings.specs.declared.listing.Listing.{Listing}
use Rattle.listings.specs.declared.listing.Listing.TheVariants.{Last}
use Rattle.console.specs.declared.body.Head.{Head}
use Rattle.console.specs.declared.form.Form.{Form}
use Rattle.console.specs.declared.form.Form.TheVariants as form
use Rattle.console.specs.declared.form.BodyForm.TheVariants as body_form
use Rattle.console.specs.declared.form.QueryForm.TheVariants as query_form
use Rattle.console.specs.declared.form.ListingForm.TheVariants as listing_form
use Rattle.console.specs.declared.line.LineFault.TheVariants.{TooLong}
use Rattle.console.specs.declared.line.Line.{Line}
use Rattle.console.specs.declared.line.Line.TheVariants.{Silent, Bad, Apply, Ask, Print, Mark, OwnStation, Service, Forbidden}
use Rattle.console.specs.Reading.{words, of_words, is_silent, longest_line, reading, seconds_in, not_zero, sequence_in, head_of, head_in, area_in}
use Rattle.console.specs.Reading.{lifetime_in, rule_of, rule_in, reference_in, kind_in, key_of, key_in, rule_body, mm_body, sds_body, group_sds_body}
use Rattle.console.specs.Reading.{body_in, command_of, line_of, by_form, prefix_in, station_in, radios_under, due_at, waiting_at}
use Rattle.console.specs.Mark.{is_mark}
use Rattle.mailbox.specs.Values.{KeyInRange}
use Rattle.centre_core.specs.Ranges.{BodyInRange, InRange}
use Rattle.listings.specs.Words.{kind_word}
use Rattle.console.specs.Spelling.{spaced, key_words, SpellsBody, query_text, Askable, listing_line, Listable, OnlyCommands, OnlyQueries}
use Rattle.console.specs.Spelling.{OnlyListings, OnlyMarks, OnlyOwnStation, OnlyService, NothingForbidden}
use Rattle.console.proofs.Forms.{chain, many_words}

-- ---- one word

pub ok_of : {T E : Type 0} (r : Result T E) (v : T) → result_ok r ≡ Some v → r ≡ Ok v
ok_of (Ok x) v e = ap Ok (some_is x v e)
ok_of (Err f) v e = absurd (none_some v e)

pub number_only : (most n : ℕ) (word : List ℕ) → most < 2 ^ 64 → result_ok (reading_number most word) ≡ Some n → (n ≤ most) × (word ≡ decimal n)
number_only most n word small e = reading_number_only most n word small (ok_of (reading_number most word) n e)

not_zero_only : (o : Option ℕ) (n : ℕ) → option_and_then not_zero o ≡ Some n → (o ≡ Some n) × (0 < n)
not_zero_only None n e = absurd (none_some n e)
not_zero_only (Some zero) n e = absurd (none_some n e)
not_zero_only (Some (suc k)) n e = (e, omega (arith, some_is (suc k) n e))

lifetime_number_only : (n : ℕ) (life : Lifetime) → lifetime_of n ≡ Some life → n ≡ lifetime_number life
lifetime_number_only zero life e = ap lifetime_number (some_is NotNeeded life e)
lifetime_number_only (suc zero) life e = ap lifetime_number (some_is NextItsiAttach life e)
lifetime_number_only (suc (suc zero)) life e = ap lifetime_number (some_is NotAllowedAtNextItsiAttach life e)
lifetime_number_only (suc (suc (suc zero))) life e = ap lifetime_number (some_is NextLocationUpdate life e)
lifetime_number_only (suc (suc (suc (suc n)))) life e = absurd (none_some life e)

lifetime_found : (o : Option ℕ) (life : Lifetime) → option_and_then lifetime_of o ≡ Some life → o ≡ Some (lifetime_number life)
lifetime_found None life e = absurd (none_some life e)
lifetime_found (Some n) life e = ap Some (lifetime_number_only n life e)

pub named : (name keyword : List ℕ) → bytes_eq name keyword ≡ true → name ≡ keyword
named name keyword e = (bytes_eq-Decides name keyword).0 e

-- ---- forms

short_of_flag : (n : ℕ) → nat_lt longest_line n ≡ false → n ≤ longest_line
short_of_flag n e = grind (arith, e)

rule_of_only : (low high : Option ℕ) (life : Option Lifetime) (keep : Option ℕ) (rule : Rule) → rule_of low high life keep ≡ Some rule →
    (low ≡ Some rule.low) × (high ≡ Some rule.high) × (life ≡ Some rule.lifetime) × (keep ≡ Some rule.keep) × (rule.low ≤ rule.high)
rule_of_only (Some low) (Some high) (Some life) (Some keep) rule e =
    let chosen = chosen_some (nat_le low high) (Some (let r : Rule = record { low = low; high = high; lifetime = life; keep = keep } in r)) rule e in
    let same = some_is _ rule chosen.1 in (
      ap (λ (r : Rule). Some r.low) same,
      ap (λ (r : Rule). Some r.high) same,
      ap (λ (r : Rule). Some r.lifetime) same,
      ap (λ (r : Rule). Some r.keep) same,
      subst (λ (r : Rule). r.low ≤ r.high) same (le_by_test low high chosen.0),
    )
rule_of_only None high life keep rule e = absurd (none_some rule e)
rule_of_only (Some low) None life keep rule e = absurd (none_some rule e)
rule_of_only (Some low) (Some high) None keep rule e = absurd (none_some rule e)
rule_of_only (Some low) (Some high) (Some life) None rule e = absurd (none_some rule e)

-- what is made of a value is made of one
mapped_only : {V S : Type 0} (makes : V → S) (o : Option V) (s : S) → option_map makes o ≡ Some s → (v : V) × (o ≡ Some v) × (makes v ≡ s)
mapped_only makes (Some v) s e = (v, refl, some_is (makes v) s e)
mapped_only makes None s e = absurd (none_some s e)

-- ---- commands

kind_by : (m r : Bool) (word : List ℕ) (kind : Kind) → (m ≡ true → word ≡ codes "m") → (r ≡ true → word ≡ codes "r") →
    (if m then Some Message else (if r then Some Report else None)) ≡ Some kind → word ≡ kind_word kind
kind_by true r word kind is_m is_r e = is_m refl ∙ ap kind_word (some_is Message kind e)
kind_by false true word kind is_m is_r e = is_r refl ∙ ap kind_word (some_is Report kind e)
kind_by false false word kind is_m is_r e = absurd (none_some kind e)

kind_only : (word : List ℕ) (kind : Kind) → kind_in word ≡ Some kind → word ≡ kind_word kind
kind_only word kind e = kind_by (bytes_eq word (codes "m")) (bytes_eq word (codes "r")) word kind (named word (codes "m")) (named word (codes "r")) e

key_of_only : (d s r : Option ℕ) (k : Option Kind) (key : Key) → key_of d s r k ≡ Some key →
    (d ≡ Some key.destination) × (s ≡ Some key.source) × (r ≡ Some key.reference) × (k ≡ Some key.kind)
key_of_only (Some d) (Some s) (Some r) (Some k) key e =
    let same = some_is (let w : Key = record { destination = d; source = s; reference = r; kind = k } in w) key e in
    (ap (λ (w : Key). Some w.destination) same, ap (λ (w : Key). Some w.source) same, ap (λ (w : Key). Some w.reference) same, ap (λ (w : Key). Some w.kind) same)
key_of_only None s r k key e = absurd (none_some key e)
key_of_only (Some d) None r k key e = absurd (none_some key e)
key_of_only (Some d) (Some s) None k key e = absurd (none_some key e)
key_of_only (Some d) (Some s) (Some r) None key e = absurd (none_some key e)

key_only : (d s r k : List ℕ) (key : Key) → key_in d s r k ≡ Some key → KeyInRange key × (d ∷ s ∷ r ∷ k ∷ [] ≡ key_words key)
key_only d s r k key e =
    let f = key_of_only (result_ok (reading_identity d)) (result_ok (reading_identity s)) (reference_in r) (kind_in k) key e in
    let is_d = reading_identity_only key.destination d (ok_of (reading_identity d) key.destination f.0) in
    let is_s = reading_identity_only key.source s (ok_of (reading_identity s) key.source f.1) in
    let is_r = number_only 255 key.reference r (omega arith) f.2 in (
      (is_d.0, is_s.0, omega (arith, is_r.0)),
      ap (λ w. w ∷ s ∷ r ∷ k ∷ []) is_d.1 ∙ ap (λ w. identity_text key.destination ∷ w ∷ r ∷ k ∷ []) is_s.1
          ∙ ap (λ w. identity_text key.destination ∷ identity_text key.source ∷ w ∷ k ∷ []) is_r.1
          ∙ ap (λ w. identity_text key.destination ∷ identity_text key.source ∷ decimal key.reference ∷ w ∷ []) (kind_only k key.kind f.3),
    )

head_only : (s m : Option ℕ) (head : Head) → head_of s m ≡ Some head → (s ≡ Some head.sequence) × (m ≡ Some head.moment)
head_only (Some s) (Some m) head e =
    let same = some_is (let h : Head = record { sequence = s; moment = m } in h) head e in (ap (λ (h : Head). Some h.sequence) same, ap (λ (h : Head). Some h.moment) same)
head_only None m head e = absurd (none_some head e)
head_only (Some s) None head e = absurd (none_some head e)

head_spelled : (sequence moment : List ℕ) (head : Head) → head_in sequence moment ≡ Some head →
    (0 < head.sequence) × (head.sequence < 2 ^ 32) × (head.moment < 2 ^ 32) × (sequence ≡ decimal head.sequence) × (moment ≡ decimal head.moment)
head_spelled sequence moment head e =
    let f = head_only (sequence_in sequence) (seconds_in moment) head e in
    let some = not_zero_only (seconds_in sequence) head.sequence f.0 in
    let is_sequence = number_only 4294967295 head.sequence sequence (omega arith) some.0 in
    let is_moment = number_only 4294967295 head.moment moment (omega arith) f.1 in
    (some.1, omega (arith, is_sequence.0), omega (arith, is_moment.0), is_sequence.1, is_moment.1)

module _ {A : Type 0} where
  mm_only : (i a : Option ℕ) (p : Option (List Bool)) (b : Body A) → mm_body i a p ≡ Some b →
      (itsi : ℕ) × (area : ℕ) × (pdu : List Bool) × (i ≡ Some itsi) × (a ≡ Some area) × (p ≡ Some pdu) × (Mm itsi area pdu ≡ b)
  mm_only (Some i) (Some a) (Some p) b e = (i, a, p, refl, refl, refl, some_is (Mm i a p) b e)
  mm_only None a p b e = absurd (none_some b e)
  mm_only (Some i) None p b e = absurd (none_some b e)
  mm_only (Some i) (Some a) None b e = absurd (none_some b e)

  sds_only : (s d : Option ℕ) (p : Option (List Bool)) (b : Body A) → sds_body s d p ≡ Some b →
      (source : ℕ) × (destination : ℕ) × (pdu : List Bool) × (s ≡ Some source) × (d ≡ Some destination) × (p ≡ Some pdu) × (Sds source destination pdu ≡ b)
  sds_only (Some s) (Some d) (Some p) b e = (s, d, p, refl, refl, refl, some_is (Sds s d p) b e)
  sds_only None d p b e = absurd (none_some b e)
  sds_only (Some s) None p b e = absurd (none_some b e)
  sds_only (Some s) (Some d) None b e = absurd (none_some b e)

  group_sds_only : (s g : Option ℕ) (p : Option (List Bool)) (b : Body A) → group_sds_body s g p ≡ Some b →
      (source : ℕ) × (group : ℕ) × (pdu : List Bool) × (s ≡ Some source) × (g ≡ Some group) × (p ≡ Some pdu) × (GroupSds source group pdu ≡ b)
  group_sds_only (Some s) (Some g) (Some p) b e = (s, g, p, refl, refl, refl, some_is (GroupSds s g p) b e)
  group_sds_only None g p b e = absurd (none_some b e)
  group_sds_only (Some s) None p b e = absurd (none_some b e)
  group_sds_only (Some s) (Some g) None b e = absurd (none_some b e)

  rule_only : (p : Option Path) (r : Option Rule) (b : Body A) → rule_body p r ≡ Some b →
      (prefix : Path) × (rule : Rule) × (p ≡ Some prefix) × (r ≡ Some rule) × (RuleSet prefix rule ≡ b)
  rule_only (Some p) (Some r) b e = (p, r, refl, refl, some_is (RuleSet p r) b e)
  rule_only None r b e = absurd (none_some b e)
  rule_only (Some p) None b e = absurd (none_some b e)

  -- a body in range, in words
  abbrev Says : Body A → List (List ℕ) → Type 0
  Says b ws = BodyInRange b × SpellsBody b ws

  mm_spelled : (i a p : List ℕ) (b : Body A) → mm_body (result_ok (reading_identity i)) (area_in a) (result_ok (reading_bits p)) ≡ Some b → Says b (codes "mm" ∷ i ∷ a ∷ p ∷ [])
  mm_spelled i a p b e =
      let f = mm_only (result_ok (reading_identity i)) (area_in a) (result_ok (reading_bits p)) b e in
      let is_i = reading_identity_only f.0 i (ok_of (reading_identity i) f.0 f.3) in
      let is_a = number_only 16383 f.1 a (omega arith) f.4 in
      let spelt = reading_bits_only f.2 p (ok_of (reading_bits p) f.2 f.5) in
      subst (λ (d : Body A). Says d (codes "mm" ∷ i ∷ a ∷ p ∷ [])) f.6
      ((is_i.0, omega (arith, is_a.0), spelt.0), (p, spelt.1, ap (λ w. codes "mm" ∷ w ∷ a ∷ p ∷ []) is_i.1 ∙ ap (λ w. codes "mm" ∷ identity_text f.0 ∷ w ∷ p ∷ []) is_a.1))

  sds_spelled : (s d p : List ℕ) (b : Body A) → sds_body (result_ok (reading_identity s)) (result_ok (reading_identity d)) (result_ok (reading_bits p)) ≡ Some b → Says b (codes "sds" ∷ s ∷ d ∷ p ∷ [])
  sds_spelled s d p b e =
      let f = sds_only (result_ok (reading_identity s)) (result_ok (reading_identity d)) (result_ok (reading_bits p)) b e in
      let is_s = reading_identity_only f.0 s (ok_of (reading_identity s) f.0 f.3) in
      let is_d = reading_identity_only f.1 d (ok_of (reading_identity d) f.1 f.4) in
      let spelt = reading_bits_only f.2 p (ok_of (reading_bits p) f.2 f.5) in
      subst (λ (c : Body A). Says c (codes "sds" ∷ s ∷ d ∷ p ∷ [])) f.6
      ((is_s.0, is_d.0, spelt.0), (p, spelt.1, ap (λ w. codes "sds" ∷ w ∷ d ∷ p ∷ []) is_s.1 ∙ ap (λ w. codes "sds" ∷ identity_text f.0 ∷ w ∷ p ∷ []) is_d.1))

  group_sds_spelled : (s g p : List ℕ) (b : Body A) → group_sds_body (result_ok (reading_identity s)) (result_ok (reading_identity g))
      (result_ok (reading_bits p)) ≡ Some b → Says b (codes "gsds" ∷ s ∷ g ∷ p ∷ [])
  group_sds_spelled s g p b e =
      let f = group_sds_only (result_ok (reading_identity s)) (result_ok (reading_identity g)) (result_ok (reading_bits p)) b e in
      let is_s = reading_identity_only f.0 s (ok_of (reading_identity s) f.0 f.3) in
      let is_g = reading_identity_only f.1 g (ok_of (reading_identity g) f.1 f.4) in
      let spelt = reading_bits_only f.2 p (ok_of (reading_bits p) f.2 f.5) in
      subst (λ (c : Body A). Says c (codes "gsds" ∷ s ∷ g ∷ p ∷ [])) f.6
      ((is_s.0, is_g.0, spelt.0), (p, spelt.1, ap (λ w. codes "gsds" ∷ w ∷ g ∷ p ∷ []) is_s.1 ∙ ap (λ w. codes "gsds" ∷ identity_text f.0 ∷ w ∷ p ∷ []) is_g.1))

  -- sent and delete
  key_spelled : (about : Key → Body A) (keyword d s r k : List ℕ) → ((key : Key) → KeyInRange key → Says (about key) (keyword ∷ key_words key)) → (b : Body A) →
      option_map about (key_in d s r k) ≡ Some b → Says b (keyword ∷ d ∷ s ∷ r ∷ k ∷ [])
  key_spelled about keyword d s r k spells b e =
      let f = mapped_only about (key_in d s r k) b e in
      let key = key_only d s r k f.0 f.1 in
      subst (λ (ws : List (List ℕ)). Says b (keyword ∷ ws)) (sym key.1) (subst (λ (c : Body A). Says c (keyword ∷ key_words f.0)) f.2 (spells f.0 key.0))

  rule_spelled : (p low high life keep : List ℕ) (b : Body A) → rule_body (result_ok (reading_prefix p)) (rule_in low high life keep) ≡ Some b →
      Says b (codes "rule" ∷ p ∷ low ∷ high ∷ life ∷ keep ∷ [])
  rule_spelled p low high life keep b e =
      let f = rule_only (result_ok (reading_prefix p)) (rule_in low high life keep) b e in
      let rule = rule_of_only (area_in low) (area_in high) (lifetime_in life) (seconds_in keep) f.1 f.3 in
      let is_p = reading_prefix_only f.0 p (ok_of (reading_prefix p) f.0 f.2) in
      let is_low = number_only 16383 f.1.low low (omega arith) rule.0 in
      let is_high = number_only 16383 f.1.high high (omega arith) rule.1 in
      let is_life : life ≡ decimal (lifetime_number f.1.lifetime) =
      (number_only 3 (lifetime_number f.1.lifetime) life (omega arith) (lifetime_found (result_ok (reading_number 3 life)) f.1.lifetime rule.2)).1 in
      let is_keep = number_only 4294967295 f.1.keep keep (omega arith) rule.3 in
      subst (λ (d : Body A). Says d (codes "rule" ∷ p ∷ low ∷ high ∷ life ∷ keep ∷ [])) f.4 (
        (is_p.0, (rule.4, omega (arith, is_high.0), omega (arith, is_keep.0))),
        ap (λ w. codes "rule" ∷ w ∷ low ∷ high ∷ life ∷ keep ∷ []) is_p.1
            ∙ ap (λ w. codes "rule" ∷ prefix_text f.0 ∷ w ∷ high ∷ life ∷ keep ∷ []) is_low.1
            ∙ ap (λ w. codes "rule" ∷ prefix_text f.0 ∷ decimal f.1.low ∷ w ∷ life ∷ keep ∷ []) is_high.1
            ∙ ap (λ w. codes "rule" ∷ prefix_text f.0 ∷ decimal f.1.low ∷ decimal f.1.high ∷ w ∷ keep ∷ []) is_life
            ∙ ap (λ w. codes "rule" ∷ prefix_text f.0 ∷ decimal f.1.low ∷ decimal f.1.high ∷ decimal (lifetime_number f.1.lifetime) ∷ w ∷ []) is_keep.1,
      )

  unrule_spelled : (p : List ℕ) (b : Body A) → option_map RuleClear (result_ok (reading_prefix p)) ≡ Some b → Says b (codes "unrule" ∷ p ∷ [])
  unrule_spelled p b e =
      let f = mapped_only RuleClear (result_ok (reading_prefix p)) b e in
      let is_p = reading_prefix_only f.0 p (ok_of (reading_prefix p) f.0 f.1) in
      subst (λ (d : Body A). Says d (codes "unrule" ∷ p ∷ [])) f.2 (is_p.0, ap (λ w. codes "unrule" ∷ w ∷ []) is_p.1)

  -- a body in range, after a name that is its keyword
  under_name : (keyword name : List ℕ) (more : List (List ℕ)) (b : Body A) → bytes_eq name keyword ≡ true → Says b (keyword ∷ more) → Says b (name ∷ more)
  under_name keyword name more b is says = subst (λ (word : List ℕ). Says b (word ∷ more)) (sym (named name keyword is)) says

-- ---- lines

-- a line of a word alone
alone : (keyword name : List ℕ) → bytes_eq name keyword ≡ true → name ∷ [] ≡ keyword ∷ []
alone keyword name is = ap (λ w. w ∷ []) (named name keyword is)

-- a line of a keyword and the text of a value
pair : (keyword name word text line : List ℕ) → bytes_eq name keyword ≡ true → word ≡ text → spaced (keyword ∷ text ∷ []) ≡ line → spaced (name ∷ word ∷ []) ≡ line
pair keyword name word text line is same spelt = ap (λ w. spaced (w ∷ word ∷ [])) (named name keyword is) ∙ ap (λ w. spaced (keyword ∷ w ∷ [])) same ∙ spelt

prefix_spelled : (word : List ℕ) (prefix : Path) → prefix_in word ≡ Some prefix → Listable (radios_under prefix) × (word ≡ prefix_text prefix)
prefix_spelled word prefix e = reading_prefix_only prefix word (ok_of (reading_prefix word) prefix e)

seconds_spelled : (word : List ℕ) (n : ℕ) → seconds_in word ≡ Some n → (n < 2 ^ 32) × (word ≡ decimal n)
seconds_spelled word n e = let read = number_only 4294967295 n word (omega arith) e in (omega (arith, read.0), read.1)

station_spelled : (word : List ℕ) (n : ℕ) → station_in word ≡ Some n → (n < 2 ^ 16) × (word ≡ decimal n)
station_spelled word n e = let read = number_only 65535 n word (omega arith) e in (omega (arith, read.0), read.1)

module _ (A : Type 0) where
  -- what the words of a command are
  abbrev pub IsSpelled : ℕ → Command A → List (List ℕ) → Type 0
  IsSpelled station c words = (c.station ≡ station) × InRange c × ((body : List (List ℕ)) × SpellsBody c.body body × (words ≡ decimal c.sequence ∷ decimal c.moment ∷ body))

  -- the words spell what the line says
  abbrev pub AreSpelled : ℕ → Line A → List (List ℕ) → Type 0
  AreSpelled station Silent ws = ⊥
  AreSpelled station (Bad fault) ws = Unit {0}
  AreSpelled station (Apply c) ws = IsSpelled station c ws
  AreSpelled station (Ask q) ws = Askable q × (spaced ws ≡ query_text q)
  AreSpelled station (Print l) ws = Listable l × (spaced ws ≡ listing_line l)
  AreSpelled station (Mark word) ws = (is_mark word ≡ true) × (ws ≡ codes "mark" ∷ word ∷ [])
  AreSpelled station (OwnStation own) ws = (own ≡ station) × (ws ≡ codes "station" ∷ [])
  AreSpelled station Service ws = ws ≡ codes "service" ∷ []
  AreSpelled station (Forbidden sequence) ws = ⊥

  query_spelled : (station : ℕ) (about : ℕ → Query) (keyword name word : List ℕ) (o : Option ℕ) → o ≡ result_ok (reading_identity word) →
      ((n : ℕ) → n < 2 ^ 48 → Askable (about n)) → ((n : ℕ) → spaced (keyword ∷ identity_text n ∷ []) ≡ query_text (about n)) →
      bytes_eq name keyword ≡ true → AreSpelled station (line_of Ask (option_map about o)) (name ∷ word ∷ [])
  query_spelled station about keyword name word None e range text is = tt
  query_spelled station about keyword name word (Some n) e range text is =
      let read = reading_identity_only n word (ok_of (reading_identity word) n (sym e)) in
      (range n read.0, pair keyword name word (identity_text n) (query_text (about n)) is read.1 (text n))

  listing_spelled : {V : Type 0} (station : ℕ) (part : V → Listing) (text : V → List ℕ) (keyword name word : List ℕ) (o : Option V) →
      ((v : V) → o ≡ Some v → Listable (part v) × (word ≡ text v)) → ((v : V) → spaced (keyword ∷ text v ∷ []) ≡ listing_line (part v)) →
      bytes_eq name keyword ≡ true → AreSpelled station (line_of Print (option_map part o)) (name ∷ word ∷ [])
  listing_spelled station part text keyword name word None read spelt is = tt
  listing_spelled station part text keyword name word (Some v) read spelt is =
      let f = read v refl in (f.0, pair keyword name word (text v) (listing_line (part v)) is f.1 (spelt v))

  mark_spelled : (station : ℕ) (name word : List ℕ) (b : Bool) → is_mark word ≡ b → bytes_eq name (codes "mark") ≡ true →
      AreSpelled station (line_of Mark (if b then Some word else None)) (name ∷ word ∷ [])
  mark_spelled station name word true e is = (e, ap (λ w. w ∷ word ∷ []) (named name (codes "mark") is))
  mark_spelled station name word false e is = tt

  command_spelled : (station : ℕ) (s m : List ℕ) (body : List (List ℕ)) (head : Option Head) (said : Option (Body A)) → head ≡ head_in s m → ((b : Body A) → said ≡ Some b → Says b body) →
      AreSpelled station (line_of Apply (command_of station head said)) (s ∷ m ∷ body)
  command_spelled station s m body None said is_head says = tt
  command_spelled station s m body (Some head) None is_head says = tt
  command_spelled station s m body (Some head) (Some b) is_head says =
      let f = head_spelled s m head (sym is_head) in let said = says b refl in (
        refl,
        record { above = f.0; sequence = f.1; moment = f.2; body = said.0 },
        (body, said.1, ap (λ w. w ∷ m ∷ body) f.3 ∙ ap (λ w. decimal head.sequence ∷ w ∷ body) f.4),
      )

  -- a command under its name
  named_command : (station : ℕ) (keyword s m name : List ℕ) (more : List (List ℕ)) (said : Option (Body A)) → ((b : Body A) → said ≡ Some b → Says b (keyword ∷ more)) →
      bytes_eq name keyword ≡ true → AreSpelled station (line_of Apply (command_of station (head_in s m) said)) (s ∷ m ∷ name ∷ more)
  named_command station keyword s m name more said says is =
      command_spelled station s m (name ∷ more) (head_in s m) said refl (λ b e. under_name keyword name more b is (says b e))

  -- what words say they spell
  words_spelled : (station : ℕ) (ws : List (List ℕ)) → AreSpelled station (of_words station ws) ws
  words_spelled station [] = tt
  words_spelled station (name ∷ []) =
      let ws = name ∷ [] in
      let p : Option Form → Type 0 = λ form. AreSpelled station (by_form station form ws) ws in
      chain p (bytes_eq name (codes "count")) (form.Ask query_form.Total) _ (λ is. (tt, named name (codes "count") is))
      (chain p (bytes_eq name (codes "rules")) (form.Print listing_form.Rules) _ (λ is. (tt, named name (codes "rules") is))
      (chain p (bytes_eq name (codes "radios")) (form.Print listing_form.Radios) _ (λ is. (tt, named name (codes "radios") is))
      (chain p (bytes_eq name (codes "items")) (form.Print listing_form.Items) _ (λ is. (tt, named name (codes "items") is))
      (chain p (bytes_eq name (codes "room")) (form.Print listing_form.Room) _ (λ is. (tt, named name (codes "room") is))
      (chain p (bytes_eq name (codes "dump")) (form.Print listing_form.Dump) _ (λ is. (tt, named name (codes "dump") is))
      (chain p (bytes_eq name (codes "station")) form.OwnStation _ (λ is. (refl, alone (codes "station") name is))
      (chain p (bytes_eq name (codes "service")) form.Service None (λ is. alone (codes "service") name is) tt)))))))
  words_spelled station (name ∷ word ∷ []) =
      let ws = name ∷ word ∷ [] in let o = result_ok (reading_identity word) in
      let p : Option Form → Type 0 = λ form. AreSpelled station (by_form station form ws) ws in
      chain p (bytes_eq name (codes "where")) (form.Ask query_form.Whereabouts) _ (query_spelled station Whereabouts (codes "where") name word o refl (λ n small. small) (λ n. refl))
      (chain p (bytes_eq name (codes "look")) (form.Ask query_form.Look) _ (query_spelled station Look (codes "look") name word o refl (λ n small. small) (λ n. refl))
      (chain p (bytes_eq name (codes "groups")) (form.Ask query_form.GroupsOf) _ (query_spelled station GroupsOf (codes "groups") name word o refl (λ n small. small) (λ n. refl))
      (chain p (bytes_eq name (codes "members")) (form.Ask query_form.MembersOf) _ (query_spelled station MembersOf (codes "members") name word o refl (λ n small. small) (λ n. refl))
      (chain p (bytes_eq name (codes "mail")) (form.Ask query_form.Waiting) _ (query_spelled station Waiting (codes "mail") name word o refl (λ n small. small) (λ n. refl))
      (chain p (bytes_eq name (codes "radios")) (form.Print listing_form.RadiosUnder) _
      (listing_spelled station radios_under prefix_text (codes "radios") name word (prefix_in word) (prefix_spelled word) (λ v. refl))
      (chain p (bytes_eq name (codes "due")) (form.Print listing_form.Due) _ (listing_spelled station due_at decimal (codes "due") name word (seconds_in word) (seconds_spelled word) (λ v. refl))
      (chain p (bytes_eq name (codes "waiting")) (form.Print listing_form.WaitingAt) _
      (listing_spelled station waiting_at decimal (codes "waiting") name word (station_in word) (station_spelled word) (λ v. refl))
      (chain p (bytes_eq name (codes "last")) (form.Print listing_form.Last) _ (listing_spelled station Last decimal (codes "last") name word (station_in word) (station_spelled word) (λ v. refl))
      (chain p (bytes_eq name (codes "mark")) form.Mark None (mark_spelled station name word (is_mark word) refl) tt)))))))))
  words_spelled station (s ∷ m ∷ name ∷ []) =
      let ws = s ∷ m ∷ name ∷ [] in
      let p : Option Form → Type 0 = λ form. AreSpelled station (by_form station form ws) ws in
      chain p (bytes_eq name (codes "expire")) (form.Apply body_form.Expire) None
      (named_command station (codes "expire") s m name [] (Some Expire) (λ b e. subst (λ (c : Body A). Says c (codes "expire" ∷ [])) (some_is Expire b e) (tt, refl))) tt
  words_spelled station (s ∷ m ∷ name ∷ a ∷ []) =
      let ws = s ∷ m ∷ name ∷ a ∷ [] in
      let p : Option Form → Type 0 = λ form. AreSpelled station (by_form station form ws) ws in
      chain p (bytes_eq name (codes "unrule")) (form.Apply body_form.RuleClear) None (named_command station (codes "unrule") s m name (a ∷ []) (body_in body_form.RuleClear ws) (unrule_spelled a)) tt
  words_spelled station (s ∷ m ∷ name ∷ a ∷ b ∷ []) = tt
  words_spelled station (s ∷ m ∷ name ∷ a ∷ b ∷ c ∷ []) =
      let ws = s ∷ m ∷ name ∷ a ∷ b ∷ c ∷ [] in
      let p : Option Form → Type 0 = λ form. AreSpelled station (by_form station form ws) ws in
      chain p (bytes_eq name (codes "mm")) (form.Apply body_form.Mm) _ (named_command station (codes "mm") s m name (a ∷ b ∷ c ∷ []) (body_in body_form.Mm ws) (mm_spelled a b c))
      (chain p (bytes_eq name (codes "sds")) (form.Apply body_form.Sds) _ (named_command station (codes "sds") s m name (a ∷ b ∷ c ∷ []) (body_in body_form.Sds ws) (sds_spelled a b c))
      (chain p (bytes_eq name (codes "gsds")) (form.Apply body_form.GroupSds) None
      (named_command station (codes "gsds") s m name (a ∷ b ∷ c ∷ []) (body_in body_form.GroupSds ws) (group_sds_spelled a b c)) tt))
  words_spelled station (s ∷ m ∷ name ∷ a ∷ b ∷ c ∷ d ∷ []) =
      let ws = s ∷ m ∷ name ∷ a ∷ b ∷ c ∷ d ∷ [] in
      let p : Option Form → Type 0 = λ form. AreSpelled station (by_form station form ws) ws in
      chain p (bytes_eq name (codes "sent")) (form.Apply body_form.Sent) _
      (named_command station (codes "sent") s m name (a ∷ b ∷ c ∷ d ∷ []) (body_in body_form.Sent ws) (key_spelled Sent (codes "sent") a b c d (λ key range. (range, refl))))
      (chain p (bytes_eq name (codes "delete")) (form.Apply body_form.Delete) None
      (named_command station (codes "delete") s m name (a ∷ b ∷ c ∷ d ∷ []) (body_in body_form.Delete ws) (key_spelled Delete (codes "delete") a b c d (λ key range. (range, refl)))) tt)
  words_spelled station (s ∷ m ∷ name ∷ a ∷ b ∷ c ∷ d ∷ f ∷ []) =
      let ws = s ∷ m ∷ name ∷ a ∷ b ∷ c ∷ d ∷ f ∷ [] in
      let p : Option Form → Type 0 = λ form. AreSpelled station (by_form station form ws) ws in
      chain p (bytes_eq name (codes "rule")) (form.Apply body_form.RuleSet) None
      (named_command station (codes "rule") s m name (a ∷ b ∷ c ∷ d ∷ f ∷ []) (body_in body_form.RuleSet ws) (rule_spelled a b c d f)) tt
  words_spelled station (s ∷ m ∷ name ∷ a ∷ b ∷ c ∷ d ∷ f ∷ g ∷ more) =
      let ws = s ∷ m ∷ name ∷ a ∷ b ∷ c ∷ d ∷ f ∷ g ∷ more in
      subst (λ (l : Line A). AreSpelled station l ws) (sym (many_words station ws (omega arith))) tt

  -- a line that is neither silent nor bad
  abbrev pub Speaks : Line A → Type 0
  Speaks Silent = ⊥
  Speaks (Bad fault) = ⊥
  Speaks other = Unit {0}

  through : (long silent : Bool) (l m : Line A) → Speaks m → (if long then Bad TooLong else (if silent then Silent else l)) ≡ m → (long ≡ false) × (l ≡ m)
  through true silent l m speaks e = absurd (subst (λ (l : Line A). Speaks l) (sym e) speaks)
  through false true l m speaks e = absurd (subst (λ (l : Line A). Speaks l) (sym e) speaks)
  through false false l m speaks e = (refl, e)

  -- a line that is read as this has at most longest_line bytes, and its words spell this
  pub line_spelled : (station : ℕ) (line : List ℕ) (said : Line A) → Speaks said → reading station line ≡ said → (length line ≤ longest_line) × AreSpelled station said (words line)
  line_spelled station line said speaks e =
      let f = through (nat_lt longest_line (length line)) (is_silent line) (of_words station (words line)) said speaks e in
      (short_of_flag (length line) f.0, subst (λ (l : Line A). AreSpelled station l (words line)) f.1 (words_spelled station (words line)))

  -- ---- only what is spelled

  pub only_commands : OnlyCommands A
  only_commands station line c e =
      let f = line_spelled station line (Apply c) tt e in
      record { of_station = f.1.0; in_range = f.1.1; spelt = (f.1.2.0, f.1.2.1, sym (join_with_byte-slice_split 32 line) ∙ ap spaced f.1.2.2); short = f.0 }

  pub only_queries : OnlyQueries A
  only_queries station line q e =
      let f = line_spelled station line (Ask q) tt e in record { in_range = f.1.0; spelt = sym (join_with_byte-slice_split 32 line) ∙ f.1.1; short = f.0 }

  pub only_listings : OnlyListings A
  only_listings station line l e =
      let f = line_spelled station line (Print l) tt e in record { in_range = f.1.0; spelt = sym (join_with_byte-slice_split 32 line) ∙ f.1.1; short = f.0 }

  pub only_marks : OnlyMarks A
  only_marks station line word e =
      let f = line_spelled station line (Mark word) tt e in record { in_range = f.1.0; spelt = sym (join_with_byte-slice_split 32 line) ∙ ap spaced f.1.1 }

  pub only_own : OnlyOwnStation A
  only_own station said line e =
      let f = line_spelled station line (OwnStation said) tt e in (f.1.0, sym (join_with_byte-slice_split 32 line) ∙ ap spaced f.1.1)

  pub only_service : OnlyService A
  only_service station line e = let f = line_spelled station line Service tt e in sym (join_with_byte-slice_split 32 line) ∙ ap spaced f.1

  pub nothing_forbidden : NothingForbidden A
  nothing_forbidden station line sequence e = (line_spelled station line (Forbidden sequence) tt e).1
