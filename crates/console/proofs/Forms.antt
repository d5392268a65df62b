-- Forms, and what words of them say.
use Rattle.std.proofs.Common.{◌≡◌, ℕ, ◌<◌, Bool, true, false, List, [], ◌∷◌, length, take, Option, Some, None, Result, Ok, Err, refl, sym, ◌∙◌, ap, subst, arith}
use Rattle.std.specs.Prelude.{◌==◌, ◌&&◌, IfSome, IsOkAnd, IsTrue, nat_le, nat_lt, if◌then◌else◌}
use Rattle.std.proofs.lemmas.Bool.Decides.{nat_tests}
use Rattle.std.specs.List.{list_all}
use Rattle.std.specs.Option.{option_map}
use Rattle.std.specs.Result.{result_ok}
use Rattle.std.specs.Str.{bytes_eq}
use Rattle.base.proofs.Bools.{first_true, second_true}
use Rattle.identity.specs.Path.{Path}
use Rattle.identity.specs.declared.fault.Fault.{Fault}
use Rattle.identity.specs.declared.fault.Fault.TheVariants.{OutOfRange, NoMemory}
use Rattle.identity.specs.NumberText.{judged}
use Rattle.identity.specs.BitsText.{digit_bits, bits_form, reading_bits}
use Rattle.identity.proofs.BitsTexts.{reading_bits_only}
use Rattle.registration.specs.Rule.{Rule}
use Rattle.mailbox.specs.declared.key.Key.{Key}
use Rattle.centre_core.specs.Memory.{is_long}
use Rattle.centre_core.specs.Ranges.{IsShort, pdu_of}
use Rattle.centre_core.specs.declared.command.Body.{Body}
use Rattle.centre_core.specs.declared.command.Body.TheVariants.{RuleClear, Sent, Delete}
use Rattle.console.specs.declared.body.Head.{Head}
use Rattle.console.specs.declared.form.Form.{Form}
use Rattle.console.specs.declared.form.BodyForm.{BodyForm}
use Rattle.console.specs.declared.form.BodyForm.TheVariants as body_form
use Rattle.console.specs.declared.line.Line.TheVariants.{Bad, Apply}
use Rattle.console.specs.declared.line.LineFault.TheVariants.{Syntax}
use Rattle.console.specs.Forms.{FormRow, forms, form_in, form_of, keyword, word}
use Rattle.console.specs.Inside.Counts.{count_of}
use Rattle.console.specs.Reading.{identity_in, area_in, prefix_in, key_in, rule_in, pdu_in, mm_body, sds_body, group_sds_body, rule_body, body_in}
use Rattle.console.specs.Reading.{command_of, line_of, by_form, of_words, sequence_of, GivesLongPdu}

-- ---- which form

-- a row of one keyword, or the rows after it
pub chain : (P : Option Form → Type 0) (b : Bool) (form : Form) (rest : Option Form) → (b ≡ true → P (Some form)) → P rest → P (if b then Some form else rest)
chain P true form rest first others = first refl
chain P false form rest first others = others

another_count : (count n : ℕ) → 8 < n → nat_le count 8 ≡ true → (count == n) ≡ false
another_count count n many few = grind (arith, many, few)

no_row : (rows : List FormRow) (name : List ℕ) (n : ℕ) → 8 < n → list_all (λ row. nat_le row.count 8) rows ≡ true → form_in rows name n ≡ None
no_row [] name n many few = refl
no_row (row ∷ rows) name n many few =
    let other = another_count row.count n many (first_true (nat_le row.count 8) (list_all (λ row. nat_le row.count 8) rows) few) in
    rw other (no_row rows name n many (second_true (nat_le row.count 8) (list_all (λ row. nat_le row.count 8) rows) few))

-- more words than any form has
pub many_words : {A : Type 0} (station : ℕ) (ws : List (List ℕ)) → 8 < length ws → of_words {A = A} station ws ≡ Bad Syntax
many_words {A = A} station ws many = ap (λ form. by_form {A = A} station form ws) (no_row forms (keyword ws) (length ws) many refl)

abbrev count_in : Option Form → ℕ
count_in None = 0
count_in (Some form) = count_of form

counted_row : (row : FormRow) (n : ℕ) (form : Form) → (row.count == n) ≡ true → (row.count == count_of row.form) ≡ true → Some row.form ≡ Some form → n ≡ count_of form
counted_row row n form here fits same =
    let count : row.count ≡ n = grind (arith, nat_tests, here) in
    let its : row.count ≡ count_of row.form = grind (arith, nat_tests, fits) in
    sym count ∙ its ∙ ap count_in same

counted_in : (rows : List FormRow) (name : List ℕ) (n : ℕ) (form : Form) → list_all (λ row. row.count == count_of row.form) rows ≡ true → form_in rows name n ≡ Some form → n ≡ count_of form
counted_in [] name n form fit is = cc
counted_in (row ∷ rows) name n form fit is =
    let fits = first_true (row.count == count_of row.form) (list_all (λ row. row.count == count_of row.form) rows) fit in
    let others = second_true (row.count == count_of row.form) (list_all (λ row. row.count == count_of row.form) rows) fit in
    chain (λ found. found ≡ Some form → n ≡ count_of form) ((row.count == n) && bytes_eq name row.keyword) row.form (form_in rows name n)
    (λ here same. counted_row row n form (first_true (row.count == n) (bytes_eq name row.keyword) here) fits same)
    (counted_in rows name n form others) is

-- words that have a form are as many as it has
pub counted : (name : List ℕ) (n : ℕ) (form : Form) → form_of name n ≡ Some form → n ≡ count_of form
counted name n form is = counted_in forms name n form refl is

-- ---- PDUs of at most 2,048 bits

bits_short : (text : List ℕ) (read : Result (List Bool) Fault) → reading_bits text ≡ read → IsShort (result_ok read)
bits_short text (Ok bits) e = (reading_bits_only bits text e).0
bits_short text (Err fault) e = tt

abbrev HasShortPdu : {A : Type 0} → Option (Body A) → Type 0
HasShortPdu said = IfSome said (λ body. IsShort (pdu_of body))

module _ (A : Type 0) where
  mm_short : (itsi area : Option ℕ) (pdu : Option (List Bool)) → IsShort pdu → HasShortPdu (mm_body {A = A} itsi area pdu)
  mm_short None area pdu short = tt
  mm_short (Some itsi) None pdu short = tt
  mm_short (Some itsi) (Some area) None short = tt
  mm_short (Some itsi) (Some area) (Some pdu) short = short

  sds_short : (source destination : Option ℕ) (pdu : Option (List Bool)) → IsShort pdu → HasShortPdu (sds_body {A = A} source destination pdu)
  sds_short None destination pdu short = tt
  sds_short (Some source) None pdu short = tt
  sds_short (Some source) (Some destination) None short = tt
  sds_short (Some source) (Some destination) (Some pdu) short = short

  group_sds_short : (source group : Option ℕ) (pdu : Option (List Bool)) → IsShort pdu → HasShortPdu (group_sds_body {A = A} source group pdu)
  group_sds_short None group pdu short = tt
  group_sds_short (Some source) None pdu short = tt
  group_sds_short (Some source) (Some group) None short = tt
  group_sds_short (Some source) (Some group) (Some pdu) short = short

  rule_short : (prefix : Option Path) (rule : Option Rule) → HasShortPdu (rule_body {A = A} prefix rule)
  rule_short None rule = tt
  rule_short (Some prefix) None = tt
  rule_short (Some prefix) (Some rule) = tt

  clear_short : (prefix : Option Path) → HasShortPdu {A = A} (option_map RuleClear prefix)
  clear_short None = tt
  clear_short (Some prefix) = tt

  sent_short : (key : Option Key) → HasShortPdu {A = A} (option_map Sent key)
  sent_short None = tt
  sent_short (Some key) = tt

  delete_short : (key : Option Key) → HasShortPdu {A = A} (option_map Delete key)
  delete_short None = tt
  delete_short (Some key) = tt

  body_short : (form : BodyForm) (ws : List (List ℕ)) → HasShortPdu (body_in {A = A} form ws)
  body_short body_form.RuleSet ws = rule_short (prefix_in (word 3 ws)) (rule_in (word 4 ws) (word 5 ws) (word 6 ws) (word 7 ws))
  body_short body_form.RuleClear ws = clear_short (prefix_in (word 3 ws))
  body_short body_form.Mm ws = mm_short (identity_in (word 3 ws)) (area_in (word 4 ws)) (pdu_in (word 5 ws)) (bits_short (word 5 ws) (reading_bits (word 5 ws)) refl)
  body_short body_form.Sds ws = sds_short (identity_in (word 3 ws)) (identity_in (word 4 ws)) (pdu_in (word 5 ws)) (bits_short (word 5 ws) (reading_bits (word 5 ws)) refl)
  body_short body_form.GroupSds ws = group_sds_short (identity_in (word 3 ws)) (identity_in (word 4 ws)) (pdu_in (word 5 ws)) (bits_short (word 5 ws) (reading_bits (word 5 ws)) refl)
  body_short body_form.Sent ws = sent_short (key_in (word 3 ws) (word 4 ws) (word 5 ws) (word 6 ws))
  body_short body_form.Expire ws = tt
  body_short body_form.Delete ws = delete_short (key_in (word 3 ws) (word 4 ws) (word 5 ws) (word 6 ws))

  -- a body that words of a form say
  pub said_short : (form : BodyForm) (ws : List (List ℕ)) (said : Option (Body A)) (body : Body A) → said ≡ body_in form ws → said ≡ Some body → IsShort (pdu_of body)
  said_short form ws said body same is = subst (λ (o : Option (Body A)). HasShortPdu o) (sym same ∙ is) (body_short form ws)

-- ---- out of memory

-- a body with a PDU of more than 64 bits, after a head
pub unread : {A : Type 0} (station : ℕ) (head : Head) (body : Option (Body A)) → GivesLongPdu body → sequence_of (line_of Apply (command_of station (Some head) body)) ≡ Some head.sequence
unread station head (Some body) long = rw long refl
unread station head None long = absurd long

-- bits that are read, and are more than 64
pub long_read : (read : Result (List Bool) Fault) → IsOkAnd read (λ bits. 64 < length bits) → IsTrue (is_long (result_ok read))
long_read (Ok bits) long = let more : nat_lt 64 (length bits) ≡ true = grind (arith, nat_tests, long) in more
long_read (Err fault) long = absurd long

within_judged : (within : Bool) (bits : List Bool) → (if within then Ok bits else Err OutOfRange) ≡ Err NoMemory → ⊥
within_judged true bits refused = cc
within_judged false bits refused = cc

form_judged : (form : Option (ℕ × List ℕ)) → judged (λ form. if nat_le form.0 2048 then Ok (take form.0 (digit_bits form.1)) else Err OutOfRange) form ≡ Err NoMemory → ⊥
form_judged None refused = cc
form_judged (Some form) refused = within_judged (nat_le form.0 2048) (take form.0 (digit_bits form.1)) refused

-- no text is refused when memory runs out
pub bits_are_judged : (text : List ℕ) → reading_bits text ≡ Err NoMemory → ⊥
unfolding reading_bits
bits_are_judged text refused = form_judged (bits_form text) refused
