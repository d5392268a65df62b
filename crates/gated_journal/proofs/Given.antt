-- Commands that are given under another allocator: the same text.
use Rattle.std.proofs.Common.{◌≡◌, ℕ, ◌+◌, ◌/◌, ◌<◌, ◌≤◌, List, [], ◌∷◌, ◌++◌, length, take, get_or, refl, sym, ap, subst, ◌∙◌, append_assoc, arith}
use Rattle.std.specs.Borrow.{Bor}
use Rattle.std.specs.List.{All, flat_map}
use Rattle.std.proofs.lemmas.List.{flat_map_more, length-append, length-map, take_more}
use Rattle.std.proofs.lemmas.List.Elements.{All-map, All-more, All-weaker}
use Rattle.std.proofs.lemmas.List.Folds.{flat_map-map, length-flat_map-take}
use Rattle.centre_core.specs.declared.command.Body.{Body}
use Rattle.centre_core.specs.declared.command.Body.TheVariants.{RuleSet, RuleClear, Mm, Sds, GroupSds, Sent, Expire, Delete}
use Rattle.centre_core.specs.Asked.{Asked}
use Rattle.centre_core.specs.Ranges.{BodyInRange}
use Rattle.centre_core.specs.Same.{body_under, under}
use Rattle.command_bytes.specs.Fields.{big}
use Rattle.command_bytes.specs.Text.{IsCommand, body_text, command_text, tag_of}
use Rattle.command_bytes.proofs.Numbers.{length-big}
use Rattle.gated_journal.specs.Record.{IsRecord, data_size, first_of, first_text, given, head_len, most_commands, packed_text, record_text}
use Rattle.gated_journal.specs.declared.form.Form.{Form}
use Rattle.gated_journal.proofs.Packed.{head_bytes}
use Rattle.gated_journal.proofs.Written.{length-text}

pub head_length : (form : Form) (before count size : ℕ) (head : List ℕ) → head ≡ big 2 count ++ (first_text (first_of form before) ++ big 4 size) → length head ≡ head_len form
head_length form before count size head is =
    ap length is ∙ omega (
      arith,
      length-append (big 2 count) (first_text (first_of form before) ++ big 4 size),
      length-append (first_text (first_of form before)) (big 4 size),
      length-big 2 count,
      length-big 4 size,
      head_bytes form before,
    )

-- one of the commands, as a loop meets it
module _ {B : Type 0} (cs : List (Bor (Asked B))) (i : ℕ) (c : Bor (Asked B)) (lt : i < length cs) (is : c ≡ get_or cs i c) where
  pub one_fits : length (flat_map (λ c. command_text c.now) (take i cs)) + length (command_text c.now) ≤ length (flat_map (λ c. command_text c.now) cs)
  one_fits =
      let here : length (command_text c.now) ≡ length (command_text ((get_or cs i c).now)) = ap (λ (x : Bor (Asked B)). length (command_text x.now)) is in
      omega (arith, here, length-flat_map-take (λ (x : Bor (Asked B)). command_text x.now) cs i c lt)

  pub one_more : (prefix out new : List ℕ) → out ≡ prefix ++ flat_map (λ c. command_text c.now) (take i cs) → new ≡ out ++ command_text c.now →
      new ≡ prefix ++ flat_map (λ c. command_text c.now) (take (i + 1) cs)
  one_more prefix out new was e =
      e ∙ ap (λ (l : List ℕ). l ++ command_text c.now) was ∙ flat_map_more (λ (x : Bor (Asked B)). command_text x.now) prefix (take i cs) c
      ∙ ap (λ (l : List (Bor (Asked B))). prefix ++ flat_map (λ x. command_text x.now) l) (ap (λ (x : Bor (Asked B)). take i cs ++ x ∷ []) is ∙ sym (take_more cs i c lt))

  pub one_more_is : All (λ c. IsCommand c.now) (take i cs) → IsCommand c.now → All (λ c. IsCommand c.now) (take (i + 1) cs)
  one_more_is are one = All-more (λ (x : Bor (Asked B)). IsCommand x.now) cs i c lt are (subst (λ (x : Bor (Asked B)). IsCommand x.now) is one)

module _ {B : Type 0} (A : Type 0) where
  tag_under : (b : Body B) → tag_of (body_under A b) ≡ tag_of b
  tag_under (RuleSet prefix rule) = refl
  tag_under (RuleClear prefix) = refl
  tag_under (Mm itsi area pdu) = refl
  tag_under (Sds source destination pdu) = refl
  tag_under (GroupSds source group pdu) = refl
  tag_under (Sent key) = refl
  tag_under Expire = refl
  tag_under (Delete key) = refl

  body_text_under : (b : Body B) → body_text (body_under A b) ≡ body_text b
  body_text_under (RuleSet prefix rule) = refl
  body_text_under (RuleClear prefix) = refl
  body_text_under (Mm itsi area pdu) = refl
  body_text_under (Sds source destination pdu) = refl
  body_text_under (GroupSds source group pdu) = refl
  body_text_under (Sent key) = refl
  body_text_under Expire = refl
  body_text_under (Delete key) = refl

  text_under : (c : Asked B) → command_text (under A c) ≡ command_text c
  unfolding command_text
  text_under c = rw (tag_under c.body, body_text_under c.body) refl

  range_under : (b : Body B) → BodyInRange b → BodyInRange (body_under A b)
  range_under (RuleSet prefix rule) is = is
  range_under (RuleClear prefix) is = is
  range_under (Mm itsi area pdu) is = is
  range_under (Sds source destination pdu) is = is
  range_under (GroupSds source group pdu) is = is
  range_under (Sent key) is = is
  range_under Expire is = is
  range_under (Delete key) is = is

  is_under : (c : Asked B) → IsCommand c → IsCommand (under A c)
  is_under c is = record {
    station = is.station;
    range = record { above = is.range.above; sequence = is.range.sequence; moment = is.range.moment; body = range_under c.body is.range.body };
  }

  given_bytes : (cs : List (Bor (Asked B))) → flat_map command_text (given A cs) ≡ flat_map (λ c. command_text c.now) cs
  given_bytes cs = flat_map-map command_text (λ (c : Bor (Asked B)). under A c.now) cs ∙ ap (λ (f : Bor (Asked B) → List ℕ). flat_map f cs) (λ i c. text_under c.now i)

  pub given_count : (cs : List (Bor (Asked B))) → length (given A cs) ≡ length cs
  given_count cs = length-map cs (λ (c : Bor (Asked B)). under A c.now)

  -- how many sectors its record takes
  pub given_size : (form : Form) (before : ℕ) (cs : List (Bor (Asked B))) →
      data_size (record_text form before (given A cs)) ≡ (head_len form + length (flat_map (λ c. command_text c.now) cs) + 511) / 512
  given_size form before cs =
      let bytes : length (flat_map command_text (given A cs)) ≡ length (flat_map (λ c. command_text c.now) cs) = ap length (given_bytes cs) in
      omega (arith, bytes, length-text form before (given A cs))

  -- a head and the commands' bytes after it
  pub given_text : (form : Form) (before : ℕ) (cs : List (Bor (Asked B))) (count size : ℕ) (head all : List ℕ) →
      head ≡ big 2 count ++ (first_text (first_of form before) ++ big 4 size) → count ≡ length cs →
      size ≡ length (flat_map (λ c. command_text c.now) cs)
      → all ≡ head ++ flat_map (λ c. command_text c.now) cs → all ≡ record_text form before (given A cs)
  unfolding packed_text
  given_text form before cs count size head all head_is count_is size_is e =
      let number : List ℕ = first_text (first_of form before) in
      let body : List ℕ = flat_map (λ c. command_text c.now) cs in
      let grouped : (big 2 count ++ (number ++ big 4 size)) ++ body ≡ big 2 count ++ (number ++ (big 4 size ++ body)) = simp append_assoc in
      e ∙ ap (λ (l : List ℕ). l ++ flat_map (λ c. command_text c.now) cs) head_is ∙ grouped
      ∙ rw (count_is, size_is, given_bytes cs, given_count cs) refl

  pub given_record : (cs : List (Bor (Asked B))) → 1 ≤ length cs → length cs ≤ most_commands → All (λ c. IsCommand c.now) cs → IsRecord (given A cs)
  given_record cs some few each = record {
    some = rw (given_count cs) some;
    few = rw (given_count cs) few;
    each = All-map IsCommand (λ (c : Bor (Asked B)). under A c.now) cs
        (All-weaker (λ (c : Bor (Asked B)). IsCommand c.now) (λ (c : Bor (Asked B)). IsCommand (under A c.now)) (λ c is. is_under c.now is) cs each);
  }
