-- How long the texts of commands are.
use Rattle.std.proofs.Common.{◌≡◌, ℕ, ◌+◌, ◌≤◌, Bool, List, [], ◌++◌, length, refl, sym, arith}
use Rattle.std.proofs.lemmas.List.{append-nil, length-append}
use Rattle.registration.specs.declared.rule.Rule.{Rule}
use Rattle.mailbox.specs.declared.key.Key.{Key}
use Rattle.centre_core.specs.declared.command.Body.{Body}
use Rattle.centre_core.specs.declared.command.Body.TheVariants.{RuleSet, RuleClear, Mm, Sds, GroupSds, Sent, Expire, Delete}
use Rattle.centre_core.specs.Asked.{Asked}
use Rattle.centre_core.specs.Ranges.{BodyInRange}
use Rattle.command_bytes.specs.Fields.{big, left, bytes_for}
use Rattle.command_bytes.specs.Text.{prefix_text, rule_text, bits_text, key_text, tag_of, body_text, command_text, IsCommand, longest}
use Rattle.command_bytes.specs.Inside.Sizes.{body_size}
use Rattle.command_bytes.proofs.Numbers.{length-big}

length-left : (w : ℕ) (bits : List Bool) → length (left w bits) ≡ w
unfolding left
length-left w bits = length-big w _

pub length-prefix : (prefix : List Bool) → length (prefix_text prefix) ≡ 7
length-prefix prefix = omega (arith, length-append (big 1 (length prefix)) (left 6 prefix), length-big 1 (length prefix), length-left 6 prefix)

pub length-bits : (bits : List Bool) → length (bits_text bits) ≡ 2 + bytes_for (length bits)
length-bits bits = omega (arith, length-append (big 2 (length bits)) (left (bytes_for (length bits)) bits), length-big 2 (length bits), length-left (bytes_for (length bits)) bits)

pub length-rule : (rule : Rule) → length (rule_text rule) ≡ 9
unfolding big
length-rule rule = refl

pub length-key : (key : Key) → length (key_text key) ≡ 14
unfolding big
length-key key = refl

-- two numbers and a string of bits
length-three : (v w m n : ℕ) (pdu : List Bool) → length ((big v m ++ big w n) ++ bits_text pdu) ≡ v + w + 2 + bytes_for (length pdu)
length-three v w m n pdu = omega (arith, length-append (big v m ++ big w n) (bits_text pdu), length-append (big v m) (big w n), length-big v m, length-big w n, length-bits pdu)

module _ {A : Type 0} where
  pub length-body : (body : Body A) → length (body_text body) ≡ body_size body
  length-body (RuleSet prefix rule) = omega (arith, length-append (prefix_text prefix) (rule_text rule), length-prefix prefix, length-rule rule)
  length-body (RuleClear prefix) = length-prefix prefix
  length-body (Mm itsi area pdu) = length-three 6 2 itsi area pdu
  length-body (Sds source destination pdu) = length-three 6 6 source destination pdu
  length-body (Sent key) = length-key key
  length-body Expire = refl
  length-body (Delete key) = length-key key
  length-body (GroupSds source group pdu) = length-three 6 6 source group pdu

  length-head : (c : Asked A) → length (big 2 c.station ++ big 4 c.sequence ++ big 4 c.moment ++ big 1 (tag_of c.body)) ≡ 11
  unfolding big
  length-head c = refl

  pub command_size : (c : Asked A) → length (command_text c) ≡ 11 + body_size c.body
  unfolding command_text
  command_size c =
      let head = big 2 c.station ++ big 4 c.sequence ++ big 4 c.moment ++ big 1 (tag_of c.body) in
      omega (arith, length-append head (body_text c.body), length-head c, length-body c.body)

  body_short : (body : Body A) → BodyInRange body → body_size body ≤ 270
  body_short (RuleSet prefix rule) fits = omega arith
  body_short (RuleClear prefix) fits = omega arith
  body_short (Mm itsi area pdu) fits = let few = fits.2 in omega (arith, few)
  body_short (Sds source destination pdu) fits = let few = fits.2 in omega (arith, few)
  body_short (Sent key) fits = omega arith
  body_short Expire fits = omega arith
  body_short (Delete key) fits = omega arith
  body_short (GroupSds source group pdu) fits = let few = fits.2 in omega (arith, few)

  pub command_short : (c : Asked A) → IsCommand c → length (command_text c) ≤ longest
  command_short c fits = omega (arith, command_size c, body_short c.body fits.range.body)

pub nothing : (l : List ℕ) → l ≡ l ++ []
nothing l = sym (append-nil l)
