-- How long commands are.
use Rattle.std.specs.Prelude.{ℕ, ◌+◌, length}
use Rattle.centre_core.specs.declared.command.Body.{Body}
use Rattle.centre_core.specs.declared.command.Body.TheVariants.{RuleSet, RuleClear, Mm, Sds, GroupSds, Sent, Expire, Delete}
use Rattle.command_bytes.specs.Fields.{bytes_for}

module _ {A : Type 0} where
  -- how many bytes follow a tag
  abbrev pub body_size : Body A → ℕ
  body_size (RuleSet prefix rule) = 16
  body_size (RuleClear prefix) = 7
  body_size (Mm itsi area pdu) = 10 + bytes_for (length pdu)
  body_size (Sds source destination pdu) = 14 + bytes_for (length pdu)
  body_size (Sent key) = 14
  body_size Expire = 0
  body_size (Delete key) = 14
  body_size (GroupSds source group pdu) = 14 + bytes_for (length pdu)
