-- What was read, with its bits still in the bytes, as a command.
use Rattle.centre_core.specs.declared.command.Body.{Body}
use Rattle.centre_core.specs.declared.command.Body.TheVariants.{RuleSet, RuleClear, Mm, Sds, GroupSds, Sent, Expire, Delete}
use Rattle.centre_core.specs.Asked.{Asked}
use Rattle.command_bytes.specs.declared.body.ReadBody.{ReadBody}
use Rattle.command_bytes.specs.declared.body.ReadBody.TheVariants as read
use Rattle.command_bytes.specs.declared.command.ReadCommand.{ReadCommand}

module _ {A : Type 0} where
  -- the body that was read
  abbrev pub body_view : ReadBody → Body A
  body_view (read.RuleSet prefix rule) = RuleSet prefix rule
  body_view (read.RuleClear prefix) = RuleClear prefix
  body_view (read.Mm itsi area pdu) = Mm itsi area pdu
  body_view (read.Sds source destination pdu) = Sds source destination pdu
  body_view (read.GroupSds source group pdu) = GroupSds source group pdu
  body_view (read.Sent key) = Sent key
  body_view read.Expire = Expire
  body_view (read.Delete key) = Delete key

  -- the command that was read
  abbrev pub command_view : ReadCommand → Asked A
  command_view c = record { station = c.station; sequence = c.sequence; moment = c.moment; body = body_view c.body }
