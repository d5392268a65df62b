-- A command under two allocators: the same values, with the bits allocated elsewhere.
use Rattle.std.specs.Prelude.{◌≡◌}
use Rattle.centre_core.specs.declared.command.Command.{Command}
use Rattle.centre_core.specs.declared.command.Body.{Body}
use Rattle.centre_core.specs.declared.command.Body.TheVariants.{RuleSet, RuleClear, Mm, Sds, GroupSds, Sent, Expire, Delete}

-- the same body, with its bits under the allocator B
abbrev pub body_under : {A : Type 0} (B : Type 0) → Body A → Body B
body_under B (RuleSet prefix rule) = RuleSet prefix rule
body_under B (RuleClear prefix) = RuleClear prefix
body_under B (Mm itsi area pdu) = Mm itsi area pdu
body_under B (Sds source destination pdu) = Sds source destination pdu
body_under B (GroupSds source group pdu) = GroupSds source group pdu
body_under B (Sent key) = Sent key
body_under B Expire = Expire
body_under B (Delete key) = Delete key

-- the same command
abbrev pub under : {A : Type 0} (B : Type 0) → Command A → Command B
under B c = record { station = c.station; sequence = c.sequence; moment = c.moment; body = body_under B c.body }

-- the two are the same command
abbrev pub IsSame : {A B : Type 0} → Command A → Command B → Type 0
IsSame {A} {B} c d = under B c ≡ d
