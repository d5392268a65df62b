use Rattle.std.proofs.Common.{◌≡◌, take, map}
use Rattle.centre_core.proofs.tables.group_messages.radios.Given as goal

abbrev pub invariant-loop-attachment : goal.invariant-loop-attachment
invariant-loop-attachment g l = l.radios.items ≡ map (λ a. a.itsi) (take l.attachment-index l.attachments)
