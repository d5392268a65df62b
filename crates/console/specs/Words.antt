-- The words of the answers.
use Rattle.std.specs.Prelude.{List, codes}
use Rattle.identity.specs.Numbers.{Byte}
use Rattle.mm_pdus.specs.declared.fault.MmFault.{MmFault}
use Rattle.mm_pdus.specs.declared.fault.MmFault.TheVariants as mm
use Rattle.registration.specs.declared.fault.RegFault.{RegFault}
use Rattle.registration.specs.declared.fault.RegFault.TheVariants as reg
use Rattle.group_attach.specs.declared.fault.GroupFault.{GroupFault}
use Rattle.group_attach.specs.declared.fault.GroupFault.TheVariants as group
use Rattle.sds_tl.specs.declared.fault.SdsFault.{SdsFault}
use Rattle.sds_tl.specs.declared.fault.SdsFault.TheVariants as sds
use Rattle.mailbox.specs.declared.fault.MailFault.{MailFault}
use Rattle.mailbox.specs.declared.fault.MailFault.TheVariants as mail
use Rattle.console.specs.declared.line.LineFault.{LineFault}
use Rattle.console.specs.declared.line.LineFault.TheVariants as line

-- the word after "bad"
abbrev pub line_word : LineFault → List Byte
line_word line.Syntax = codes "syntax"
line_word line.Value = codes "value"
line_word line.TooLong = codes "too-long"

-- the faults of a mobility management PDU
abbrev pub mm_word : MmFault → List Byte
mm_word mm.Short = codes "mm-short"
mm_word mm.Trailing = codes "mm-trailing"
mm_word mm.UnknownType = codes "mm-unknown-type"
mm_word mm.BadElement = codes "mm-bad-element"
mm_word mm.UnsupportedAddress = codes "mm-unsupported-address"
mm_word mm.TooMany = codes "mm-too-many"
mm_word mm.NoMemory = codes "memory"

-- the faults of rules and radios
abbrev pub registration_word : RegFault → List Byte
registration_word reg.UnknownIdentity = codes "unknown-identity"
registration_word reg.LaNotAllowed = codes "la-not-allowed"
registration_word reg.Congestion = codes "congestion"
registration_word reg.Migration = codes "migration"
registration_word reg.UnsupportedType = codes "unsupported-type"
registration_word reg.NotAttached = codes "not-attached"
registration_word reg.RulesFull = codes "rules-full"
registration_word reg.NoMemory = codes "memory"

-- the faults of a radio's groups
abbrev pub group_word : GroupFault → List Byte
group_word group.NotAttached = codes "not-attached"
group_word group.TooManyGroups = codes "too-many-groups"
group_word group.NoMemory = codes "memory"

-- the faults of a short data PDU
abbrev pub sds_word : SdsFault → List Byte
sds_word sds.Short = codes "sds-short"
sds_word sds.Trailing = codes "sds-trailing"
sds_word sds.NotSdsTl = codes "not-sds-tl"
sds_word sds.UnknownType = codes "sds-unknown-type"
sds_word sds.StorageControl = codes "storage-control"
sds_word sds.TooLong = codes "too-long"
sds_word sds.NoMemory = codes "memory"
sds_word sds.NotATransfer = codes "not-a-transfer"

-- the faults of messages and reports
abbrev pub mail_word : MailFault → List Byte
mail_word mail.UnknownDestination = codes "unknown-destination"
mail_word mail.NotAttached = codes "not-attached"
mail_word mail.ReferenceBusy = codes "reference-busy"
mail_word mail.MailboxFull = codes "mailbox-full"
mail_word mail.CentreFull = codes "centre-full"
mail_word mail.NoSuchMessage = codes "no-such-message"
mail_word mail.NoMemory = codes "memory"
mail_word mail.NoMembers = codes "no-members"
