-- The call that a note is of.
use Rattle.sector_disk.specs.declared.record.Call.{Call}
use Rattle.sector_disk.specs.declared.record.Call.TheVariants as call
use Rattle.file_disk.specs.declared.history.Note.{Note}
use Rattle.file_disk.specs.declared.history.Note.TheVariants.{Read, Write, Sync}

-- the call that is noted, with its bytes
abbrev pub call_of : Note → Call
call_of (Read at) = call.Read at
call_of (Write at bytes) = call.Write at bytes.now
call_of Sync = call.Sync
