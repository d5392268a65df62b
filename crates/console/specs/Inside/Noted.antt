-- The event that a note is of.
use Rattle.console.specs.Events.{Event}
use Rattle.console.specs.Events as event
use Rattle.console.specs.declared.events.Note.{Note}
use Rattle.console.specs.declared.events.Note.TheVariants.{Read, ReadFailed, Answered, Wrote, WriteFailed}

-- the event that is noted, with its bytes
abbrev pub event_of : Note → Event
event_of (Read bytes) = event.Read bytes.now
event_of ReadFailed = event.ReadFailed
event_of (Answered text) = event.Answered text.now
event_of (Wrote bytes) = event.Wrote bytes.now
event_of WriteFailed = event.WriteFailed
