-- What the calls that read a half answer.
use Rattle.std.specs.Prelude.{◌≡◌, ◌⊎◌, ◌+◌, ◌-◌, ◌<◌, ◌≤◌, ℕ, List, length, map, option_map, IfNone, IfOk, IfSome, Option, Some, None, Result, Ok, Err, Vec}
use Rattle.identity.specs.Numbers.{Byte}
use Rattle.centre_core.specs.Asked.{Asked}
use Rattle.sector_disk.specs.Numbers.{Sector}
use Rattle.sector_disk.specs.Disk.{View}
use Rattle.gated_journal.specs.Half.{RecordAt, Found, Half, counted, half_of, record_at}
use Rattle.gated_journal.specs.Settled.{HasNumbersLeft, half_in}
use Rattle.gated_journal.specs.declared.form.Form.{Form}
use Rattle.gated_journal.specs.declared.place.Place.{Place}
use Rattle.gated_journal.specs.declared.record.Record.{Record}
use Rattle.gated_journal.specs.declared.fault.JournalError.{JournalError}
use Rattle.gated_journal.specs.declared.fault.JournalError.TheVariants.{JournalFull, DiskFault, Damaged, NoMemory}

-- What an error of a read states of `is`, which is what the disk reads as. `Damaged` names the sector at fault. `DiskFault` and
-- `NoMemory` state nothing. `JournalFull` does not come.
abbrev pub Fails : {Y : Type 0} → JournalError → Result Y Sector → Type 0
Fails (Damaged at) is = is ≡ Err at
Fails DiskFault is = Unit {0}
Fails NoMemory is = Unit {0}
Fails JournalFull is = ⊥

-- A read answers `is`, which is what the disk reads as. At `Ok`, `is` equals what was read, as `view` models it. An error
-- is as `Fails` states.
abbrev pub Answers : {X Y : Type 0} → (X → Y) → Result X JournalError → Result Y Sector → Type 0
Answers view (Ok x) is = is ≡ Ok (view x)
Answers view (Err e) is = Fails e is

-- an error that a call which reads may answer: `DiskFault`, `NoMemory`, or `Damaged` with a sector before the end of the half
abbrev pub IsOfReading : Sector → JournalError → Type 0
IsOfReading end JournalFull = ⊥
IsOfReading end DiskFault = Unit {0}
IsOfReading end (Damaged at) = at < end
IsOfReading end NoMemory = Unit {0}

-- An error that a call which only judges may answer: `DiskFault`, or `Damaged` with a sector before the end of the half. Such a
-- call takes no memory, so `NoMemory` does not come.
abbrev pub IsOfJudging : Sector → JournalError → Type 0
IsOfJudging end JournalFull = ⊥
IsOfJudging end DiskFault = Unit {0}
IsOfJudging end (Damaged at) = at < end
IsOfJudging end NoMemory = ⊥

module _ {A : Type 0} where
  -- what was read at a gate: nothing, or a record's commands and the next gate
  abbrev pub found_view : Option (Vec (Asked A) A × Sector) → Option (List (Asked A) × Sector)
  found_view None = None
  found_view (Some x) = Some (x.0.items, x.1)

  -- a record as its bytes state it: the number of its first command, where it states one, and its commands
  abbrev pub stated_view : Record A → Option ℕ × List (Asked A)
  stated_view stated = (stated.first, stated.commands.items)

  -- a record that was read, with its first data sector
  abbrev pub entry_view : Sector × Vec (Asked A) A → RecordAt A
  entry_view x = (x.0, x.1.items)

  -- records that were read, in order, each with its first data sector
  abbrev pub entries_view : List (Sector × Vec (Asked A) A) → List (RecordAt A)
  entries_view xs = map entry_view xs

  -- what was read at a gate: nothing, or a record's commands and this gate after it; the record's first data sector is left out
  abbrev pub next_view : Sector → Option (Sector × Vec (Asked A) A) → Option (List (Asked A) × Sector)
  next_view gate found = option_map (λ x. (x.1.items, gate)) found

  -- what was read from a gate on: the records, and the next gate of the place or journal that continues after them
  abbrev pub half_view : Place × Vec (Sector × Vec (Asked A) A) A → List (RecordAt A) × Sector
  half_view x = (entries_view x.1.items, x.0.next)

  -- ---- where a journal is after what was read

  -- `after` is where a journal at `place` continues after these records. Both have the same half and the same form. The next gate of
  -- `after` is that of `place` or a later one, before the half's end. `after` counts the commands of these records too.
  pub record Continues (place after : Place) (entries : List (RecordAt A)) : Type 0 where
    pub first : after.first ≡ place.first
    pub end : after.end ≡ place.end
    pub form : after.form ≡ place.form
    pub up : place.next ≤ after.next
    pub within : after.next < place.end
    pub count : after.count ≡ counted place.count entries

  -- Where a journal is after a read at its next gate: it was at `place`, and is at `after`, in the same half. If a record was read,
  -- `after` has a later gate and counts the record's commands too. If the gate was closed, `after` is `place`.
  pub record MovesOn (place after : Place) (result : Result (Option (Sector × Vec (Asked A) A)) JournalError) : Type 0 where
    pub at : IfOk result (λ found. IfSome found (λ x. (x.0 ≡ place.next + 1) × (x.0 < after.next)))
    pub first : after.first ≡ place.first
    pub end : after.end ≡ place.end
    pub form : after.form ≡ place.form
    pub count : IfOk result (λ found. IfSome found (λ x. after.count ≡ place.count + length x.1.items))
    pub counted : HasNumbersLeft after
    pub next : after.next < place.end
    pub closed : IfOk result (λ found. IfNone found (after ≡ place))

  -- ---- what is judged and not kept

  -- A judgement answers `is`, which is what the disk reads as at a gate. At `Ok` the answer is nothing, or how many commands the
  -- record has and the next gate. An error is as `Fails` states.
  abbrev pub IsJudged : Result (Option (ℕ × Sector)) JournalError → Found A → Type 0
  IsJudged (Ok None) is = is ≡ Ok None
  IsJudged (Ok (Some count_and_next)) is = (commands : List (Asked A)) × (length commands ≡ count_and_next.0) × (is ≡ Ok (Some (commands, count_and_next.1)))
  IsJudged (Err e) is = Fails e is

  -- What a judgement states of `is`, which is what a half reads as. At `Ok` there are records alone, up to a closed gate. An error
  -- is as `Fails` states.
  abbrev pub AreJudged : Result Unit JournalError → Half A → Type 0
  AreJudged (Ok u) is = (held : List (RecordAt A) × Sector) × (is ≡ Ok held)
  AreJudged (Err e) is = Fails e is

-- the disk has had `times` more calls in `new` than in `old`
abbrev pub HasCalledTimes : View → View → ℕ → Type 0
HasCalledTimes old new times = length new.calls ≡ length old.calls + times

-- ---- where memory may run out

-- a record is at the gate, after so many accepted commands
abbrev pub HasRecord : Type 0 → Form → ℕ → List (List Byte) → Sector → Sector → Type 0
HasRecord A form before image at end = (x : List (Asked A) × Sector) × (record_at form before image at end ≡ Ok (Some x))

-- from the gate `at` on there are records alone, up to a closed gate
abbrev pub HasRecords : Type 0 → Form → ℕ → List (List Byte) → Sector → Sector → Type 0
HasRecords A form before image at end = (held : List (RecordAt A) × Sector) × (half_of form before image at end ≡ Ok held)

-- a record is at the next gate of a place, as the disk reads
abbrev pub HasRecordIn : Type 0 → Place → View → Type 0
HasRecordIn A place disk = HasRecord A place.form place.count disk.reads place.next place.end

-- from the next gate of a place on there are records alone, up to a closed gate, as the disk reads
abbrev pub HasRecordsIn : Type 0 → Place → View → Type 0
HasRecordsIn A place disk = HasRecords A place.form place.count disk.reads place.next place.end

-- the disk had no call, or from the next gate of a place on there are records alone, up to a closed gate
abbrev pub IsUnreadOrWhole : Type 0 → Place → View → View → Type 0
IsUnreadOrWhole A place old new = (new.calls ≡ old.calls) ⊎ HasRecordsIn A place old

-- If there are records alone from the next gate of a place on, a closed gate follows them. The disk has then had as many calls as
-- there are sectors from the one gate to the other, both included.
abbrev pub IsReadOnce : Type 0 → Place → View → View → Type 0
IsReadOnce A place old new = (held : List (RecordAt A) × Sector) → half_in A place old ≡ Ok held → HasCalledTimes old new (held.1 + 1 - place.next)
