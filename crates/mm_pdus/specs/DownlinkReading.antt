-- Reading a PDU to a radio: its value, or the first fault from the left.
use Rattle.std.specs.Bool.{beq}
use Rattle.std.specs.Prelude.{Bool, true, List, [], length, take, Result, Ok, Err, nat_lt, ◌==◌, if◌then◌else◌}
use Rattle.identity.specs.Number.{number}
use Rattle.mm_pdus.specs.declared.fault.MmFault.{MmFault}
use Rattle.mm_pdus.specs.declared.fault.MmFault.TheVariants.{UnknownType}
use Rattle.mm_pdus.specs.declared.group.GroupDown.{GroupDown}
use Rattle.mm_pdus.specs.declared.downlink.MmDown.{MmDown}
use Rattle.mm_pdus.specs.declared.downlink.MmDown.TheVariants.{Accept, Reject, Acknowledge}
use Rattle.mm_pdus.specs.Values.{update_of, accept_of}
use Rattle.mm_pdus.specs.Downlink.{identity_downlink, rejects}
use Rattle.mm_pdus.specs.Reading.{Part, ◌>>=◌, known, needs, bit_at, clear_at, field_at, piece_at, whole}
use Rattle.mm_pdus.specs.GroupReading.{group_down_at, unkept, body_at}

-- `group_at` reads a group.
module _ (group_at : List Bool → Part GroupDown) where
  -- the one element with groups, of which there is at least one, and no element after it
  unfoldable pub one_element_at : List Bool → Part (List GroupDown)
  one_element_at bits = do
    more ← bit_at bits
    there ← needs more.0
    identifier ← field_at 4 more.1
    known ← needs (identifier.0 == identity_downlink)
    len ← field_at 11 identifier.1
    body ← piece_at len.0 len.1
    items ← body_at group_at 0 body.0
    some ← needs (nat_lt 0 (length items))
    rest ← clear_at body.1
    Ok (items, rest)

  -- the O-bit, and the groups where it is 1
  unfoldable pub answers_at : List Bool → Part (List GroupDown)
  answers_at bits = do
    more ← bit_at bits
    if more.0 then one_element_at more.1 else Ok ([], more.1)

-- whether the PDU type is D-ATTACH/DETACH GROUP IDENTITY ACKNOWLEDGEMENT, whose groups need memory
abbrev pub names_groups : List Bool → Bool
names_groups bits = number (take 4 bits) == 11

-- Each reading gives a PDU, and whether its bit for rejected groups agrees with its groups.
module _ {A : Type 0} where
  -- after the accept type the O-bit
  unfoldable pub accept_at : List Bool → Part (MmDown A × Bool)
  accept_at bits = do
    number ← field_at 3 bits
    update ← known (update_of number.0)
    accept ← known (accept_of update)
    rest ← clear_at number.1
    Ok ((Accept accept, true), rest)

  -- after the cause cipher control and the O-bit
  unfoldable pub reject_at : List Bool → Part (MmDown A × Bool)
  reject_at bits = do
    number ← field_at 3 bits
    update ← known (update_of number.0)
    cause ← field_at 5 number.1
    rest ← clear_at cause.1
    rest ← clear_at rest
    Ok ((Reject update cause.0, true), rest)

  module _ (group_at : List Bool → Part GroupDown) where
    -- the reserved bit is ignored
    unfoldable pub acknowledge_at : List Bool → Part (MmDown A × Bool)
    acknowledge_at bits = do
      rejected ← bit_at bits
      reserved ← bit_at rejected.1
      items ← answers_at group_at reserved.1
      Ok ((Acknowledge items.0, beq rejected.0 (rejects items.0)), items.1)

    -- the PDU type, and what follows it in a PDU of that type
    unfoldable pub down_at : List Bool → Part (MmDown A × Bool)
    down_at bits = do
      kind ← field_at 4 bits
      if kind.0 == 5 then accept_at kind.1 else if kind.0 == 7 then reject_at kind.1 else if kind.0 == 11 then acknowledge_at kind.1 else Err UnknownType

  -- a PDU whose bit for rejected groups is wrong is refused; this is judged last
  abbrev pub judged : Result (MmDown A × Bool) MmFault → Result (MmDown A) MmFault
  judged all = do
    read ← all
    said ← needs read.1
    Ok read.0

  -- the PDU to a radio that all of the bits spell, or the first fault
  unfoldable pub reading_down : List Bool → Result (MmDown A) MmFault
  reading_down bits = judged (whole (down_at group_down_at bits))

  -- the same where there is no memory for any group
  unfoldable pub unkept_down : List Bool → Result (MmDown A) MmFault
  unkept_down bits = judged (whole (down_at (unkept group_down_at) bits))
