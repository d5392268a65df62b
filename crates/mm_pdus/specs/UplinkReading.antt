-- Reading a PDU from a radio: its value, or the first fault from the left.
use Rattle.std.specs.Prelude.{Bool, List, [], length, take, Result, Ok, Err, ◌==◌, if◌then◌else◌}
use Rattle.identity.specs.Number.{number}
use Rattle.mm_pdus.specs.declared.fault.MmFault.{MmFault}
use Rattle.mm_pdus.specs.declared.fault.MmFault.TheVariants.{UnknownType}
use Rattle.mm_pdus.specs.declared.group.GroupUp.{GroupUp}
use Rattle.mm_pdus.specs.declared.uplink.MmUp.{MmUp}
use Rattle.mm_pdus.specs.declared.uplink.MmUp.TheVariants.{Demand, Detach, Groups}
use Rattle.mm_pdus.specs.Values.{update_of, mode_of}
use Rattle.mm_pdus.specs.Syntax.{Element}
use Rattle.mm_pdus.specs.Uplink.{detach_widths, demand_widths, identity_uplink}
use Rattle.mm_pdus.specs.Reading.{Part, ◌>>=◌, known, bit_at, field_at, optional_at, extension_at, elements_at, whole}
use Rattle.mm_pdus.specs.GroupReading.{group_up_at, unkept, body_at, appended_to}

-- `group_at` reads a group.
module _ (group_at : List Bool → Part GroupUp) where
  -- the groups of an element with groups are appended to the earlier ones; other elements are skipped
  abbrev pub join_groups : List GroupUp → Element → Result (List GroupUp) MmFault
  join_groups items e = if e.identifier == identity_uplink then appended_to items (body_at group_at (length items) e.body) else Ok items

  -- the O-bit, and the groups of all elements where it is 1
  unfoldable pub all_groups_at : List Bool → Part (List GroupUp)
  all_groups_at bits = do
    more ← bit_at bits
    if more.0 then elements_at join_groups (length more.1) [] more.1 else Ok ([], more.1)

-- whether the PDU type is U-ATTACH/DETACH GROUP IDENTITY, whose groups need memory
abbrev pub names_groups : List Bool → Bool
names_groups bits = number (take 4 bits) == 7

module _ {A : Type 0} where
  -- a U-ITSI DETACH after its PDU type
  unfoldable pub detach_at : List Bool → Part (MmUp A)
  detach_at bits = do
    rest ← extension_at detach_widths bits
    Ok (Detach, rest)

  -- a U-LOCATION UPDATE DEMAND after its PDU type
  unfoldable pub demand_at : List Bool → Part (MmUp A)
  demand_at bits = do
    number ← field_at 3 bits
    update ← known (update_of number.0)
    append ← bit_at number.1
    rest ← optional_at 10 append.1
    rest ← extension_at demand_widths rest
    Ok (Demand update, rest)

  module _ (group_at : List Bool → Part GroupUp) where
    -- a U-ATTACH/DETACH GROUP IDENTITY after its PDU type
    unfoldable pub groups_up_at : List Bool → Part (MmUp A)
    groups_up_at bits = do
      report ← bit_at bits
      mode ← bit_at report.1
      items ← all_groups_at group_at mode.1
      Ok (Groups (mode_of mode.0) items.0, items.1)

    -- the PDU type, and what follows it in a PDU of that type
    unfoldable pub up_at : List Bool → Part (MmUp A)
    up_at bits = do
      kind ← field_at 4 bits
      if kind.0 == 1 then detach_at kind.1 else if kind.0 == 2 then demand_at kind.1 else if kind.0 == 7 then groups_up_at kind.1 else Err UnknownType

  -- the PDU from a radio that all of the bits spell, or the first fault
  unfoldable pub reading_up : List Bool → Result (MmUp A) MmFault
  reading_up bits = whole (up_at group_up_at bits)

  -- the same where there is no memory for any group
  unfoldable pub unkept_up : List Bool → Result (MmUp A) MmFault
  unkept_up bits = whole (up_at (unkept group_up_at) bits)
