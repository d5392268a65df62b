-- The bits of the groups of a PDU (clause 16.10, group identity uplink and group identity downlink).
use Rattle.std.specs.Prelude.{ℕ, ◌<◌, ◌^◌, Bool, true, false, List, [], ◌∷◌, ◌++◌, length, Option, Some, None}
use Rattle.std.specs.List.{flat_map}
use Rattle.identity.specs.Number.{num}
use Rattle.identity.specs.Identity.{mcc_of, mnc_of, ssi_of}
use Rattle.mm_pdus.specs.declared.address.GroupAddress.{GroupAddress}
use Rattle.mm_pdus.specs.declared.address.GroupAddress.TheVariants.{Short, Full}
use Rattle.mm_pdus.specs.declared.group.GroupUp.{GroupUp}
use Rattle.mm_pdus.specs.declared.group.GroupUp.TheVariants as up
use Rattle.mm_pdus.specs.declared.group.GroupDown.{GroupDown}
use Rattle.mm_pdus.specs.declared.group.GroupDown.TheVariants as down
use Rattle.mm_pdus.specs.Values.{lifetime_number, leave_number, detach_number}
use Rattle.mm_pdus.specs.Syntax.{Element, Extension}

-- The address type and the GSSI, and after a full one the country code and the network code.
abbrev pub address : GroupAddress → List Bool
address (Short gssi) = num 2 0 ++ num 24 gssi
address (Full gtsi) = num 2 1 ++ num 24 (ssi_of gtsi) ++ num 10 (mcc_of gtsi) ++ num 14 (mnc_of gtsi)

-- A GSSI has 24 bits, and a GTSI 48.
abbrev pub IsAddress : GroupAddress → Type 0
IsAddress (Short gssi) = gssi < 2 ^ 24
IsAddress (Full gtsi) = gtsi < 2 ^ 48

-- One group from a radio: the bit 0 and the class of usage, or the bit 1 and the reason, and the address.
abbrev pub group_up : GroupUp → List Bool
group_up (up.Attach class a) = false ∷ num 3 class ++ address a
group_up (up.Leave reason a) = true ∷ num 2 (leave_number reason) ++ address a

-- Each value fits its bits: a class of usage 3, and an address those of its type.
abbrev pub IsGroupUp : GroupUp → Type 0
IsGroupUp (up.Attach class a) = (class < 2 ^ 3) × IsAddress a
IsGroupUp (up.Leave reason a) = IsAddress a

-- One group to a radio: the bit 0, the lifetime and the class of usage, or the bit 1 and the reason, and the address.
abbrev pub group_down : GroupDown → List Bool
group_down (down.Attach lifetime class a) = false ∷ num 2 (lifetime_number lifetime) ++ num 3 class ++ address a
group_down (down.Detach reason a) = true ∷ num 2 (detach_number reason) ++ address a

-- The same of a group to a radio.
abbrev pub IsGroupDown : GroupDown → Type 0
IsGroupDown (down.Attach lifetime class a) = (class < 2 ^ 3) × IsAddress a
IsGroupDown (down.Detach reason a) = IsAddress a

-- whether the group is detached
abbrev pub is_detach : GroupDown → Bool
is_detach (down.Attach lifetime class a) = false
is_detach (down.Detach reason a) = true

module _ {T : Type 0} (text : T → List Bool) where
  -- The body of an element with groups: their number, and each group.
  abbrev pub groups_body : List T → List Bool
  groups_body items = num 6 (length items) ++ flat_map text items

  -- The element with this identifier and these groups.
  abbrev pub groups_element : ℕ → List T → Element
  groups_element identifier items = record { identifier = identifier; body = groups_body items }

  -- The canonical form: no element where there are no groups, else one with all of them.
  abbrev pub groups_extension : ℕ → List T → Option Extension
  groups_extension identifier [] = None
  groups_extension identifier (first ∷ others) = Some (record { parts = []; elements = groups_element identifier (first ∷ others) ∷ [] })
