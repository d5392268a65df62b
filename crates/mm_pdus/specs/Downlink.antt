-- The bits of PDUs to a radio: D-LOCATION UPDATE ACCEPT, D-LOCATION UPDATE REJECT and D-ATTACH/DETACH GROUP IDENTITY ACKNOWLEDGEMENT (clause 16.9.2).
use Rattle.std.specs.Prelude.{◌≡◌, ℕ, ◌<◌, ◌≤◌, ◌^◌, Bool, true, false, List, [], ◌∷◌, ◌++◌, length}
use Rattle.std.specs.List.{AllByRecursion, list_any}
use Rattle.identity.specs.Number.{num}
use Rattle.mm_pdus.specs.Numbers.{Cause}
use Rattle.mm_pdus.specs.declared.update.AcceptType.{AcceptType}
use Rattle.mm_pdus.specs.declared.update.LocationUpdateType.{LocationUpdateType}
use Rattle.mm_pdus.specs.declared.group.GroupDown.{GroupDown}
use Rattle.mm_pdus.specs.declared.downlink.MmDown.{MmDown}
use Rattle.mm_pdus.specs.declared.downlink.MmDown.TheVariants.{Accept, Reject, Acknowledge}
use Rattle.mm_pdus.specs.Values.{update_number, update_accepted, most_groups}
use Rattle.mm_pdus.specs.Syntax.{extension}
use Rattle.mm_pdus.specs.Groups.{group_down, IsGroupDown, is_detach, groups_extension}

-- the identifier of the element group identity downlink
abbrev pub identity_downlink : ℕ
identity_downlink = 7

-- group identity accept/reject: whether at least one group is rejected
abbrev pub rejects : List GroupDown → Bool
rejects items = list_any is_detach items

-- a D-LOCATION UPDATE ACCEPT: the type; no element follows, here and in a reject. An acknowledgement has one element with all groups
abbrev pub accept_text : AcceptType → List Bool
accept_text update = num 4 5 ++ num 3 (update_number (update_accepted update)) ++ false ∷ []

-- a D-LOCATION UPDATE REJECT: the type of the update, and the reject cause; there is no cipher control
abbrev pub reject_text : LocationUpdateType → Cause → List Bool
reject_text update cause = num 4 7 ++ num 3 (update_number update) ++ num 5 cause ++ false ∷ false ∷ []

-- a D-ATTACH/DETACH GROUP IDENTITY ACKNOWLEDGEMENT with this reserved bit
abbrev pub acknowledge_text : Bool → List GroupDown → List Bool
acknowledge_text reserved items = num 4 11 ++ rejects items ∷ reserved ∷ extension (groups_extension group_down identity_downlink items)

-- No value depends on A, the allocator of a PDU's groups.
module _ {A : Type 0} where
  -- A reject cause has five bits; there are at most 32 groups, and each value has the bits that it needs.
  abbrev pub IsDown : MmDown A → Type 0
  IsDown (Accept update) = Unit {0}
  IsDown (Reject update cause) = cause < 2 ^ 5
  IsDown (Acknowledge items) = (length items ≤ most_groups) × AllByRecursion IsGroupDown items

  -- the text with this reserved bit, where it has one
  abbrev pub down_text : Bool → MmDown A → List Bool
  down_text reserved (Accept update) = accept_text update
  down_text reserved (Reject update cause) = reject_text update cause
  down_text reserved (Acknowledge items) = acknowledge_text reserved items

  -- The canonical text, which is written.
  abbrev pub canon_down : MmDown A → List Bool
  canon_down pdu = down_text false pdu

  -- The bits spell the PDU: they are its canonical text, but the reserved bit may be 1.
  abbrev pub SpellsDown : MmDown A → List Bool → Type 0
  SpellsDown pdu bits = IsDown pdu × (reserved : Bool) × (bits ≡ down_text reserved pdu)

  -- an acknowledgement, whose text may be long; an accept or a reject never is
  abbrev pub is_acknowledgement : MmDown A → Bool
  is_acknowledgement (Accept update) = false
  is_acknowledgement (Reject update cause) = false
  is_acknowledgement (Acknowledge items) = true
