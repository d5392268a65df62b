-- The bits of PDUs from a radio: U-ITSI DETACH, U-LOCATION UPDATE DEMAND and U-ATTACH/DETACH GROUP IDENTITY (clause 16.9.3).
use Rattle.std.specs.Prelude.{◌≡◌, ℕ, ◌≤◌, ◌==◌, Bool, false, List, [], ◌∷◌, ◌++◌, length, Option, Some, None, IfSome, MatchBool}
use Rattle.std.specs.List.{AllByRecursion}
use Rattle.identity.specs.Number.{num}
use Rattle.mm_pdus.specs.declared.update.LocationUpdateType.{LocationUpdateType}
use Rattle.mm_pdus.specs.declared.group.GroupMode.{GroupMode}
use Rattle.mm_pdus.specs.declared.group.GroupUp.{GroupUp}
use Rattle.mm_pdus.specs.declared.uplink.MmUp.{MmUp}
use Rattle.mm_pdus.specs.declared.uplink.MmUp.TheVariants.{Demand, Detach, Groups}
use Rattle.mm_pdus.specs.Values.{update_number, mode_bit, most_groups}
use Rattle.mm_pdus.specs.Syntax.{optional, Element, Extension, extension, IsExtension}
use Rattle.mm_pdus.specs.Groups.{group_up, IsGroupUp, groups_body, groups_extension}

-- the widths of the optional parts of a U-ITSI DETACH: address extension
abbrev pub detach_widths : List ℕ
detach_widths = 24 ∷ []

-- those of a U-LOCATION UPDATE DEMAND: class of MS, energy saving mode, LA information, SSI, address extension
abbrev pub demand_widths : List ℕ
demand_widths = 24 ∷ 3 ∷ 15 ∷ 24 ∷ 24 ∷ []

-- the identifier of the element group identity uplink
abbrev pub identity_uplink : ℕ
identity_uplink = 8

-- The element has these groups: those that its bits spell, if it is one with groups, else none.
abbrev pub HasGroups : Element → List GroupUp → Type 0
HasGroups e items = MatchBool (e.identifier == identity_uplink) (AllByRecursion IsGroupUp items × (e.body ≡ groups_body group_up items)) (items ≡ [])

-- The groups of all elements with groups, in order; the other elements are skipped.
abbrev pub GroupsOf : List Element → List GroupUp → Type 0
GroupsOf [] items = items ≡ []
GroupsOf (e ∷ es) items = (prefix : List GroupUp) × (back : List GroupUp) × (items ≡ prefix ++ back) × HasGroups e prefix × GroupsOf es back

-- the elements of what follows the fixed fields
abbrev pub elements_of : Option Extension → List Element
elements_of None = []
elements_of (Some x) = x.elements

-- The canonical text of a U-ITSI DETACH. No text has optional parts, or asks for an LA or a report.
abbrev pub detach_text : List Bool
detach_text = num 4 1 ++ false ∷ []

-- that of a U-LOCATION UPDATE DEMAND
abbrev pub demand_text : LocationUpdateType → List Bool
demand_text update = num 4 2 ++ num 3 (update_number update) ++ false ∷ false ∷ false ∷ []

-- that of a U-ATTACH/DETACH GROUP IDENTITY, with all groups in one element
abbrev pub groups_text : GroupMode → List GroupUp → List Bool
groups_text mode items = num 4 7 ++ false ∷ mode_bit mode ∷ extension (groups_extension group_up identity_uplink items)

-- No value depends on A, the allocator of a PDU's groups.
module _ {A : Type 0} where
  -- The bits spell the PDU: their fields have its values. Other fields and parts of such a PDU may be anything.
  abbrev pub SpellsUp : MmUp A → List Bool → Type 0
  SpellsUp Detach bits = (x : Option Extension) × IsExtension detach_widths x × (bits ≡ num 4 1 ++ extension x)
  SpellsUp (Demand update) bits =
      (append : Bool) × (ciphering : Option (List Bool)) × (x : Option Extension)
      × IfSome ciphering (λ parameters. length parameters ≡ 10) × IsExtension demand_widths x
      × (bits ≡ num 4 2 ++ num 3 (update_number update) ++ append ∷ optional ciphering ++ extension x)
  SpellsUp (Groups mode items) bits =
      (report : Bool) × (x : Option Extension) × IsExtension [] x × GroupsOf (elements_of x) items × (length items ≤ most_groups)
      × (bits ≡ num 4 7 ++ report ∷ mode_bit mode ∷ extension x)

  -- The canonical text, which is written.
  abbrev pub canon_up : MmUp A → List Bool
  canon_up Detach = detach_text
  canon_up (Demand update) = demand_text update
  canon_up (Groups mode items) = groups_text mode items

  -- There are at most 32 groups, and each value has the bits that it needs.
  abbrev pub IsUp : MmUp A → Type 0
  IsUp Detach = Unit {0}
  IsUp (Demand update) = Unit {0}
  IsUp (Groups mode items) = (length items ≤ most_groups) × AllByRecursion IsGroupUp items
