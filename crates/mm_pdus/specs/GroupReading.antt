-- Reading the groups of a PDU: their values, or the first fault from the left.
use Rattle.std.specs.Prelude.{ℕ, zero, suc, ◌+◌, Bool, List, [], ◌∷◌, ◌++◌, length, Result, Ok, Err, nat_lt, ◌==◌, if◌then◌else◌}
use Rattle.identity.specs.Identity.{identity_number}
use Rattle.mm_pdus.specs.declared.fault.MmFault.{MmFault}
use Rattle.mm_pdus.specs.declared.fault.MmFault.TheVariants as fault
use Rattle.mm_pdus.specs.declared.address.GroupAddress.{GroupAddress}
use Rattle.mm_pdus.specs.declared.address.GroupAddress.TheVariants.{Short, Full}
use Rattle.mm_pdus.specs.declared.group.GroupUp.{GroupUp}
use Rattle.mm_pdus.specs.declared.group.GroupUp.TheVariants as up
use Rattle.mm_pdus.specs.declared.group.GroupDown.{GroupDown}
use Rattle.mm_pdus.specs.declared.group.GroupDown.TheVariants as down
use Rattle.mm_pdus.specs.Values.{lifetime_of, leave_of, detach_of, most_groups}
use Rattle.mm_pdus.specs.Reading.{Part, ◌>>=◌, known, bit_at, field_at}

-- after the GSSI of a full address: the country code, and the network code
abbrev pub full_at : ℕ → List Bool → Part GroupAddress
full_at gssi bits = do
  mcc ← field_at 10 bits
  mnc ← field_at 14 mcc.1
  Ok (Full (identity_number mcc.0 mnc.0 gssi), mnc.1)

-- after an address type: the GSSI, and of a full address what follows it; the type of a short address is 0
abbrev pub address_after : ℕ → List Bool → Part GroupAddress
address_after kind bits = do
  gssi ← field_at 24 bits
  if kind == 0 then Ok (Short gssi.0, gssi.1) else full_at gssi.0 gssi.1

-- the address type is judged before the GSSI is read
unfoldable pub address_at : List Bool → Part GroupAddress
address_at bits = do
  kind ← field_at 2 bits
  if nat_lt 1 kind.0 then Err fault.UnsupportedAddress else address_after kind.0 kind.1

-- of a group that a radio leaves: the reason, and the address
abbrev pub up_leave_at : List Bool → Part GroupUp
up_leave_at bits = do
  number ← field_at 2 bits
  reason ← known (leave_of number.0)
  address ← address_at number.1
  Ok (up.Leave reason address.0, address.1)

-- of one that it attaches to: the class of usage, and the address
abbrev pub up_attach_at : List Bool → Part GroupUp
up_attach_at bits = do
  class ← field_at 3 bits
  address ← address_at class.1
  Ok (up.Attach class.0 address.0, address.1)

-- one group from a radio: the bit whether the radio leaves it, and the fields of that case
unfoldable pub group_up_at : List Bool → Part GroupUp
group_up_at bits = do
  leaves ← bit_at bits
  if leaves.0 then up_leave_at leaves.1 else up_attach_at leaves.1

-- of a group that a radio is detached from: the reason, and the address
abbrev pub down_detach_at : List Bool → Part GroupDown
down_detach_at bits = do
  number ← field_at 2 bits
  reason ← known (detach_of number.0)
  address ← address_at number.1
  Ok (down.Detach reason address.0, address.1)

-- of one that it is attached to: the lifetime, the class of usage, and the address
abbrev pub down_attach_at : List Bool → Part GroupDown
down_attach_at bits = do
  number ← field_at 2 bits
  lifetime ← known (lifetime_of number.0)
  class ← field_at 3 number.1
  address ← address_at class.1
  Ok (down.Attach lifetime class.0 address.0, address.1)

-- one group to a radio: the bit whether the radio is detached from it, and the fields of that case
unfoldable pub group_down_at : List Bool → Part GroupDown
group_down_at bits = do
  detached ← bit_at bits
  if detached.0 then down_detach_at detached.1 else down_attach_at detached.1

-- inside an element, whose length is known, missing bits are a fault of the element
abbrev pub inside : MmFault → MmFault
inside fault.Short = fault.BadElement
inside fault.Trailing = fault.Trailing
inside fault.UnknownType = fault.UnknownType
inside fault.BadElement = fault.BadElement
inside fault.UnsupportedAddress = fault.UnsupportedAddress
inside fault.TooMany = fault.TooMany
inside fault.NoMemory = fault.NoMemory

-- the result of a reading inside an element
abbrev pub read_inside : {X : Type 0} → Result X MmFault → Result X MmFault
read_inside (Ok x) = Ok x
read_inside (Err f) = Err (inside f)

-- the reading of a group where there is no memory for it: its fault, or else out of memory
abbrev pub unkept : {T : Type 0} → (List Bool → Part T) → List Bool → Part T
unkept group_at bits = group_at bits >>= λ group. Err fault.NoMemory

-- Groups one after the other; `group_at` reads a group.
module _ {T : Type 0} (group_at : List Bool → Part T) where
  -- so many groups, and the bits after them
  unfoldable pub groups_at : ℕ → List Bool → Part (List T)
  groups_at zero bits = Ok ([], bits)
  groups_at (suc n) bits = do
    first ← group_at bits
    others ← groups_at n first.1
    Ok (first.0 ∷ others.0, others.1)

  -- so many groups, and no bit after the last
  abbrev pub only_groups_at : ℕ → List Bool → Result (List T) MmFault
  only_groups_at n bits = do
    items ← groups_at n bits
    if length items.1 == 0 then Ok items.0 else Err fault.BadElement

  -- the number of groups, which with `before` may be no more than a PDU may name, and then each group
  unfoldable pub counted_at : ℕ → List Bool → Result (List T) MmFault
  counted_at before bits = do
    count ← field_at 6 bits
    if nat_lt most_groups (before + count.0) then Err fault.TooMany else only_groups_at count.0 count.1

  -- the groups of an element with these bits, where earlier elements had `before` groups
  abbrev pub body_at : ℕ → List Bool → Result (List T) MmFault
  body_at before bits = read_inside (counted_at before bits)

-- earlier groups, and after them those that are read
abbrev pub appended_to : {T : Type 0} → List T → Result (List T) MmFault → Result (List T) MmFault
appended_to earlier read = read >>= λ more. Ok (earlier ++ more)

-- the same, with the bits that are left
abbrev pub with_prefix : {T : Type 0} → List T → Part (List T) → Part (List T)
with_prefix earlier read = read >>= λ x. Ok (earlier ++ x.0, x.1)
