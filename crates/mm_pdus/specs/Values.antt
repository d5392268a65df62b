-- The numbers of the values that PDUs carry.
use Rattle.std.specs.Prelude.{ℕ, zero, suc, Bool, true, false, Option, Some, None}
use Rattle.mm_pdus.specs.declared.update.LocationUpdateType.{LocationUpdateType}
use Rattle.mm_pdus.specs.declared.update.LocationUpdateType.TheVariants.{Roaming, Migrating, Periodic, ItsiAttach, ServiceRestorationRoaming}
use Rattle.mm_pdus.specs.declared.update.LocationUpdateType.TheVariants.{ServiceRestorationMigrating, Demand, DisabledMs}
use Rattle.mm_pdus.specs.declared.update.AcceptType.{AcceptType}
use Rattle.mm_pdus.specs.declared.update.AcceptType.TheVariants as accept
use Rattle.mm_pdus.specs.declared.lifetime.Lifetime.{Lifetime}
use Rattle.mm_pdus.specs.declared.lifetime.Lifetime.TheVariants.{NotNeeded, NextItsiAttach, NotAllowedAtNextItsiAttach, NextLocationUpdate}
use Rattle.mm_pdus.specs.declared.detachment.LeaveReason.{LeaveReason}
use Rattle.mm_pdus.specs.declared.detachment.LeaveReason.TheVariants as leave
use Rattle.mm_pdus.specs.declared.detachment.DetachReason.{DetachReason}
use Rattle.mm_pdus.specs.declared.detachment.DetachReason.TheVariants as detach
use Rattle.mm_pdus.specs.declared.group.GroupMode.{GroupMode}
use Rattle.mm_pdus.specs.declared.group.GroupMode.TheVariants.{Amendment, DetachAllFirst}

-- the number of a location update type
abbrev pub update_number : LocationUpdateType → ℕ
update_number Roaming = 0
update_number Migrating = 1
update_number Periodic = 2
update_number ItsiAttach = 3
update_number ServiceRestorationRoaming = 4
update_number ServiceRestorationMigrating = 5
update_number Demand = 6
update_number DisabledMs = 7

-- the type of a number, if there is one
abbrev pub update_of : ℕ → Option LocationUpdateType
update_of zero = Some Roaming
update_of (suc zero) = Some Migrating
update_of (suc (suc zero)) = Some Periodic
update_of (suc (suc (suc zero))) = Some ItsiAttach
update_of (suc (suc (suc (suc zero)))) = Some ServiceRestorationRoaming
update_of (suc (suc (suc (suc (suc zero))))) = Some ServiceRestorationMigrating
update_of (suc (suc (suc (suc (suc (suc zero)))))) = Some Demand
update_of (suc (suc (suc (suc (suc (suc (suc zero))))))) = Some DisabledMs
update_of (suc (suc (suc (suc (suc (suc (suc (suc n)))))))) = None

-- The type with which an update is accepted. Migration is not supported, and a disabled radio is not served.
abbrev pub accept_of : LocationUpdateType → Option AcceptType
accept_of Roaming = Some accept.Roaming
accept_of Migrating = None
accept_of Periodic = Some accept.Periodic
accept_of ItsiAttach = Some accept.ItsiAttach
accept_of ServiceRestorationRoaming = Some accept.ServiceRestorationRoaming
accept_of ServiceRestorationMigrating = None
accept_of Demand = Some accept.Demand
accept_of DisabledMs = None

-- the type of the update that was accepted
abbrev pub update_accepted : AcceptType → LocationUpdateType
update_accepted accept.Roaming = Roaming
update_accepted accept.Periodic = Periodic
update_accepted accept.ItsiAttach = ItsiAttach
update_accepted accept.ServiceRestorationRoaming = ServiceRestorationRoaming
update_accepted accept.Demand = Demand

-- the number of a lifetime
abbrev pub lifetime_number : Lifetime → ℕ
lifetime_number NotNeeded = 0
lifetime_number NextItsiAttach = 1
lifetime_number NotAllowedAtNextItsiAttach = 2
lifetime_number NextLocationUpdate = 3

-- the lifetime of a number, if there is one
abbrev pub lifetime_of : ℕ → Option Lifetime
lifetime_of zero = Some NotNeeded
lifetime_of (suc zero) = Some NextItsiAttach
lifetime_of (suc (suc zero)) = Some NotAllowedAtNextItsiAttach
lifetime_of (suc (suc (suc zero))) = Some NextLocationUpdate
lifetime_of (suc (suc (suc (suc n)))) = None

-- the number of the reason for which a radio leaves a group
abbrev pub leave_number : LeaveReason → ℕ
leave_number leave.UnknownGroup = 0
leave_number leave.NoValidEncryptionKey = 1
leave_number leave.UserInitiated = 2
leave_number leave.CapacityExceeded = 3

-- the reason of a number, if there is one
abbrev pub leave_of : ℕ → Option LeaveReason
leave_of zero = Some leave.UnknownGroup
leave_of (suc zero) = Some leave.NoValidEncryptionKey
leave_of (suc (suc zero)) = Some leave.UserInitiated
leave_of (suc (suc (suc zero))) = Some leave.CapacityExceeded
leave_of (suc (suc (suc (suc n)))) = None

-- the number of the reason for which a group is detached
abbrev pub detach_number : DetachReason → ℕ
detach_number detach.UnknownGroup = 0
detach_number detach.TemporaryFirst = 1
detach_number detach.TemporarySecond = 2
detach_number detach.Permanent = 3

-- the reason of a number, if there is one
abbrev pub detach_of : ℕ → Option DetachReason
detach_of zero = Some detach.UnknownGroup
detach_of (suc zero) = Some detach.TemporaryFirst
detach_of (suc (suc zero)) = Some detach.TemporarySecond
detach_of (suc (suc (suc zero))) = Some detach.Permanent
detach_of (suc (suc (suc (suc n)))) = None

-- the bit of a mode
abbrev pub mode_bit : GroupMode → Bool
mode_bit Amendment = false
mode_bit DetachAllFirst = true

-- the mode of a bit
abbrev pub mode_of : Bool → GroupMode
mode_of false = Amendment
mode_of true = DetachAllFirst

-- how many groups one PDU may name
abbrev pub most_groups : ℕ
most_groups = 32
