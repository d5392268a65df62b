-- Values and their numbers: each direction undoes the other.
use Rattle.std.proofs.Common.{◌≡◌, ℕ, zero, suc, ◌<◌, Bool, true, false, Option, Some, refl, sym, ap, ◌∙◌, arith}
use Rattle.std.specs.Prelude.{◌↔◌}
use Rattle.mm_pdus.specs.declared.update.LocationUpdateType.{LocationUpdateType}
use Rattle.mm_pdus.specs.declared.update.LocationUpdateType.TheVariants.{Roaming, Migrating, Periodic, ItsiAttach, ServiceRestorationRoaming, ServiceRestorationMigrating, Demand, DisabledMs}
use Rattle.mm_pdus.specs.declared.update.AcceptType.{AcceptType}
use Rattle.mm_pdus.specs.declared.update.AcceptType.TheVariants as accept
use Rattle.mm_pdus.specs.declared.lifetime.Lifetime.{Lifetime}
use Rattle.mm_pdus.specs.declared.lifetime.Lifetime.TheVariants.{NotNeeded, NextItsiAttach, NotAllowedAtNextItsiAttach, NextLocationUpdate}
use Rattle.mm_pdus.specs.declared.detachment.LeaveReason.{LeaveReason}
use Rattle.mm_pdus.specs.declared.detachment.LeaveReason.TheVariants as leave
use Rattle.mm_pdus.specs.declared.detachment.DetachReason.{DetachReason}
use Rattle.mm_pdus.specs.declared.detachment.DetachReason.TheVariants as detach
use Rattle.mm_pdus.specs.declared.group.GroupMode.{GroupMode}
use Rattle.mm_pdus.specs.declared.group.GroupMode.TheVariants.{Amendment, DetachAllFirst}
use Rattle.mm_pdus.specs.Values.{update_number, update_of, accept_of, update_accepted, lifetime_number, lifetime_of, leave_number, leave_of, detach_number, detach_of, mode_bit, mode_of}

some_is : {A : Type 0} (a b : A) → ◌≡◌ {A = Option A} (Some a) (Some b) → a ≡ b
some_is a b e = cc

pub update_named : (n : ℕ) (u : LocationUpdateType) → update_of n ≡ Some u → n ≡ update_number u
update_named zero u e = ap update_number (some_is Roaming u e)
update_named (suc zero) u e = ap update_number (some_is Migrating u e)
update_named (suc (suc zero)) u e = ap update_number (some_is Periodic u e)
update_named (suc (suc (suc zero))) u e = ap update_number (some_is ItsiAttach u e)
update_named (suc (suc (suc (suc zero)))) u e = ap update_number (some_is ServiceRestorationRoaming u e)
update_named (suc (suc (suc (suc (suc zero))))) u e = ap update_number (some_is ServiceRestorationMigrating u e)
update_named (suc (suc (suc (suc (suc (suc zero)))))) u e = ap update_number (some_is Demand u e)
update_named (suc (suc (suc (suc (suc (suc (suc zero))))))) u e = ap update_number (some_is DisabledMs u e)
update_named (suc (suc (suc (suc (suc (suc (suc (suc n)))))))) u e = absurd cc

pub update_of-update_number : (u : LocationUpdateType) → update_of (update_number u) ≡ Some u
update_of-update_number Roaming = refl
update_of-update_number Migrating = refl
update_of-update_number Periodic = refl
update_of-update_number ItsiAttach = refl
update_of-update_number ServiceRestorationRoaming = refl
update_of-update_number ServiceRestorationMigrating = refl
update_of-update_number Demand = refl
update_of-update_number DisabledMs = refl

pub update_number-lt : (u : LocationUpdateType) → update_number u < 8
update_number-lt Roaming = omega arith
update_number-lt Migrating = omega arith
update_number-lt Periodic = omega arith
update_number-lt ItsiAttach = omega arith
update_number-lt ServiceRestorationRoaming = omega arith
update_number-lt ServiceRestorationMigrating = omega arith
update_number-lt Demand = omega arith
update_number-lt DisabledMs = omega arith

pub accept_of-update_accepted : (a : AcceptType) → accept_of (update_accepted a) ≡ Some a
accept_of-update_accepted accept.Roaming = refl
accept_of-update_accepted accept.Periodic = refl
accept_of-update_accepted accept.ItsiAttach = refl
accept_of-update_accepted accept.ServiceRestorationRoaming = refl
accept_of-update_accepted accept.Demand = refl

-- an update is accepted as itself
pub update_accepted-accept_of : (u : LocationUpdateType) (a : AcceptType) → accept_of u ≡ Some a → update_accepted a ≡ u
update_accepted-accept_of Roaming a e = ap update_accepted (sym (some_is accept.Roaming a e))
update_accepted-accept_of Migrating a e = absurd cc
update_accepted-accept_of Periodic a e = ap update_accepted (sym (some_is accept.Periodic a e))
update_accepted-accept_of ItsiAttach a e = ap update_accepted (sym (some_is accept.ItsiAttach a e))
update_accepted-accept_of ServiceRestorationRoaming a e = ap update_accepted (sym (some_is accept.ServiceRestorationRoaming a e))
update_accepted-accept_of ServiceRestorationMigrating a e = absurd cc
update_accepted-accept_of Demand a e = ap update_accepted (sym (some_is accept.Demand a e))
update_accepted-accept_of DisabledMs a e = absurd cc

pub lifetime_of-lifetime_number : (l : Lifetime) → lifetime_of (lifetime_number l) ≡ Some l
lifetime_of-lifetime_number NotNeeded = refl
lifetime_of-lifetime_number NextItsiAttach = refl
lifetime_of-lifetime_number NotAllowedAtNextItsiAttach = refl
lifetime_of-lifetime_number NextLocationUpdate = refl

pub lifetime_named : (n : ℕ) (l : Lifetime) → lifetime_of n ≡ Some l → n ≡ lifetime_number l
lifetime_named zero l e = ap lifetime_number (some_is NotNeeded l e)
lifetime_named (suc zero) l e = ap lifetime_number (some_is NextItsiAttach l e)
lifetime_named (suc (suc zero)) l e = ap lifetime_number (some_is NotAllowedAtNextItsiAttach l e)
lifetime_named (suc (suc (suc zero))) l e = ap lifetime_number (some_is NextLocationUpdate l e)
lifetime_named (suc (suc (suc (suc n)))) l e = absurd cc

pub update_numbered : (n : ℕ) (u : LocationUpdateType) → (update_of n ≡ Some u) ↔ (n ≡ update_number u)
update_numbered n u = (update_named n u, λ e. ap update_of e ∙ update_of-update_number u)

pub lifetime_numbered : (n : ℕ) (l : Lifetime) → (lifetime_of n ≡ Some l) ↔ (n ≡ lifetime_number l)
lifetime_numbered n l = (lifetime_named n l, λ e. ap lifetime_of e ∙ lifetime_of-lifetime_number l)

pub accepted_as_asked : (u : LocationUpdateType) (a : AcceptType) → (accept_of u ≡ Some a) ↔ (u ≡ update_accepted a)
accepted_as_asked u a = (λ e. sym (update_accepted-accept_of u a e), λ e. ap accept_of e ∙ accept_of-update_accepted a)

-- ---- why a group is detached, and the mode

pub leave_named : (n : ℕ) (r : LeaveReason) → leave_of n ≡ Some r → n ≡ leave_number r
leave_named zero r e = ap leave_number (some_is leave.UnknownGroup r e)
leave_named (suc zero) r e = ap leave_number (some_is leave.NoValidEncryptionKey r e)
leave_named (suc (suc zero)) r e = ap leave_number (some_is leave.UserInitiated r e)
leave_named (suc (suc (suc zero))) r e = ap leave_number (some_is leave.CapacityExceeded r e)
leave_named (suc (suc (suc (suc n)))) r e = absurd cc

pub leave_of-leave_number : (r : LeaveReason) → leave_of (leave_number r) ≡ Some r
leave_of-leave_number leave.UnknownGroup = refl
leave_of-leave_number leave.NoValidEncryptionKey = refl
leave_of-leave_number leave.UserInitiated = refl
leave_of-leave_number leave.CapacityExceeded = refl

pub leave_number-lt : (r : LeaveReason) → leave_number r < 4
leave_number-lt leave.UnknownGroup = omega arith
leave_number-lt leave.NoValidEncryptionKey = omega arith
leave_number-lt leave.UserInitiated = omega arith
leave_number-lt leave.CapacityExceeded = omega arith

pub detach_named : (n : ℕ) (r : DetachReason) → detach_of n ≡ Some r → n ≡ detach_number r
detach_named zero r e = ap detach_number (some_is detach.UnknownGroup r e)
detach_named (suc zero) r e = ap detach_number (some_is detach.TemporaryFirst r e)
detach_named (suc (suc zero)) r e = ap detach_number (some_is detach.TemporarySecond r e)
detach_named (suc (suc (suc zero))) r e = ap detach_number (some_is detach.Permanent r e)
detach_named (suc (suc (suc (suc n)))) r e = absurd cc

pub detach_of-detach_number : (r : DetachReason) → detach_of (detach_number r) ≡ Some r
detach_of-detach_number detach.UnknownGroup = refl
detach_of-detach_number detach.TemporaryFirst = refl
detach_of-detach_number detach.TemporarySecond = refl
detach_of-detach_number detach.Permanent = refl

pub detach_number-lt : (r : DetachReason) → detach_number r < 4
detach_number-lt detach.UnknownGroup = omega arith
detach_number-lt detach.TemporaryFirst = omega arith
detach_number-lt detach.TemporarySecond = omega arith
detach_number-lt detach.Permanent = omega arith

pub leave_numbered : (n : ℕ) (r : LeaveReason) → (leave_of n ≡ Some r) ↔ (n ≡ leave_number r)
leave_numbered n r = (leave_named n r, λ e. ap leave_of e ∙ leave_of-leave_number r)

pub detach_numbered : (n : ℕ) (r : DetachReason) → (detach_of n ≡ Some r) ↔ (n ≡ detach_number r)
detach_numbered n r = (detach_named n r, λ e. ap detach_of e ∙ detach_of-detach_number r)

pub mode_bit-mode_of : (b : Bool) → mode_bit (mode_of b) ≡ b
mode_bit-mode_of true = refl
mode_bit-mode_of false = refl

pub mode_of-mode_bit : (m : GroupMode) → mode_of (mode_bit m) ≡ m
mode_of-mode_bit Amendment = refl
mode_of-mode_bit DetachAllFirst = refl

-- ---- lifetimes as two bits

pub lifetime_number-lt : (l : Lifetime) → lifetime_number l < 4
lifetime_number-lt NotNeeded = omega arith
lifetime_number-lt NextItsiAttach = omega arith
lifetime_number-lt NotAllowedAtNextItsiAttach = omega arith
lifetime_number-lt NextLocationUpdate = omega arith
