-- Why a check was refused: damage that was found, where memory ran out after it.
use Rattle.std.proofs.Common.{◌≡◌, ◌≤◌, ℕ, List, Option, Some, None, Ok, Err, ap, inr, refl, subst, sym}
use Rattle.sector_disk.specs.Disk.{View, HasFailed}
use Rattle.recovery.specs.declared.checking.Checked.{Checked}
use Rattle.recovery.specs.declared.checking.SideState.{SideState}
use Rattle.recovery.specs.declared.checking.SideState.TheVariants as state
use Rattle.recovery.specs.declared.fault.StoreFault.{StoreFault}
use Rattle.recovery.specs.declared.fault.StoreFault.TheVariants.{BadGeometry, Broken, Damaged, DiskFault, EpochsUsedUp, NoMemory, Unformatted, Unready}
use Rattle.recovery.specs.Checking.{IsCheckOf, IsDamagedAt, checked_in, first_damaged, unless_damaged}
use Rattle.recovery.specs.Damage.{IsOfDamage}
use Rattle.recovery.specs.Opening.{IsOfOpening}
use Rattle.served_disk.specs.Refusals.{FailsCheck, IsUnchecked}
use Rattle.served_disk.proofs.Reasons.{has_failed}

-- ---- a check

-- damage to side A comes first
first_of_a : (a b : SideState) (at : ℕ) → IsDamagedAt at a → first_damaged a b ≡ Some at
first_of_a (state.Damaged epoch sector) b at is = ap (λ (s : ℕ). Some s) is
first_of_a state.Unused b at is = absurd is
first_of_a (state.Whole figures) b at is = absurd is

-- a fault that a check reports is there
pub fails_check : (A : Type 0) (image : List (List ℕ)) (fault : StoreFault) → IsCheckOf A image (Err fault) → FailsCheck A fault image
fails_check A image (Damaged at) is = (is.0, is.1, first_of_a is.0.a is.0.b at is.2)
fails_check A image Unformatted is = is
fails_check A image BadGeometry is = is
fails_check A image DiskFault is = is
fails_check A image Broken is = is
fails_check A image NoMemory is = is
fails_check A image EpochsUsedUp is = is
fails_check A image Unready is = is

-- ---- its report

-- a fault of looking for damage, or damage in its place
may_fail : (d : Option ℕ) (fault : StoreFault) → IsOfDamage fault → IsOfOpening (unless_damaged d fault)
may_fail d Unformatted may = absurd may
may_fail d BadGeometry may = absurd may
may_fail d (Damaged at) may = absurd may
may_fail None DiskFault may = tt
may_fail (Some at) DiskFault may = tt
may_fail d Broken may = absurd may
may_fail None NoMemory may = tt
may_fail (Some at) NoMemory may = tt
may_fail d EpochsUsedUp may = absurd may
may_fail d Unready may = absurd may

module _ (A : Type 0) (image : List (List ℕ)) (checked : Checked) (found : checked_in A image ≡ Ok checked) where
  -- it is there
  fails_report : (d : Option ℕ) → first_damaged checked.a checked.b ≡ d → (fault : StoreFault) → IsOfDamage fault → FailsCheck A (unless_damaged d fault) image
  fails_report d is Unformatted may = absurd may
  fails_report d is BadGeometry may = absurd may
  fails_report d is (Damaged at) may = absurd may
  fails_report None is DiskFault may = tt
  fails_report (Some at) is DiskFault may = tt
  fails_report d is Broken may = absurd may
  fails_report None is NoMemory may = tt
  fails_report (Some at) is NoMemory may = (checked, found, is)
  fails_report d is EpochsUsedUp may = absurd may
  fails_report d is Unready may = absurd may

-- of the device only where the device failed
of_device : (d : Option ℕ) (fault : StoreFault) → IsOfDamage fault → unless_damaged d fault ≡ DiskFault → fault ≡ DiskFault
of_device None fault may is = is
of_device (Some at) Unformatted may is = absurd may
of_device (Some at) BadGeometry may is = absurd may
of_device (Some at) (Damaged s) may is = absurd may
of_device (Some at) DiskFault may is = refl
of_device (Some at) Broken may is = absurd may
of_device (Some at) NoMemory may is = absurd cc
of_device (Some at) EpochsUsedUp may is = absurd may
of_device (Some at) Unready may is = absurd may

-- of memory only where no side is damaged
of_memory : (d : Option ℕ) (fault : StoreFault) → IsOfDamage fault → unless_damaged d fault ≡ NoMemory → d ≡ None
of_memory None fault may is = refl
of_memory (Some at) Unformatted may is = absurd may
of_memory (Some at) BadGeometry may is = absurd may
of_memory (Some at) (Damaged s) may is = absurd may
of_memory (Some at) DiskFault may is = absurd cc
of_memory (Some at) Broken may is = absurd may
of_memory (Some at) NoMemory may is = absurd cc
of_memory (Some at) EpochsUsedUp may is = absurd may
of_memory (Some at) Unready may is = absurd may

-- no report was made of what a check found
pub unreported : (A : Type 0) (old mid new : View) → old.failures ≤ mid.failures → (checked : Checked) → (old.honest → checked_in A old.reads ≡ Ok checked)
    → (fault : StoreFault) → IsOfDamage fault → (fault ≡ DiskFault → HasFailed mid new) → (d : Option ℕ) → d ≡ first_damaged checked.a checked.b
    → (told : StoreFault) → told ≡ unless_damaged d fault → IsUnchecked A old new told
unreported A old mid new later checked found fault may failed d first told is = subst (λ f. IsUnchecked A old new f) (sym is) (record {
  kind = may_fail d fault may;
  there = λ honest. fails_report A old.reads checked (found honest) d (sym first) fault may;
  device = λ same. has_failed old mid new later (failed (of_device d fault may same));
  memory = λ same honest. inr (checked, found honest, subst (λ e. e ≡ None) first (of_memory d fault may same));
})
