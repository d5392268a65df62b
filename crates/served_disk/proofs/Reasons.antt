-- Why a call of a disk was refused.
use Rattle.std.proofs.Common.{◌≡◌, ◌∙◌, ◌≤◌, ℕ, List, refl, Result, Ok, Err, IfErr, OnOk, is_ok, is_err, true, ap, arith, inl, inr, subst, sym}
use mathlib.Core.Bool.{false≢true}
use Rattle.sector_disk.specs.Disk.{View, HasFailed}
use Rattle.recovery.specs.declared.fault.StoreFault.{StoreFault}
use Rattle.recovery.specs.declared.fault.StoreFault.TheVariants.{DiskFault, NoMemory}
use Rattle.file_disk.specs.declared.fault.FileFault.{FileFault}
use Rattle.file_disk.specs.declared.fault.FileFault.TheVariants as file
use Rattle.file_disk.specs.declared.fault.OpenCause.{OpenCause}
use Rattle.served_disk.specs.declared.fault.Fault.{Fault}
use Rattle.served_disk.specs.declared.fault.Fault.TheVariants as fault
use Rattle.served_disk.specs.Faults.{IsOfFile, Names, of_store}
use Rattle.served_disk.specs.Making.{IsOfMaking}
use Rattle.served_disk.specs.Refusals.{IsUnmade}

-- out of memory is no device fault
pub unlike : ◌≡◌ {A = StoreFault} NoMemory DiskFault → ⊥
unlike same = cc

-- what was read is there
pub is_there : {X E : Type 0} (r : Result X E) (x : X) → r ≡ Ok x → is_ok r ≡ true
is_there r x is = ap (λ s. is_ok s) is

-- what a call that answered `Ok` says
pub on_ok : {X E P : Type 0} (r : Result X E) (x : X) → r ≡ Ok x → OnOk r P → P
on_ok {E = E} {P = P} r x is said = subst (λ s. OnOk s P) is said

-- an error that is passed on
pub passed : {X E : Type 0} (P : E → Type 0) (r : Result X E) (e : E) → r ≡ Err e → P e → IfErr r P
passed P r e out is = subst (λ s. IfErr s P) (sym out) is

-- a device that has failed later has failed
pub has_failed : (a b c : View) → a.failures ≤ b.failures → HasFailed b c → HasFailed a c
has_failed a b c later (inl more) = inl (omega (arith, later, more))
has_failed a b c later (inr most) = inr most

-- a disk that was not formatted
pub unmade : (done : Result Unit StoreFault) (fault : Fault) (old new : View) → is_err done ≡ true → IfErr done (λ e. fault ≡ of_store e)
    → IfErr done (λ e. (e ≡ DiskFault) × HasFailed old new) → IsUnmade old new fault
unmade (Ok u) fault old new failed is why = absurd (false≢true failed)
unmade (Err e) fault old new failed is why = (is ∙ ap of_store why.0, why.1)

-- a file that was not made is named
names_made : (is : Fault) (name : List ℕ) (cause : OpenCause) → Names is name cause → IsOfMaking name is
names_made (fault.File text why) name cause named = named.0
names_made fault.Settings name cause named = absurd named
names_made fault.Unformatted name cause named = absurd named
names_made fault.BadGeometry name cause named = absurd named
names_made (fault.Damaged sector) name cause named = absurd named
names_made fault.Device name cause named = absurd named
names_made fault.Memory name cause named = absurd named
names_made fault.Epochs name cause named = absurd named
names_made (fault.Twice text) name cause named = absurd named
names_made fault.TooMany name cause named = absurd named
names_made (fault.NotServed station) name cause named = absurd named
names_made fault.HalfLeftOut name cause named = absurd named
names_made (fault.DumpLine line why) name cause named = absurd named
names_made (fault.DumpCut line) name cause named = absurd named

-- why a new file gave no disk; a new file keeps what is written
pub of_created : (reason : FileFault) (name : List ℕ) (is : Fault) → IsOfFile reason name is → (reason ≡ file.KeepsNothing → ⊥) → IsOfMaking name is
of_created (file.NotOpened cause) name is reported keeps = names_made is name cause reported
of_created file.DiskFault name is reported keeps = subst (λ f. IsOfMaking name f) (sym reported) tt
of_created file.NoMemory name is reported keeps = subst (λ f. IsOfMaking name f) (sym reported) tt
of_created file.KeepsNothing name is reported keeps = absurd (keeps refl)
