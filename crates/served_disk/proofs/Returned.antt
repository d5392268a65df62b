-- The disk in a file that was only read, and that comes back with a fault.
use Rattle.std.proofs.Common.{◌≡◌, ◌∙◌, ℕ, List, [], ◌++◌, Option, Some, ap, inl, inr, subst, sym}
use Rattle.std.specs.Prelude.{◌⊎◌, ◌∷◌, IfSome, None}
use Rattle.sector_disk.specs.Reading.{before_reads}
use Rattle.sector_disk.specs.declared.record.Call.{Call}
use Rattle.sector_disk.specs.declared.record.Call.TheVariants.{Sync}
use Rattle.file_disk.specs.declared.disk.FileDisk.{FileDisk}
use Rattle.file_disk.specs.Disk.{calls_of}
use Rattle.recovery.specs.declared.fault.StoreFault.{StoreFault}
use Rattle.recovery.specs.declared.fault.StoreFault.TheVariants.{BadGeometry, Broken, Damaged, DiskFault, EpochsUsedUp, NoMemory, Unformatted, Unready}
use Rattle.recovery.specs.Checking.{IsNoDamage}
use Rattle.recovery.specs.Opening.{IsOfOpening as IsOfStoreOpening}
use Rattle.register_text.specs.declared.dumping.DumpFault.TheVariants.{Memory, Write}
use Rattle.served_disk.specs.declared.dumping.DiskDumpFault.{DiskDumpFault}
use Rattle.served_disk.specs.declared.dumping.DiskDumpFault.TheVariants as dump
use Rattle.served_disk.specs.declared.fault.Fault.{Fault}
use Rattle.served_disk.specs.declared.fault.Fault.TheVariants.{Device}
use Rattle.served_disk.specs.declared.refused.Refused.{Refused}
use Rattle.served_disk.specs.Calls.{IsReadAtMost, IsReadRefused}
use Rattle.served_disk.specs.Dumping.{IsOfDiskDump, IsOfDumping}
use Rattle.served_disk.specs.Faults.{IsOfDump, of_store}
use Rattle.served_disk.specs.Making.{IsOfOpening, IsOfTaking}
use Rattle.served_disk.specs.Rests.{IsOfRest}

some_is_none : {X : Type 0} (x : X) → ◌≡◌ {A = Option X} (Some x) None → ⊥
some_is_none x same = cc

-- what comes back is there
pub is_back : {X : Type 0} (P : Type 0) (back : Option X) (x : X) → back ≡ Some x → back ≡ None → P
is_back P back x is none = absurd (some_is_none x (sym is ∙ none))

-- ---- kinds of faults

-- a fault of opening a store is reported as one of opening its file
of_opening : (name : List ℕ) (why : StoreFault) → IsOfStoreOpening why → IsOfOpening name (of_store why)
of_opening name Unformatted may = tt
of_opening name BadGeometry may = tt
of_opening name (Damaged at) may = tt
of_opening name DiskFault may = tt
of_opening name Broken may = absurd may
of_opening name NoMemory may = tt
of_opening name EpochsUsedUp may = absurd may
of_opening name Unready may = absurd may

-- a fault that is no damage is one of opening
pub check_opens : (why : StoreFault) → IsNoDamage why → IsOfStoreOpening why
check_opens Unformatted may = tt
check_opens BadGeometry may = tt
check_opens (Damaged at) may = absurd may
check_opens DiskFault may = tt
check_opens Broken may = absurd may
check_opens NoMemory may = tt
check_opens EpochsUsedUp may = absurd may
check_opens Unready may = absurd may

-- a fault of writing what is left is one of a dump
pub rest_dumps : (why : DiskDumpFault) → IsOfRest why → IsOfDumping why
rest_dumps (dump.Opening why) may = check_opens why may
rest_dumps (dump.Writing why) may = tt

-- a fault of a dump is reported as one of dumping the disk in a file
of_dumping : (name : List ℕ) (why : DiskDumpFault) (fault : Fault) → IsOfDumping why → IsOfDump why fault → IsOfDiskDump name fault
of_dumping name (dump.Opening why) fault may is = inl (subst (λ f. IsOfOpening name f) (sym is) (of_opening name why may))
of_dumping name (dump.Writing Memory) fault may is = inl (subst (λ f. IsOfOpening name f) (sym is) tt)
of_dumping name (dump.Writing Write) fault may is = inr is

-- ---- what a call that is refused says

module _ {F : Type 0} (May : List ℕ → Fault → Type 0) (name : List ℕ) (e : Refused F) where
  -- the file gave no disk
  pub none_back : May name e.fault → IsOfTaking name e.fault → e.disk ≡ None → IsReadRefused May name e
  none_back may taking none = record {
    kinds = may;
    some_calls = subst (λ (d : Option (FileDisk F)). IfSome d (λ disk. IsReadAtMost e.fault (calls_of disk))) (sym none) tt;
    none = λ same. taking;
  }

  -- a disk comes back that was read at most
  comes_back : (disk : FileDisk F) → e.disk ≡ Some disk → May name e.fault → IsReadAtMost e.fault (calls_of disk) → IsReadRefused May name e
  comes_back disk back may calls = record {
    kinds = may;
    some_calls = subst (λ (d : Option (FileDisk F)). IfSome d (λ disk. IsReadAtMost e.fault (calls_of disk))) (sym back) calls;
    none = λ same. absurd (some_is_none disk (sym back ∙ same));
  }

-- a disk that had had no call was read at most
at_most : (fault : Fault) (Fails : Type 0) (old new : List Call) → old ≡ [] → (Fails → fault ≡ Device)
    → (before_reads new ≡ old ++ Sync ∷ []) ⊎ (Fails × (new ≡ old)) → IsReadAtMost fault new
at_most fault Fails old new none device (inl is) = inl (is ∙ ap (λ (l : List Call). l ++ Sync ∷ []) none)
at_most fault Fails old new none device (inr is) = inr (device is.0, is.1 ∙ none)

module _ {F : Type 0} (name : List ℕ) (e : Refused F) where
  -- a disk that gives no register
  pub store_back : (why : StoreFault) (disk : FileDisk F) (old : List Call) → old ≡ [] → e.fault ≡ of_store why → e.disk ≡ Some disk → IsOfStoreOpening why
      → (before_reads (calls_of disk) ≡ old ++ Sync ∷ []) ⊎ ((why ≡ DiskFault) × (calls_of disk ≡ old)) → IsReadRefused IsOfOpening name e
  store_back why disk old none is back may calls =
      comes_back IsOfOpening name e disk back (subst (λ f. IsOfOpening name f) (sym is) (of_opening name why may))
      (at_most e.fault (why ≡ DiskFault) old (calls_of disk) none (λ same. is ∙ ap of_store same) calls)

  -- a disk whose register was not dumped
  pub dump_back : (why : DiskDumpFault) (disk : FileDisk F) (old : List Call) → old ≡ [] → IsOfDump why e.fault → e.disk ≡ Some disk → IsOfDumping why
      → (before_reads (calls_of disk) ≡ old ++ Sync ∷ []) ⊎ ((why ≡ dump.Opening DiskFault) × (calls_of disk ≡ old)) → IsReadRefused IsOfDiskDump name e
  dump_back why disk old none is back may calls =
      comes_back IsOfDiskDump name e disk back (of_dumping name why e.fault may is)
      (at_most e.fault (why ≡ dump.Opening DiskFault) old (calls_of disk) none (λ same. subst (λ w. IsOfDump w e.fault) same is) calls)
