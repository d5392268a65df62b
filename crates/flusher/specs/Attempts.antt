-- Whether a commit, or a publication, was out of memory.
use Rattle.std.specs.Prelude.{◌≡◌, ◌↔◌, ℕ, true, false, IsTrue, IsErrOf, Result, Vec}
use Rattle.std.specs.declared.alloc.Global.{Global}
use Rattle.recovery.specs.declared.outcome.Outcome.{Outcome}
use Rattle.recovery.specs.declared.fault.StoreFault.{StoreFault}
use Rattle.recovery.specs.declared.fault.StoreFault.TheVariants.{NoMemory}
use Rattle.snapshots.specs.Counts.{IsNext}
use Rattle.flusher.specs.declared.committing.Attempts.{Attempts}

-- no commit was tried
abbrev pub none_tried : Attempts
none_tried = record { count = 0; refused = false }

-- from `was` to `now` one more commit was tried, and `now` notes whether this commit, with this result, was out of memory
pub record HasAttempted (was : Attempts) (result : Result (Vec (Outcome Global) Global) StoreFault) (now : Attempts) : Type 0 where
  pub counted : IsNext was.count now.count
  pub exact : IsTrue now.refused ↔ IsErrOf result NoMemory

-- a commit was tried between these two counts, and the last one was out of memory
pub record WasOutOfMemory (was now : Attempts) : Type 0 where
  pub refused : now.refused ≡ true
  pub tried : now.count ≡ was.count → ⊥

-- one call of the publisher was out of memory between these two counts of such calls
abbrev pub HasBeenRefused : ℕ → ℕ → Type 0
HasBeenRefused was now = IsNext was now

-- how many commits were tried and whether the last one was out of memory, and how many calls of the publisher were out of memory
pub record Tries : Type 0 where
  pub commits : Attempts
  pub publications : ℕ

-- tries with these parts
abbrev pub tries : Attempts → ℕ → Tries
tries commits publications = record { commits = commits; publications = publications }
