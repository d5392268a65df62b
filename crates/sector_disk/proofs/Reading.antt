-- Calls after others.
use Rattle.std.proofs.Common.{◌≡◌, ℕ, List, [], ◌∷◌, ◌++◌, refl, ap, ◌∙◌}
use Rattle.sector_disk.specs.Reading.{before_reads, unless_last_read}
use Rattle.sector_disk.specs.declared.record.Call.{Call}
use Rattle.sector_disk.specs.declared.record.Call.TheVariants.{Read, Sync, Write}

-- one read more
pub one_read : (calls : List Call) (at : ℕ) → before_reads (calls ++ Read at ∷ []) ≡ before_reads calls
unfolding before_reads
one_read [] at = refl
one_read (call ∷ calls) at = ap (unless_last_read call) (one_read calls at)

before_a_sync : (call : Call) (calls : List Call) → unless_last_read call (calls ++ Sync ∷ []) ≡ call ∷ calls ++ Sync ∷ []
before_a_sync (Read at) [] = refl
before_a_sync (Read at) (next ∷ calls) = refl
before_a_sync (Write at bytes) calls = refl
before_a_sync Sync calls = refl

-- a sync
pub one_sync : (calls : List Call) → before_reads (calls ++ Sync ∷ []) ≡ calls ++ Sync ∷ []
unfolding before_reads
one_sync [] = refl
one_sync (call ∷ calls) = ap (unless_last_read call) (one_sync calls) ∙ before_a_sync call calls
