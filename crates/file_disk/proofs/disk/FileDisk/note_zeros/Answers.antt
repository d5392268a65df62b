use Rattle.std.proofs.Common.{◌≡◌, ◌+◌, ◌++◌, ◌∷◌, [], List, arith, refl, subst}
use Rattle.sector_disk.specs.declared.record.Call.{Call}
use Rattle.sector_disk.specs.declared.record.Call.TheVariants.{Write}
use Rattle.sector_disk.proofs.Made.{no_write_yet, one_made}
use Rattle.file_disk.proofs.Blank.{zeros}
use Rattle.file_disk.proofs.disk.FileDisk.note_zeros.Goals as goal

pub loop-k-init : goal.loop-k-init
loop-k-init g c = record { calls = no_write_yet c.args.self.now.history.calls 0 zeros; file = (refl, refl); kept = (refl, refl) }

pub loop-k-preserved : goal.loop-k-preserved
loop-k-preserved g c =
    let k = c.loop-k.k in
    let was : List Call = c.loop-k.self.history.calls in
    let new : List Call = c.then-self.result.calls in
    let place : k ≡ 0 + k = omega arith in
    let made : new ≡ was ++ Write (0 + k) (zeros k) ∷ [] = subst (λ at. new ≡ was ++ Write at (zeros k) ∷ []) place c.then-self.ensures in
    record {
      calls = one_made c.args.self.now.history.calls was new 0 k zeros (zeros k) refl c.loop-k.invariant.calls made;
      file = c.loop-k.invariant.file;
      kept = c.loop-k.invariant.kept;
    }
