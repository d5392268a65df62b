use Rattle.std.proofs.Common.{◌≡◌, length}
use Rattle.std.specs.Prelude.{map, take}
use Rattle.flusher.specs.Shared.{commands_in}
use Rattle.flusher.proofs.batch.commit_batch.Given as goal

abbrev pub invariant-loop-k : goal.invariant-loop-k
invariant-loop-k g l =
    (l.committer ≡ l.initial.committer) × (l.batch ≡ l.initial.batch) × (length l.commands ≡ 64) × (map (λ c. c.now) (take l.k l.commands) ≡ take l.k (commands_in l.batch.items))
