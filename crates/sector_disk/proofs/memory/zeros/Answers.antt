use Rattle.std.proofs.Common.{ℕ, List, [], ◌∷◌, ◌++◌, replicate, ap, ◌∙◌}
use Rattle.std.proofs.lemmas.List.{replicate-append-replicate}
use Rattle.sector_disk.proofs.memory.zeros.Goals as goal

pub loop-k-preserved : goal.loop-k-preserved
loop-k-preserved g c =
    c.in_ok-push.ensures.items ∙ ap (λ (l : List (List ℕ)). l ++ replicate 512 0 ∷ []) c.loop-k.invariant ∙ replicate-append-replicate c.loop-k.k 1 (replicate 512 0)
