use Rattle.std.proofs.Common.{List, ℕ, ◌++◌, ap, ◌∙◌}
use Rattle.std.proofs.lemmas.List.{drop-replicate}
use Rattle.std.specs.Prelude.{length}
use Rattle.gated_journal.proofs.place.padded.Goals as goal

pub returns : goal.returns
returns c = c.put_prefix.ensures ∙ ap (λ (rest : List ℕ). c.args.prefix.now ++ rest) (drop-replicate (length c.args.prefix.now) 512 0)
