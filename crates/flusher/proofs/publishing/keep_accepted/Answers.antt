use Rattle.std.proofs.Common.{◌≤◌, ◌++◌, length, rules, ap, sym, ◌∙◌}
use Rattle.std.proofs.lemmas.List.{append-nil}
use Rattle.flusher.specs.Shared.{commands_in}
use Rattle.flusher.specs.Batches.{accepted_by}
use Rattle.flusher.proofs.Batched.{drop_past, none_by}
use Rattle.flusher.proofs.publishing.keep_accepted.Goals as goal

pub returns-clause-kept : goal.returns-clause-kept
returns-clause-kept c =
    let i = c.loop-outcome.invariant in
    let over : length c.args.outcomes.now ≤ c.loop-outcome.outcome-index = search rules in
    let none = ap (accepted_by (commands_in c.loop-outcome.copies.items)) (drop_past c.args.outcomes.now c.loop-outcome.outcome-index over) ∙ none_by (commands_in c.loop-outcome.copies.items) in
    sym (append-nil (commands_in c.loop-outcome.unpublished.items)) ∙ ap (λ l. commands_in c.loop-outcome.unpublished.items ++ l) (sym none) ∙ i.0
