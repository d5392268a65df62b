use Rattle.std.proofs.Common.{◌≡◌, ◌∙◌, ap, sym, true, false, Some}
use Rattle.std.specs.Option.{is_none}
use Rattle.identity.specs.Inside.PathLaws.{paths_total}
use Rattle.prefix_tree.specs.Next.{next_entry}
use Rattle.image_rows.proofs.Last.{then_next, not_next, none_if}
use Rattle.image_rows.proofs.judging.is_next_rule.Goals as goal

pub returns-then-is_none : goal.returns-then-is_none
returns-then-is_none g c =
    let nothing : is_none (next_entry c.args.registry.now.rules (Some c.args.prefix.now)) ≡ true = ap is_none (sym c.next_rule.ensures) ∙
    none_if c.next_rule.result c.is_none.result c.is_none.ensures ∙ c.if-is_none.true in
    then_next paths_total c.args.registry.now.rules c.args.prefix.now c.has_rule.result nothing c.has_rule.ensures

pub returns-else-is_none : goal.returns-else-is_none
returns-else-is_none g c =
    let some : is_none (next_entry c.args.registry.now.rules (Some c.args.prefix.now)) ≡ false = ap is_none (sym c.next_rule.ensures) ∙
    none_if c.next_rule.result c.is_none.result c.is_none.ensures ∙ c.if-is_none.false in
    c.if-is_none.false ∙ not_next paths_total c.args.registry.now.rules c.args.prefix.now some
