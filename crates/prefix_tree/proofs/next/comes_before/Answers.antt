use Rattle.std.proofs.Common.{◌≡◌, ◌<◌, ◌++◌, ◌∷◌, [], true, length, sym, ap, ◌∙◌, arith, nat_eq}
use Rattle.std.proofs.lemmas.Bool.Decides.{nat_tests}
use Rattle.identity.specs.Path.{begins}
use Rattle.prefix_tree.specs.Inside.Paths.{common}
use Rattle.prefix_tree.proofs.Begins.{common_first, common_shorter}
use Rattle.prefix_tree.proofs.NextLaws.{begun_before, side_before}
use Rattle.prefix_tree.proofs.next.comes_before.Goals as goal

pub side-requires-clause-within : goal.side-requires-clause-within
side-requires-clause-within c = ap (λ z. begins z c.args.at.now) c.common-common.ensures ∙ common_first c.args.at.now c.args.key.now

pub side-requires-clause-shorter : goal.side-requires-clause-shorter
side-requires-clause-shorter c =
    let short : length (common c.args.at.now c.args.key.now) < length c.args.at.now = common_shorter _ _ c.requires in
    let same : length c.common-common.result ≡ length (common c.args.at.now c.args.key.now) = ap length c.common-common.ensures in
    omega (arith, short, same)

pub returns-then-len-clause-before : goal.returns-then-len-clause-before
returns-then-len-clause-before c =
    let test : nat_eq c.len-2.result c.len-3.result ≡ true = grind (arith, nat_tests, c.if-len.true) in
    test ∙ begun_before c.args.at.now c.args.key.now c.requires (ap length (sym c.common-common.ensures) ∙ sym c.len-2.ensures.value ∙ c.if-len.true ∙ c.len-3.ensures.value)

pub returns-else-len-clause-before : goal.returns-else-len-clause-before
returns-else-len-clause-before c =
    side_before c.args.at.now c.args.key.now _ c.requires
    (λ same. grind (arith, nat_tests, c.if-len.false, c.len-2.ensures.value ∙ ap length c.common-common.ensures ∙ same ∙ sym c.len-3.ensures.value))
    (ap (λ z. begins (z ++ c.side.result ∷ []) c.args.at.now) (sym c.common-common.ensures) ∙ c.side.ensures)
