use Rattle.std.proofs.Common.{◌≡◌, ◌<◌, ◌++◌, ◌∷◌, [], false, length, sym, ap, ◌∙◌, arith}
use Rattle.identity.specs.Path.{begins}
use Rattle.prefix_tree.specs.Inside.Paths.{common}
use Rattle.prefix_tree.specs.Inside.Around.{leads_to}
use Rattle.prefix_tree.proofs.Begins.{common_first, common_shorter}
use Rattle.prefix_tree.proofs.NodeLaws.{at_box}
use Rattle.prefix_tree.proofs.GrowLaws.{parting_here}
use Rattle.prefix_tree.proofs.edit.parting.Goals as goal

pub side-requires-clause-within : goal.side-requires-clause-within
side-requires-clause-within g c =
    let low = at_box c.behind-node.inside _ c.behind-node.view_is _ c.deref.ensures in
    let low2 = at_box c.behind-node-2.inside _ c.behind-node-2.view_is _ c.deref-2.ensures in
    ap (begins c.common-at.result) (low2 ∙ sym low) ∙ ap (λ p. begins p c.behind-node.inside.at) c.common-at.ensures ∙ common_first c.behind-node.inside.at c.args.key.now

pub side-requires-clause-shorter : goal.side-requires-clause-shorter
side-requires-clause-shorter g c =
    let low = at_box c.behind-node.inside _ c.behind-node.view_is _ c.deref.ensures in
    let low2 = at_box c.behind-node-2.inside _ c.behind-node-2.view_is _ c.deref-2.ensures in
    let off : begins c.behind-node.inside.at c.args.key.now ≡ false = ap (λ p. begins p c.args.key.now) low ∙ ap (λ z. leads_to z c.args.key.now) (sym c.in-Some.is) ∙ c.requires.beside in
    let short : length (common c.behind-node.inside.at c.args.key.now) < length c.behind-node.inside.at = common_shorter _ _ off in
    let one : length c.common-at.result ≡ length (common c.behind-node.inside.at c.args.key.now) = ap length c.common-at.ensures in
    let two : length c.behind-node-2.inside.at ≡ length c.behind-node.inside.at = ap length (low2 ∙ sym low) in
    omega (arith, short, one, two)

pub returns : goal.returns
returns g c =
    let low = at_box c.behind-node.inside _ c.behind-node.view_is _ c.deref.ensures in
    let low2 = at_box c.behind-node-2.inside _ c.behind-node-2.view_is _ c.deref-2.ensures in
    parting_here _ c.in-Some.node _ _ _ c.in-Some.is c.requires.under c.requires.beside
    (c.common-at.ensures ∙ ap (λ p. common p c.args.key.now) low)
    (ap (begins (c.common-at.result ++ c.side.result ∷ [])) (sym low2) ∙ c.side.ensures)
