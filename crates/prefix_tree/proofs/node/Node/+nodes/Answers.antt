use Rattle.std.proofs.Common.{[], rules, ◌≤◌, ◌<◌, ◌-◌, ◌^◌, length, true, false, arith}
use Rattle.prefix_tree.proofs.Begins.{begins_length}
use Rattle.prefix_tree.specs.Inside.Around.{IsUnder}
use Rattle.prefix_tree.proofs.StepLaws.{zero_any, one_any}
use Rattle.prefix_tree.proofs.NodeLaws.{at_is, fits, firm_node}
use Rattle.prefix_tree.proofs.CountLaws.{few_nodes, full_nodes, twice, fits_below, fits_word, length_push}
use Rattle.prefix_tree.proofs.node.Node.+nodes.Goals as goal

pub nodes-overflow_add-result : goal.nodes-overflow_add-result
nodes-overflow_add-result g t c =
    let k = length c.self.inside.at in
    let top : k ≤ 48 = omega (arith, c.len.ensures.value, c.len.ensures.at_most_48) in
    let a : c.nodes_below.result < 2 ^ (48 - k) = c.nodes_below.ensures.fits _ k (fits c.self.inside _ c.self.view_is c.requires).0 (length_push c.self.inside.at false) top in
    let w = fits_word k _ (twice k c.nodes_below.result c.nodes_below.result top a a) in
    omega (arith, w)

pub nodes-overflow_add-result-2 : goal.nodes-overflow_add-result-2
nodes-overflow_add-result-2 g t c =
    let k = length c.self.inside.at in
    let top : k ≤ 48 = omega (arith, c.len.ensures.value, c.len.ensures.at_most_48) in
    let a : c.nodes_below.result < 2 ^ (48 - k) = c.nodes_below.ensures.fits _ k (fits c.self.inside _ c.self.view_is c.requires).0 (length_push c.self.inside.at false) top in
    let b : c.nodes_below-2.result < 2 ^ (48 - k) = c.nodes_below-2.ensures.fits _ k (fits c.self.inside _ c.self.view_is c.requires).1 (length_push c.self.inside.at true) top in
    let w = fits_word k _ (twice k c.nodes_below.result c.nodes_below-2.result top a b) in
    omega (arith, w)

pub nodes-returns-clause-few : goal.nodes-returns-clause-few
nodes-returns-clause-few g t c = few_nodes c.self.inside _ c.self.view_is c.requires _ _ c.nodes_below.ensures.few c.nodes_below-2.ensures.few

pub nodes-returns-clause-full : goal.nodes-returns-clause-full
nodes-returns-clause-full g t c full = full_nodes c.self.inside _ c.self.view_is c.requires _ _ full c.nodes_below.ensures.few
    c.nodes_below-2.ensures.few c.nodes_below.ensures.full c.nodes_below-2.ensures.full

pub nodes-returns-clause-fits : goal.nodes-returns-clause-fits
nodes-returns-clause-fits g t c =
    let k = length c.self.inside.at in
    let top : k ≤ 48 = omega (arith, c.len.ensures.value, c.len.ensures.at_most_48) in
    let a : c.nodes_below.result < 2 ^ (48 - k) = c.nodes_below.ensures.fits _ k (fits c.self.inside _ c.self.view_is c.requires).0 (length_push c.self.inside.at false) top in
    let b : c.nodes_below-2.result < 2 ^ (48 - k) = c.nodes_below-2.ensures.fits _ k (fits c.self.inside _ c.self.view_is c.requires).1 (length_push c.self.inside.at true) top in
    rw (← at_is c.self.inside _ c.self.view_is) (twice k _ _ top a b)

pub nodes_below-returns-in-Some-clause-fits : goal.nodes_below-returns-in-Some-clause-fits
nodes_below-returns-in-Some-clause-fits g t c p k under is top =
    let firm = firm_node p _ c.in-Some.node c.deref.result.now c.in-Some.is c.deref.ensures under in
    let h : length p ≤ length c.deref.result.now.at = begins_length p _ firm.loose.extends in
    fits_below k (length c.deref.result.now.at) c.nodes.result (omega (arith, h, is)) c.nodes.ensures.short c.nodes.ensures.fits

pub nodes-nodes_below-requires : goal.nodes-nodes_below-requires
nodes-nodes_below-requires g t c κs within = let under : IsUnder [] c.self.inside.zero = zero_any c.self.inside _ c.self.view_is c.requires in search (rules)

pub nodes-nodes_below-requires-2 : goal.nodes-nodes_below-requires-2
nodes-nodes_below-requires-2 g t c κs within = let under : IsUnder [] c.self.inside.one = one_any c.self.inside _ c.self.view_is c.requires in search (rules)
