use Rattle.std.proofs.Common.{[], ◌++◌, ap, ◌∙◌, rules}
use Rattle.std.specs.FinMap as map
use Rattle.std.proofs.lemmas.Result.{on_ok_weaker}
use Rattle.prefix_tree.specs.Walk.{seen}
use Rattle.prefix_tree.specs.Inside.Around.{IsUnder}
use Rattle.prefix_tree.proofs.NodeLaws.{table_after}
use Rattle.prefix_tree.proofs.NextLaws.{none_entries}
use Rattle.prefix_tree.proofs.StepLaws.{zero_any, one_any}
use Rattle.prefix_tree.proofs.WalkLaws.{walk_node, none_added}
use Rattle.prefix_tree.proofs.node.Node.+push.Goals as goal

pub push_entries-push_below-requires : goal.push_entries-push_below-requires
push_entries-push_below-requires g t c κs within = let under : IsUnder [] c.self.inside.zero = zero_any c.self.inside _ c.self.view_is c.requires in search (rules)

pub push_entries-push_below-requires-2 : goal.push_entries-push_below-requires-2
push_entries-push_below-requires-2 g t c κs within = let under : IsUnder [] c.self.inside.one = one_any c.self.inside _ c.self.view_is c.requires in search (rules)

pub push_entries-returns : goal.push_entries-returns
push_entries-returns g t c = on_ok_weaker c.push_below-2.result (walk_node c.self.inside _ c.self.view_is c.requires _ _ _ _ c.in_ok-push_own.ensures c.in_ok-push_below.ensures) c.push_below-2.ensures

pub push_below-returns-in-Some : goal.push_below-returns-in-Some
push_below-returns-in-Some g t c =
    on_ok_weaker c.push_entries.result
    (λ e. e ∙ ap (λ m. seen c.args.out.now.items ++ map.entries m) (table_after _ _ _ c.in-Some.is c.deref.ensures)) c.push_entries.ensures

pub push_below-returns-in-None : goal.push_below-returns-in-None
push_below-returns-in-None g t c = none_added _ _ (none_entries _ c.in-None.is)
