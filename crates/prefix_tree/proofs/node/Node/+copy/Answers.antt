use Rattle.std.proofs.Common.{[], ◌++◌, ap, ◌∙◌, rules}
use Rattle.std.specs.FinMap as map
use Rattle.std.proofs.lemmas.Result.{on_ok_weaker}
use Rattle.prefix_tree.specs.Inside.Around.{IsUnder}
use Rattle.prefix_tree.proofs.NodeLaws.{table_after}
use Rattle.prefix_tree.proofs.NextLaws.{none_entries}
use Rattle.prefix_tree.proofs.StepLaws.{zero_any, one_any}
use Rattle.prefix_tree.proofs.WalkLaws.{walk_node, none_added}
use Rattle.prefix_tree.proofs.node.Node.+copy.Goals as goal

pub copy_entries-copy_below-requires : goal.copy_entries-copy_below-requires
copy_entries-copy_below-requires g t c κs within = let under : IsUnder [] c.self.inside.zero = zero_any c.self.inside _ c.self.view_is c.requires in search (rules)

pub copy_entries-copy_below-requires-2 : goal.copy_entries-copy_below-requires-2
copy_entries-copy_below-requires-2 g t c κs within = let under : IsUnder [] c.self.inside.one = one_any c.self.inside _ c.self.view_is c.requires in search (rules)

pub copy_entries-returns : goal.copy_entries-returns
copy_entries-returns g t c = on_ok_weaker c.copy_below-2.result (walk_node c.self.inside _ c.self.view_is c.requires _ _ _ _ c.in_ok-copy_own.ensures c.in_ok-copy_below.ensures) c.copy_below-2.ensures

pub copy_below-returns-in-Some : goal.copy_below-returns-in-Some
copy_below-returns-in-Some g t c = on_ok_weaker c.copy_entries.result (λ e. e ∙ ap (λ m. c.args.out.now.items ++ map.entries m) (table_after _ _ _ c.in-Some.is c.deref.ensures)) c.copy_entries.ensures

pub copy_below-returns-in-None : goal.copy_below-returns-in-None
copy_below-returns-in-None g t c = none_added _ _ (none_entries _ c.in-None.is)
