use Rattle.std.proofs.Common.{sym, ap, ◌∙◌}
use Rattle.prefix_tree.specs.Walk.{seen}
use Rattle.prefix_tree.proofs.WalkLaws.{if_ok_then, seen-push, own_added, own_none}
use Rattle.prefix_tree.proofs.node.Node.push_own.Goals as goal

pub returns-else-is_err : goal.returns-else-is_err
returns-else-is_err g c =
    ap seen (c.push.ensures.items ∙ if_ok_then c.push.result _ _ (sym c.is_err.ensures.value ∙ c.if-is_err.false))
    ∙ seen-push c.args.out.now.items _ ∙ own_added c.self.inside _ c.self.view_is c.requires _ _ c.in-Some.is

pub returns-in_default : goal.returns-in_default
returns-in_default g c = own_none c.self.inside _ c.self.view_is c.requires _ c.in_default.is
