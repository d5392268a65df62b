use Rattle.std.proofs.Common.{[], ◌∷◌, ◌++◌, ap, ◌∙◌}
use Rattle.prefix_tree.proofs.WalkLaws.{own_added, own_none}
use Rattle.prefix_tree.proofs.node.Node.copy_own.Goals as goal

pub returns-in_ok-push : goal.returns-in_ok-push
returns-in_ok-push g c =
    c.in_ok-push.ensures.items ∙ ap (λ v. c.args.out.now.items ++ (c.self.inside.at, v) ∷ []) c.in_ok-try_copy.ensures
    ∙ own_added c.self.inside _ c.self.view_is c.requires _ _ c.in-Some.is

pub returns-in_default : goal.returns-in_default
returns-in_default g c = own_none c.self.inside _ c.self.view_is c.requires _ c.in_default.is
