use Rattle.std.proofs.Common.{subst, sym}
use Rattle.std.specs.Prelude.{IsSome}
use Rattle.group_attach.specs.Attached.{pair_of}
use Rattle.group_attach.proofs.IndexFacts.{filed_tried, is_attached, get_under, before_is}
use Rattle.group_attach.proofs.index.Index.attach.Goals as goal

pub invariant_of-self : goal.invariant_of-self
invariant_of-self g c = filed_tried g.S.Side.key c.self.inside.lists _ c.attach.result _ c.args.attachment c.path-path.ensures.fits c.self.invariant
    c.path-path.ensures.path c.attach.ensures.ok c.attach.ensures.err

pub returns-clause-before : goal.returns-clause-before
returns-clause-before g c = before_is g.S.Side.key c.self.inside.lists _ c.attach.result _ (pair_of c.args.attachment) c.path-path.ensures.path c.self.view_is c.attach.ensures.before

pub returns-clause-ok : goal.returns-clause-ok
returns-clause-ok g c = is_attached g.S.Side.key c.self.inside.lists _ c.attach.result _ _ c.args.attachment c.path-path.ensures.fits c.self.invariant
    c.path-path.ensures.path c.self.view_is c.attach.ensures.ok

pub returns-clause-overwrites : goal.returns-clause-overwrites
returns-clause-overwrites g c = λ there.
    c.attach.ensures.overwrites
    (subst IsSome (sym (get_under g.S.Side.key c.self.inside.lists _ _ (pair_of c.args.attachment) c.path-path.ensures.path c.self.view_is)) there)
