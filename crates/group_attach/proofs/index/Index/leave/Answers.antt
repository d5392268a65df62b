use Rattle.group_attach.specs.declared.ending.Ending.TheVariants as ending
use Rattle.group_attach.proofs.Endings.{leave_spares}
use Rattle.group_attach.proofs.IndexFacts.{filed_ended, is_ended}
use Rattle.group_attach.proofs.index.Index.leave.Goals as goal

pub invariant_of-self : goal.invariant_of-self
invariant_of-self g c = filed_ended g.S.Side.key c.self.inside.lists _ c.path-path.ensures.fits c.self.invariant _ c.path-path.ensures.path _ c.args.itsi (ending.Leave c.args.gtsi) c.end.ensures

pub returns : goal.returns
returns g c = is_ended g.S.Side.key c.self.inside.lists _ c.path-path.ensures.fits c.self.invariant _ c.path-path.ensures.path _ _ c.args.itsi
    (ending.Leave c.args.gtsi) c.self.view_is (leave_spares g.S.Side.key c.args.itsi c.args.gtsi) c.end.ensures
