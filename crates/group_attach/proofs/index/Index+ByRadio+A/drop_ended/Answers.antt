use Rattle.group_attach.specs.Attached.{Pair}
use Rattle.group_attach.specs.declared.ending.Ending.TheVariants as ending
use Rattle.group_attach.proofs.Endings.{update_spares}
use Rattle.group_attach.proofs.IndexFacts.{filed_ended, is_ended}
use Rattle.group_attach.proofs.index.Index+ByRadio+A.drop_ended.Goals as goal

pub invariant_of-self : goal.invariant_of-self
invariant_of-self g c = filed_ended (λ (pair : Pair). pair.0) c.self.inside.lists _ c.number.ensures.below c.self.invariant _ c.whole-path.ensures _
    c.args.itsi (ending.Update c.args.update) c.end.ensures

pub returns : goal.returns
returns g c = is_ended (λ (pair : Pair). pair.0) c.self.inside.lists _ c.number.ensures.below c.self.invariant _ c.whole-path.ensures _ _ c.args.itsi
    (ending.Update c.args.update) c.self.view_is (rw c.number.ensures.value (update_spares c.args.itsi c.args.update)) c.end.ensures
