use Rattle.std.proofs.Common.{ap, ◌∙◌}
use Rattle.group_attach.specs.Attached.{Pair, of_radio}
use Rattle.group_attach.proofs.IndexFacts.{part_is, copied}
use Rattle.group_attach.proofs.index.Index+ByRadio+A.copy_of.Goals as goal

pub returns-in-Some : goal.returns-in-Some
returns-in-Some g c =
    copied c.try_copy.result _ _
    (part_is (λ (pair : Pair). pair.0) c.self.inside.lists _ c.number.ensures.below c.self.invariant _ c.whole.ensures _ _ c.self.view_is
    c.in-Some.ensures ∙ ap (of_radio c.args.self.now) c.number.ensures.value) c.try_copy.ensures

pub returns-in_ok-clone-in-None : goal.returns-in_ok-clone-in-None
returns-in_ok-clone-in-None g c = c.new.ensures ∙ part_is (λ (pair : Pair). pair.0) c.self.inside.lists _ c.number.ensures.below c.self.invariant _
    c.whole.ensures _ _ c.self.view_is c.in-None.ensures ∙ ap (of_radio c.args.self.now) c.number.ensures.value
