use Rattle.std.proofs.Common.{ap, sym, ◌∙◌}
use Rattle.group_attach.specs.Attached.{listed, of_radio}
use Rattle.group_attach.specs.Applied.{after_update}
use Rattle.group_attach.proofs.BothSides.{both_after_update, none_after_update}
use Rattle.group_attach.proofs.groups.Groups.on_update.Goals as goal

pub invariant_of-self : goal.invariant_of-self
invariant_of-self g c = both_after_update c.self.inside.by_radio c.self.inside.by_group _ _ c.args.itsi c.args.update _ c.self.invariant
    (c.part-own.ensures.items ∙ ap (λ n. listed (of_radio c.self.inside.by_radio n)) c.number.ensures.value) c.leave_ended.ensures
    c.drop_ended.ensures

pub returns-else-any_ends : goal.returns-else-any_ends
returns-else-any_ends g c =
    sym c.self.view_is
    ∙ none_after_update c.self.inside.by_radio c.args.itsi c.args.update _
    (c.part-own.ensures.items ∙ ap (λ n. listed (of_radio c.self.inside.by_radio n)) c.number.ensures.value)
    (sym c.any_ends.ensures ∙ c.if-any_ends.false)
    ∙ ap (λ m. after_update m c.args.itsi c.args.update) c.self.view_is
