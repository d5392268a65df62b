use Rattle.std.proofs.Common.{ap, ◌∙◌}
use Rattle.group_attach.specs.Attached.{of_radio}
use Rattle.group_attach.specs.Applied.{applied}
use Rattle.group_attach.proofs.BothSides.{part_applied}
use Rattle.group_attach.proofs.groups.Groups.changed.Goals as goal

pub returns : goal.returns
returns g c =
    c.in_ok-change_all.ensures
    ∙ (λ i. applied c.args.registry.now (c.in_ok-list.ensures i) c.args.itsi c.args.mode (c.as_slice.ensures.value i))
    ∙ part_applied c.args.registry.now c.self.inside.by_radio c.args.itsi c.args.mode c.args.items.now
    ∙ ap (λ m. of_radio (applied c.args.registry.now m c.args.itsi c.args.mode c.args.items.now) c.args.itsi) c.self.view_is
