use Rattle.std.proofs.Common.{ap, ◌∙◌}
use Rattle.std.specs.FinMap as finite
use Rattle.group_attach.specs.Attached.{listed, of_radio}
use Rattle.group_attach.specs.Applied.{applied}
use Rattle.group_attach.specs.Inside.ListedMap.{map_of}
use Rattle.group_attach.proofs.BothSides.{own_count}
use Rattle.group_attach.proofs.groups.Groups.count_after.Goals as goal

pub returns : goal.returns
returns g c =
    c.count_after.ensures
    ∙ ap (λ l. finite.len (of_radio (applied c.args.registry.now (map_of c.part-own.result.now) c.args.itsi c.args.mode l) c.args.itsi)) c.as_slice.ensures.value
    ∙ own_count c.args.registry.now c.args.self.now c.args.itsi c.args.mode c.args.items.now c.part-own.result.now
    (c.part-own.ensures.items ∙ (λ i. listed (of_radio (c.self.view_is i) (c.number.ensures.value i))))
