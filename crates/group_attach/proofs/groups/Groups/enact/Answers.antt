use Rattle.std.proofs.Common.{rules, ◌≡◌}
use Rattle.std.specs.Prelude.{OnOk}
use Rattle.group_attach.specs.Applied.{applied}
use Rattle.group_attach.proofs.BothSides.{part_has, replaced_ok}
use Rattle.group_attach.proofs.groups.Groups.enact.Goals as goal

pub replace-requires : goal.replace-requires
replace-requires g c = part_has _ c.in-Ok.list c.args.itsi c.in-Ok.ensures

pub returns-clause-ok : goal.returns-clause-ok
returns-clause-ok g c =
    let done : OnOk c.replace.result (c.replace.new.self ≡ applied c.args.registry.now c.args.self.now c.args.itsi c.args.mode c.args.items.now) =
    replaced_ok c.replace.result c.args.registry.now c.args.self.now _ c.in-Ok.list c.args.itsi c.args.mode c.args.items.now c.in-Ok.ensures
    c.replace.ensures.ok in
    search (rules, done, c.or.ensures)
