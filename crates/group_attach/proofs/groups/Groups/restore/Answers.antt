use Rattle.std.proofs.Common.{rules, ◌≡◌, sym, subst}
use Rattle.std.specs.Prelude.{OnOk}
use Rattle.group_attach.specs.Applied.{restored}
use Rattle.group_attach.specs.Inside.Filed.{AllHave}
use Rattle.group_attach.proofs.Restored.{own_pairs, restored_ok}
use Rattle.group_attach.proofs.groups.Groups.restore.Goals as goal

pub replace-requires : goal.replace-requires
replace-requires g c = subst (λ l. AllHave (λ pair. pair.0) c.args.itsi l) (sym c.in-Ok.ensures) (own_pairs c.args.attachments.now c.args.itsi c.requires.in_order c.requires.own)

pub returns-clause-ok : goal.returns-clause-ok
returns-clause-ok g c =
    let done : OnOk c.replace.result (c.replace.new.self ≡ restored c.args.self.now c.args.itsi c.args.attachments.now) =
    restored_ok c.replace.result c.args.self.now _ c.in-Ok.list c.args.attachments.now c.args.itsi c.requires.in_order c.requires.own
    c.in-Ok.ensures c.replace.ensures.ok in
    search (rules, done, c.or.ensures)
