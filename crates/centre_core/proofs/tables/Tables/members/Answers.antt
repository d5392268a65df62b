use Rattle.std.proofs.Common.{◌≡◌, map, subst, rules}
use Rattle.std.specs.Prelude.{IfOk}
use Rattle.group_attach.specs.declared.attachment.Attachment.{Attachment}
use Rattle.group_attach.specs.Attached.{members_of}
use Rattle.centre_core.proofs.tables.Tables.members.Goals as goal

pub returns : goal.returns
returns g c =
    let all : c.deref.result.now ≡ members_of c.self.inside.groups c.args.group = search rules in
    rw (← c.self.view_is) (subst (λ members. IfOk c.radios.result (λ list. list.items ≡ map (λ (a : Attachment). a.itsi) members)) all c.radios.ensures)
