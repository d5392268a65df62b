use Rattle.std.proofs.Common.{ap, sym, ◌∙◌}
use Rattle.group_attach.specs.Attached.{listed, of_radio}
use Rattle.group_attach.specs.Inside.Filed.{held}
use Rattle.group_attach.proofs.BothSides.{part_has, some_own, put_back, both_replaced}
use Rattle.group_attach.proofs.groups.Groups.replace.Goals as goal

pub restore-requires-clause-own : goal.restore-requires-clause-own
restore-requires-clause-own g c = part_has c.self.inside.by_radio (held c.in_ok-before.before) c.args.itsi c.in_ok-before.ensures.before

pub restore-requires-clause-some : goal.restore-requires-clause-some
restore-requires-clause-some g c =
    some_own c.set.new.self c.args.itsi c.part-own.result.now (c.part-own.ensures.items ∙ ap (λ n. listed (of_radio c.set.new.self n)) c.number.ensures.value) c.in-Err.ensures.some

pub invariant_of-self-in-Err : goal.invariant_of-self-in-Err
invariant_of-self-in-Err g c =
    c.in-Err.ensures.err ∙ c.self.invariant
    ∙ sym (put_back c.self.inside.by_radio c.set.new.self c.restore.new.self c.args.list (held c.in_ok-before.before) c.args.itsi
    c.in_ok-before.ensures.before c.in_ok-before.ensures.ok c.restore.ensures)

pub returns-in-Err-clause-err : goal.returns-in-Err-clause-err
returns-in-Err-clause-err g c =
    put_back c.self.inside.by_radio c.set.new.self c.restore.new.self c.args.list (held c.in_ok-before.before) c.args.itsi c.in_ok-before.ensures.before c.in_ok-before.ensures.ok c.restore.ensures
    ∙ c.self.view_is

pub invariant_of-self-in-Ok : goal.invariant_of-self-in-Ok
invariant_of-self-in-Ok g c =
    both_replaced c.self.inside.by_radio c.self.inside.by_group c.set.new.self c.attach_all.new.self c.leave_absent.new.self c.args.list c.args.itsi c.slice_of.result.now c.part-own.result.now
    c.self.invariant c.in_ok-before.ensures.ok
    (c.slice_of.ensures.items ∙ ap (λ o. listed (held o)) c.as_ref.ensures.value ∙ ap listed c.in_ok-before.ensures.before)
    (c.part-own.ensures.items ∙ ap (λ n. listed (of_radio c.set.new.self n)) c.number.ensures.value)
    c.in-Ok.ensures.ok c.leave_absent.ensures

pub invariant_of-self-in-Ok-2 : goal.invariant_of-self-in-Ok-2
invariant_of-self-in-Ok-2 g c =
    both_replaced c.self.inside.by_radio c.self.inside.by_group c.set.new.self c.attach_all.new.self c.leave_absent.new.self c.args.list c.args.itsi c.slice_of.result.now c.part-own.result.now
    c.self.invariant c.in_ok-before.ensures.ok
    (c.slice_of.ensures.items ∙ ap (λ o. listed (held o)) c.as_ref.ensures.value ∙ ap listed c.in_ok-before.ensures.before)
    (c.part-own.ensures.items ∙ ap (λ n. listed (of_radio c.set.new.self n)) c.number.ensures.value)
    c.in-Ok.ensures.ok c.leave_absent.ensures
