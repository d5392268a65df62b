use Rattle.std.proofs.Common.{◌≡◌, ◌∙◌, None, refl, rules}
use Rattle.std.specs.Prelude.{slice_get}
use Rattle.base.proofs.Results.{on_err}
use Rattle.image_rows.specs.RowText.{group_in}
use Rattle.register_text.proofs.Groups.{one_more, all_printed, prefix_kept, prefix_more, prefix_itself, fewer}
use Rattle.register_text.proofs.printing.put_groups.Goals as goal

pub loop-group-init : goal.loop-group-init
loop-group-init g c = record { text = refl; prefix = prefix_itself c.args.out.now.items }

pub loop-group-preserved : goal.loop-group-preserved
loop-group-preserved g c =
    let now = c.loop-group.out.items in
    let new = c.put_group.new.out.items in
    record {
      text = one_more now new c.loop-group.left c.next.new.self (group_in c.in-Some.group) c.in_ok-put_group.ensures.ok c.in-Some.ensures.value c.next.ensures.rest ∙ c.loop-group.invariant.text;
      prefix = prefix_kept c.args.out.now.items now new c.loop-group.invariant.prefix (prefix_more now _ new c.in_ok-put_group.ensures.ok);
    }

pub loop-group-smaller : goal.loop-group-smaller
loop-group-smaller g c = fewer c.loop-group.left c.next.new.self (group_in c.in-Some.group) c.in-Some.ensures.value c.next.ensures.rest

pub returns-in_err-put_group-clause-err : goal.returns-in_err-put_group-clause-err
returns-in_err-put_group-clause-err g c =
    on_err c.from_residual.result
    (prefix_kept c.args.out.now.items c.loop-group.out.items c.put_group.new.out.items c.loop-group.invariant.prefix c.in_err-put_group.ensures.err)

pub returns-clause-ok : goal.returns-clause-ok
returns-clause-ok g c =
    let none : None ≡ slice_get c.loop-group.left 0 = search rules in
    all_printed c.args.out.now.items c.loop-group.out.items c.args.groups c.loop-group.left c.loop-group.invariant.text none
