use Rattle.std.proofs.Common.{◌≡◌, ◌∙◌, sym, ap, ℕ, ◌+◌, length}
use Rattle.std.proofs.lemmas.Result.{on_ok_weaker}
use Rattle.mm_pdus.specs.Groups.{groups_body}
use Rattle.mm_pdus.proofs.GroupSteps.{element_written, length-groups_body}
use Rattle.mm_pdus.proofs.group_fields.put_element.Goals as goal

pub returns-clause-ok : goal.returns-clause-ok
returns-clause-ok g c =
    let text = g.T.GroupText.text in
    let items = c.args.items.now in
    let len : 6 + c.groups_len.result ≡ length (groups_body text items) = ap (λ (n : ℕ). 6 + n) c.groups_len.ensures.value ∙ sym (length-groups_body text items) in
    on_ok_weaker c.put_each.result
    (element_written text c.args.identifier (6 + c.groups_len.result) items c.args.writer.now c.put_bit.new.writer c.put.new.writer c.put-2.new.writer
    c.put-3.new.writer c.put_each.new.writer c.in_ok-put_bit.ensures.ok c.in_ok-put.ensures.ok c.in_ok-put-2.ensures.ok c.in_ok-put-3.ensures.ok
    len)
    c.put_each.ensures.ok
