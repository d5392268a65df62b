use Rattle.std.proofs.Common.{◌≡◌, ◌++◌, decimal, append_assoc, ◌∙◌}
use Rattle.std.proofs.lemmas.Result.{on_err_weaker}
use Rattle.listings.proofs.Listed.{prefix_with_more}
use Rattle.console.proofs.answer_text.put_done_text.Goals as goal

pub returns-clause-err : goal.returns-clause-err
returns-clause-err g c =
    let put : c.print_number-2.new.out.items ≡ c.args.out.now.items ++ decimal c.args.sequence ++ c.args.word.now ++ decimal c.args.number =
    cc (c.in_ok-print_number.ensures.ok, c.in_ok-extend_from_slice.ensures.items, c.as_bytes.ensures.value, c.in_ok-print_number-2.ensures.ok) in
    on_err_weaker c.put_pdu.result (prefix_with_more c.args.out.now.items (decimal c.args.sequence ++ c.args.word.now ++ decimal c.args.number) c.print_number-2.new.out.items c.put_pdu.new.out.items
    (put ∙ simp append_assoc)) c.put_pdu.ensures.err
