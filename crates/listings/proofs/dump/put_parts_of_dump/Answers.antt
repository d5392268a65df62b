use Rattle.std.proofs.Common.{◌++◌, ap, ◌∙◌, append_assoc}
use Rattle.std.proofs.lemmas.Result.{on_err_weaker}
use Rattle.listings.specs.Inside.Dumping.{head_text, tables_text}
use Rattle.listings.proofs.Listed.{prefix_with_more}
use Rattle.listings.proofs.dump.put_parts_of_dump.Goals as goal

pub returns-clause-err : goal.returns-clause-err
returns-clause-err g c =
    let old = c.args.out.now.items in
    let head = head_text c.args.register.now in
    let tables = tables_text c.args.register.now in
    let so_far = c.in_ok-put_tables.ensures.ok ∙ ap (λ t. t ++ tables) c.in_ok-put_head.ensures.ok ∙ append_assoc old head tables in
    on_err_weaker c.put_lasts.result (prefix_with_more old (head ++ tables) c.put_tables.new.out.items c.put_lasts.new.out.items so_far) c.put_lasts.ensures.err
