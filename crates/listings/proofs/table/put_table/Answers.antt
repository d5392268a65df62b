use Rattle.std.proofs.Common.{◌+◌, ◌<◌, ◌++◌, length, vec_len, vec_capacity, ap, ◌∙◌, subst}
use Rattle.std.specs.List.{flat_map}
use Rattle.std.proofs.lemmas.Result.{on_ok_weaker}
use Rattle.base.proofs.Results.{on_err}
use Rattle.listings.specs.Entries.{entries_of}
use Rattle.listings.specs.Lines.{count_text, entry_line}
use Rattle.listings.specs.Texts.{table_words}
use Rattle.listings.proofs.Turns.{after_head, no_head}
use Rattle.listings.proofs.table.put_table.Goals as goal

pub returns-clause-ok : goal.returns-clause-ok
returns-clause-ok g c =
    let old = c.args.out.now.items in
    let words = table_words c.args.table.now in
    let es = entries_of c.args.register.now c.args.table.now in
    let head = c.in_ok-put_head.ensures.ok ∙ ap (λ n. old ++ (words ++ count_text n)) c.count.ensures in
    on_ok_weaker c.put_entries.result
    (λ put. after_head old c.put_head.new.out.items c.put_entries.new.out.items words (count_text (length es)) (flat_map entry_line es) head put)
    c.put_entries.ensures.ok

pub returns-in_err-put_head-clause-full : goal.returns-in_err-put_head-clause-full
returns-in_err-put_head-clause-full g c =
    let words = table_words c.args.table.now in
    let es = entries_of c.args.register.now c.args.table.now in
    let full = subst (λ n. vec_capacity c.args.out.now < vec_len c.args.out.now + length (words ++ count_text n)) c.count.ensures c.in_err-put_head.ensures.full in
    on_err c.from_residual.result (no_head words (count_text (length es)) (flat_map entry_line es) (vec_len c.args.out.now) (vec_capacity c.args.out.now) full)
