use Rattle.std.proofs.Common.{[], ◌++◌, sym, subst, ◌∙◌}
use Rattle.std.specs.Prelude.{map as each, codes}
use Rattle.std.specs.Io.KnownBytes.{Appends}
use Rattle.std.proofs.lemmas.List.{append-nil}
use Rattle.std.proofs.lemmas.Result.{err_from_is_err_and}
use Rattle.registration.specs.declared.limits.Limits.{Limits}
use Rattle.image_rows.specs.Rows.{rows_of}
use Rattle.register_text.specs.Dump.{ended, register_bytes}
use Rattle.register_text.specs.Lines.{row_line}
use Rattle.register_text.specs.Text.{head_line}
use Rattle.register_text.proofs.Passing.{not_flushed, nothing_written, unwritten_after, written_by}
use Rattle.register_text.proofs.Written.{all_written, first_text}
use Rattle.register_text.proofs.dumping.write_register.Goals as goal

pub returns-in_default-clause-unwritten : goal.returns-in_default-clause-unwritten
returns-in_default-clause-unwritten g c = nothing_written g.W.TextSink.took g.W.TextSink.failed c.args.out.now (register_bytes c.args.register.now)

pub returns-in_default-put_first_line-clause-unwritten : goal.returns-in_default-put_first_line-clause-unwritten
returns-in_default-put_first_line-clause-unwritten g c = nothing_written g.W.TextSink.took g.W.TextSink.failed c.args.out.now (register_bytes c.args.register.now)

pub returns-in_err-write_rows-clause-unwritten : goal.returns-in_err-write_rows-clause-unwritten
returns-in_err-write_rows-clause-unwritten g c =
    let p = err_from_is_err_and c.from_residual.result c.from_residual.ensures.1 in
    let text = first_text c.args.register.now c.limits.result c.new-text.result.items c.put_first_line.new.text.items c.new-text.ensures.items c.in-Ok-put_first_line.ensures c.limits.ensures in
    rw (p.1, p.2, ← text) c.in_err-write_rows.ensures.unwritten

pub returns-in_err-write_out-clause-unwritten : goal.returns-in_err-write_out-clause-unwritten
returns-in_err-write_out-clause-unwritten g c =
    let p = err_from_is_err_and c.from_residual-in_err-write_out.result c.from_residual-in_err-write_out.ensures.1 in
    let text = first_text c.args.register.now c.limits.result c.new-text.result.items c.put_first_line.new.text.items c.new-text.ensures.items c.in-Ok-put_first_line.ensures c.limits.ensures in
    rw (p.1, p.2) (unwritten_after g.W.TextSink.took g.W.TextSink.failed _ c.args.out.now c.write_rows.new.out c.write_out.new.out
    c.put_first_line.new.text.items c.write_rows.new.text.items _ [] (register_bytes c.args.register.now)
    c.in_ok-write_rows.ensures.held (sym (append-nil _ ∙ text)) c.in_err-write_out.ensures.refused)

pub returns-in-Ok-flush_text-clause-known : goal.returns-in-Ok-flush_text-clause-known
returns-in-Ok-flush_text-clause-known g c =
    subst (λ (l : Limits). Appends (g.W.Write.contents c.args.out.now) (g.W.Write.contents c.flush_text.new.self)
    ((head_line l ++ codes "\n") ++ ended (each row_line (rows_of 1 c.args.register.now)))) c.limits.ensures
    (all_written _ _ _ _ c.new-text.result.items c.put_first_line.new.text.items (head_line c.limits.result ++ codes "\n") c.write_rows.new.text.items
    _ c.new-text.ensures.items c.in-Ok-put_first_line.ensures c.in_ok-write_rows.ensures.known
    c.in_ok-write_out.ensures.ok c.flush_text.ensures.known)

pub returns-in-Ok-flush_text-clause-written : goal.returns-in-Ok-flush_text-clause-written
returns-in-Ok-flush_text-clause-written g c =
    written_by g.W.TextSink.took g.W.TextSink.flushed c.args.out.now c.write_rows.new.out c.write_out.new.out c.flush_text.new.self
    c.put_first_line.new.text.items c.write_rows.new.text.items _ (register_bytes c.args.register.now)
    c.in_ok-write_rows.ensures.held c.in_ok-write_out.ensures.took c.in-Ok-flush_text.ensures.flushed
    (first_text c.args.register.now c.limits.result c.new-text.result.items c.put_first_line.new.text.items c.new-text.ensures.items c.in-Ok-put_first_line.ensures c.limits.ensures)

pub returns-clause-unwritten : goal.returns-clause-unwritten
returns-clause-unwritten g c =
    not_flushed g.W.TextSink.took g.W.TextSink.failed c.args.out.now c.write_rows.new.out c.write_out.new.out c.flush_text.new.self
    c.put_first_line.new.text.items c.write_rows.new.text.items _ (register_bytes c.args.register.now)
    c.in_ok-write_rows.ensures.held c.in_ok-write_out.ensures.took c.in-Err.ensures.refused
    (first_text c.args.register.now c.limits.result c.new-text.result.items c.put_first_line.new.text.items c.new-text.ensures.items c.in-Ok-put_first_line.ensures c.limits.ensures)
