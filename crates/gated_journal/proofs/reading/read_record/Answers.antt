use Rattle.std.proofs.Common.{◌≡◌, None, Some, option_map, sym, ap, ◌∙◌, List, ℕ, subst}
use Rattle.std.proofs.lemmas.Result.{err_from_is_err_and}
use Rattle.sector_disk.specs.Disk.{View}
use Rattle.std.specs.Prelude.{IsSome}
use Rattle.gated_journal.specs.Record.{record_of}
use Rattle.gated_journal.proofs.Judged.{bytes_fail, no_bytes, no_record, some_judged, some_record}
use Rattle.gated_journal.proofs.Kept.{err_as, judged_is_read, reads_where}
use Rattle.gated_journal.proofs.reading.read_record.Goals as goal

pub returns-in_err-next-clause-reads : goal.returns-in_err-next-clause-reads
returns-in_err-next-clause-reads g c =
    let old : View = g.D.Disk.view c.args.disk.now in
    let new : View = g.D.Disk.view c.read_data.new.disk in
    let p = err_from_is_err_and c.from_residual.result c.from_residual.ensures.1 in
    let was = c.in_err-next.ensures.reads in
    rw (p.1, p.2) (record {
      reads = reads_where old new was.reads (err_as _ _);
      exact = λ honest. bytes_fail g.row.A.Denot c.args.place.now.form c.args.place.now.count old.reads c.args.place.now.next c.args.place.now.end c.in_err-next.field-0.0 (was.exact honest);
      capacity = was.capacity;
    })

pub returns-in_err-next-clause-kinds : goal.returns-in_err-next-clause-kinds
returns-in_err-next-clause-kinds g c =
    let p = err_from_is_err_and c.from_residual.result c.from_residual.ensures.1 in
    rw (p.1, p.2) (judged_is_read c.args.place.now.end c.in_err-next.field-0.0 c.in_err-next.ensures.kinds)

pub returns-in_default-clause-reads : goal.returns-in_default-clause-reads
returns-in_default-clause-reads g c =
    let old : View = g.D.Disk.view c.args.disk.now in
    let new : View = g.D.Disk.view c.read_data.new.disk in
    let was = c.in_ok-next.ensures.reads in
    record {
      reads = reads_where old new was.reads (λ e. absurd cc);
      exact = λ honest. no_bytes c.args.place.now.form c.args.place.now.count old.reads c.args.place.now.next c.args.place.now.end (rw c.in_default.is at (was.exact honest));
      capacity = was.capacity;
    }

pub returns-in-None-clause-reads : goal.returns-in-None-clause-reads
returns-in-None-clause-reads g c =
    let old : View = g.D.Disk.view c.args.disk.now in
    let new : View = g.D.Disk.view c.read_data.new.disk in
    let was = c.in_ok-next.ensures.reads in
    let none : record_of c.args.place.now.form c.args.place.now.count c.read_data.new.buffer.items ≡ None =
    ap (record_of c.args.place.now.form c.args.place.now.count) (sym c.as_slice.ensures) ∙ sym (c.in_ok-decode_next.ensures.exact) ∙
    ap (option_map (λ commands. commands.items)) c.in-None.is in
    record {
      reads = reads_where old new was.reads (λ e. absurd cc);
      exact = λ honest. let found = rw c.in-Some.is at (was.exact honest) in
          no_record c.args.place.now.form c.args.place.now.count old.reads c.args.place.now.next c.args.place.now.end c.read_data.new.buffer.items c.in-Some.next found none;
      capacity = was.capacity;
    }

pub returns-in-Some-2-clause-reads : goal.returns-in-Some-2-clause-reads
returns-in-Some-2-clause-reads g c =
    let old : View = g.D.Disk.view c.args.disk.now in
    let new : View = g.D.Disk.view c.read_data.new.disk in
    let was = c.in_ok-next.ensures.reads in
    let some : record_of c.args.place.now.form c.args.place.now.count c.read_data.new.buffer.items ≡ Some c.in-Some-2.commands.items =
    ap (record_of c.args.place.now.form c.args.place.now.count) (sym c.as_slice.ensures) ∙ sym (c.in_ok-decode_next.ensures.exact) ∙
    ap (option_map (λ commands. commands.items)) c.in-Some-2.is in
    record {
      reads = reads_where old new was.reads (λ e. absurd cc);
      exact = λ honest. let found = rw c.in-Some.is at (was.exact honest) in
          some_record c.args.place.now.form c.args.place.now.count old.reads c.args.place.now.next c.args.place.now.end c.read_data.new.buffer.items c.in-Some.next
          c.in-Some-2.commands.items found some;
      capacity = was.capacity;
    }

pub returns-in_err-decode_next-clause-reads : goal.returns-in_err-decode_next-clause-reads
returns-in_err-decode_next-clause-reads g c =
    let old : View = g.D.Disk.view c.args.disk.now in
    let new : View = g.D.Disk.view c.read_data.new.disk in
    let p = err_from_is_err_and c.from_residual-in_err-decode_next.result c.from_residual-in_err-decode_next.ensures.1 in
    let was = c.in_ok-next.ensures.reads in
    rw (p.1, p.2) (record { reads = reads_where old new was.reads (λ e. absurd cc); exact = λ honest. tt; capacity = was.capacity })

pub returns-in_err-decode_next-clause-memory : goal.returns-in_err-decode_next-clause-memory
returns-in_err-decode_next-clause-memory g c e honest =
    let old : View = g.D.Disk.view c.args.disk.now in
    let found = rw c.in-Some.is at (c.in_ok-next.ensures.reads.exact honest) in
    some_judged c.args.place.now.form c.args.place.now.count old.reads c.args.place.now.next c.args.place.now.end c.read_data.new.buffer.items c.in-Some.next found
    (subst (λ (bytes : List ℕ). IsSome (record_of {A = g.row.A.Denot} c.args.place.now.form c.args.place.now.count bytes)) c.as_slice.ensures c.in_err-decode_next.ensures.memory)
