use Rattle.std.proofs.Common.{◌≡◌, List, ℕ, Some, None, length, option_map, sym, ap, ◌∙◌}
use Rattle.std.proofs.lemmas.Result.{err_from_is_err_and}
use Rattle.sector_disk.specs.Disk.{View}
use Rattle.gated_journal.specs.Record.{record_of}
use Rattle.gated_journal.proofs.Judged.{bytes_fail, is_judged, no_bytes, not_judged}
use Rattle.gated_journal.proofs.Kept.{err_as, reads_where}
use Rattle.gated_journal.proofs.reading.judge_record.Goals as goal

pub returns-in_err-next-clause-reads : goal.returns-in_err-next-clause-reads
returns-in_err-next-clause-reads g c =
    let old : View = g.D.Disk.view c.args.disk.now in
    let new : View = g.D.Disk.view c.read_data.new.disk in
    let p = err_from_is_err_and c.from_residual.result c.from_residual.ensures.1 in
    let was = c.in_err-next.ensures.reads in
    rw (p.1, p.2) (record {
      reads = reads_where old new was.reads (err_as _ _);
      exact = λ honest. bytes_fail g.row.A.Denot c.args.place.now.form c.args.place.now.count old.reads c.args.place.now.next c.args.place.now.end c.in_err-next.field-0.0 (was.exact honest);
      capacity = was.capacity;
    })

pub returns-in_err-next-clause-kinds : goal.returns-in_err-next-clause-kinds
returns-in_err-next-clause-kinds g c =
    let p = err_from_is_err_and c.from_residual.result c.from_residual.ensures.1 in
    rw (p.1, p.2) c.in_err-next.ensures.kinds

pub returns-in_default-clause-reads : goal.returns-in_default-clause-reads
returns-in_default-clause-reads g c =
    let old : View = g.D.Disk.view c.args.disk.now in
    let new : View = g.D.Disk.view c.read_data.new.disk in
    let was = c.in_ok-next.ensures.reads in
    record {
      reads = reads_where old new was.reads (λ e. absurd cc);
      exact = λ honest. no_bytes c.args.place.now.form c.args.place.now.count old.reads c.args.place.now.next c.args.place.now.end (rw c.in_default.is at (was.exact honest));
      capacity = was.capacity;
    }

pub returns-in_default-count_next-clause-reads : goal.returns-in_default-count_next-clause-reads
returns-in_default-count_next-clause-reads g c =
    let old : View = g.D.Disk.view c.args.disk.now in
    let new : View = g.D.Disk.view c.read_data.new.disk in
    let was = c.in_ok-next.ensures.reads in
    let test : option_map (λ commands. length commands) (record_of {A = g.row.A.Denot} c.args.place.now.form c.args.place.now.count c.read_data.new.buffer.items) ≡ None =
    ap (λ (bytes : List ℕ).
    option_map (λ commands. length commands) (record_of {A = g.row.A.Denot} c.args.place.now.form c.args.place.now.count bytes))
    (sym c.as_slice.ensures) ∙ sym c.count_next.ensures.exact ∙ c.in_default-count_next.is in
    record {
      reads = reads_where old new was.reads (λ e. absurd cc);
      exact = λ honest. let found = rw c.in-Some.is at (was.exact honest) in
          not_judged c.args.place.now.form c.args.place.now.count old.reads c.args.place.now.next c.args.place.now.end c.read_data.new.buffer.items c.in-Some.next found test;
      capacity = was.capacity;
    }

pub returns-clause-reads : goal.returns-clause-reads
returns-clause-reads g c =
    let old : View = g.D.Disk.view c.args.disk.now in
    let new : View = g.D.Disk.view c.read_data.new.disk in
    let was = c.in_ok-next.ensures.reads in
    let test : option_map (λ commands. length commands) (record_of {A = g.row.A.Denot} c.args.place.now.form c.args.place.now.count c.read_data.new.buffer.items) ≡ Some c.in-Some-count_next.count =
    ap (λ (bytes : List ℕ).
    option_map (λ commands. length commands) (record_of {A = g.row.A.Denot} c.args.place.now.form c.args.place.now.count bytes))
    (sym c.as_slice.ensures) ∙ sym c.count_next.ensures.exact ∙ c.in-Some-count_next.is in
    record {
      reads = reads_where old new was.reads (λ e. absurd cc);
      exact = λ honest. let found = rw c.in-Some.is at (was.exact honest) in
          is_judged c.args.place.now.form c.args.place.now.count old.reads c.args.place.now.next c.args.place.now.end c.read_data.new.buffer.items c.in-Some.next c.in-Some-count_next.count found test;
      capacity = was.capacity;
    }
