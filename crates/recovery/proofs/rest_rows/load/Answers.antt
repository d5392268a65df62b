use Rattle.std.proofs.Common.{◌≡◌, ◌∙◌, ap, arith, refl, Some}
use Rattle.std.proofs.lemmas.Result.{err_from_is_err_and}
use Rattle.sector_disk.proofs.OnlyRead.{no_read}
use Rattle.image_rows.specs.Loading.{Loading}
use Rattle.image_rows.specs.Rows.{HeaderRow}
use Rattle.image_rows.specs.RowReading.{row_in}
use Rattle.recovery.specs.Rests.{rows_kept, rows_stated, without_rows}
use Rattle.recovery.specs.Inside.Rests.{kept_of}
use Rattle.recovery.proofs.Remains.{header_begins, header_read}
use Rattle.recovery.proofs.rest_rows.load.Goals as goal

pub returns-in-Ok-clause-kept : goal.returns-in-Ok-clause-kept
returns-in-Ok-clause-kept g c honest is_row =
    let slot = c.args.slot.now in
    let h = c.args.header.now in
    let read : row_in c.header_row.result ≡ Some (HeaderRow h) = rw c.header_row.ensures (header_read c.row_read_back.ensures.written h is_row) in
    let begins = header_begins slot.limits h c.header_row.result read c.in_ok-_begun._begun c.in_ok-loader.loader c.take.new.self
    c.in_ok-loader.ensures c.in_ok-_begun.ensures.taken c.in_ok-_begun.ensures.refused in
    c.in-Ok.ensures.kept honest
    ∙ ap (λ (l : Loading). rows_kept (g.D.Disk.view c.args.disk.now).reads slot.first slot.stated (kept_of l (without_rows slot.stated)) (rows_stated slot.stated)) begins

pub returns-in_err-_begun-clause-reads : goal.returns-in_err-_begun-clause-reads
returns-in_err-_begun-clause-reads g c =
    let p = err_from_is_err_and c.from_residual-in_err-_begun.result c.from_residual-in_err-_begun.ensures.1 in
    rw (p.1, p.2) (record {
      kinds = tt;
      disk = record {
        only_read = λ honest. no_read _ honest;
        only_reads = refl;
        fault = λ e. absurd cc;
        sectors = refl;
        later = omega arith;
      };
    })
