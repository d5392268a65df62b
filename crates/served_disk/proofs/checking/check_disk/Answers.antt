use Rattle.std.proofs.Common.{◌∙◌, rules, ap, inr, subst}
use Rattle.std.specs.declared.alloc.Global.{Global}
use Rattle.file_disk.specs.declared.disk.FileDisk.{FileDisk}
use Rattle.file_disk.specs.Disk.{calls_of, file_view}
use Rattle.served_disk.specs.Checking.{IsReportedBy}
use Rattle.served_disk.specs.Making.{IsOfOpening}
use Rattle.served_disk.specs.Refusals.{IsUnchecked}
use Rattle.served_disk.proofs.Reasons.{passed}
use Rattle.served_disk.proofs.Returned.{none_back, store_back}
use Rattle.served_disk.proofs.checking.check_disk.Goals as goal

pub returns-in-Ok-clause-reported : goal.returns-in-Ok-clause-reported
returns-in-Ok-clause-reported g c =
    let view = file_view g.F.SectorFile.view in
    record {
      disk = c.in_ok-disk.disk;
      gives = c.in_ok-disk.ensures.gives;
      begins = c.in_ok-disk.ensures.new;
      done = subst (λ d. IsReportedBy Global c.in-Ok.report.text.items c.in-Ok.report.well (view d)) c.new-counted.ensures.disk c.in-Ok.ensures.reported;
    }

pub returns-in-Err-clause-refused : goal.returns-in-Err-clause-refused
returns-in-Err-clause-refused g c =
    let view = file_view g.F.SectorFile.view in
    inr (record {
      old = c.in_ok-disk.disk;
      new = c.in-Err.disk.disk;
      gives = c.in_ok-disk.ensures.gives;
      begins = c.in_ok-disk.ensures.new;
      refused = (
        c.in-Err.fault,
        subst (λ d. IsUnchecked Global (view d) (view c.in-Err.disk.disk) c.in-Err.fault) c.new-counted.ensures.disk c.in-Err.ensures.refused,
        c.of_store.ensures.fault,
      );
      returned = search rules;
    })

pub returns-in_err-disk-clause-reading : goal.returns-in_err-disk-clause-reading
returns-in_err-disk-clause-reading g c =
    let why = c.in_err-disk.ensures in
    passed _ c.from_residual.result c.in_err-disk.field-0.0 (search rules) (none_back IsOfOpening c.args.name.now c.in_err-disk.field-0.0 why.kinds why.of_file why.none)

pub returns-in-Err-clause-reading : goal.returns-in-Err-clause-reading
returns-in-Err-clause-reading g c =
    let why = c.in-Err.ensures in
    store_back c.args.name.now c.of_store.result c.in-Err.fault c.in-Err.disk.disk (calls_of c.new-counted.result.disk)
    (ap (λ (d : FileDisk g.row.F.Denot). calls_of d) c.new-counted.ensures.disk ∙ c.in_ok-disk.ensures.new.calls) c.of_store.ensures.fault (search rules)
    why.kinds why.some_calls
