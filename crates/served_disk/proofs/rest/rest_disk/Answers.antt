use Rattle.std.proofs.Common.{◌∙◌, rules, ap, inl, inr, subst}
use Rattle.std.specs.declared.alloc.Global.{Global}
use Rattle.file_disk.specs.declared.disk.FileDisk.{FileDisk}
use Rattle.file_disk.specs.Disk.{calls_of, file_view}
use Rattle.served_disk.specs.Dumping.{IsOfDiskDump}
use Rattle.served_disk.specs.Rests.{HasNoRestText, IsRestWritten}
use Rattle.served_disk.proofs.Reasons.{passed}
use Rattle.served_disk.proofs.Returned.{dump_back, is_back, none_back, rest_dumps}
use Rattle.served_disk.proofs.rest.rest_disk.Goals as goal

pub returns-in-Ok-clause-written : goal.returns-in-Ok-clause-written
returns-in-Ok-clause-written g c =
    let view = file_view g.F.SectorFile.view in
    let old = c.args.out.now in
    let new = c.rest_on.new.out in
    record {
      disk = c.in_ok-disk.disk;
      gives = c.in_ok-disk.ensures.gives;
      begins = c.in_ok-disk.ensures.new;
      done = subst (λ d. IsRestWritten Global g.W.Write.contents g.W.TextSink.took g.W.TextSink.flushed old new c.in-Ok.report (view d))
          c.new-counted.ensures.disk c.in-Ok.ensures.written;
    }

pub returns-in-Err-clause-refused : goal.returns-in-Err-clause-refused
returns-in-Err-clause-refused g c =
    let view = file_view g.F.SectorFile.view in
    let old = c.args.out.now in
    let new = c.rest_on.new.out in
    inr (record {
      old = c.in_ok-disk.disk;
      new = c.in-Err.disk.disk;
      gives = c.in_ok-disk.ensures.gives;
      begins = c.in_ok-disk.ensures.new;
      refused = (
        c.in-Err.fault,
        subst (λ d. HasNoRestText Global g.W.TextSink.took g.W.TextSink.failed old new (view d) (view c.in-Err.disk.disk) c.in-Err.fault)
            c.new-counted.ensures.disk c.in-Err.ensures.refused,
        c.of_dump.ensures.fault,
      );
      returned = search rules;
    })

pub returns-in_err-disk-clause-reading : goal.returns-in_err-disk-clause-reading
returns-in_err-disk-clause-reading g c =
    let why = c.in_err-disk.ensures in
    passed _ c.from_residual.result c.in_err-disk.field-0.0 (search rules) (none_back IsOfDiskDump c.args.name.now c.in_err-disk.field-0.0 (inl why.kinds) why.of_file why.none)

pub returns-in-Err-clause-reading : goal.returns-in-Err-clause-reading
returns-in-Err-clause-reading g c =
    let why = c.in-Err.ensures in
    dump_back c.args.name.now c.of_dump.result c.in-Err.fault c.in-Err.disk.disk (calls_of c.new-counted.result.disk)
    (ap (λ (d : FileDisk g.row.F.Denot). calls_of d) c.new-counted.ensures.disk ∙ c.in_ok-disk.ensures.new.calls) c.of_dump.ensures.fault (search rules)
    (rest_dumps c.in-Err.fault why.kinds) why.some_calls

pub returns-in-Err-clause-untouched : goal.returns-in-Err-clause-untouched
returns-in-Err-clause-untouched g c none = is_back _ _ _ c.of_dump.ensures.disk none
