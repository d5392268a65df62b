use Rattle.std.proofs.Common.{◌≡◌, ◌∙◌, Some, ap, inr, sym, subst}
use Rattle.std.specs.declared.alloc.Global.{Global}
use Rattle.file_disk.specs.declared.disk.FileDisk.{FileDisk}
use Rattle.file_disk.specs.Disk.{calls_of, file_view}
use Rattle.served_disk.specs.Making.{IsOfOpening}
use Rattle.served_disk.specs.Refusals.{IsUnopened}
use Rattle.served_disk.proofs.Returned.{none_back, store_back}
use Rattle.served_disk.proofs.opening.open_disk.Goals as goal

pub returns-in-Ok-open-clause-opened : goal.returns-in-Ok-open-clause-opened
returns-in-Ok-open-clause-opened g c = record {
  disk = c.in-Ok.disk;
  gives = c.in-Ok.ensures.gives;
  begins = c.in-Ok.ensures.new;
  done = λ honest. (let there = subst (λ (d : FileDisk g.row.F.Denot). (file_view g.F.SectorFile.view d).honest) (sym c.new.ensures.disk) honest in record {
    first = c.new.result;
    of_disk = c.new.ensures.disk;
    opened = c.in-Ok-open.ensures.opened.opened there;
  });
}

pub returns-in-Err-open-clause-refused : goal.returns-in-Err-open-clause-refused
returns-in-Err-open-clause-refused g c =
    let why = c.in-Err-open.ensures.refused in
    inr (record {
      old = c.in-Ok.disk;
      new = c.into_inner.result;
      gives = c.in-Ok.ensures.gives;
      begins = c.in-Ok.ensures.new;
      refused = (
        c.in-Err-open.fault,
        subst (λ (q : FileDisk g.row.F.Denot × FileDisk g.row.F.Denot). IsUnopened Global (file_view g.F.SectorFile.view q.0) (file_view g.F.SectorFile.view q.1) c.in-Err-open.fault)
            (λ i. (c.new.ensures.disk i, (sym c.into_inner.ensures) i)) (record { kind = why.kinds; there = why.refused; device = why.fault; memory = why.memory }),
        c.of_store.ensures.fault,
      );
      returned = c.of_store.ensures.disk;
    })

pub returns-in-Err-clause-reading : goal.returns-in-Err-clause-reading
returns-in-Err-clause-reading g c =
    let why = c.in-Err.ensures in
    none_back IsOfOpening c.args.name.now c.in-Err.refused why.kinds why.of_file why.none

pub returns-in-Err-open-clause-reading : goal.returns-in-Err-open-clause-reading
returns-in-Err-open-clause-reading g c =
    let why = c.in-Err-open.ensures.refused in
    let back : c.of_store.result.disk ≡ Some c.in-Err-open.disk.disk = c.of_store.ensures.disk ∙ ap (λ (d : FileDisk g.row.F.Denot). Some d) c.into_inner.ensures in
    store_back c.args.name.now c.of_store.result c.in-Err-open.fault c.in-Err-open.disk.disk (calls_of c.new.result.disk)
    (ap (λ (d : FileDisk g.row.F.Denot). calls_of d) c.new.ensures.disk ∙ c.in-Ok.ensures.new.calls) c.of_store.ensures.fault back why.kinds why.some_calls
