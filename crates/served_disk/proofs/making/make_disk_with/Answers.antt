use Rattle.std.proofs.Common.{◌∙◌, ap, arith, inr, subst, sym}
use Rattle.std.specs.declared.alloc.Global.{Global}
use Rattle.base.proofs.Results.{if_err_then, if_ok_then}
use Rattle.file_disk.specs.declared.disk.FileDisk.{FileDisk}
use Rattle.file_disk.specs.Disk.{file_view}
use Rattle.served_disk.specs.Making.{IsMadeFor}
use Rattle.served_disk.proofs.Reasons.{on_ok, unmade}
use Rattle.served_disk.proofs.making.make_disk_with.Goals as goal

pub returns-clause-made : goal.returns-clause-made
returns-clause-made g c = if_ok_then c.if_formatted.result c.if_formatted.ensures.ok (λ made is. record {
  disk = c.in_ok-disk.disk;
  gives = c.in_ok-disk.ensures.gives;
  begins = c.in_ok-disk.ensures.blank;
  done = λ honest. subst (λ d. IsMadeFor Global c.args.layout.now c.args.register.now (file_view g.F.SectorFile.view d)) (sym is.1) (record {
    honest = c.format_with-done.ensures.keeps.honest honest;
    opens_to = on_ok c.format_with-done.result _ is.0 c.format_with-done.ensures.opens honest;
  });
})

pub returns-clause-refused : goal.returns-clause-refused
returns-clause-refused g c =
    let blank = c.in_ok-disk.ensures.blank in
    let view = file_view g.F.SectorFile.view in
    if_err_then c.if_formatted.result c.if_formatted.ensures.refused c.if_formatted.ensures.err (λ e back failed. inr (record {
      old = c.in_ok-disk.disk;
      new = c.format_with-done.new.disk;
      gives = c.in_ok-disk.ensures.gives;
      begins = blank;
      refused = unmade c.format_with-done.result e.fault (view c.in_ok-disk.disk) (view c.format_with-done.new.disk) failed back.1 (c.format_with-done.ensures.fault (omega (arith, blank.count)));
      returned = back.0;
    }))

pub returns-clause-sectors : goal.returns-clause-sectors
returns-clause-sectors g c = if_ok_then c.if_formatted.result c.if_formatted.ensures.ok
    (λ made is. ap (λ (d : FileDisk g.row.F.Denot). d.sectors) is.1 ∙ (c.format_with-done.ensures.keeps.sectors ∙ c.in_ok-disk.ensures.blank.count))
