use Rattle.std.proofs.Common.{◌≡◌, Some, refl, sym, ◌∙◌, arith}
use Rattle.std.proofs.lemmas.Result.{err_from_is_err_and}
use Rattle.sector_disk.specs.Disk.{View}
use Rattle.image_rows.specs.Loading.{finished}
use Rattle.checkpoint.specs.Layout.{slot_at, slot_size}
use Rattle.checkpoint.specs.Reading.{HasReadImage}
use Rattle.checkpoint.proofs.OnlyReading.{none_read, not_refused, reads_as, refused_as}
use Rattle.checkpoint.proofs.ReadCalls.{no_read_yet}
use Rattle.checkpoint.proofs.Readback.{of_whole, slot_before}
use Rattle.checkpoint.proofs.reading.read_image.Goals as goal

pub take_rows-requires-clause-inside : goal.take_rows-requires-clause-inside
take_rows-requires-clause-inside g c =
    let layout = c.args.layout.now in
    let before = slot_before layout c.args.side (slot_at layout c.args.side) (slot_size layout) refl refl in
    let room = c.requires.room in
    omega (arith, before, room)

pub returns-in_err-loader-clause-refused : goal.returns-in_err-loader-clause-refused
returns-in_err-loader-clause-refused g c =
    let p = err_from_is_err_and c.from_residual.result c.from_residual.ensures.1 in
    record {
      damaged = λ at e. let other = rw (p.1, p.2) at e in absurd cc;
      on_disk = λ at e. let other = rw (p.1, p.2) at e in absurd cc;
      memory = λ e honest. record { read = 0; calls = no_read_yet _ _; good = λ place is. omega arith };
    }

pub returns-in_err-loader-clause-reads : goal.returns-in_err-loader-clause-reads
returns-in_err-loader-clause-reads g c =
    let p = err_from_is_err_and c.from_residual.result c.from_residual.ensures.1 in
    none_read (g.D.Disk.view c.args.disk.now) (λ e. let other = rw (p.1, p.2) at e in cc)

pub returns-in-Ok-clause-image : goal.returns-in-Ok-clause-image
returns-in-Ok-clause-image g c =
    let old : View = g.D.Disk.view c.args.disk.now in
    let new : View = g.D.Disk.view c.take_rows.new.disk in
    let whole : finished c.take_rows.new.loader ≡ Some c.unwrap.result = sym c.finish.ensures ∙ c.unwrap.ensures in
    of_whole (finished c.take_rows.new.loader) c.unwrap.result (HasReadImage c.args.layout.now c.args.side old new) whole c.in-Ok.ensures.image

pub returns-in-Ok-clause-refused : goal.returns-in-Ok-clause-refused
returns-in-Ok-clause-refused g c = not_refused c.args.layout.now c.args.side (g.D.Disk.view c.args.disk.now) (g.D.Disk.view c.take_rows.new.disk) c.unwrap.result

pub returns-in-Ok-clause-reads : goal.returns-in-Ok-clause-reads
returns-in-Ok-clause-reads g c = reads_as (g.D.Disk.view c.args.disk.now) (g.D.Disk.view c.take_rows.new.disk) c.in-Ok.ensures.reads (λ e. absurd cc)

pub returns-in-Err-clause-refused : goal.returns-in-Err-clause-refused
returns-in-Err-clause-refused g c =
    refused_as c.args.layout.now c.args.side (g.D.Disk.view c.args.disk.now) (g.D.Disk.view c.take_rows.new.disk) c.in-Err.fault c.in-Err.ensures.refused

pub returns-in-Err-clause-reads : goal.returns-in-Err-clause-reads
returns-in-Err-clause-reads g c = reads_as (g.D.Disk.view c.args.disk.now) (g.D.Disk.view c.take_rows.new.disk) c.in-Err.ensures.reads (λ e. cc)
