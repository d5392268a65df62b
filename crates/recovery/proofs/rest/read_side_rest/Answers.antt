use Rattle.std.proofs.Common.{◌≡◌, List, ℕ, arith, subst, sym}
use Rattle.base.proofs.Results.{if_ok_then}
use Rattle.sector_disk.specs.Disk.{View}
use Rattle.checkpoint.specs.OnSide.{slot_form}
use Rattle.recovery.specs.Rests.{AreLaterOf, HasHeader, IsLeft}
use Rattle.recovery.proofs.Remains.{on_side, slot_inside, stated_is_row}
use Rattle.recovery.proofs.rest.read_side_rest.Goals as goal

pub returns-in-Some-clause-left : goal.returns-in-Some-clause-left
returns-in-Some-clause-left g c =
    let old : View = g.D.Disk.view c.args.disk.now in
    let mid : View = g.D.Disk.view c.read_good_header.new.disk in
    let layout = c.args.layout.now in
    let side = c.args.side in
    let h = c.in-Some.stated.header in
    if_ok_then c.read_stated.result c.read_stated.ensures.left (λ found says honest.
    let read = c.in_ok-found.ensures.reads.disk.only_read honest in
    let has = rw c.in-Some.is at (c.in_ok-found.ensures.header honest) in
    let sound = g.met.D.Disk.sound c.args.disk.now honest in
    let inside = slot_inside layout side old.sectors c.requires.room in
    let bytes = sound.reads_left.whole _ (omega (arith, inside, sound.count)) in
    let is_row = stated_is_row layout side old.reads c.row_read_back.ensures.only bytes.bytes h has.0 in
    on_side layout side old.reads found (λ rest image. (rest.side ≡ side) × IsLeft g.row.A.Denot layout side image rest.epoch rest.left_out rest.register rest.stop
    × AreLaterOf g.row.A.Denot layout side image rest.stop rest.later)
    mid.reads read.reads h has.0
    (says read.honest (subst (λ (i : List (List ℕ)). c.in-Some.stated.form ≡ slot_form layout side i) (sym read.reads) has.1) is_row
    (subst (λ (i : List (List ℕ)). HasHeader layout side i h) (sym read.reads) has.0)))
