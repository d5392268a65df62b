use Rattle.std.proofs.Common.{◌≡◌, ◌++◌, ◌∷◌, [], List, Result, subst, sym}
use Rattle.sector_disk.specs.Disk.{View}
use Rattle.sector_disk.specs.declared.record.Call.{Call}
use Rattle.sector_disk.specs.declared.record.Call.TheVariants.{Read}
use Rattle.sector_disk.proofs.OnlyRead.{only_read_on}
use Rattle.checkpoint.specs.Layout.{label_at}
use Rattle.checkpoint.specs.OnSide.{slot_form}
use Rattle.recovery.specs.declared.fault.StoreFault.{StoreFault}
use Rattle.recovery.specs.Inside.Opened.{opened_view}
use Rattle.recovery.specs.Opening.{AreGoodSoFar, IsValueIn, side_reads}
use Rattle.recovery.specs.Opens.{Opening}
use Rattle.recovery.proofs.Chained.{opens_on}
use Rattle.recovery.proofs.Opened.{called_on}
use Rattle.recovery.proofs.opening.read_all.Goals as goal

pub returns-clause-memory : goal.returns-clause-memory
returns-clause-memory g c e honest =
    let old : View = g.D.Disk.view c.args.disk.now in
    let one : View = g.D.Disk.view c.read_layout.new.disk in
    let two : View = g.D.Disk.view c.read_side.new.disk in
    let only_read = c.in_ok-layout.ensures.reads.disk.only_read honest in
    let after = c.in_ok-current.ensures.reads.disk.only_read only_read.honest in
    let only_read_2 = only_read_on old one two only_read after in
    let form : c.in_ok-current.current.form ≡ slot_form c.in_ok-layout.layout c.in_ok-current.current.side two.reads = rw after.reads (c.in_ok-current.ensures.form only_read.honest) in
    let found : two.calls ≡ old.calls ++ side_reads c.in_ok-layout.layout old.reads =
    called_on old.calls one.calls two.calls (Read label_at ∷ []) _ c.in_ok-layout.ensures.calls (rw only_read.reads at (c.in_ok-current.ensures.calls only_read.honest)) in
    record {
      layout = c.in_ok-layout.layout;
      side = c.in_ok-current.current.side;
      label = c.in_ok-layout.ensures.exact honest;
      counts = rw only_read.reads at (c.in_ok-current.ensures.exact only_read.honest);
      good = subst (λ (before : List Call). AreGoodSoFar g.row.A.Denot c.in_ok-layout.layout c.in_ok-current.current.side old.reads before (g.D.Disk.view c.read_current.new.disk).calls)
          found (rw only_read_2.reads at (c.read_current.ensures.memory e only_read_2.honest form));
    }

pub returns-clause-exact : goal.returns-clause-exact
returns-clause-exact g c honest =
    let old : View = g.D.Disk.view c.args.disk.now in
    let one : View = g.D.Disk.view c.read_layout.new.disk in
    let two : View = g.D.Disk.view c.read_side.new.disk in
    let only_read = c.in_ok-layout.ensures.reads.disk.only_read honest in
    let after = c.in_ok-current.ensures.reads.disk.only_read only_read.honest in
    let only_read_2 = only_read_on old one two only_read after in
    let form : c.in_ok-current.current.form ≡ slot_form c.in_ok-layout.layout c.in_ok-current.current.side two.reads = rw after.reads (c.in_ok-current.ensures.form only_read.honest) in
    let there = opens_on g.row.A.Denot old.reads c.in_ok-layout.layout c.in_ok-current.current.side (c.in_ok-layout.ensures.exact honest)
    (rw only_read.reads at (c.in_ok-current.ensures.exact only_read.honest)) in
    subst (λ (q : Result Opening StoreFault). IsValueIn opened_view c.read_current.result q) (sym there) (rw only_read_2.reads at (c.read_current.ensures.exact only_read_2.honest form))
