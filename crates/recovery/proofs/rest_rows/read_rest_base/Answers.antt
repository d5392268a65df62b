use Rattle.std.proofs.Common.{◌≡◌, ◌∙◌, ◌+◌, ◌-◌, ℕ, ap, arith, refl, sym}
use Rattle.sector_disk.specs.Disk.{View}
use Rattle.sector_disk.proofs.OnlyRead.{only_read_on, no_read}
use Rattle.recovery.specs.Rests.{made_by}
use Rattle.recovery.specs.Inside.Rests.{kept_of}
use Rattle.recovery.proofs.Remains.{lowered_is_row, made_later, made_never, made_now, no_turn, one_turn}
use Rattle.sector_disk.specs.Effects.{OnlyReads}
use Rattle.sector_disk.proofs.Effects.{reads_on}
use Rattle.recovery.proofs.rest_rows.read_rest_base.Goals as goal

pub loop-init : goal.loop-init
loop-init g c = record {
  sectors = refl;
  later = omega arith;
  only_read = λ honest. no_read _ honest;
  only_reads = refl;
  row = λ is. is;
  made = λ honest is. refl;
}

pub loop-preserved : goal.loop-preserved
loop-preserved g c =
    let old : View = g.D.Disk.view c.args.disk.now in
    let mid : View = g.D.Disk.view c.loop.disk in
    let slot = c.args.slot.now in
    let header = c.loop.header in
    record {
      sectors = c.in_ok-loader.ensures.reads.disk.sectors ∙ c.loop.invariant.sectors;
      later = omega (arith, c.in_ok-loader.ensures.reads.disk.later, c.loop.invariant.later);
      only_read = λ honest.
          let before = c.loop.invariant.only_read honest in
          only_read_on old mid _ before (c.in_ok-loader.ensures.reads.disk.only_read before.honest);
      only_reads = c.in_ok-loader.ensures.reads.disk.only_reads ∙ c.loop.invariant.only_reads;
      row = λ is. rw c.lowered-header.ensures (lowered_is_row header c.in_ok-loader.kept (c.loop.invariant.row is));
      made = λ honest is.
          let before = c.loop.invariant.only_read honest in
          let kept = rw before.reads at (c.in_ok-loader.ensures.kept before.honest (c.loop.invariant.row is)) in
          let left = 5 - (c.loop.counter + 1) in
          rw c.lowered-header.ensures (c.loop.invariant.made honest is
          ∙ ap (λ (n : ℕ). made_by slot.limits old.reads slot.first slot.stated n header) (one_turn c.loop.counter c.loop-test.true)
          ∙ made_later slot.limits old.reads slot.first slot.stated left header (kept_of c.in_ok-loader.loader c.in_ok-loader.kept) kept (sym c.finish.ensures ∙ c.in-None.is));
    }

pub returns-in-Some-clause-exact : goal.returns-in-Some-clause-exact
returns-in-Some-clause-exact g c honest is =
    let old : View = g.D.Disk.view c.args.disk.now in
    let slot = c.args.slot.now in
    let header = c.loop.header in
    let before = c.loop.invariant.only_read honest in
    let kept = rw before.reads at (c.in_ok-loader.ensures.kept before.honest (c.loop.invariant.row is)) in
    let left = 5 - (c.loop.counter + 1) in
    sym (c.loop.invariant.made honest is
    ∙ ap (λ (n : ℕ). made_by slot.limits old.reads slot.first slot.stated n header) (one_turn c.loop.counter c.loop-test.true)
    ∙ made_now slot.limits old.reads slot.first slot.stated left header (kept_of c.in_ok-loader.loader c.in_ok-loader.kept) _ kept (sym c.finish.ensures ∙ c.in-Some.is))

pub returns-clause-exact : goal.returns-clause-exact
returns-clause-exact g c honest is =
    let old : View = g.D.Disk.view c.args.disk.now in
    let slot = c.args.slot.now in
    let header = c.loop.header in
    sym (c.loop.invariant.made honest is
    ∙ ap (λ (n : ℕ). made_by slot.limits old.reads slot.first slot.stated n header) (no_turn c.loop.counter c.loop-test.false)
    ∙ made_never slot.limits old.reads slot.first slot.stated header)

pub returns-in-Some-clause-reads : goal.returns-in-Some-clause-reads
returns-in-Some-clause-reads g c =
    let old : View = g.D.Disk.view c.args.disk.now in
    let mid : View = g.D.Disk.view c.loop.disk in
    let before : OnlyReads old mid ⊥ = record {
      only_read = c.loop.invariant.only_read;
      only_reads = c.loop.invariant.only_reads;
      fault = λ e. absurd e;
      sectors = c.loop.invariant.sectors;
      later = c.loop.invariant.later;
    } in
    record { kinds = tt; disk = reads_on old mid _ before c.in_ok-loader.ensures.reads.disk (λ e. absurd cc) }
