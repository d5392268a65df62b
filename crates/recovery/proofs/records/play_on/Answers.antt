use Rattle.std.proofs.Common.{◌≡◌, Err, ap, ◌∙◌, refl, arith}
use Rattle.std.proofs.lemmas.Result.{err_from_is_err_and}
use Rattle.sector_disk.specs.Disk.{View}
use Rattle.sector_disk.proofs.OnlyRead.{only_read_on, no_read}
use Rattle.gated_journal.specs.Half.{half_of}
use Rattle.recovery.specs.declared.fault.StoreFault.TheVariants.{NoMemory}
use Rattle.recovery.specs.Opening.{HasReadAgain}
use Rattle.recovery.proofs.Replayed.{plays_both, plays_none, runs_short_on}
use Rattle.recovery.proofs.records.play_on.Goals as goal

pub loop-init : goal.loop-init
loop-init g c = record {
  form = refl;
  counts = λ same. same;
  room = c.requires.readable.room;
  before = c.requires.readable.before;
  first = refl;
  end = refl;
  limits = refl;
  up = omega arith;
  calls = refl;
  sectors = refl;
  later = omega arith;
  only_read = λ honest. no_read _ honest;
  only_reads = refl;
  moved = λ honest. plays_none _ _;
  so_far = λ honest. refl;
}

pub loop-preserved : goal.loop-preserved
loop-preserved g c =
    let old : View = g.D.Disk.view c.args.disk.now in
    let mid : View = g.D.Disk.view c.loop.disk in
    record {
      form = c.play_next.ensures.moves.journal.form ∙ c.loop.invariant.form;
      counts = λ same. c.in_ok-play_next.ensures.counts (c.loop.invariant.counts same);
      room = c.play_next.ensures.moves.journal.room;
      before = omega (arith, c.play_next.ensures.moves.journal.next, c.loop.invariant.end);
      first = c.play_next.ensures.moves.journal.first ∙ c.loop.invariant.first;
      end = c.play_next.ensures.moves.journal.end ∙ c.loop.invariant.end;
      limits = c.play_next.ensures.moves.limits ∙ c.loop.invariant.limits;
      up = omega (arith, c.in_ok-play_next.ensures.on c.if-branch.true, c.loop.invariant.up);
      calls =
          let on = c.in_ok-play_next.ensures.on c.if-branch.true in
          let calls = c.in_ok-play_next.ensures.calls c.if-branch.true in
          omega (arith, on, calls, c.loop.invariant.calls);
      sectors = c.play_next.ensures.reads.disk.sectors ∙ c.loop.invariant.sectors;
      later = omega (arith, c.play_next.ensures.reads.disk.later, c.loop.invariant.later);
      only_read = λ honest.
          let only_read = c.loop.invariant.only_read honest in
          only_read_on _ mid _ only_read (c.play_next.ensures.reads.disk.only_read only_read.honest);
      only_reads = c.play_next.ensures.reads.disk.only_reads ∙ c.loop.invariant.only_reads;
      moved = λ honest.
          let only_read = c.loop.invariant.only_read honest in
          let moved = rw (only_read.reads, c.loop.invariant.end) at (c.in_ok-play_next.ensures.moved only_read.honest) in
          plays_both c.args.register.now c.loop.register c.play_next.new.register
          (half_of {A = g.row.A.Denot} c.args.journal.now.form c.args.journal.now.count old.reads c.args.journal.now.next
          c.args.journal.now.end)
          (half_of {A = g.row.A.Denot} c.loop.journal.form c.loop.journal.count old.reads c.loop.journal.next c.args.journal.now.end)
          (half_of {A = g.row.A.Denot} c.play_next.new.journal.form c.play_next.new.journal.count old.reads c.play_next.new.journal.next
          c.args.journal.now.end)
          (c.loop.invariant.moved honest) moved;
      so_far = λ honest.
          let only_read = c.loop.invariant.only_read honest in
          let one = rw (c.if-branch.true, only_read.reads, c.loop.invariant.end) at (c.in_ok-play_next.ensures.exact only_read.honest) in
          c.loop.invariant.so_far honest ∙ one;
    }

pub returns-in_err-play_next-clause-memory : goal.returns-in_err-play_next-clause-memory
returns-in_err-play_next-clause-memory g c e honest =
    let old : View = g.D.Disk.view c.args.disk.now in
    let p = err_from_is_err_and c.from_residual.result c.from_residual.ensures.1 in
    let is : c.in_err-play_next.field-0.0 ≡ NoMemory = cc in
    let only_read = c.loop.invariant.only_read honest in
    let short = rw (only_read.reads, c.loop.invariant.end) at (c.in_err-play_next.ensures.memory (ap Err is) only_read.honest) in
    let mid : View = g.D.Disk.view c.loop.disk in
    let new : View = g.D.Disk.view c.play_next.new.disk in
    let so : HasReadAgain mid.calls new.calls c.loop.journal.next c.play_next.new.journal.next →
    HasReadAgain old.calls new.calls c.args.journal.now.next c.play_next.new.journal.next = λ more. omega (arith, more, c.loop.invariant.calls) in
    runs_short_on c.args.register.now c.loop.register c.play_next.new.register
    (half_of {A = g.row.A.Denot} c.args.journal.now.form c.args.journal.now.count old.reads c.args.journal.now.next
    c.args.journal.now.end)
    (half_of {A = g.row.A.Denot} c.loop.journal.form c.loop.journal.count old.reads c.loop.journal.next c.args.journal.now.end)
    (half_of {A = g.row.A.Denot} c.play_next.new.journal.form c.play_next.new.journal.count old.reads c.play_next.new.journal.next
    c.args.journal.now.end)
    so (c.loop.invariant.moved honest) short
