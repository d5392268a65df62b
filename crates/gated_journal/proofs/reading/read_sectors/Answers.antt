use Rattle.std.proofs.Common.{◌≡◌, ◌+◌, ◌<◌, ℕ, List, Err, ap, refl, ◌∙◌, arith}
use Rattle.sector_disk.specs.Disk.{View, sector}
use Rattle.sector_disk.specs.Effects.{OnlyReads}
use Rattle.sector_disk.specs.declared.record.Call.TheVariants.{Read}
use Rattle.sector_disk.specs.Reading.{before_reads}
use Rattle.sector_disk.proofs.Effects.{reads_on}
use Rattle.sector_disk.proofs.Reading.{one_read}
use Rattle.sector_disk.proofs.OnlyRead.{no_read, only_read_on, one_only_read}
use Rattle.gated_journal.proofs.Kept.{one_call, reads_one}
use Rattle.gated_journal.proofs.Steps.{data_more}
use Rattle.gated_journal.proofs.reading.read_sectors.Goals as goal

pub loop-k-init : goal.loop-k-init
loop-k-init g c = record {
  sectors = refl;
  room = c.requires.room;
  capacity = omega arith;
  later = omega arith;
  only_read = λ honest. no_read _ honest;
  only_reads = refl;
  calls = refl;
  bytes = λ honest prefix. prefix;
}

pub loop-k-preserved : goal.loop-k-preserved
loop-k-preserved g c =
    let old : View = g.D.Disk.view c.args.disk.now in
    let mid : View = g.D.Disk.view c.loop-k.disk in
    let inside : c.args.at + c.loop-k.k < mid.sectors = omega (arith, c.loop-k.invariant.sectors, c.requires.inside) in
    record {
      sectors = c.in_ok-read.ensures.cause.sectors ∙ c.loop-k.invariant.sectors;
      room = omega (arith, c.add.ensures.len, c.add.ensures.capacity, c.loop-k.invariant.room);
      capacity = omega (arith, c.add.ensures.capacity, c.loop-k.invariant.capacity);
      later = omega (arith, c.in_ok-read.ensures.cause.later, c.loop-k.invariant.later);
      only_read = λ honest.
          let before = c.loop-k.invariant.only_read honest in
          only_read_on _ mid _ before (one_only_read _ _ _ _ _ (c.in_ok-read.ensures.effect inside before.honest));
      only_reads = ap before_reads c.in_ok-read.ensures.called.made ∙ one_read mid.calls (c.args.at + c.loop-k.k) ∙ c.loop-k.invariant.only_reads;
      calls = let one = one_call mid (g.D.Disk.view c.read.new.self) (Read (c.args.at + c.loop-k.k)) c.in_ok-read.ensures.called.made in omega (arith, one, c.loop-k.invariant.calls);
      bytes = λ honest prefix.
          let before = c.loop-k.invariant.only_read honest in
          let given = (c.in_ok-read.ensures.effect inside before.honest).given in
          let more : c.read.new.bytes ≡ sector old.reads (c.args.at + c.loop-k.k) = given ∙ ap (λ (reads : List (List ℕ)). sector reads (c.args.at + c.loop-k.k)) before.reads in
          c.add.ensures.items ∙ data_more old.reads c.args.at c.loop-k.k c.loop-k.buffer.items c.read.new.bytes (c.loop-k.invariant.bytes honest prefix) more;
    }

pub returns-in_err-read-clause-reads : goal.returns-in_err-read-clause-reads
returns-in_err-read-clause-reads g c =
    let old : View = g.D.Disk.view c.args.disk.now in
    let mid : View = g.D.Disk.view c.loop-k.disk in
    let new : View = g.D.Disk.view c.read.new.self in
    let so_far = c.loop-k.invariant in
    let inside : c.args.at + c.loop-k.k < mid.sectors = omega (arith, so_far.sectors, c.requires.inside) in
    let before : OnlyReads old mid ⊥ = record {
      only_read = so_far.only_read;
      only_reads = so_far.only_reads;
      fault = λ e. absurd e;
      sectors = so_far.sectors;
      later = so_far.later;
    } in
    reads_on old mid new before (reads_one mid new (c.args.at + c.loop-k.k) _ (Err c.in_err-read.field-0.0) inside c.in_err-read.ensures.effect
    c.in_err-read.ensures.cause c.in_err-read.ensures.called c.in_err-read.ensures.in_range) (λ e. refl)

pub returns-clause-reads : goal.returns-clause-reads
returns-clause-reads g c = record {
  only_read = c.loop-k.invariant.only_read;
  only_reads = c.loop-k.invariant.only_reads;
  fault = λ e. absurd cc;
  sectors = c.loop-k.invariant.sectors;
  later = c.loop-k.invariant.later;
}
