use Rattle.std.proofs.Common.{rules, ◌≡◌, ◌+◌, ◌<◌, ◌++◌, ◌∙◌, Ok, Err, arith, refl}
use Rattle.std.proofs.lemmas.Result.{err_from_is_err_and}
use Rattle.sector_disk.specs.Disk.{View}
use Rattle.sector_disk.specs.Effects.{KeepsDisk}
use Rattle.sector_disk.specs.Filling.{part_of, sectors_in}
use Rattle.sector_disk.specs.Run.{writes}
use Rattle.sector_disk.proofs.Effects.{keeps_on, keeps_one}
use Rattle.sector_disk.proofs.Filled.{fill_more, fill_none, fill_wider}
use Rattle.sector_disk.proofs.Made.{no_write_yet, one_made, whole_made, write_made}
use Rattle.sector_disk.proofs.disk.Disk.write_run.Goals as goal

pub loop-k-init : goal.loop-k-init
loop-k-init g c = record {
  sectors = refl;
  failures = omega arith;
  calls = no_write_yet _ c.args.at (part_of c.args.bytes.now);
  filled = λ honest. fill_none _ c.args.at (part_of c.args.bytes.now) honest (g.met.Self.Disk.sound c.args.self.now honest);
}

pub returns-in_err-write-clause-effect : goal.returns-in_err-write-clause-effect
returns-in_err-write-clause-effect g c honest =
    let old : View = g.Self.Disk.view c.args.self.now in
    let mid : View = g.Self.Disk.view c.loop-k.self in
    let new : View = g.Self.Disk.view c.write.new.self in
    let was = c.loop-k.invariant.filled honest in
    let inside : c.args.at + c.loop-k.k < mid.sectors = omega (arith, c.loop-k.invariant.sectors, c.requires.room) in
    fill_wider old new c.args.at (c.loop-k.k + 1) (sectors_in c.args.bytes.now) (part_of c.args.bytes.now) c.write.result c.from_residual.result
    c.from_residual.ensures.0 (omega arith)
    (fill_more old mid new c.args.at c.loop-k.k (part_of c.args.bytes.now) c.sector_in.result.now c.write.result was (c.write.ensures.effect inside was.honest)
    c.sector_in.ensures (g.met.Self.Disk.sound c.loop-k.self was.honest) inside)

pub loop-k-preserved : goal.loop-k-preserved
loop-k-preserved g c = record {
  sectors = c.write.ensures.cause.sectors ∙ c.loop-k.invariant.sectors;
  failures = omega (arith, c.write.ensures.cause.later, c.loop-k.invariant.failures);
  calls = one_made _ _ _ c.args.at c.loop-k.k (part_of c.args.bytes.now) c.sector_in.result.now c.sector_in.ensures c.loop-k.invariant.calls c.in_ok-write.ensures.called.made;
  filled = λ honest.
      let old : View = g.Self.Disk.view c.args.self.now in
      let mid : View = g.Self.Disk.view c.loop-k.self in
      let new : View = g.Self.Disk.view c.write.new.self in
      let was = c.loop-k.invariant.filled honest in
      let inside : c.args.at + c.loop-k.k < mid.sectors = omega (arith, c.loop-k.invariant.sectors, c.requires.room) in
      fill_more old mid new c.args.at c.loop-k.k (part_of c.args.bytes.now) c.sector_in.result.now (Ok tt) was (c.in_ok-write.ensures.effect inside was.honest) c.sector_in.ensures (g.met.Self.Disk.sound c.loop-k.self was.honest) inside;
}

pub returns-in_err-write-clause-runs : goal.returns-in_err-write-clause-runs
returns-in_err-write-clause-runs g c =
    let old : View = g.Self.Disk.view c.args.self.now in
    let mid : View = g.Self.Disk.view c.loop-k.self in
    let new : View = g.Self.Disk.view c.write.new.self in
    let so_far = c.loop-k.invariant in
    let inside : c.args.at + c.loop-k.k < mid.sectors = omega (arith, so_far.sectors, c.requires.room) in
    let before : KeepsDisk old mid ⊥ = record { fault = λ e. absurd e; sectors = so_far.sectors; later = so_far.failures; honest = λ honest. (so_far.filled honest).honest } in
    let last = c.in_err-write.ensures in
    let p = err_from_is_err_and c.from_residual.result c.from_residual.ensures.1 in
    rw (p.1, p.2) (record {
      calls = tt;
      some_calls = write_made _ _ _ c.args.at c.loop-k.k (sectors_in c.args.bytes.now) (part_of c.args.bytes.now) c.sector_in.result.now c.write.result c.loop-k-test.true
          c.sector_in.ensures so_far.calls c.write.ensures.called;
      keeps = keeps_on old mid new before (keeps_one mid new (Err c.in_err-write.field-0.0) last.cause (λ out. omega (arith, inside, last.in_range out))
          (λ honest. (last.effect inside honest).honest)) (λ e. refl);
      in_range = λ out. omega (arith, inside, last.in_range out);
    })

pub returns-clause-runs : goal.returns-clause-runs
returns-clause-runs g c =
    let old : View = g.Self.Disk.view c.args.self.now in
    let mid : View = g.Self.Disk.view c.loop-k.self in
    let so_far = c.loop-k.invariant in
    let made : mid.calls ≡ old.calls ++ writes c.args.at (sectors_in c.args.bytes.now) (part_of c.args.bytes.now) = search rules in
    record {
      calls = made;
      some_calls = whole_made old mid _ made;
      keeps = record { fault = λ e. absurd cc; sectors = so_far.sectors; later = so_far.failures; honest = λ honest. (so_far.filled honest).honest };
      in_range = λ out. absurd cc;
    }
