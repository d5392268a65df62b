use Rattle.std.proofs.Common.{rules, ◌≡◌, ◌+◌, ◌<◌, ◌++◌, ◌∙◌, List, Err, ap, subst, arith, refl}
use Rattle.std.proofs.lemmas.Result.{err_from_is_err_and}
use Rattle.sector_disk.specs.Disk.{View}
use Rattle.sector_disk.specs.Effects.{KeepsDisk}
use Rattle.sector_disk.specs.Filling.{Runs, part_of, sectors_in}
use Rattle.sector_disk.specs.Run.{writes}
use Rattle.sector_disk.specs.declared.record.Call.{Call}
use Rattle.sector_disk.proofs.Effects.{keeps_on, keeps_one}
use Rattle.sector_disk.proofs.Filled.{fill_more, fill_none, fill_wider, filled_as}
use Rattle.sector_disk.proofs.Made.{no_write_yet, one_made, whole_made, write_made, writes_as}
use Rattle.gated_journal.specs.Record.{data_sector}
use Rattle.gated_journal.proofs.Cut.{run_of}
use Rattle.gated_journal.proofs.place.fill.Goals as goal

pub returns-then-data-n-clause-effect : goal.returns-then-data-n-clause-effect
returns-then-data-n-clause-effect g c honest =
    let count : sectors_in c.args.data.now.bytes.now ≡ c.args.n = omega (arith, c.if-data-n.true) in
    filled_as (g.D.Disk.view c.args.disk.now) (g.D.Disk.view c.write_run.new.self) c.args.at c.args.n (part_of c.args.data.now.bytes.now) (data_sector c.args.data.now.text.now)
    c.write_run.result (run_of c.args.data.now.text.now c.args.data.now.bytes.now c.args.n c.if-data-n.true c.args.data.now.same) (rw count at (c.write_run.ensures.effect honest))

pub returns-then-data-n-clause-runs : goal.returns-then-data-n-clause-runs
returns-then-data-n-clause-runs g c =
    let count : sectors_in c.args.data.now.bytes.now ≡ c.args.n = omega (arith, c.if-data-n.true) in
    let calls : writes c.args.at (sectors_in c.args.data.now.bytes.now) (part_of c.args.data.now.bytes.now) ≡ writes c.args.at c.args.n (data_sector c.args.data.now.text.now) =
    ap (λ m. writes c.args.at m (part_of c.args.data.now.bytes.now)) count ∙
    writes_as c.args.at c.args.n _ _ (run_of c.args.data.now.text.now c.args.data.now.bytes.now c.args.n c.if-data-n.true c.args.data.now.same) in
    subst (λ (made : List Call). Runs (g.D.Disk.view c.args.disk.now) (g.D.Disk.view c.write_run.new.self) made c.write_run.result) calls c.write_run.ensures.runs

pub loop-k-init : goal.loop-k-init
loop-k-init g c = record {
  sectors = refl;
  failures = omega arith;
  calls = no_write_yet _ c.args.at (data_sector c.args.data.now.text.now);
  filled = λ honest. fill_none _ c.args.at (data_sector c.args.data.now.text.now) honest (g.met.D.Disk.sound c.args.disk.now honest);
}

pub returns-in_err-write-clause-effect : goal.returns-in_err-write-clause-effect
returns-in_err-write-clause-effect g c honest =
    let mid : View = g.D.Disk.view c.loop-k.disk in
    let was = c.loop-k.invariant.filled honest in
    let inside : c.args.at + c.loop-k.k < mid.sectors = omega (arith, c.loop-k.invariant.sectors, c.requires.room) in
    fill_wider _ _ _ (c.loop-k.k + 1) _ _ _ _ c.from_residual.ensures.0 (omega arith)
    (fill_more _ mid _ _ _ _ _ _ was (c.in_err-write.ensures.effect inside was.honest) c.sector_of.ensures (g.met.D.Disk.sound c.loop-k.disk was.honest) inside)

pub loop-k-preserved : goal.loop-k-preserved
loop-k-preserved g c = record {
  sectors = c.write.ensures.cause.sectors ∙ c.loop-k.invariant.sectors;
  failures = omega (arith, c.write.ensures.cause.later, c.loop-k.invariant.failures);
  calls = one_made _ _ _ c.args.at c.loop-k.k (data_sector c.args.data.now.text.now) c.sector_of.result c.sector_of.ensures c.loop-k.invariant.calls c.in_ok-write.ensures.called.made;
  filled = λ honest.
      let mid : View = g.D.Disk.view c.loop-k.disk in
      let was = c.loop-k.invariant.filled honest in
      let inside : c.args.at + c.loop-k.k < mid.sectors = omega (arith, c.loop-k.invariant.sectors, c.requires.room) in
      fill_more _ mid _ _ _ _ _ _ was (c.in_ok-write.ensures.effect inside was.honest) c.sector_of.ensures (g.met.D.Disk.sound c.loop-k.disk was.honest) inside;
}

pub returns-in_err-write-clause-runs : goal.returns-in_err-write-clause-runs
returns-in_err-write-clause-runs g c =
    let old : View = g.D.Disk.view c.args.disk.now in
    let mid : View = g.D.Disk.view c.loop-k.disk in
    let new : View = g.D.Disk.view c.write.new.self in
    let so_far = c.loop-k.invariant in
    let inside : c.args.at + c.loop-k.k < mid.sectors = omega (arith, so_far.sectors, c.requires.room) in
    let before : KeepsDisk old mid ⊥ = record { fault = λ e. absurd e; sectors = so_far.sectors; later = so_far.failures; honest = λ honest. (so_far.filled honest).honest } in
    let last = c.in_err-write.ensures in
    let p = err_from_is_err_and c.from_residual.result c.from_residual.ensures.1 in
    rw (p.1, p.2) (record {
      calls = tt;
      some_calls = write_made _ _ _ c.args.at c.loop-k.k c.args.n (data_sector c.args.data.now.text.now) c.sector_of.result c.write.result c.loop-k-test.true
          c.sector_of.ensures so_far.calls c.write.ensures.called;
      keeps = keeps_on old mid new before (keeps_one mid new (Err c.in_err-write.field-0.0) last.cause (λ out. omega (arith, inside, last.in_range out))
          (λ honest. (last.effect inside honest).honest)) (λ e. refl);
      in_range = λ out. omega (arith, inside, last.in_range out);
    })

pub returns-clause-runs : goal.returns-clause-runs
returns-clause-runs g c =
    let old : View = g.D.Disk.view c.args.disk.now in
    let mid : View = g.D.Disk.view c.loop-k.disk in
    let so_far = c.loop-k.invariant in
    let made : mid.calls ≡ old.calls ++ writes c.args.at c.args.n (data_sector c.args.data.now.text.now) = search rules in
    record {
      calls = made;
      some_calls = whole_made old mid _ made;
      keeps = record { fault = λ e. absurd cc; sectors = so_far.sectors; later = so_far.failures; honest = λ honest. (so_far.filled honest).honest };
      in_range = λ out. absurd cc;
    }
