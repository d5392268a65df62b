use Rattle.std.proofs.Common.{◌≡◌, ◌+◌, ◌-◌, ◌<◌, ◌≤◌, ◌∙◌, length, sym, refl, arith}
use Rattle.std.proofs.lemmas.Result.{IfOk-from_err, err_from_is_err_and}
use Rattle.sector_disk.specs.Disk.{View}
use Rattle.sector_disk.specs.Run.{HasCalled, writes}
use Rattle.sector_disk.proofs.Effects.{keeps_on}
use Rattle.image_rows.specs.Rows.{rows_of}
use Rattle.checkpoint.specs.Progress.{next_row, next_rows}
use Rattle.checkpoint.proofs.Kept.{kept_failing, kept_so_far}
use Rattle.checkpoint.proofs.NextRows.{all_written, last_called, last_filled, none_called, none_filled, one_called, one_filled}
use Rattle.checkpoint.proofs.Walked.{progress_done, progress_on}
use Rattle.checkpoint.proofs.progress.put_rows.Goals as goal

pub loop-left-init : goal.loop-left-init
loop-left-init g c = record {
  progress = c.requires.begun;
  count = refl;
  most = omega arith;
  epoch = refl;
  sectors = refl;
  failures = omega arith;
  calls = none_called c.args.epoch c.args.register.now c.args.at c.args.progress.now.written (g.D.Disk.view c.args.disk.now).calls;
  filled = λ honest. none_filled c.args.epoch c.args.register.now c.args.at c.args.progress.now.written (g.D.Disk.view c.args.disk.now) honest (g.met.D.Disk.sound c.args.disk.now honest);
}

pub returns-in_default-clause-written : goal.returns-in_default-clause-written
returns-in_default-clause-written g c =
    let done : c.loop-left.progress.written ≡ length (rows_of c.args.epoch c.args.register.now) =
    progress_done c.args.epoch c.args.register.now c.loop-left.progress c.loop-left.invariant.progress
    (sym c.in_default.is ∙ c.row_after-coming.ensures) in
    omega (arith, done, c.loop-left.invariant.count, c.loop-left.invariant.most)

pub loop-left-preserved : goal.loop-left-preserved
loop-left-preserved g c =
    let mid : View = g.D.Disk.view c.loop-left.disk in
    let on = progress_on c.args.epoch c.args.register.now c.loop-left.progress c.loop-left.invariant.progress c.in-Some.next.0 c.in-Some.next.1 (sym c.in-Some.is ∙ c.row_after-coming.ensures) in
    let few = on.0 in
    let up : c.args.progress.now.written ≤ c.loop-left.progress.written = omega (arith, c.loop-left.invariant.count, c.loop-left.invariant.most) in
    record {
      progress = on.2;
      count = omega (arith, c.loop-left.invariant.count, c.loop-left-test.true);
      most = omega (arith, c.loop-left.invariant.most);
      epoch = c.loop-left.invariant.epoch;
      sectors = c.write.ensures.cause.sectors ∙ c.loop-left.invariant.sectors;
      failures = omega (arith, c.write.ensures.cause.later, c.loop-left.invariant.failures);
      calls = one_called c.args.epoch c.args.register.now c.args.at c.args.progress.now.written c.loop-left.progress.written up c.in-Some.next.1 on.1
          (g.D.Disk.view c.args.disk.now).calls mid.calls (g.D.Disk.view c.write.new.self).calls c.loop-left.invariant.calls
          c.in_ok-write.ensures.called.made;
      filled = λ honest.
          let was = c.loop-left.invariant.filled honest in
          let inside : c.args.at + c.loop-left.progress.written < mid.sectors = omega (arith, c.loop-left.invariant.sectors, c.requires.room, few) in
          one_filled c.args.epoch c.args.register.now c.args.at c.args.progress.now.written c.loop-left.progress.written up c.in-Some.next.1 on.1
          (g.D.Disk.view c.args.disk.now) mid (g.D.Disk.view c.write.new.self) _ was (c.in_ok-write.ensures.effect inside was.honest)
          (g.met.D.Disk.sound c.loop-left.disk was.honest) inside;
    }

pub returns-in_default-clause-rows : goal.returns-in_default-clause-rows
returns-in_default-clause-rows g c =
    let done : c.loop-left.progress.written ≡ length (rows_of c.args.epoch c.args.register.now) =
    progress_done c.args.epoch c.args.register.now c.loop-left.progress c.loop-left.invariant.progress
    (sym c.in_default.is ∙ c.row_after-coming.ensures) in
    let all : c.loop-left.progress.written - c.args.progress.now.written ≡ next_rows c.args.epoch c.args.register.now c.args.progress.now.written =
    omega (arith, done, c.loop-left.invariant.count, c.loop-left.invariant.most) in
    all_written c.args.epoch c.args.register.now c.args.at c.args.progress.now.written c.loop-left.progress.written all (g.D.Disk.view c.args.disk.now)
    (g.D.Disk.view c.loop-left.disk) c.loop-left.invariant.sectors c.loop-left.invariant.failures c.loop-left.invariant.calls c.loop-left.invariant.filled

pub returns-clause-rows : goal.returns-clause-rows
returns-clause-rows g c =
    let few = c.loop-left.invariant.progress.few in
    let all : c.loop-left.progress.written - c.args.progress.now.written ≡ next_rows c.args.epoch c.args.register.now c.args.progress.now.written =
    omega (arith, few, c.loop-left.invariant.count, c.loop-left.invariant.most, c.loop-left-test.false) in
    all_written c.args.epoch c.args.register.now c.args.at c.args.progress.now.written c.loop-left.progress.written all (g.D.Disk.view c.args.disk.now)
    (g.D.Disk.view c.loop-left.disk) c.loop-left.invariant.sectors c.loop-left.invariant.failures c.loop-left.invariant.calls c.loop-left.invariant.filled

pub returns-in_err-write-clause-rows : goal.returns-in_err-write-clause-rows
returns-in_err-write-clause-rows g c =
    let old : View = g.D.Disk.view c.args.disk.now in
    let mid : View = g.D.Disk.view c.loop-left.disk in
    let new : View = g.D.Disk.view c.write.new.self in
    let so_far = c.loop-left.invariant in
    let first = c.args.progress.now.written in
    let n = next_rows c.args.epoch c.args.register.now first in
    let bytes = next_row (c.args.epoch, c.args.register.now) first in
    let on = progress_on c.args.epoch c.args.register.now c.loop-left.progress so_far.progress c.in-Some.next.0 c.in-Some.next.1 (sym c.in-Some.is ∙ c.row_after-coming.ensures) in
    let few = on.0 in
    let up : first ≤ c.loop-left.progress.written = omega (arith, so_far.count, so_far.most) in
    let left : c.loop-left.progress.written < first + 8 = omega (arith, so_far.count, c.loop-left-test.true) in
    let inside : c.args.at + c.loop-left.progress.written < mid.sectors = omega (arith, so_far.sectors, c.requires.room, few) in
    let failed = c.from_residual.ensures.0 in
    record {
      effect = λ honest.
          let was = so_far.filled honest in
          last_filled c.args.epoch c.args.register.now c.args.at first c.loop-left.progress.written up c.in-Some.next.1 on.1 few left
          old mid new _ _ failed was (c.in_err-write.ensures.effect inside was.honest) (g.met.D.Disk.sound c.loop-left.disk was.honest) inside;
      calls = IfOk-from_err c.from_residual.result (λ _. HasCalled old new (writes (c.args.at + first) n bytes)) failed;
      some_calls = last_called c.args.epoch c.args.register.now c.args.at first c.loop-left.progress.written up c.in-Some.next.1 on.1 few left
          old mid new c.write.result so_far.calls c.write.ensures.called;
      keeps = keeps_on old mid new (kept_so_far {X = ⊥} old mid so_far.sectors so_far.failures (λ honest. (so_far.filled honest).honest) (λ e. e))
          (kept_failing mid new _ c.in_err-write.ensures.cause (λ honest. (c.in_err-write.ensures.effect inside honest).honest) refl
          (λ out. let far = c.in_err-write.ensures.in_range out in omega (arith, far, inside))) (λ e. e);
      in_range = λ out.
          let p = err_from_is_err_and c.from_residual.result c.from_residual.ensures.1 in
          let far = c.in_err-write.ensures.in_range (rw (p.1, p.2) at out) in
          omega (arith, far, inside);
    }
