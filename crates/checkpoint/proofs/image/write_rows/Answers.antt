use Rattle.std.proofs.Common.{◌+◌, ◌<◌, ◌∙◌, ℕ, Ok, length, subst, arith, refl}
use Rattle.std.proofs.lemmas.Result.{IfOk-from_err, err_from_is_err_and}
use Rattle.sector_disk.specs.Disk.{View}
use Rattle.sector_disk.specs.Run.{HasCalled, writes}
use Rattle.sector_disk.specs.Filling.{HasFilled}
use Rattle.sector_disk.proofs.Effects.{keeps_on}
use Rattle.sector_disk.proofs.Filled.{fill_more, fill_none, fill_wider}
use Rattle.sector_disk.proofs.Made.{no_write_yet, one_made, write_made}
use Rattle.image_rows.specs.Rows.{rows_of}
use Rattle.checkpoint.specs.Calls.{row_sector}
use Rattle.checkpoint.proofs.ByRoot.{has_made_all}
use Rattle.checkpoint.proofs.Kept.{kept_failing, kept_so_far}
use Rattle.checkpoint.proofs.Walked.{walk_begun, walk_done, walk_here, walk_on}
use Rattle.checkpoint.proofs.image.write_rows.Goals as goal

pub loop-coming-init : goal.loop-coming-init
loop-coming-init g c =
    let bytes = row_sector (c.args.epoch, c.args.register.now) in
    record {
      walk = walk_begun c.args.epoch c.args.register.now c.registers.ensures.state c.registers.ensures.ranges c.row_after-coming.result c.row_after-coming.ensures;
      sectors = refl;
      failures = omega arith;
      calls = no_write_yet _ c.args.at bytes;
      filled = λ honest. fill_none _ c.args.at bytes honest (g.met.D.Disk.sound c.args.disk.now honest);
    }

pub loop-coming-smaller : goal.loop-coming-smaller
loop-coming-smaller g c =
    let goes = walk_here c.args.epoch c.args.register.now c.loop-coming.coming c.loop-coming.written c.in-Some.next c.loop-coming.invariant.walk c.in-Some.is in
    omega (arith, goes.lt)

pub loop-coming-preserved : goal.loop-coming-preserved
loop-coming-preserved g c =
    let bytes = row_sector (c.args.epoch, c.args.register.now) in
    let goes = walk_on c.args.epoch c.args.register.now c.loop-coming.coming c.row_after-coming-in-Some.result c.loop-coming.written c.in-Some.next.0
    c.in-Some.next.1 c.loop-coming.invariant.walk c.in-Some.is c.row_after-coming-in-Some.ensures in
    record {
      walk = goes.more;
      sectors = c.write.ensures.cause.sectors ∙ c.loop-coming.invariant.sectors;
      failures = omega (arith, c.write.ensures.cause.later, c.loop-coming.invariant.failures);
      calls = one_made _ _ _ c.args.at c.loop-coming.written bytes c.in-Some.next.1 goes.is c.loop-coming.invariant.calls c.in_ok-write.ensures.called.made;
      filled = λ honest.
          let mid : View = g.D.Disk.view c.loop-coming.disk in
          let was = c.loop-coming.invariant.filled honest in
          let inside : c.args.at + c.loop-coming.written < mid.sectors = omega (arith, c.loop-coming.invariant.sectors, c.requires.room, goes.lt) in
          fill_more _ mid _ _ _ _ _ _ was (c.in_ok-write.ensures.effect inside was.honest) goes.is (g.met.D.Disk.sound c.loop-coming.disk was.honest) inside;
    }

pub returns-in_err-write : goal.returns-in_err-write
returns-in_err-write g c =
    let old : View = g.D.Disk.view c.args.disk.now in
    let mid : View = g.D.Disk.view c.loop-coming.disk in
    let new : View = g.D.Disk.view c.write.new.self in
    let so_far = c.loop-coming.invariant in
    let bytes = row_sector (c.args.epoch, c.args.register.now) in
    let n = length (rows_of c.args.epoch c.args.register.now) in
    let goes = walk_here c.args.epoch c.args.register.now c.loop-coming.coming c.loop-coming.written c.in-Some.next so_far.walk c.in-Some.is in
    let inside : c.args.at + c.loop-coming.written < mid.sectors = omega (arith, so_far.sectors, c.requires.room, goes.lt) in
    let failed = c.from_residual.ensures.0 in
    record {
      rows = record {
        effect = λ honest.
            let was = so_far.filled honest in
            fill_wider _ _ _ (c.loop-coming.written + 1) _ _ _ _ failed (omega (arith, goes.lt))
            (fill_more _ mid _ _ _ _ _ _ was (c.in_err-write.ensures.effect inside was.honest) goes.is (g.met.D.Disk.sound c.loop-coming.disk was.honest) inside);
        calls = IfOk-from_err c.from_residual.result (λ _. HasCalled old new (writes c.args.at n bytes)) failed;
        some_calls = write_made old mid new c.args.at c.loop-coming.written n bytes c.in-Some.next.1 c.write.result goes.lt goes.is so_far.calls c.write.ensures.called;
        keeps = keeps_on old mid new (kept_so_far {X = ⊥} old mid so_far.sectors so_far.failures (λ honest. (so_far.filled honest).honest) (λ e. e))
            (kept_failing mid new _ c.in_err-write.ensures.cause (λ honest. (c.in_err-write.ensures.effect inside honest).honest) refl
            (λ out. let far = c.in_err-write.ensures.in_range out in omega (arith, far, inside))) (λ e. e);
        in_range = λ out.
            let p = err_from_is_err_and c.from_residual.result c.from_residual.ensures.1 in
            let far = c.in_err-write.ensures.in_range (rw (p.1, p.2) at out) in
            omega (arith, far, inside);
      };
    }

pub returns : goal.returns
returns g c =
    let old : View = g.D.Disk.view c.args.disk.now in
    let new : View = g.D.Disk.view c.loop-coming.disk in
    let so_far = c.loop-coming.invariant in
    let bytes = row_sector (c.args.epoch, c.args.register.now) in
    let n = length (rows_of c.args.epoch c.args.register.now) in
    let done = walk_done c.args.epoch c.args.register.now c.loop-coming.coming c.loop-coming.written so_far.walk c.in_default.is in
    let all : HasCalled old new (writes c.args.at n bytes) = subst (λ (m : ℕ). HasCalled old new (writes c.args.at m bytes)) done so_far.calls in
    record {
      rows = record {
        effect = λ honest. subst (λ (m : ℕ). HasFilled old new c.args.at m bytes (Ok tt)) done (so_far.filled honest);
        calls = all;
        some_calls = has_made_all old new (writes c.args.at n bytes) all;
        keeps = kept_so_far old new so_far.sectors so_far.failures (λ honest. (so_far.filled honest).honest) (λ e. cc);
        in_range = λ out. cc;
      };
    }
