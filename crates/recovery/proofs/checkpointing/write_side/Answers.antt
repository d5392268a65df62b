use Rattle.std.proofs.Common.{rules, ◌+◌, ◌<◌, arith}
use Rattle.std.proofs.lemmas.Result.{on_ok_weaker}
use Rattle.gated_journal.specs.declared.form.Form.TheVariants.{Numbered}
use Rattle.checkpoint.specs.OnSide.{Base, RecordsAndGate, IsOnSide, fresh}
use Rattle.checkpoint.specs.Calls.{image_calls, image_calls_by, switch_calls}
use Rattle.checkpoint.specs.Layout.{other_of}
use Rattle.checkpoint.proofs.Spared.{left_each}
use Rattle.sector_disk.proofs.Effects.{keeps_on}
use Rattle.sector_disk.proofs.Made.{made_of_more}
use Rattle.recovery.proofs.Called.{made_both, made_in_second}
use Rattle.recovery.proofs.Stored.{not_switched, then_switched}
use Rattle.recovery.proofs.checkpointing.write_side.Goals as goal

pub returns-in_err-write_image-clause-calls : goal.returns-in_err-write_image-clause-calls
returns-in_err-write_image-clause-calls g c = record {
  calls = search rules;
  some_calls = λ honest.
      let old = g.D.Disk.view c.args.disk.now in
      made_of_more old (g.D.Disk.view c.write_image.new.disk)
      (image_calls c.args.layout.now (other_of c.args.current) old.reads (c.args.epoch + 1, c.args.register.now))
      (switch_calls (other_of c.args.current)) (c.write_image.ensures.made.some_calls honest);
  calls_on_any_disk = search rules;
  some_calls_on_any_disk =
      let some = c.write_image.ensures.made.some_calls_on_any_disk in (
        some.0,
        made_of_more (g.D.Disk.view c.args.disk.now) (g.D.Disk.view c.write_image.new.disk)
            (image_calls_by c.args.layout.now (other_of c.args.current) some.0 (c.args.epoch + 1, c.args.register.now))
            (switch_calls (other_of c.args.current)) some.1,
      );
}

pub returns-clause-calls : goal.returns-clause-calls
returns-clause-calls g c = record {
  calls = on_ok_weaker c.switch.result (λ made honest.
      let old = g.D.Disk.view c.args.disk.now in
      made_both old (g.D.Disk.view c.write_image.new.disk) (g.D.Disk.view c.switch.new.disk)
      (image_calls c.args.layout.now (other_of c.args.current) old.reads (c.args.epoch + 1, c.args.register.now))
      (switch_calls (other_of c.args.current)) (c.in_ok-write_image.ensures.made.calls honest) made) c.switch.ensures.made.calls;
  some_calls = λ honest.
      let old = g.D.Disk.view c.args.disk.now in
      made_in_second old (g.D.Disk.view c.write_image.new.disk) (g.D.Disk.view c.switch.new.disk)
      (image_calls c.args.layout.now (other_of c.args.current) old.reads (c.args.epoch + 1, c.args.register.now))
      (switch_calls (other_of c.args.current)) (c.in_ok-write_image.ensures.made.calls honest) c.switch.ensures.made.some_calls;
  calls_on_any_disk = on_ok_weaker c.switch.result (λ made.
      let all = c.in_ok-write_image.ensures.made.calls_on_any_disk in (
        all.0,
        made_both (g.D.Disk.view c.args.disk.now) (g.D.Disk.view c.write_image.new.disk) (g.D.Disk.view c.switch.new.disk)
            (image_calls_by c.args.layout.now (other_of c.args.current) all.0 (c.args.epoch + 1, c.args.register.now))
            (switch_calls (other_of c.args.current)) all.1 made,
      )) c.switch.ensures.made.calls;
  some_calls_on_any_disk =
      let all = c.in_ok-write_image.ensures.made.calls_on_any_disk in (
        all.0,
        made_in_second (g.D.Disk.view c.args.disk.now) (g.D.Disk.view c.write_image.new.disk) (g.D.Disk.view c.switch.new.disk)
            (image_calls_by c.args.layout.now (other_of c.args.current) all.0 (c.args.epoch + 1, c.args.register.now))
            (switch_calls (other_of c.args.current)) all.1 c.switch.ensures.made.some_calls,
      );
}

pub returns-in_err-write_image-clause-keeps : goal.returns-in_err-write_image-clause-keeps
returns-in_err-write_image-clause-keeps g c = record {
  fault = search rules;
  sectors = search rules;
  later = search rules;
  honest = search rules;
}

pub returns-clause-keeps : goal.returns-clause-keeps
returns-clause-keeps g c = keeps_on (g.D.Disk.view c.args.disk.now) (g.D.Disk.view c.write_image.new.disk) (g.D.Disk.view c.switch.new.disk)
    c.write_image.ensures.keeps c.switch.ensures.keeps (λ is. is)

pub returns-in_err-write_image-clause-any_moment : goal.returns-in_err-write_image-clause-any_moment
returns-in_err-write_image-clause-any_moment g c = λ form base held same honest each.
    let more : RecordsAndGate g.row.A.Denot = fresh c.args.layout.now (other_of c.args.current) in
    not_switched c.args.layout.now c.args.current form Numbered base (c.args.epoch + 1, c.args.register.now) held more (g.D.Disk.view c.args.disk.now)
    (g.D.Disk.view c.write_image.new.disk) (c.write_image.ensures.any_moment form base held honest each)

pub returns-clause-any_moment : goal.returns-clause-any_moment
returns-clause-any_moment g c = λ form base held same honest each.
    let next : Base = (c.args.epoch + 1, c.args.register.now) in
    let more : RecordsAndGate g.row.A.Denot = fresh c.args.layout.now (other_of c.args.current) in
    let old = g.D.Disk.view c.args.disk.now in
    let mid = g.D.Disk.view c.write_image.new.disk in
    let written = c.write_image.ensures.any_moment form base held honest each in
    let still = c.write_image.ensures.keeps.honest honest in
    let newer : base.0 < next.0 = omega (arith, same) in
    then_switched c.args.layout.now c.args.current form Numbered base next held more old mid written (g.D.Disk.view c.switch.new.disk)
    (c.switch.ensures.any_moment form Numbered base next held more newer still
    (left_each old mid (IsOnSide c.args.layout.now c.args.current form base held) written (g.met.D.Disk.sound c.write_image.new.disk still))
    (c.in_ok-write_image.ensures.ready honest))

pub returns-clause-switched : goal.returns-clause-switched
returns-clause-switched g c = on_ok_weaker c.switch.result (λ then form base held same honest each.
    let next : Base = (c.args.epoch + 1, c.args.register.now) in
    let more : RecordsAndGate g.row.A.Denot = fresh c.args.layout.now (other_of c.args.current) in
    let old = g.D.Disk.view c.args.disk.now in
    let mid = g.D.Disk.view c.write_image.new.disk in
    let written = c.write_image.ensures.any_moment form base held honest each in
    let still = c.write_image.ensures.keeps.honest honest in
    let newer : base.0 < next.0 = omega (arith, same) in
    then form Numbered base next held more newer still
    (left_each old mid (IsOnSide c.args.layout.now c.args.current form base held) written (g.met.D.Disk.sound c.write_image.new.disk still))
    (c.in_ok-write_image.ensures.ready honest)) c.switch.ensures.switched
