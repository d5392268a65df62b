use Rattle.std.proofs.Common.{◌<◌, length, arith}
use Rattle.file_disk.proofs.Parts.{one_call, put_failed, put_on, put_whole}
use Rattle.file_disk.proofs.whole.write_sector.Goals as goal

pub loop-call-preserved : goal.loop-call-preserved
loop-call-preserved g c = record {
  less = omega (arith, c.in_ok-done.ensures.bound, c.if-done-eq512.false);
  gone = one_call _ _ _ _ _ _ c.loop-call._call _ c.loop-call.invariant.gone c.write_more.ensures.cause c.write_more.ensures.turns;
  put = λ within honest.
      let was = c.loop-call.invariant.put within honest in
      let inside : c.args.at < (g.F.SectorFile.view c.loop-call.file).sectors = omega (arith, within, c.loop-call.invariant.gone.sectors) in
      put_on c.args.at c.args.bytes.now _ _ _ c.loop-call.done c.in_ok-done.field-0 was (c.in_ok-done.ensures.effect inside was.rest.honest);
}

pub returns-then-done-eq512-clause-effect : goal.returns-then-done-eq512-clause-effect
returns-then-done-eq512-clause-effect g c within honest =
    let was = c.loop-call.invariant.put within honest in
    let inside : c.args.at < (g.F.SectorFile.view c.loop-call.file).sectors = omega (arith, within, c.loop-call.invariant.gone.sectors) in
    let put = put_on c.args.at c.args.bytes.now _ _ _ c.loop-call.done c.in_ok-done.field-0 was (c.in_ok-done.ensures.effect inside was.rest.honest) in
    let sound = g.met.F.SectorFile.sound c.args.file.now honest in
    let there : c.args.at < length (g.F.SectorFile.view c.write_more.new.file).reads = omega (arith, within, sound.count, put.rest.count) in
    put_whole c.args.at c.args.bytes.now _ _ _ put c.if-done-eq512.true c.told-bytes (g.met.F.SectorFile.sound c.write_more.new.file put.rest.honest) there

pub returns-in_err-done-clause-effect : goal.returns-in_err-done-clause-effect
returns-in_err-done-clause-effect g c within honest =
    let was = c.loop-call.invariant.put within honest in
    let inside : c.args.at < (g.F.SectorFile.view c.loop-call.file).sectors = omega (arith, within, c.loop-call.invariant.gone.sectors) in
    put_failed c.args.at c.args.bytes.now _ _ _ c.loop-call.done c.write_more.result c.from_residual.result
    (g.met.F.SectorFile.sound c.args.file.now honest) was (c.write_more.ensures.effect inside was.rest.honest) c.from_residual.ensures.0
