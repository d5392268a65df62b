use Rattle.std.proofs.Common.{◌<◌, arith}
use Rattle.file_disk.proofs.Parts.{one_call, read_on, read_whole}
use Rattle.file_disk.proofs.whole.read_sector.Goals as goal

pub returns-then-done-eq512-clause-effect : goal.returns-then-done-eq512-clause-effect
returns-then-done-eq512-clause-effect g c within honest =
    let was = c.loop-call.invariant.read within honest in
    let inside : c.args.at < (g.F.SectorFile.view c.loop-call.file).sectors = omega (arith, within, c.loop-call.invariant.gone.sectors) in
    read_whole _ _ c.args.at _ c.read_more.new.bytes
    (read_on _ _ _ c.args.at c.loop-call.done c.in_ok-done.field-0 c.loop-call.bytes c.read_more.new.bytes was.0 was.1 c.read_more.ensures.kept
    (c.in_ok-done.ensures.effect inside was.0.honest))
    c.if-done-eq512.true c.read_more.array_long (g.met.F.SectorFile.sound c.args.file.now honest) within

pub loop-call-preserved : goal.loop-call-preserved
loop-call-preserved g c = record {
  less = omega (arith, c.in_ok-done.ensures.bound, c.if-done-eq512.false);
  gone = one_call _ _ _ _ _ _ c.loop-call._call _ c.loop-call.invariant.gone c.read_more.ensures.cause c.read_more.ensures.turns;
  read = λ within honest.
      let was = c.loop-call.invariant.read within honest in
      let inside : c.args.at < (g.F.SectorFile.view c.loop-call.file).sectors = omega (arith, within, c.loop-call.invariant.gone.sectors) in
      read_on _ _ _ c.args.at c.loop-call.done c.in_ok-done.field-0 c.loop-call.bytes c.read_more.new.bytes was.0 was.1 c.read_more.ensures.kept (c.in_ok-done.ensures.effect inside was.0.honest);
}
