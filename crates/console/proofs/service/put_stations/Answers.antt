use Rattle.std.proofs.Common.{◌≡◌, [], ◌∷◌, ◌++◌, length, refl, sym, arith}
use Rattle.std.proofs.lemmas.List.{append-nil}
use Rattle.console.proofs.StationLines.{count_more, put_more}
use Rattle.console.proofs.service.put_stations.Goals as goal

pub loop-place-init : goal.loop-place-init
loop-place-init g c = ([], refl, sym (append-nil c.args.out.now.items), omega arith, omega arith)

pub loop-place-preserved : goal.loop-place-preserved
loop-place-preserved g c =
    let i = c.loop-place.invariant in (
      i.0 ++ c.station-figures.result ∷ [],
      count_more i.0 c.station-figures.result c.loop-place.place i.1,
      put_more c.args.out.now.items c.loop-place.out.items c.put_station.new.out.items i.0 c.station-figures.result c.loop-place.place i.1 i.2 c.in_ok-put_station.ensures.ok,
      omega (arith, c.loop-place-test.true),
      omega (arith, i.4, c.put_station.ensures.capacity),
    )

pub returns-clause-ok : goal.returns-clause-ok
returns-clause-ok g c = let i = c.loop-place.invariant in (i.0, omega (arith, i.1, i.3, c.loop-place-test.false), i.2)
