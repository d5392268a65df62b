use Rattle.std.proofs.lemmas.Result.{err_from_is_err_and}
use Rattle.sector_disk.specs.Disk.{View}
use Rattle.sector_disk.proofs.Effects.{keeps_on, keeps_one}
use Rattle.gated_journal.proofs.FilledTwice.{filled_first, filled_second, so_failed, then_synced_twice}
use Rattle.gated_journal.specs.Record.{data_sector}
use Rattle.gated_journal.proofs.BothCalls.{both_settled, in_first, in_second, in_their_sync}
use Rattle.gated_journal.proofs.both.settle_both.Goals as goal

pub returns-in_err-fill-clause-effect : goal.returns-in_err-fill-clause-effect
returns-in_err-fill-clause-effect g c honest = filled_first c.args.first.now.at c.args.first.now.sectors c.args.second.now.at
    c.args.second.now.sectors (data_sector c.args.first.now.data.now.text.now) (data_sector c.args.second.now.data.now.text.now) _ _ _ _ c.from_residual.ensures.0
    (c.in_err-fill.ensures.effect honest)

pub returns-in_err-fill-2-clause-effect : goal.returns-in_err-fill-2-clause-effect
returns-in_err-fill-2-clause-effect g c honest =
    let first = c.in_ok-fill.ensures.effect honest in
    so_failed c.args.first.now.at c.args.first.now.sectors c.args.second.now.at c.args.second.now.sectors (data_sector c.args.first.now.data.now.text.now)
    (data_sector c.args.second.now.data.now.text.now) _ _ _ _ c.from_residual-in_err-fill-2.ensures.0
    (filled_second c.args.first.now.at c.args.first.now.sectors c.args.second.now.at c.args.second.now.sectors (data_sector c.args.first.now.data.now.text.now)
    (data_sector c.args.second.now.data.now.text.now) _ _ _ _ c.requires.apart first (c.in_err-fill-2.ensures.effect first.honest))

pub returns-clause-effect : goal.returns-clause-effect
returns-clause-effect g c honest =
    let first = c.in_ok-fill.ensures.effect honest in
    let both = filled_second c.args.first.now.at c.args.first.now.sectors c.args.second.now.at c.args.second.now.sectors
    (data_sector c.args.first.now.data.now.text.now) (data_sector c.args.second.now.data.now.text.now) _ _ _ _ c.requires.apart first
    (c.in_ok-fill-2.ensures.effect first.honest) in
    then_synced_twice c.args.first.now.at c.args.first.now.sectors c.args.second.now.at c.args.second.now.sectors
    (data_sector c.args.first.now.data.now.text.now) (data_sector c.args.second.now.data.now.text.now) _ _ _ _ both (c.sync.ensures.effect both.honest)

pub returns-in_err-fill-clause-runs : goal.returns-in_err-fill-clause-runs
returns-in_err-fill-clause-runs g c =
    let p = err_from_is_err_and c.from_residual.result c.from_residual.ensures.1 in
    let was = c.in_err-fill.ensures.runs in
    rw (p.1, p.2) (record {
      calls = tt;
      some_calls = in_first c.args.first.now.at c.args.first.now.sectors c.args.first.now.data.now.text.now c.args.second.now.at
          c.args.second.now.sectors c.args.second.now.data.now.text.now (g.D.Disk.view c.args.disk.now) (g.D.Disk.view c.fill.new.disk) was.some_calls;
      keeps = was.keeps;
      in_range = was.in_range;
    })

pub returns-in_err-fill-2-clause-runs : goal.returns-in_err-fill-2-clause-runs
returns-in_err-fill-2-clause-runs g c =
    let old : View = g.D.Disk.view c.args.disk.now in
    let mid : View = g.D.Disk.view c.fill.new.disk in
    let new : View = g.D.Disk.view c.fill-2.new.disk in
    let p = err_from_is_err_and c.from_residual-in_err-fill-2.result c.from_residual-in_err-fill-2.ensures.1 in
    let first = c.in_ok-fill.ensures.runs in
    let second = c.in_err-fill-2.ensures.runs in
    rw (p.1, p.2) (record {
      calls = tt;
      some_calls = in_second c.args.first.now.at c.args.first.now.sectors c.args.first.now.data.now.text.now c.args.second.now.at
          c.args.second.now.sectors c.args.second.now.data.now.text.now old mid new first.calls second.some_calls;
      keeps = keeps_on old mid new first.keeps second.keeps (λ e. e);
      in_range = second.in_range;
    })

pub returns-clause-runs : goal.returns-clause-runs
returns-clause-runs g c =
    let old : View = g.D.Disk.view c.args.disk.now in
    let mid : View = g.D.Disk.view c.fill.new.disk in
    let filled : View = g.D.Disk.view c.fill-2.new.disk in
    let new : View = g.D.Disk.view c.sync.new.self in
    let first = c.in_ok-fill.ensures.runs in
    let second = c.in_ok-fill-2.ensures.runs in
    record {
      calls = both_settled c.args.first.now.at c.args.first.now.sectors c.args.first.now.data.now.text.now c.args.second.now.at
          c.args.second.now.sectors c.args.second.now.data.now.text.now old mid filled new c.sync.result first.calls second.calls c.sync.ensures.called;
      some_calls = in_their_sync c.args.first.now.at c.args.first.now.sectors c.args.first.now.data.now.text.now c.args.second.now.at
          c.args.second.now.sectors c.args.second.now.data.now.text.now old mid filled new c.sync.result first.calls second.calls c.sync.ensures.called;
      keeps = keeps_on old filled new (keeps_on old mid filled {Z = ⊥} first.keeps second.keeps (λ e. absurd e))
          (keeps_one filled new c.sync.result c.sync.ensures.cause c.sync.ensures.in_range (λ honest. (c.sync.ensures.effect honest).honest)) (λ e. e);
      in_range = c.sync.ensures.in_range;
    }
