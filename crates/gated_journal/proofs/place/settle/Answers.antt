use Rattle.std.proofs.Common.{[], ◌∷◌}
use Rattle.std.proofs.lemmas.Result.{err_from_is_err_and}
use Rattle.sector_disk.specs.Disk.{View}
use Rattle.sector_disk.proofs.Effects.{keeps_on, keeps_one}
use Rattle.sector_disk.proofs.Made.{made_of_more, made_on}
use Rattle.sector_disk.specs.Run.{writes}
use Rattle.sector_disk.specs.declared.record.Call.TheVariants.{Sync}
use Rattle.gated_journal.specs.Record.{data_sector}
use Rattle.gated_journal.proofs.Append.{then_synced}
use Rattle.gated_journal.proofs.Called.{settled_at_end}
use Rattle.gated_journal.proofs.place.settle.Goals as goal

pub returns-clause-effect : goal.returns-clause-effect
returns-clause-effect g c honest =
    let has = c.in_ok-fill.ensures.effect honest in
    then_synced _ _ _ _ _ _ _ has (c.sync.ensures.effect has.honest)

pub returns-in_err-fill-clause-runs : goal.returns-in_err-fill-clause-runs
returns-in_err-fill-clause-runs g c =
    let p = err_from_is_err_and c.from_residual.result c.from_residual.ensures.1 in
    let was = c.in_err-fill.ensures.runs in
    rw (p.1, p.2) (record {
      calls = tt;
      some_calls = made_of_more (g.D.Disk.view c.args.disk.now) (g.D.Disk.view c.fill.new.disk) (writes c.args.at c.args.n (data_sector c.args.data.now.text.now)) (Sync ∷ [])
          was.some_calls;
      keeps = was.keeps;
      in_range = was.in_range;
    })

pub returns-clause-runs : goal.returns-clause-runs
returns-clause-runs g c =
    let old : View = g.D.Disk.view c.args.disk.now in
    let mid : View = g.D.Disk.view c.fill.new.disk in
    let new : View = g.D.Disk.view c.sync.new.self in
    let was = c.in_ok-fill.ensures.runs in
    record {
      calls = settled_at_end old mid new c.args.at c.args.n c.args.data.now.text.now c.sync.result was.calls c.sync.ensures.called;
      some_calls = made_on old mid new (writes c.args.at c.args.n (data_sector c.args.data.now.text.now)) [] Sync c.sync.result was.calls c.sync.ensures.called;
      keeps = keeps_on old mid new was.keeps (keeps_one mid new c.sync.result c.sync.ensures.cause c.sync.ensures.in_range (λ honest. (c.sync.ensures.effect honest).honest)) (λ e. e);
      in_range = c.sync.ensures.in_range;
    }
