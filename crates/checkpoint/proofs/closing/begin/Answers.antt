use Rattle.std.proofs.Common.{◌≡◌, ◌≤◌, ◌<◌, ◌∷◌, [], sym, ap, ◌∙◌}
use Rattle.std.proofs.lemmas.List.{append-nil}
use Rattle.sector_disk.specs.Disk.{View}
use Rattle.sector_disk.specs.declared.record.Call.{Call}
use Rattle.sector_disk.specs.declared.record.Call.TheVariants.{Sync, Write}
use Rattle.gated_journal.specs.Calls.{closed_gate}
use Rattle.checkpoint.specs.Calls.{root_calls_by}
use Rattle.checkpoint.specs.Layout.{disk_size, half_at, other_of}
use Rattle.checkpoint.proofs.Apart.{gate_inside, root_inside}
use Rattle.checkpoint.proofs.ByRoot.{root_only, root_then_all, root_then_some}
use Rattle.checkpoint.proofs.Closed.{in_gate, in_sync, is_shut}
use Rattle.sector_disk.proofs.Made.{all_made, made_on}
use Rattle.checkpoint.proofs.closing.begin.Goals as goal

pub close_root-requires : goal.close_root-requires
close_root-requires g c = record { inside = root_inside c.args.layout.now (other_of c.args.current) (g.D.Disk.view c.args.disk.now).sectors c.requires.room }

pub returns-in_err-write-clause-any_moment : goal.returns-in_err-write-clause-any_moment
returns-in_err-write-clause-any_moment g c form base held honest each =
    let layout = c.args.layout.now in
    let old : View = g.D.Disk.view c.args.disk.now in
    let mid : View = g.D.Disk.view c.close_root.new.disk in
    let honest_still = c.close_root.ensures.honest honest in
    let room : disk_size layout ≤ mid.sectors = rw c.close_root.ensures.cause.sectors c.requires.room in
    let place : c.half.result ≡ half_at layout (other_of c.args.current) = c.half.ensures ∙ ap (half_at layout) c.other.ensures in
    let inside : c.half.result < mid.sectors = rw place (gate_inside layout (other_of c.args.current) mid.sectors room) in
    let wrote = rw place at (c.in_err-write.ensures.effect inside honest_still) in
    in_gate layout c.args.current form base held old mid (c.close_root.ensures.any_moment form base held honest each) (g.met.D.Disk.sound c.close_root.new.disk honest_still) room _ _ _ wrote

pub returns-in_err-sync-clause-any_moment : goal.returns-in_err-sync-clause-any_moment
returns-in_err-sync-clause-any_moment g c form base held honest each =
    let layout = c.args.layout.now in
    let old : View = g.D.Disk.view c.args.disk.now in
    let mid : View = g.D.Disk.view c.close_root.new.disk in
    let honest_still = c.close_root.ensures.honest honest in
    let room : disk_size layout ≤ mid.sectors = rw c.close_root.ensures.cause.sectors c.requires.room in
    let place : c.half.result ≡ half_at layout (other_of c.args.current) = c.half.ensures ∙ ap (half_at layout) c.other.ensures in
    let inside : c.half.result < mid.sectors = rw place (gate_inside layout (other_of c.args.current) mid.sectors room) in
    let wrote = rw place at (c.in_ok-write.ensures.effect inside honest_still) in
    in_sync layout c.args.current form base held old mid (c.close_root.ensures.any_moment form base held honest each)
    (g.met.D.Disk.sound c.close_root.new.disk honest_still) room _ _ _ _ wrote (c.in_err-sync.ensures.effect wrote.honest)

pub returns-clause-any_moment : goal.returns-clause-any_moment
returns-clause-any_moment g c form base held honest each =
    let layout = c.args.layout.now in
    let old : View = g.D.Disk.view c.args.disk.now in
    let mid : View = g.D.Disk.view c.close_root.new.disk in
    let honest_still = c.close_root.ensures.honest honest in
    let room : disk_size layout ≤ mid.sectors = rw c.close_root.ensures.cause.sectors c.requires.room in
    let place : c.half.result ≡ half_at layout (other_of c.args.current) = c.half.ensures ∙ ap (half_at layout) c.other.ensures in
    let inside : c.half.result < mid.sectors = rw place (gate_inside layout (other_of c.args.current) mid.sectors room) in
    let wrote = rw place at (c.in_ok-write.ensures.effect inside honest_still) in
    in_sync layout c.args.current form base held old mid (c.close_root.ensures.any_moment form base held honest each)
    (g.met.D.Disk.sound c.close_root.new.disk honest_still) room _ _ _ _ wrote (c.in_ok-sync.ensures.effect wrote.honest)

pub returns-clause-shut : goal.returns-clause-shut
returns-clause-shut g c honest =
    let layout = c.args.layout.now in
    let mid : View = g.D.Disk.view c.close_root.new.disk in
    let honest_still = c.close_root.ensures.honest honest in
    let room : disk_size layout ≤ mid.sectors = rw c.close_root.ensures.cause.sectors c.requires.room in
    let place : c.half.result ≡ half_at layout (other_of c.args.current) = c.half.ensures ∙ ap (half_at layout) c.other.ensures in
    let inside : c.half.result < mid.sectors = rw place (gate_inside layout (other_of c.args.current) mid.sectors room) in
    let wrote = rw place at (c.in_ok-write.ensures.effect inside honest_still) in
    is_shut layout (other_of c.args.current) mid (g.D.Disk.view c.write.new.self) (g.D.Disk.view c.sync.new.self)
    (c.in_ok-close_root.ensures.closed honest) wrote (c.in_ok-sync.ensures.effect wrote.honest)

pub returns-in_err-close_root-clause-made : goal.returns-in_err-close_root-clause-made
returns-in_err-close_root-clause-made g c =
    root_only (g.D.Disk.view c.args.disk.now) (g.D.Disk.view c.close_root.new.disk) (other_of c.args.current) (root_calls_by (other_of c.args.current))
    (Write (half_at c.args.layout.now (other_of c.args.current)) closed_gate ∷ Sync ∷ []) c.close_root.result c.close_root.ensures.made _ c.from_residual.ensures.0

pub returns-in_err-write-clause-made : goal.returns-in_err-write-clause-made
returns-in_err-write-clause-made g c =
    let mid : View = g.D.Disk.view c.close_root.new.disk in
    let gate : Call = Write (half_at c.args.layout.now (other_of c.args.current)) closed_gate in
    let place : c.half.result ≡ half_at c.args.layout.now (other_of c.args.current) = c.half.ensures ∙ ap (half_at c.args.layout.now) c.other.ensures in
    root_then_some (g.D.Disk.view c.args.disk.now) mid (other_of c.args.current) (root_calls_by (other_of c.args.current)) (gate ∷ Sync ∷ [])
    (g.D.Disk.view c.write.new.self) tt c.in_ok-close_root.ensures.made _ c.from_residual-in_err-write.ensures.0
    (made_on mid mid (g.D.Disk.view c.write.new.self) [] (Sync ∷ []) gate c.write.result (sym (append-nil mid.calls)) (rw place at c.write.ensures.called))

pub returns-in_err-sync-clause-made : goal.returns-in_err-sync-clause-made
returns-in_err-sync-clause-made g c =
    let mid : View = g.D.Disk.view c.close_root.new.disk in
    let gate : Call = Write (half_at c.args.layout.now (other_of c.args.current)) closed_gate in
    let place : c.half.result ≡ half_at c.args.layout.now (other_of c.args.current) = c.half.ensures ∙ ap (half_at c.args.layout.now) c.other.ensures in
    root_then_some (g.D.Disk.view c.args.disk.now) mid (other_of c.args.current) (root_calls_by (other_of c.args.current)) (gate ∷ Sync ∷ [])
    (g.D.Disk.view c.sync.new.self) tt c.in_ok-close_root.ensures.made _ c.from_residual-in_err-sync.ensures.0
    (made_on mid (g.D.Disk.view c.write.new.self) (g.D.Disk.view c.sync.new.self) (gate ∷ []) [] Sync c.sync.result (rw place at c.in_ok-write.ensures.called.made) c.sync.ensures.called)

pub returns-clause-made : goal.returns-clause-made
returns-clause-made g c =
    let mid : View = g.D.Disk.view c.close_root.new.disk in
    let gate : Call = Write (half_at c.args.layout.now (other_of c.args.current)) closed_gate in
    let place : c.half.result ≡ half_at c.args.layout.now (other_of c.args.current) = c.half.ensures ∙ ap (half_at c.args.layout.now) c.other.ensures in
    root_then_all (g.D.Disk.view c.args.disk.now) mid (other_of c.args.current) (root_calls_by (other_of c.args.current)) (gate ∷ Sync ∷ [])
    (g.D.Disk.view c.sync.new.self) tt c.in_ok-close_root.ensures.made tt
    (all_made mid.calls (g.D.Disk.view c.write.new.self).calls (g.D.Disk.view c.sync.new.self).calls (gate ∷ []) Sync (rw place at c.in_ok-write.ensures.called.made) c.in_ok-sync.ensures.called.made)
