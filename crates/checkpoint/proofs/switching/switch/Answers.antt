use Rattle.std.proofs.Common.{◌≡◌, ◌<◌, ◌∷◌, [], sym, refl, ap, ◌∙◌, arith}
use Rattle.std.proofs.lemmas.List.{append-nil}
use Rattle.sector_disk.specs.Disk.{View}
use Rattle.sector_disk.proofs.Effects.{keeps_on}
use Rattle.sector_disk.proofs.Made.{all_made, made_on}
use Rattle.sector_disk.specs.declared.record.Call.TheVariants.{Sync, Write}
use Rattle.gated_journal.specs.Calls.{open_gate}
use Rattle.checkpoint.specs.Calls.{switch_calls}
use Rattle.checkpoint.specs.Layout.{other_of, root_at}
use Rattle.checkpoint.proofs.Apart.{root_inside}
use Rattle.checkpoint.proofs.ByRoot.{calls_done, calls_failed}
use Rattle.checkpoint.proofs.Kept.{kept_done, kept_failing}
use Rattle.checkpoint.proofs.Switched.{has_switched, in_root, in_sync}
use Rattle.checkpoint.proofs.switching.switch.Goals as goal

pub returns-in_err-write-clause-any_moment : goal.returns-in_err-write-clause-any_moment
returns-in_err-write-clause-any_moment g c form also base next held more newer honest each ready =
    let layout = c.args.layout.now in
    let old : View = g.D.Disk.view c.args.disk.now in
    let place : c.root.result ≡ root_at (other_of c.args.current) = c.root.ensures ∙ ap root_at c.other.ensures in
    let inside : c.root.result < old.sectors = rw place (root_inside layout (other_of c.args.current) old.sectors c.requires.room) in
    let wrote = rw place at (c.in_err-write.ensures.effect inside honest) in
    in_root layout c.args.current form also base next held more newer _ _ (g.met.D.Disk.sound c.args.disk.now honest) c.requires.room each ready _ _ wrote

pub returns-in_err-sync-clause-any_moment : goal.returns-in_err-sync-clause-any_moment
returns-in_err-sync-clause-any_moment g c form also base next held more newer honest each ready =
    let layout = c.args.layout.now in
    let old : View = g.D.Disk.view c.args.disk.now in
    let place : c.root.result ≡ root_at (other_of c.args.current) = c.root.ensures ∙ ap root_at c.other.ensures in
    let inside : c.root.result < old.sectors = rw place (root_inside layout (other_of c.args.current) old.sectors c.requires.room) in
    let wrote = rw place at (c.in_ok-write.ensures.effect inside honest) in
    in_sync layout c.args.current form also base next held more newer _ _ (g.met.D.Disk.sound c.args.disk.now honest) c.requires.room each ready _ wrote _ _ (c.in_err-sync.ensures.effect wrote.honest)

pub returns-clause-any_moment : goal.returns-clause-any_moment
returns-clause-any_moment g c form also base next held more newer honest each ready =
    let layout = c.args.layout.now in
    let old : View = g.D.Disk.view c.args.disk.now in
    let place : c.root.result ≡ root_at (other_of c.args.current) = c.root.ensures ∙ ap root_at c.other.ensures in
    let inside : c.root.result < old.sectors = rw place (root_inside layout (other_of c.args.current) old.sectors c.requires.room) in
    let wrote = rw place at (c.in_ok-write.ensures.effect inside honest) in
    in_sync layout c.args.current form also base next held more newer _ _ (g.met.D.Disk.sound c.args.disk.now honest) c.requires.room each ready _ wrote _ _ (c.in_ok-sync.ensures.effect wrote.honest)

pub returns-clause-switched : goal.returns-clause-switched
returns-clause-switched g c form also base next held more newer honest each ready =
    let layout = c.args.layout.now in
    let old : View = g.D.Disk.view c.args.disk.now in
    let place : c.root.result ≡ root_at (other_of c.args.current) = c.root.ensures ∙ ap root_at c.other.ensures in
    let inside : c.root.result < old.sectors = rw place (root_inside layout (other_of c.args.current) old.sectors c.requires.room) in
    let wrote = rw place at (c.in_ok-write.ensures.effect inside honest) in
    has_switched layout c.args.current form also base next held more newer _ _ (g.met.D.Disk.sound c.args.disk.now honest) c.requires.room each ready
    _ wrote _ (c.in_ok-sync.ensures.effect wrote.honest) refl

pub returns-in_err-write-clause-made : goal.returns-in_err-write-clause-made
returns-in_err-write-clause-made g c =
    let old : View = g.D.Disk.view c.args.disk.now in
    let new : View = g.D.Disk.view c.write.new.self in
    let place : c.root.result ≡ root_at (other_of c.args.current) = c.root.ensures ∙ ap root_at c.other.ensures in
    calls_failed old new (switch_calls (other_of c.args.current)) _ c.from_residual.ensures.0
    (made_on old old new [] (Sync ∷ []) (Write (root_at (other_of c.args.current)) open_gate) c.write.result (sym (append-nil old.calls)) (rw place at c.write.ensures.called))

pub returns-in_err-sync-clause-made : goal.returns-in_err-sync-clause-made
returns-in_err-sync-clause-made g c =
    let old : View = g.D.Disk.view c.args.disk.now in
    let new : View = g.D.Disk.view c.sync.new.self in
    let place : c.root.result ≡ root_at (other_of c.args.current) = c.root.ensures ∙ ap root_at c.other.ensures in
    calls_failed old new (switch_calls (other_of c.args.current)) _ c.from_residual-in_err-sync.ensures.0
    (made_on old (g.D.Disk.view c.write.new.self) new (Write (root_at (other_of c.args.current)) open_gate ∷ []) [] Sync c.sync.result
    (rw place at c.in_ok-write.ensures.called.made) c.sync.ensures.called)

pub returns-clause-made : goal.returns-clause-made
returns-clause-made g c =
    let old : View = g.D.Disk.view c.args.disk.now in
    let mid : View = g.D.Disk.view c.write.new.self in
    let new : View = g.D.Disk.view c.sync.new.self in
    let place : c.root.result ≡ root_at (other_of c.args.current) = c.root.ensures ∙ ap root_at c.other.ensures in
    calls_done old new (switch_calls (other_of c.args.current)) tt
    (all_made old.calls mid.calls new.calls (Write (root_at (other_of c.args.current)) open_gate ∷ []) Sync (rw place at c.in_ok-write.ensures.called.made) c.in_ok-sync.ensures.called.made)

pub returns-in_err-write-clause-keeps : goal.returns-in_err-write-clause-keeps
returns-in_err-write-clause-keeps g c =
    let layout = c.args.layout.now in
    let old : View = g.D.Disk.view c.args.disk.now in
    let new : View = g.D.Disk.view c.write.new.self in
    let place : c.root.result ≡ root_at (other_of c.args.current) = c.root.ensures ∙ ap root_at c.other.ensures in
    let inside : c.root.result < old.sectors = rw place (root_inside layout (other_of c.args.current) old.sectors c.requires.room) in
    kept_failing old new _ c.in_err-write.ensures.cause (λ honest. (c.in_err-write.ensures.effect inside honest).honest) refl
    (λ out. let far = c.in_err-write.ensures.in_range out in omega (arith, far, inside))

pub returns-in_err-sync-clause-keeps : goal.returns-in_err-sync-clause-keeps
returns-in_err-sync-clause-keeps g c =
    let layout = c.args.layout.now in
    let old : View = g.D.Disk.view c.args.disk.now in
    let mid : View = g.D.Disk.view c.write.new.self in
    let new : View = g.D.Disk.view c.sync.new.self in
    let place : c.root.result ≡ root_at (other_of c.args.current) = c.root.ensures ∙ ap root_at c.other.ensures in
    let inside : c.root.result < old.sectors = rw place (root_inside layout (other_of c.args.current) old.sectors c.requires.room) in
    keeps_on old mid new (kept_done {X = ⊥} old mid _ c.in_ok-write.ensures.cause (λ honest. (c.in_ok-write.ensures.effect inside honest).honest) (λ e. e))
    (kept_failing mid new _ c.in_err-sync.ensures.cause (λ honest. (c.in_err-sync.ensures.effect honest).honest) refl c.in_err-sync.ensures.in_range) (λ e. e)

pub returns-clause-keeps : goal.returns-clause-keeps
returns-clause-keeps g c =
    let layout = c.args.layout.now in
    let old : View = g.D.Disk.view c.args.disk.now in
    let mid : View = g.D.Disk.view c.write.new.self in
    let new : View = g.D.Disk.view c.sync.new.self in
    let place : c.root.result ≡ root_at (other_of c.args.current) = c.root.ensures ∙ ap root_at c.other.ensures in
    let inside : c.root.result < old.sectors = rw place (root_inside layout (other_of c.args.current) old.sectors c.requires.room) in
    keeps_on old mid new (kept_done {X = ⊥} old mid _ c.in_ok-write.ensures.cause (λ honest. (c.in_ok-write.ensures.effect inside honest).honest) (λ e. e))
    (kept_done mid new _ c.in_ok-sync.ensures.cause (λ honest. (c.in_ok-sync.ensures.effect honest).honest) (λ e. cc)) (λ e. e)
