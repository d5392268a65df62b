use Rattle.std.proofs.Common.{◌≡◌, Bool, false, ◌≤◌, ◌+◌, List, [], ◌∷◌, ◌++◌, length, Ok, refl, sym, ap, ◌∙◌, arith}
use Rattle.std.proofs.lemmas.List.{append-nil}
use Rattle.sector_disk.specs.Disk.{View}
use Rattle.sector_disk.specs.declared.disk.DiskError.{DiskError}
use Rattle.sector_disk.specs.declared.record.Call.{Call}
use Rattle.sector_disk.specs.declared.record.Call.TheVariants.{Sync}
use Rattle.image_rows.specs.Rows.{rows_of}
use Rattle.checkpoint.specs.Calls.{MakesCallsByRoot, close_calls_by, image_calls_by, is_root_open, row_calls, row_sector}
use Rattle.checkpoint.specs.Layout.{disk_size, other_of, slot_at}
use Rattle.checkpoint.proofs.Apart.{lies}
use Rattle.checkpoint.proofs.ByRoot.{root_failed, root_only, root_then_all, root_then_some}
use Rattle.checkpoint.proofs.Imaged.{in_last, in_rows, is_ready, rows_have_room}
use Rattle.checkpoint.proofs.Kept.{kept_done, kept_failing, kept_none}
use Rattle.sector_disk.proofs.Effects.{keeps_on}
use Rattle.sector_disk.proofs.Made.{made_none, made_on}
use Rattle.sector_disk.proofs.Moments.{started}
use Rattle.checkpoint.specs.OnSide.{IsOnSide}
use Rattle.checkpoint.proofs.image.write_image.Goals as goal

pub returns-then-epoch-ge-LAST_EPOCH-clause-any_moment : goal.returns-then-epoch-ge-LAST_EPOCH-clause-any_moment
returns-then-epoch-ge-LAST_EPOCH-clause-any_moment g c form base held honest each =
    started (g.D.Disk.view c.args.disk.now) (IsOnSide c.args.layout.now c.args.current form base held) (g.met.D.Disk.sound c.args.disk.now honest) each

pub write_rows-requires-clause-room : goal.write_rows-requires-clause-room
write_rows-requires-clause-room g c =
    let layout = c.args.layout.now in
    let places = lies layout (other_of c.args.current) in
    let fit = rows_have_room layout (c.args.epoch + 1) c.args.register.now c.registers.ensures.state c.requires.fits.limits in
    let place : c.slot.result ≡ slot_at layout (other_of c.args.current) = c.slot.ensures ∙ ap (slot_at layout) c.other.ensures in
    let room : disk_size layout ≤ (g.D.Disk.view c.begin.new.disk).sectors = rw c.begin.ensures.cause.sectors c.requires.fits.room in
    omega (arith, place, fit, places.slot, places.half, room)

pub write_rows-requires-clause-fits : goal.write_rows-requires-clause-fits
write_rows-requires-clause-fits g c =
    let layout = c.args.layout.now in
    let places = lies layout (other_of c.args.current) in
    let fit = rows_have_room layout (c.args.epoch + 1) c.args.register.now c.registers.ensures.state c.requires.fits.limits in
    let place : c.slot.result ≡ slot_at layout (other_of c.args.current) = c.slot.ensures ∙ ap (slot_at layout) c.other.ensures in
    omega (arith, place, fit, places.slot, places.half, places.short)

pub returns-in_err-write_rows-clause-any_moment : goal.returns-in_err-write_rows-clause-any_moment
returns-in_err-write_rows-clause-any_moment g c form base held honest each =
    let layout = c.args.layout.now in
    let mid : View = g.D.Disk.view c.begin.new.disk in
    let fit = rows_have_room layout (c.args.epoch + 1) c.args.register.now c.registers.ensures.state c.requires.fits.limits in
    let honest_still = c.begin.ensures.honest honest in
    let place : c.slot.result ≡ slot_at layout (other_of c.args.current) = c.slot.ensures ∙ ap (slot_at layout) c.other.ensures in
    let filled = rw place at (c.in_err-write_rows.ensures.rows.effect honest_still) in
    in_rows layout c.args.current (g.D.Disk.view c.args.disk.now) mid (c.in_ok-begin.ensures.shut honest)
    (length (rows_of (c.args.epoch + 1) c.args.register.now)) fit (row_sector (c.args.epoch + 1, c.args.register.now))
    (g.D.Disk.view c.write_rows.new.disk)
    form base held (c.begin.ensures.any_moment form base held honest each) (g.met.D.Disk.sound c.begin.new.disk honest_still) _ filled

pub returns-in_err-sync-clause-any_moment : goal.returns-in_err-sync-clause-any_moment
returns-in_err-sync-clause-any_moment g c form base held honest each =
    let layout = c.args.layout.now in
    let mid : View = g.D.Disk.view c.begin.new.disk in
    let fit = rows_have_room layout (c.args.epoch + 1) c.args.register.now c.registers.ensures.state c.requires.fits.limits in
    let honest_still = c.begin.ensures.honest honest in
    let place : c.slot.result ≡ slot_at layout (other_of c.args.current) = c.slot.ensures ∙ ap (slot_at layout) c.other.ensures in
    let filled = rw place at (c.in_ok-write_rows.ensures.rows.effect honest_still) in
    in_last layout c.args.current (g.D.Disk.view c.args.disk.now) mid (c.in_ok-begin.ensures.shut honest)
    (length (rows_of (c.args.epoch + 1) c.args.register.now)) fit (row_sector (c.args.epoch + 1, c.args.register.now))
    (g.D.Disk.view c.write_rows.new.disk)
    form base held (c.begin.ensures.any_moment form base held honest each) (g.met.D.Disk.sound c.begin.new.disk honest_still)
    (g.D.Disk.view c.sync.new.self) _ filled (c.in_err-sync.ensures.effect filled.honest)

pub returns-clause-any_moment : goal.returns-clause-any_moment
returns-clause-any_moment g c form base held honest each =
    let layout = c.args.layout.now in
    let mid : View = g.D.Disk.view c.begin.new.disk in
    let fit = rows_have_room layout (c.args.epoch + 1) c.args.register.now c.registers.ensures.state c.requires.fits.limits in
    let honest_still = c.begin.ensures.honest honest in
    let place : c.slot.result ≡ slot_at layout (other_of c.args.current) = c.slot.ensures ∙ ap (slot_at layout) c.other.ensures in
    let filled = rw place at (c.in_ok-write_rows.ensures.rows.effect honest_still) in
    in_last layout c.args.current (g.D.Disk.view c.args.disk.now) mid (c.in_ok-begin.ensures.shut honest)
    (length (rows_of (c.args.epoch + 1) c.args.register.now)) fit (row_sector (c.args.epoch + 1, c.args.register.now))
    (g.D.Disk.view c.write_rows.new.disk)
    form base held (c.begin.ensures.any_moment form base held honest each) (g.met.D.Disk.sound c.begin.new.disk honest_still)
    (g.D.Disk.view c.sync.new.self) _ filled (c.in_ok-sync.ensures.effect filled.honest)

pub returns-clause-ready : goal.returns-clause-ready
returns-clause-ready g c honest =
    let layout = c.args.layout.now in
    let honest_still = c.begin.ensures.honest honest in
    let place : c.slot.result ≡ slot_at layout (other_of c.args.current) = c.slot.ensures ∙ ap (slot_at layout) c.other.ensures in
    let filled = rw place at (c.in_ok-write_rows.ensures.rows.effect honest_still) in
    is_ready layout (other_of c.args.current) (c.args.epoch + 1) c.args.register.now (g.D.Disk.view c.begin.new.disk) (g.D.Disk.view c.write_rows.new.disk) (g.D.Disk.view c.sync.new.self)
    (c.in_ok-begin.ensures.shut honest) c.registers.ensures.state c.registers.ensures.ranges c.requires.fits.limits (omega arith) (omega arith) filled (c.in_ok-sync.ensures.effect filled.honest)

pub returns-then-epoch-ge-LAST_EPOCH-clause-made : goal.returns-then-epoch-ge-LAST_EPOCH-clause-made
returns-then-epoch-ge-LAST_EPOCH-clause-made g c =
    let side = other_of c.args.current in
    let old : View = g.D.Disk.view c.args.disk.now in
    let calls_by : Bool → List Call = λ was_open. image_calls_by c.args.layout.now side was_open (c.args.epoch + 1, c.args.register.now) in
    root_failed old old side calls_by _ refl (λ honest. made_none old (calls_by (is_root_open side old.reads))) (false, made_none old (calls_by false))

pub returns-in_err-begin-clause-made : goal.returns-in_err-begin-clause-made
returns-in_err-begin-clause-made g c =
    let layout = c.args.layout.now in
    let side = other_of c.args.current in
    let old : View = g.D.Disk.view c.args.disk.now in
    let mid : View = g.D.Disk.view c.begin.new.disk in
    let rows = row_calls (slot_at layout side) (c.args.epoch + 1, c.args.register.now) in
    let before : Bool → List Call = λ was_open. close_calls_by layout side was_open ++ rows in
    let failed = c.from_residual.ensures.0 in
    root_only old mid side before (Sync ∷ []) c.from_residual.result
    (root_only old mid side (close_calls_by layout side) rows c.begin.result c.begin.ensures.made c.from_residual.result failed) c.from_residual.result failed

pub returns-in_err-write_rows-clause-made : goal.returns-in_err-write_rows-clause-made
returns-in_err-write_rows-clause-made g c =
    let layout = c.args.layout.now in
    let side = other_of c.args.current in
    let old : View = g.D.Disk.view c.args.disk.now in
    let mid : View = g.D.Disk.view c.begin.new.disk in
    let wrote : View = g.D.Disk.view c.write_rows.new.disk in
    let place : c.slot.result ≡ slot_at layout side = c.slot.ensures ∙ ap (slot_at layout) c.other.ensures in
    let rows = row_calls (slot_at layout side) (c.args.epoch + 1, c.args.register.now) in
    let before : Bool → List Call = λ was_open. close_calls_by layout side was_open ++ rows in
    let failed = c.from_residual-in_err-write_rows.ensures.0 in
    root_only old wrote side before (Sync ∷ []) c.from_residual-in_err-write_rows.result
    (root_then_some old mid side (close_calls_by layout side) rows wrote tt c.in_ok-begin.ensures.made c.from_residual-in_err-write_rows.result failed
    (rw place at c.write_rows.ensures.rows.some_calls)) c.from_residual-in_err-write_rows.result failed

pub returns-in_err-sync-clause-made : goal.returns-in_err-sync-clause-made
returns-in_err-sync-clause-made g c =
    let layout = c.args.layout.now in
    let side = other_of c.args.current in
    let old : View = g.D.Disk.view c.args.disk.now in
    let mid : View = g.D.Disk.view c.begin.new.disk in
    let wrote : View = g.D.Disk.view c.write_rows.new.disk in
    let new : View = g.D.Disk.view c.sync.new.self in
    let place : c.slot.result ≡ slot_at layout side = c.slot.ensures ∙ ap (slot_at layout) c.other.ensures in
    let rows = row_calls (slot_at layout side) (c.args.epoch + 1, c.args.register.now) in
    let before : Bool → List Call = λ was_open. close_calls_by layout side was_open ++ rows in
    let step : MakesCallsByRoot {T = Unit} {E = DiskError} old wrote side before (Ok tt) =
    root_then_all old mid side (close_calls_by layout side) rows wrote tt c.in_ok-begin.ensures.made tt (rw place at c.in_ok-write_rows.ensures.rows.calls) in
    root_then_some old wrote side before (Sync ∷ []) new tt step c.from_residual-in_err-sync.result c.from_residual-in_err-sync.ensures.0
    (made_on wrote wrote new [] [] Sync c.sync.result (sym (append-nil wrote.calls)) c.sync.ensures.called)

pub returns-clause-made : goal.returns-clause-made
returns-clause-made g c =
    let layout = c.args.layout.now in
    let side = other_of c.args.current in
    let old : View = g.D.Disk.view c.args.disk.now in
    let mid : View = g.D.Disk.view c.begin.new.disk in
    let wrote : View = g.D.Disk.view c.write_rows.new.disk in
    let new : View = g.D.Disk.view c.sync.new.self in
    let place : c.slot.result ≡ slot_at layout side = c.slot.ensures ∙ ap (slot_at layout) c.other.ensures in
    let rows = row_calls (slot_at layout side) (c.args.epoch + 1, c.args.register.now) in
    let before : Bool → List Call = λ was_open. close_calls_by layout side was_open ++ rows in
    let step : MakesCallsByRoot {T = Unit} {E = DiskError} old wrote side before (Ok tt) =
    root_then_all old mid side (close_calls_by layout side) rows wrote tt c.in_ok-begin.ensures.made tt (rw place at c.in_ok-write_rows.ensures.rows.calls) in
    root_then_all old wrote side before (Sync ∷ []) new tt step tt c.in_ok-sync.ensures.called.made

pub returns-in_err-begin-clause-keeps : goal.returns-in_err-begin-clause-keeps
returns-in_err-begin-clause-keeps g c =
    let old : View = g.D.Disk.view c.args.disk.now in
    let mid : View = g.D.Disk.view c.begin.new.disk in
    kept_failing old mid _ c.in_err-begin.ensures.cause c.begin.ensures.honest refl c.in_err-begin.ensures.in_range

pub returns-in_err-write_rows-clause-keeps : goal.returns-in_err-write_rows-clause-keeps
returns-in_err-write_rows-clause-keeps g c =
    let old : View = g.D.Disk.view c.args.disk.now in
    let mid : View = g.D.Disk.view c.begin.new.disk in
    let wrote : View = g.D.Disk.view c.write_rows.new.disk in
    keeps_on old mid wrote (kept_done {X = ⊥} old mid _ c.in_ok-begin.ensures.cause c.begin.ensures.honest (λ e. e)) c.in_err-write_rows.ensures.rows.keeps (λ e. refl)

pub returns-in_err-sync-clause-keeps : goal.returns-in_err-sync-clause-keeps
returns-in_err-sync-clause-keeps g c =
    let old : View = g.D.Disk.view c.args.disk.now in
    let mid : View = g.D.Disk.view c.begin.new.disk in
    let wrote : View = g.D.Disk.view c.write_rows.new.disk in
    let new : View = g.D.Disk.view c.sync.new.self in
    keeps_on old wrote new (keeps_on old mid wrote (kept_done {X = ⊥} old mid _ c.in_ok-begin.ensures.cause c.begin.ensures.honest (λ e. e))
    (kept_none mid wrote c.in_ok-write_rows.ensures.rows.keeps) (λ e. e))
    (kept_failing wrote new _ c.in_err-sync.ensures.cause (λ honest. (c.in_err-sync.ensures.effect honest).honest) refl c.in_err-sync.ensures.in_range) (λ e. e)

pub returns-clause-keeps : goal.returns-clause-keeps
returns-clause-keeps g c =
    let old : View = g.D.Disk.view c.args.disk.now in
    let mid : View = g.D.Disk.view c.begin.new.disk in
    let wrote : View = g.D.Disk.view c.write_rows.new.disk in
    let new : View = g.D.Disk.view c.sync.new.self in
    keeps_on old wrote new (keeps_on old mid wrote (kept_done {X = ⊥} old mid _ c.in_ok-begin.ensures.cause c.begin.ensures.honest (λ e. e))
    (kept_none mid wrote c.in_ok-write_rows.ensures.rows.keeps) (λ e. e))
    (kept_done wrote new _ c.in_ok-sync.ensures.cause (λ honest. (c.in_ok-sync.ensures.effect honest).honest) (λ e. cc)) (λ e. e)
