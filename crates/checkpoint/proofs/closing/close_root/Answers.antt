use Rattle.std.proofs.Common.{◌≡◌, ◌<◌, false, List, ℕ, slice_index, sym, ap, ◌∙◌, arith}
use Rattle.sector_disk.specs.Disk.{View, sector}
use Rattle.gated_journal.specs.Half.{IsOpen}
use Rattle.checkpoint.specs.Layout.{other_of, root_at}
use Rattle.checkpoint.specs.Calls.{is_root_open, root_calls_by}
use Rattle.checkpoint.proofs.ByRoot.{calls_where_closed, root_done, root_failed, root_tried}
use Rattle.checkpoint.proofs.Called.{calls_at_root, calls_in_root, root_left, root_shut, root_written}
use Rattle.checkpoint.proofs.Closed.{in_read, in_root}
use Rattle.checkpoint.proofs.Spared.{closed_as}
use Rattle.checkpoint.proofs.closing.close_root.Goals as goal

pub returns-in_err-read-clause-any_moment : goal.returns-in_err-read-clause-any_moment
returns-in_err-read-clause-any_moment g c form base held honest each =
    let layout = c.args.layout.now in
    let old : View = g.D.Disk.view c.args.disk.now in
    let place : c.root-root.result ≡ root_at (other_of c.args.current) = c.root-root.ensures ∙ ap root_at c.other.ensures in
    let inside : c.root-root.result < old.sectors = rw place c.requires.inside in
    let has = rw place at (c.in_err-read.ensures.effect inside honest) in
    in_read layout c.args.current form base held old _ (g.met.D.Disk.sound c.args.disk.now honest) c.requires.inside each _ _ has

pub returns-then-bytes-ne1-clause-any_moment : goal.returns-then-bytes-ne1-clause-any_moment
returns-then-bytes-ne1-clause-any_moment g c form base held honest each =
    let layout = c.args.layout.now in
    let old : View = g.D.Disk.view c.args.disk.now in
    let place : c.root-root.result ≡ root_at (other_of c.args.current) = c.root-root.ensures ∙ ap root_at c.other.ensures in
    let inside : c.root-root.result < old.sectors = rw place c.requires.inside in
    let has = rw place at (c.in_ok-read.ensures.effect inside honest) in
    in_read layout c.args.current form base held old _ (g.met.D.Disk.sound c.args.disk.now honest) c.requires.inside each _ _ has

pub returns-in_err-write-clause-any_moment : goal.returns-in_err-write-clause-any_moment
returns-in_err-write-clause-any_moment g c form base held honest each =
    let layout = c.args.layout.now in
    let old : View = g.D.Disk.view c.args.disk.now in
    let mid : View = g.D.Disk.view c.read.new.self in
    let place : c.root-root.result ≡ root_at (other_of c.args.current) = c.root-root.ensures ∙ ap root_at c.other.ensures in
    let inside : c.root-root.result < old.sectors = rw place c.requires.inside in
    let has = rw place at (c.in_ok-read.ensures.effect inside honest) in
    let same : mid.sectors ≡ old.sectors = c.in_ok-read.ensures.cause.sectors in
    let wrote = rw place at (c.in_err-write.ensures.effect (omega (arith, inside, same)) has.honest) in
    in_root layout c.args.current form base held old mid (g.met.D.Disk.sound c.args.disk.now honest) c.requires.inside each c.read.new.bytes _ _ _ has
    c.if-bytes-ne1.false (g.met.D.Disk.sound c.read.new.self has.honest) same wrote

pub returns-clause-any_moment : goal.returns-clause-any_moment
returns-clause-any_moment g c form base held honest each =
    let layout = c.args.layout.now in
    let old : View = g.D.Disk.view c.args.disk.now in
    let mid : View = g.D.Disk.view c.read.new.self in
    let place : c.root-root.result ≡ root_at (other_of c.args.current) = c.root-root.ensures ∙ ap root_at c.other.ensures in
    let inside : c.root-root.result < old.sectors = rw place c.requires.inside in
    let has = rw place at (c.in_ok-read.ensures.effect inside honest) in
    let same : mid.sectors ≡ old.sectors = c.in_ok-read.ensures.cause.sectors in
    let wrote = rw place at (c.in_ok-write.ensures.effect (omega (arith, inside, same)) has.honest) in
    in_root layout c.args.current form base held old mid (g.met.D.Disk.sound c.args.disk.now honest) c.requires.inside each c.read.new.bytes _ _ _ has
    c.if-bytes-ne1.false (g.met.D.Disk.sound c.read.new.self has.honest) same wrote

pub returns-in_err-read-clause-made : goal.returns-in_err-read-clause-made
returns-in_err-read-clause-made g c =
    let old : View = g.D.Disk.view c.args.disk.now in
    let new : View = g.D.Disk.view c.read.new.self in
    let place : c.root-root.result ≡ root_at (other_of c.args.current) = c.root-root.ensures ∙ ap root_at c.other.ensures in
    let tried = root_tried (other_of c.args.current) old new c.read.result (rw place at c.read.ensures.called) in
    root_failed old new (other_of c.args.current) (root_calls_by (other_of c.args.current)) _ c.from_residual.ensures.0
    (λ honest. tried (is_root_open (other_of c.args.current) old.reads)) (false, tried false)

pub returns-then-bytes-ne1-clause-made : goal.returns-then-bytes-ne1-clause-made
returns-then-bytes-ne1-clause-made g c =
    let old : View = g.D.Disk.view c.args.disk.now in
    let new : View = g.D.Disk.view c.read.new.self in
    let place : c.root-root.result ≡ root_at (other_of c.args.current) = c.root-root.ensures ∙ ap root_at c.other.ensures in
    let inside : c.root-root.result < old.sectors = rw place c.requires.inside in
    let called = rw place at c.in_ok-read.ensures.called.made in
    root_done old new (other_of c.args.current) (root_calls_by (other_of c.args.current)) tt
    (λ honest.
    let has = rw place at (c.in_ok-read.ensures.effect inside honest) in
    calls_where_closed (other_of c.args.current) old new (closed_as c.read.new.bytes (sector old.reads (root_at (other_of c.args.current))) (sym has.given) c.if-bytes-ne1.true) called)
    (root_left (other_of c.args.current) old new called)

pub returns-in_err-write-clause-made : goal.returns-in_err-write-clause-made
returns-in_err-write-clause-made g c =
    let old : View = g.D.Disk.view c.args.disk.now in
    let mid : View = g.D.Disk.view c.read.new.self in
    let new : View = g.D.Disk.view c.write.new.self in
    let place : c.root-root.result ≡ root_at (other_of c.args.current) = c.root-root.ensures ∙ ap root_at c.other.ensures in
    let inside : c.root-root.result < old.sectors = rw place c.requires.inside in
    let were = rw place at c.in_ok-read.ensures.called.made in
    let called = rw place at c.write.ensures.called in
    root_failed old new (other_of c.args.current) (root_calls_by (other_of c.args.current)) _ c.from_residual-in_err-write.ensures.0
    (λ honest.
    let has = rw place at (c.in_ok-read.ensures.effect inside honest) in
    let opened : IsOpen (sector old.reads (root_at (other_of c.args.current))) = ap (λ (bytes : List ℕ). slice_index bytes 0) (sym has.given) ∙ c.if-bytes-ne1.false in
    calls_in_root (other_of c.args.current) old mid opened were new c.write.result called)
    (root_written (other_of c.args.current) old mid were new c.write.result called)

pub returns-clause-made : goal.returns-clause-made
returns-clause-made g c =
    let old : View = g.D.Disk.view c.args.disk.now in
    let mid : View = g.D.Disk.view c.read.new.self in
    let new : View = g.D.Disk.view c.write.new.self in
    let place : c.root-root.result ≡ root_at (other_of c.args.current) = c.root-root.ensures ∙ ap root_at c.other.ensures in
    let inside : c.root-root.result < old.sectors = rw place c.requires.inside in
    let were = rw place at c.in_ok-read.ensures.called.made in
    let called = rw place at c.in_ok-write.ensures.called.made in
    root_done old new (other_of c.args.current) (root_calls_by (other_of c.args.current)) tt
    (λ honest.
    let has = rw place at (c.in_ok-read.ensures.effect inside honest) in
    let opened : IsOpen (sector old.reads (root_at (other_of c.args.current))) = ap (λ (bytes : List ℕ). slice_index bytes 0) (sym has.given) ∙ c.if-bytes-ne1.false in
    calls_at_root (other_of c.args.current) old mid opened were new called)
    (root_shut (other_of c.args.current) old mid were new called)
