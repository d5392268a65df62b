use Rattle.std.proofs.Common.{◌≡◌, ◌++◌, ℕ, Option, option_map}
use Rattle.std.proofs.lemmas.Result.{err_from_is_err_and}
use Rattle.sector_disk.specs.Disk.{View}
use Rattle.sector_disk.specs.Run.{HasCalled}
use Rattle.checkpoint.specs.declared.side.Side.TheVariants as side
use Rattle.recovery.specs.declared.sides.Current.{Current}
use Rattle.recovery.specs.declared.sides.Head.{Head}
use Rattle.checkpoint.specs.OnSide.{slot_form}
use Rattle.recovery.specs.Opening.{header_reads}
use Rattle.recovery.proofs.Chained.{if_ok_then, side_a, side_b, side_chosen}
use Rattle.recovery.proofs.Opened.{called_on}
use Rattle.recovery.proofs.States.{if_ok}
use Rattle.recovery.proofs.sides.read_side.Goals as goal

abbrev reported : Option Head → Option ℕ
reported found = option_map (λ (head : Head). head.epoch) found

pub returns-in_err-a-clause-exact : goal.returns-in_err-a-clause-exact
returns-in_err-a-clause-exact g c honest =
    let old : View = g.D.Disk.view c.args.disk.now in
    let p = err_from_is_err_and c.from_residual.result c.from_residual.ensures.1 in
    rw (p.1, p.2) (side_a c.args.layout.now old.reads c.in_err-a.field-0.0 (c.in_err-a.ensures.exact honest))

pub returns-in_err-b-clause-exact : goal.returns-in_err-b-clause-exact
returns-in_err-b-clause-exact g c honest =
    let old : View = g.D.Disk.view c.args.disk.now in
    let only_read = c.in_ok-a.ensures.reads.disk.only_read honest in
    let p = err_from_is_err_and c.from_residual-in_err-b.result c.from_residual-in_err-b.ensures.1 in
    let b = rw only_read.reads at (c.in_err-b.ensures.exact only_read.honest) in
    rw (p.1, p.2) (side_b c.args.layout.now old.reads (reported c.in_ok-a.a) c.in_err-b.field-0.0 (c.in_ok-a.ensures.exact honest) b)

pub returns-clause-exact : goal.returns-clause-exact
returns-clause-exact g c honest =
    let old : View = g.D.Disk.view c.args.disk.now in
    let only_read = c.in_ok-a.ensures.reads.disk.only_read honest in
    let b = rw only_read.reads at (c.in_ok-b.ensures.exact only_read.honest) in
    side_chosen c.args.layout.now old.reads (λ current. current.side) (reported c.in_ok-a.a) (reported c.in_ok-b.b) c.choose_side.result (c.in_ok-a.ensures.exact honest) b c.choose_side.ensures.value

pub returns-clause-form : goal.returns-clause-form
returns-clause-form g c =
    let old : View = g.D.Disk.view c.args.disk.now in
    if_ok_then (λ (current : Current). current.form ≡ slot_form c.args.layout.now current.side old.reads) c.choose_side.result (λ honest.
    let only_read = c.in_ok-a.ensures.reads.disk.only_read honest in
    c.choose_side.ensures.form (λ s. slot_form c.args.layout.now s old.reads) (c.in_ok-a.ensures.form honest) (rw only_read.reads at (c.in_ok-b.ensures.form only_read.honest)))

pub returns-clause-calls : goal.returns-clause-calls
returns-clause-calls g c =
    let old : View = g.D.Disk.view c.args.disk.now in
    let mid : View = g.D.Disk.view c.read_head.new.disk in
    let now : View = g.D.Disk.view c.read_head-2.new.disk in
    if_ok_then (λ (current : Current). HasCalled old now (header_reads c.args.layout.now side.A old.reads ++ header_reads c.args.layout.now side.B old.reads)) c.choose_side.result (λ honest.
    let only_read = c.in_ok-a.ensures.reads.disk.only_read honest in
    if_ok c.choose_side.result (called_on old.calls mid.calls now.calls _ _ (c.in_ok-a.ensures.calls honest) (rw only_read.reads at (c.in_ok-b.ensures.calls only_read.honest))))
