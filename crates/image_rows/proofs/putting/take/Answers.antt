use Rattle.std.proofs.Common.{Option, subst}
use Rattle.std.specs.Prelude.{Bool}
use Rattle.std.proofs.lemmas.Result.{IfOk-weaker, on_err_weaker}
use Rattle.image_rows.specs.Rows.{Header}
use Rattle.image_rows.specs.RowViews.{row_view}
use Rattle.image_rows.specs.Loading.{put, row_taken}
use Rattle.image_rows.specs.Held.{IsOutcome, IsLoaded, loading}
use Rattle.image_rows.proofs.Loaded.{is_held}
use Rattle.image_rows.proofs.PutRows.{came_first, came_later, some_later}
use Rattle.image_rows.proofs.putting.take.Goals as goal

pub put-requires : goal.put-requires
put-requires g c = is_held c.in-Some.header c.args.parts.now (subst (λ (o : Option Header). IsLoaded (loading o c.args.parts.now)) c.in-Some.is c.requires)

pub returns-in-None-clause-ok : goal.returns-in-None-clause-ok
returns-in-None-clause-ok g c = came_first c.args.first.now c.args.parts.now (row_view c.args.row) c.begin.result (loading c.begin.new.first c.begin.new.parts) c.in-None.is c.begin.ensures

pub returns-in-Some-clause-ok : goal.returns-in-Some-clause-ok
returns-in-Some-clause-ok g c =
    IfOk-weaker c.put.result
    (λ (t : Bool). IsOutcome (put c.in-Some.header c.args.parts.now (row_view c.args.row)) c.args.parts.now t c.put.new.parts)
    (λ (t : Bool). IsOutcome (row_taken (loading c.args.first.now c.args.parts.now) (row_view c.args.row))
    (loading c.args.first.now c.args.parts.now) t (loading c.args.first.now c.put.new.parts))
    (λ t came. came_later c.args.first.now c.in-Some.header c.args.parts.now c.put.new.parts (row_view c.args.row) t c.in-Some.is came) c.put.ensures.ok

pub returns-in-Some-clause-memory : goal.returns-in-Some-clause-memory
returns-in-Some-clause-memory g c = on_err_weaker c.put.result (some_later c.args.first.now c.in-Some.header c.args.parts.now (row_view c.args.row) c.in-Some.is) c.put.ensures.memory
