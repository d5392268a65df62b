use Rattle.std.proofs.Common.{sym}
use Rattle.image_rows.specs.RowViews.{row_view}
use Rattle.image_rows.proofs.Settled.{row_is_spelt}
use Rattle.image_rows.proofs.PutRows.{loaded_after}
use Rattle.image_rows.proofs.loader.Loader.take.Goals as goal

pub invariant_of-self : goal.invariant_of-self
invariant_of-self g c =
    loaded_after c.take.result c.self.inside.header c.take.new.first c.self.inside.parts c.take.new.parts (row_view c.in-Some.row) c.self.invariant
    (row_is_spelt (row_view c.in-Some.row) c.args.row.now c.fits-row (sym c.in-Some.ensures)).0.range c.take.ensures.ok c.take.ensures.err
