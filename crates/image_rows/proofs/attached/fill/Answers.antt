use Rattle.std.proofs.Common.{◌∙◌, ◌<◌, List, length, drop, arith, ap}
use Rattle.std.specs.Prelude.{slice_get}
use Rattle.std.proofs.lemmas.List.{length-set, drop-drop}
use Rattle.image_rows.specs.Rows.{Group}
use Rattle.image_rows.proofs.Filling.{put_one}
use Rattle.image_rows.proofs.attached.fill.Goals as goal

pub loop-place-preserved : goal.loop-place-preserved
loop-place-preserved c =
    let place = c.loop-place.place in
    let list = c.loop-place.list in
    let gs : List Group = c.args.groups.now in
    let a = c.in-Some.attachment in
    let lt : place < length list = omega (arith, c.loop-place-test.true, c.loop-place.invariant.same) in
    record {
      same = length-set list place a ∙ c.loop-place.invariant.same;
      taken = put_one list gs c.args.itsi place a lt c.loop-place.invariant.taken
          (c.in-Some.ensures.value ∙ ap (λ (l : List Group). slice_get l 0) c.loop-place.invariant.rest) c.in-Some.ensures.radio;
      rest = c.next.ensures.rest ∙ ap (λ (l : List Group). drop 1 l) c.loop-place.invariant.rest ∙ drop-drop 1 place gs;
    }
