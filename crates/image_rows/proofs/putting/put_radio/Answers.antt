use Rattle.std.proofs.Common.{◌≡◌, true, rules}
use Rattle.image_rows.specs.Loading.{place_may}
use Rattle.image_rows.proofs.PutRows.{is_place}
use Rattle.image_rows.proofs.putting.put_radio.Goals as goal

pub put_groups-requires : goal.put_groups-requires
put_groups-requires g c =
    let may : place_may c.args.header.now c.args.parts.now c.args.itsi c.args.radio ≡ true = search rules in
    is_place c.args.header.now c.args.parts.now c.args.itsi c.args.radio c.requires may
