use Rattle.std.proofs.Common.{◌≡◌, ◌≤◌, ◌-◌, length, take, ap, arith}
use Rattle.std.proofs.lemmas.List.{length-take}
use Rattle.image_rows.proofs.Filled.{still_zeros}
use Rattle.image_rows.proofs.sector.SectorTextByteSink.put.Goals as goal

pub invariant_of-self : goal.invariant_of-self
invariant_of-self c =
    let len = c.self.inside.len in
    let view : length (take len c.self.inside.sector) ≡ length c.args.self.now = ap length c.self.view_is in
    let room : length c.args.bytes.now ≤ 512 - len = omega (arith, view, length-take len c.self.inside.sector, c.self.told, c.self.invariant.0, c.requires) in
    still_zeros c.self.inside.sector c.args.bytes.now c.put_at.new.sector len c.self.told c.self.invariant.0 room c.put_at.ensures c.self.invariant.1
