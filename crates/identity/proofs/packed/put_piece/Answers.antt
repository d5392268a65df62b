use Rattle.std.proofs.Common.{◌≡◌, ◌*◌, ◌^◌, ◌%◌, ◌-◌, arith}
use Rattle.std.proofs.lemmas.Nat.{one_shl}
use Rattle.identity.proofs.Pieces.{piece_put}
use Rattle.identity.proofs.packed.put_piece.Goals as goal

pub returns : goal.returns
returns c =
    let w = c.args.width in
    let unit : 1 * 2 ^ w % 2 ^ 64 ≡ 2 ^ w = one_shl w 64 (omega (arith, c.requires.within)) in
    rw unit (piece_put c.args.bytes.now c.args.at w c.args.value (8 - c.args.at % 8 - w) (omega (arith, c.requires.within)) c.requires.room c.requires.fill)
