use Rattle.std.proofs.Common.{◌≡◌, ◌≤◌, ◌+◌, ◌*◌, ◌∙◌, length, take, arith}
use Rattle.std.proofs.lemmas.List.{take_all, length-take}
use Rattle.identity.specs.Number.{num}
use Rattle.identity.specs.Packed.{bits_of}
use Rattle.identity.specs.Inside.NumberLaws.{length-num}
use Rattle.identity.proofs.Bytes.{length-bits_of}
use Rattle.identity.proofs.Pieces.{put_next}
use Rattle.identity.proofs.packed.put_bits.Goals as goal

pub loop-done-preserved : goal.loop-done-preserved
loop-done-preserved c =
    let prefix = take c.args.len (bits_of c.args.bytes.now) in
    let is_len : length prefix ≡ c.args.len = omega (arith, length-take c.args.len (bits_of c.args.bytes.now), length-bits_of c.args.bytes.now, c.requires.room) in
    let room : c.args.len + c.args.width ≤ 8 * length c.loop-done.bytes = omega (arith, c.requires.room, c.loop-done.invariant.1) in
    let fits : c.loop-done.done + c.min-next.result ≤ c.args.width = omega (arith, c.min-next.ensures, c.loop-done-test.true) in (
      fits,
      c.put_piece.auto.bytes ∙ c.loop-done.invariant.1,
      put_next c.loop-done.bytes prefix c.args.len c.args.width c.args.value c.loop-done.done is_len room c.loop-done.invariant.0
          c.loop-done.invariant.2 c.put_piece.new.bytes c.min-next.result fits c.put_piece.ensures,
    )

pub returns : goal.returns
returns c =
    let all : take c.loop-done.done (num c.args.width c.args.value) ≡ num c.args.width c.args.value =
    take_all c.loop-done.done (num c.args.width c.args.value) (omega (arith, length-num c.args.width c.args.value, c.loop-done-test.false)) in
    rw all at c.loop-done.invariant.2
