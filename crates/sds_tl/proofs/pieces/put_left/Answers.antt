use Rattle.std.proofs.Common.{◌≡◌, ◌≤◌, ◌∙◌, false, length, take, ltb, arith}
use Rattle.std.proofs.lemmas.Bool.{le-ltb}
use Rattle.identity.specs.Number.{number}
use Rattle.sds_tl.proofs.Places.{copied}
use Rattle.sds_tl.proofs.pieces.put_left.Goals as goal

pub loop-reader-preserved : goal.loop-reader-preserved
loop-reader-preserved g c =
    let reader = c.loop-reader.reader in
    let width = c.min-width.result in
    let room : width ≤ length reader = omega arith in
    let enough : ltb (length reader) width ≡ false = le-ltb _ _ room in
    let taken = rw enough at c.take.ensures.value in
    let piece : c.unwrap-piece.result ≡ number (take width reader) = cc (taken, c.unwrap-piece.ensures) in
    copied c.loop-reader.writer reader c.put.new.writer c.take.new.self width c.unwrap-piece.result room piece c.in_ok-put.ensures.ok (rw enough at c.take.ensures.rest) ∙ c.loop-reader.invariant
