use Rattle.std.proofs.Common.{refl, arith}
use Rattle.file_disk.proofs.Parts.{read_after}
use Rattle.file_disk.proofs.whole.read_more.Goals as goal

pub returns-clause-effect : goal.returns-clause-effect
returns-clause-effect g c within honest =
    rw c.bytes_moved.ensures (read_after _ _ c.args.at c.args.done c.args.bytes.now c.read_at.new.bytes _ c.read_at.result (omega (arith, c.requires, c.told-bytes)) c.read_at.ensures.bound
    (c.read_at.ensures.effect c.args.at c.args.done refl c.requires.0 (omega (arith, c.requires, c.told-bytes)) within honest))
