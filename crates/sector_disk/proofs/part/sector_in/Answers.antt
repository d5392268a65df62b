use Rattle.std.proofs.Common.{◌≡◌, ◌-◌, ◌*◌, ℕ, List, take, drop, length, ap, ◌∙◌, arith}
use Rattle.std.proofs.lemmas.List.{length-drop, take_all}
use Rattle.sector_disk.proofs.part.sector_in.Goals as goal

pub returns : goal.returns
returns c =
    let rest : List ℕ = drop (512 * c.args.k) c.args.bytes.now in
    let size : length rest ≡ length c.args.bytes.now - 512 * c.args.k = length-drop (512 * c.args.k) c.args.bytes.now in
    let all : take (length c.args.bytes.now - 512 * c.args.k) rest ≡ rest = take_all _ _ (omega (arith, size)) in
    let first = rw c.unwrap.ensures at c.first_chunk.ensures.cases in
    first.same ∙ ap (take 512) all
