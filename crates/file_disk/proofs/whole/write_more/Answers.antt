use Rattle.std.proofs.Common.{◌≡◌, ◌-◌, take, drop, length, refl, ap, ◌∙◌, arith}
use Rattle.std.proofs.lemmas.List.{length-drop, take_all}
use Rattle.file_disk.proofs.whole.write_more.Goals as goal

pub returns-clause-effect : goal.returns-clause-effect
returns-clause-effect g c within honest =
    let size : length (drop c.args.done c.args.bytes.now) ≡ 512 - c.args.done = length-drop c.args.done c.args.bytes.now ∙ ap (λ n. n - c.args.done) c.told-bytes in
    let all : take (512 - c.args.done) (drop c.args.done c.args.bytes.now) ≡ drop c.args.done c.args.bytes.now = take_all _ _ (omega (arith, size)) in
    rw (c.bytes_moved.ensures, ← all) (c.write_at.ensures.effect c.args.at c.args.done refl c.requires.0 (omega (arith, c.requires, size, ap length all)) within honest)
