use Rattle.std.proofs.Common.{rules, ◌≡◌, ◌+◌, ◌-◌, ◌*◌, ℕ, List, length, replicate, take, refl, arith}
use Rattle.std.proofs.lemmas.List.{take-replicate}
use Rattle.gated_journal.specs.Record.{data_size}
use Rattle.gated_journal.proofs.record_text.RecordText.pad.Goals as goal

pub returns-clause-items : goal.returns-clause-items
returns-clause-items g c =
    let text : List ℕ = c.args.self.now.items in
    let n : ℕ = 512 * (data_size text + 1) - length text in
    let same : c.as_slice-len.result.now ≡ text = search rules in
    let zeros : take n (replicate {A = ℕ} 1024 0) ≡ replicate n 0 = take-replicate {X = ℕ} n 1024 0 (omega arith) in
    rw (c.add.ensures.items, same, zeros) refl
