use Rattle.std.proofs.Common.{◌≡◌, ℕ, Some, sym, subst}
use Rattle.mailbox.specs.declared.key.Key.{Key}
use Rattle.mailbox.specs.Values.{Item}
use Rattle.bench_registers.specs.Building.{EndsBy}
use Rattle.bench_registers.proofs.Rebuilt.{comes_last, ends_by}
use Rattle.bench_registers.proofs.building.put_item.Goals as goal

pub restore-requires : goal.restore-requires
restore-requires c = comes_last c.args.from.now c.args.to.now c.args.last c.in-Some.item.now c.in-Ok.copy c.in-Some.ensures c.in-Ok.ensures c.requires

pub returns-in-Ok-restore : goal.returns-in-Ok-restore
returns-in-Ok-restore c =
    let copy : Item = c.in-Ok.copy in
    let last = comes_last c.args.from.now c.args.to.now c.args.last c.in-Some.item.now copy c.in-Some.ensures c.in-Ok.ensures c.requires in
    let place : (copy.number, copy.key) ≡ (c.number.result, c.key.result) = λ i. (sym c.number.ensures i, sym c.key.ensures i) in
    subst (λ (p : ℕ × Key). EndsBy c.restore.new.self (Some p)) place (ends_by c.args.to.now c.restore.new.self copy last c.in-Ok-restore.ensures.ok.1)
