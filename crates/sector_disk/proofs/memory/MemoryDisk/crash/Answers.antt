use Rattle.std.proofs.Common.{◌≡◌, length, ap, ◌∙◌, arith}
use Rattle.std.proofs.lemmas.List.{with_items_is}
use Rattle.std.specs.Vec.{with_items}
use Rattle.sector_disk.proofs.Calls.{restarted}
use Rattle.sector_disk.proofs.memory.MemoryDisk.crash.Goals as goal

pub returns-clause-restarted : goal.returns-clause-restarted
returns-clause-restarted g c =
    let filled : (with_items c.args.self.sectors c.fill_pending.new.sectors).items ≡ c.fill_pending.new.sectors = with_items_is c.args.self.sectors c.fill_pending.new.sectors (omega arith) in
    let cleared : (with_items c.args.self.pending c.clear.new.marks).items ≡ c.clear.new.marks = with_items_is c.args.self.pending c.clear.new.marks (omega arith) in
    let count : length c.deref_mut-2.result.now ≡ length c.fill_pending.new.sectors = omega (arith, ap length c.deref_mut-2.ensures.value, ap length c.deref_mut.ensures.value) in
    restarted _ _ c.fill_pending.new.sectors c.deref_mut-2.result.now c.clear-2.ensures.calls
    (c.copy_from_slice.ensures.items ∙ c.deref-2.ensures.value ∙ filled) filled (cleared ∙ c.clear.ensures) count
    (λ is. c.fill_pending.ensures.whole (rw c.deref_mut.ensures.value (record { each = is.bytes }))) c.clear-2.ensures.kept.0 c.clear-2.ensures.kept.1
