use Rattle.std.proofs.Common.{◌≡◌, ℕ, List, refl, rules, length, set, ap, ◌∙◌, arith}
use Rattle.std.proofs.lemmas.List.{with_items_is}
use Rattle.std.specs.Vec.{with_items}
use Rattle.sector_disk.specs.Disk.{IsSector}
use Rattle.sector_disk.proofs.Calls.{write_effect}
use Rattle.sector_disk.proofs.memory.MemoryDiskDisk.write.Goals as goal

pub returns-clause-effect : goal.returns-clause-effect
returns-clause-effect g c within is =
    let whole : IsSector c.args.bytes.now = record { size = c.told-bytes; bytes = c.fits-bytes } in
    let marks : length c.args.self.now.pending.items ≡ length c.args.self.now.sectors.items = search rules in
    let put : (with_items c.args.self.now.sectors c.put.new.sectors).items ≡ set c.args.self.now.sectors.items c.args.at c.args.bytes.now =
    with_items_is c.args.self.now.sectors c.put.new.sectors (omega arith) ∙ c.put.ensures.written
    ∙ ap (λ (sectors : List (List ℕ)). set sectors c.args.at c.args.bytes.now) c.deref_mut.ensures.value in
    write_effect _ _ _ _ is within marks whole refl c.in_ok-note.ensures.noted put refl
