use Rattle.std.proofs.Common.{◌≡◌, Bool, false, refl, map, ap, ◌∙◌, arith}
use Rattle.std.proofs.lemmas.List.{with_items_is}
use Rattle.std.specs.Vec.{with_items}
use Rattle.sector_disk.proofs.Calls.{sync_effect}
use Rattle.sector_disk.proofs.memory.MemoryDiskDisk.sync.Goals as goal

pub returns-clause-effect : goal.returns-clause-effect
returns-clause-effect g c is =
    let none : (with_items c.args.self.now.pending c.clear.new.marks).items ≡ map (λ (mark : Bool). false) c.args.self.now.pending.items =
    with_items_is c.args.self.now.pending c.clear.new.marks (omega arith) ∙ c.clear.ensures ∙ ap (map (λ (mark : Bool). false)) c.deref_mut.ensures.value in
    sync_effect _ _ is refl c.in_ok-note.ensures.noted refl none
