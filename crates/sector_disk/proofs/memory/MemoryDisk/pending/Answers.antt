use Rattle.std.proofs.Common.{◌≡◌, ◌<◌, ◌∙◌, sym, ap, length, arith}
use Rattle.std.proofs.lemmas.List.{get_or_default}
use Rattle.sector_disk.specs.Crash.{is_pending}
use Rattle.sector_disk.proofs.Calls.{one_more, no_more}
use Rattle.sector_disk.proofs.memory.MemoryDisk.pending.Goals as goal
use Rattle.sector_disk.proofs.memory.MemoryDisk.pending.Goals.{then-index+in_ok-push, else-index}

pub loop-k-preserved : goal.loop-k-preserved
loop-k-preserved g c =
    let within : c.loop-k.k < length c.args.self.now.pending.items = omega arith in
    let mark : is_pending c.args.self.now.pending.items c.loop-k.k ≡ c.index.result.now = sym (c.index.ensures ∙ get_or_default _ _ _ _ within) in
    elim c.if-index.branch [
      | then-index+in_ok-push w ↦ one_more c.args.self.now.pending.items c.loop-k.k _ _ c.loop-k.invariant (mark ∙ w.if-index.true) (ap (λ all. all.items) w.all-is ∙ w.in_ok-push.ensures.items)
      | else-index w ↦ no_more c.args.self.now.pending.items c.loop-k.k _ _ c.loop-k.invariant (mark ∙ w.if-index.false) (ap (λ all. all.items) w.all-is)
    ]
