use Rattle.std.proofs.Common.{◌≡◌, false, replicate, rules}
use Rattle.sector_disk.proofs.Calls.{blank}
use Rattle.sector_disk.proofs.memory.MemoryDisk.new.Goals as goal

pub returns : goal.returns
returns g c =
    let marks : c.in_ok-pending.pending.items ≡ replicate c.args.sectors false = search rules in
    blank _ c.args.sectors c.args.calls c.in_ok-record.ensures.0 c.in_ok-base.ensures c.in_ok-now.ensures marks c.in_ok-record.ensures.2 c.in_ok-record.ensures.1
