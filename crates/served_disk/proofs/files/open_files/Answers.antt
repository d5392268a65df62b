use Rattle.std.proofs.Common.{rules}
use Rattle.served_disk.specs.Pairs.{IsFilePortOf}
use Rattle.served_disk.proofs.OpenedFiles.{one_not_opened, one_opened}
use Rattle.served_disk.proofs.Zipped.{numbered_all}
use Rattle.served_disk.proofs.files.open_files.Goals as goal

pub returns-in-Err-clause-refused : goal.returns-in-Err-clause-refused
returns-in-Err-clause-refused g c =
    one_not_opened (g.R.StationFiles.opened c.args.rt.now) c.args.names.now c.loop-index.index _ c.loop-index.ports.items c.open_input.result
    c.in-Err.error _ c.not_read.result (search rules) c.loop-index.invariant.2 c.open_input.ensures (search rules) (search rules) c.not_read.ensures

pub loop-index-preserved : goal.loop-index-preserved
loop-index-preserved g c =
    let more = one_opened (g.R.StationFiles.opened c.args.rt.now) c.args.names.now c.loop-index.index _ c.loop-index.ports.items
    c.push_reserved.new.self.items (record { reader = c.new.result; writer = c.new-in-loop-index.result }) c.open_input.result
    c.in-Ok-open_input.file (search rules) c.loop-index.invariant.2 c.open_input.ensures (search rules) c.new.ensures.reader (search rules)
    c.new.ensures.lines c.new-in-loop-index.ensures.items c.push_reserved.ensures.items in
    (search rules, search rules, more)

pub returns-clause-opened : goal.returns-clause-opened
returns-clause-opened g c =
    numbered_all (IsFilePortOf (g.R.StationFiles.opened c.args.rt.now)) c.args.names.now c.loop-index.index c.loop-index.ports.items
    (search rules) c.loop-index.invariant.2
