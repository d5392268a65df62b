use Rattle.std.proofs.Common.{rules}
use Rattle.served_disk.proofs.Stations.{is_fault, none_more}
use Rattle.served_disk.proofs.serving.end_of_runs.Goals as goal

pub returns-in_err-troubled : goal.returns-in_err-troubled
returns-in_err-troubled g c = is_fault c.args.names.now c.args.runs.now c.loop-index.index _ _ c.end_of.result c.from_residual.result
    c.in_err-troubled.field-0.0 c.requires.same (search rules) c.loop-index.invariant.0 c.end_of.ensures c.in_err-troubled.was (search rules)

pub loop-index-preserved : goal.loop-index-preserved
loop-index-preserved g c = none_more c.args.runs.now c.loop-index.index _ _ c.end_of.result c.loop-index.troubled c.in_ok-troubled.field-0
    (search rules) c.end_of.ensures c.in_ok-troubled.was c.loop-index.invariant
