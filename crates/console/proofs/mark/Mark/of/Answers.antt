use Rattle.console.proofs.Padded.{holds_copied}
use Rattle.console.proofs.mark.Mark.of.Goals as goal

pub invariant_of-result : goal.invariant_of-result
invariant_of-result c = (holds_copied c.args.word.now c.copy_from_slice.new.self c.copy_from_slice.ensures.after, c.requires)
