use Rattle.prefix_tree.proofs.GrowLaws.{above_one, above_zero, sound_one, sound_zero, valued_one, valued_zero, forked_one, forked_zero}
use Rattle.prefix_tree.proofs.node.Node.above.Goals as goal

pub returns-then-side-clause-keys : goal.returns-then-side-clause-keys
returns-then-side-clause-keys g c = above_one _ _ _ _ _ c.requires.old c.requires.other c.if-side.true

pub returns-then-side-clause-sound : goal.returns-then-side-clause-sound
returns-then-side-clause-sound g c = sound_one _ c.args.value _ _ _ c.requires.old c.requires.other c.if-side.true

pub returns-then-side-clause-valued : goal.returns-then-side-clause-valued
returns-then-side-clause-valued g c h = valued_one _ _ _ _ _ c.requires.old c.requires.other c.if-side.true h

pub returns-then-side-clause-forked : goal.returns-then-side-clause-forked
returns-then-side-clause-forked g c h k = forked_one _ _ _ _ _ c.requires.old c.requires.other c.if-side.true h k

pub returns-else-side-clause-keys : goal.returns-else-side-clause-keys
returns-else-side-clause-keys g c = above_zero _ _ _ _ _ c.requires.old c.requires.other c.if-side.false

pub returns-else-side-clause-sound : goal.returns-else-side-clause-sound
returns-else-side-clause-sound g c = sound_zero _ c.args.value _ _ _ c.requires.old c.requires.other c.if-side.false

pub returns-else-side-clause-valued : goal.returns-else-side-clause-valued
returns-else-side-clause-valued g c h = valued_zero _ _ _ _ _ c.requires.old c.requires.other c.if-side.false h

pub returns-else-side-clause-forked : goal.returns-else-side-clause-forked
returns-else-side-clause-forked g c h k = forked_zero _ _ _ _ _ c.requires.old c.requires.other c.if-side.false h k
