use Rattle.console.proofs.Left.{last_word, word_before}
use Rattle.console.proofs.split.next_word.Goals as goal

pub returns-then-rest-eq0 : goal.returns-then-rest-eq0
returns-then-rest-eq0 c = let rest = c.args.rest in last_word rest.line.now rest.start rest.marks rest.within rest.marked c.if-rest-eq0.true

pub returns : goal.returns
returns c = let rest = c.args.rest in word_before rest.line.now rest.start rest.marks rest.within rest.marked c.take_first-at.result.0 c.take_first-at.ensures.set c.take_first-at.ensures.below
