use Rattle.std.proofs.Common.{map, take, sym, arith}
use Rattle.std.proofs.lemmas.Grind.{common_steps}
use Rattle.console.specs.Reading.{words}
use Rattle.console.specs.Inside.Left.{bytes_left}
use Rattle.console.proofs.Forms.{many_words}
use Rattle.console.proofs.Splits.{more_words}
use Rattle.console.proofs.line.read_marked.Goals as goal

pub returns-clause-ok : goal.returns-clause-ok
returns-clause-ok g c =
    let i = c.loop-at.invariant in
    let line = bytes_left c.args.line in
    sym (many_words c.args.station (words line)
    (more_words line (bytes_left c.loop-at.rest) (map (λ w. w.now) (take c.loop-at.at c.loop-at.words.0)) i.1 (let e = i.0 in grind (arith, common_steps, e, c.loop-at-test.false))))
