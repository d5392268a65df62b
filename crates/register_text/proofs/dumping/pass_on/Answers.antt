use Rattle.std.proofs.Common.{[], sym}
use Rattle.std.proofs.lemmas.List.{append-nil}
use Rattle.register_text.proofs.Passing.{not_called}
use Rattle.register_text.proofs.dumping.pass_on.Goals as goal

pub returns-then-len-lt-PIECE-clause-held : goal.returns-then-len-lt-PIECE-clause-held
returns-then-len-lt-PIECE-clause-held g c = not_called g.W.TextSink.took c.args.out.now c.args.text.now.items c.args.text.now.items [] (sym (append-nil c.args.text.now.items))
