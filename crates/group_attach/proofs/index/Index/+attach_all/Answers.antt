use Rattle.std.proofs.Common.{◌∙◌}
use Rattle.group_attach.proofs.Moves.{is_there, taken_back}
use Rattle.group_attach.proofs.index.Index.+attach_all.Goals as goal

pub set_back-requires : goal.set_back-requires
set_back-requires g t c = is_there c.args.self.now _ c.in-Some.first.now (c.in-Err.ensures.err ∙ c.in_ok-before.ensures.ok)

pub returns-in-Err-clause-err : goal.returns-in-Err-clause-err
returns-in-Err-clause-err g t c = taken_back c.args.self.now _ _ c.in-Some.first.now (c.in-Err.ensures.err ∙ c.in_ok-before.ensures.ok)
    (c.set_back.ensures c.args.self.now c.in_ok-before.ensures.before)
