use Rattle.std.proofs.lemmas.Result.{IfOk-weaker, on_err_weaker}
use Rattle.command_bytes.proofs.Spelled.{is_spelled, spells_none, wants}
use Rattle.command_bytes.proofs.decoding.decode.Goals as goal

pub returns-clause-found : goal.returns-clause-found
returns-clause-found g c = IfOk-weaker c.decode_whole.result _ _ (λ found is. is_spelled found c.args.bytes.now c.decode_whole.ensures.are is) c.decode_whole.ensures.exact

pub returns-clause-none : goal.returns-clause-none
returns-clause-none g c = IfOk-weaker c.decode_whole.result _ _ (λ found is. spells_none found c.args.bytes.now is) c.decode_whole.ensures.exact

pub returns-clause-memory : goal.returns-clause-memory
returns-clause-memory g c = on_err_weaker c.decode_whole.result (wants c.args.bytes.now c.decode_whole.ensures.are) c.decode_whole.ensures.memory
