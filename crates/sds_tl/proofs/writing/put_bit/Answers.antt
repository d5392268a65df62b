use Rattle.std.proofs.Common.{◌≡◌, ◌∙◌, ap, [], ◌∷◌}
use Rattle.identity.specs.Number.{num}
use Rattle.sds_tl.proofs.Places.{one_bit}
use Rattle.sds_tl.proofs.writing.put_bit.Goals as goal

pub returns-clause-ok : goal.returns-clause-ok
returns-clause-ok g c =
    let e : num 1 c.from.result ≡ c.args.bit ∷ [] = ap (num 1) c.from.ensures ∙ one_bit c.args.bit in
    rw e at c.put.ensures.ok
