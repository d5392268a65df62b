use Rattle.std.proofs.Common.{◌≡◌, ◌∙◌, Bool, true, false, ap, refl, [], ◌∷◌}
use Rattle.std.specs.Int.{from_bool}
use Rattle.identity.specs.Number.{num}
use Rattle.mm_pdus.proofs.writing.put_bit.Goals as goal

one_bit : (b : Bool) → num 1 (from_bool b) ≡ b ∷ []
unfolding num
one_bit true = refl
one_bit false = refl

pub returns-clause-ok : goal.returns-clause-ok
returns-clause-ok g c =
    let e : num 1 c.from.result ≡ c.args.bit ∷ [] = ap (num 1) c.from.ensures ∙ one_bit c.args.bit in
    rw e at c.put.ensures.ok
