use Rattle.std.proofs.Common.{◌≡◌, ◌++◌, ◌∷◌, [], Bool, true, false, nat_lt, sym, ◌∙◌, arith}
use Rattle.std.proofs.lemmas.Bool.Decides.{nat_tests}
use Rattle.std.specs.Prelude.{IsTrue}
use Rattle.base.proofs.Bools.{never as never_so}
use Rattle.identity.specs.Path.{Path, begins}
use Rattle.prefix_tree.proofs.Begins.{longer_side}
use Rattle.prefix_tree.proofs.VisitLaws.{one_side}
use Rattle.prefix_tree.proofs.next.goes_on_with_one.Goals as goal

reported : (p q : Path) (b : Bool) → IsTrue (begins (p ++ b ∷ []) q) → b ≡ begins (p ++ true ∷ []) q
reported p q true on = sym on
reported p q false on = sym (one_side p q on)

pub returns-then-len : goal.returns-then-len
returns-then-len c = reported c.args.at.now c.args.key.now c.side.result c.side.ensures

pub returns-else-len : goal.returns-else-len
returns-else-len c =
    let test : nat_lt c.len.result c.len-2.result ≡ false = grind (arith, nat_tests, c.if-len.false) in
    test ∙ sym (never_so _ (λ on. let h = longer_side c.args.at.now c.args.key.now true on in absurd (grind (arith, nat_tests, c.if-len.false, h, c.len.ensures.value, c.len-2.ensures.value))))
