-- What a call gives a reference to.
use Rattle.std.proofs.Common.{◌≡◌, Option, Some, option_map, subst}
use Rattle.std.specs.Borrow.{Bor}

one_value : {X : Type 0} (a b : X) → ◌≡◌ {A = Option X} (Some a) (Some b) → a ≡ b
one_value a b same = cc

-- where it gives a reference, what that is to
pub borrowed : {X : Type 0} (borrows : Option (Bor X)) (held : Bor X) (x : X) → option_map (λ (b : Bor X). b.now) borrows ≡ Some x → borrows ≡ Some held → held.now ≡ x
borrowed {X = X} borrows held x is same = one_value held.now x (subst (λ (l : Option (Bor X)). option_map (λ (b : Bor X). b.now) l ≡ Some x) same is)
