-- What holds of a result, carried on.
use Rattle.std.proofs.Common.{Result, Err, Ok, IfOk, IfErr, ◌≡◌, Some, ℕ, ap}
use Rattle.std.specs.Prelude.{OnErr, OnOk}
use Rattle.std.specs.Result.{result_ok}
use Rattle.base.proofs.Options.{some_is}

pub on_err : {T E P : Type 0} (r : Result T E) → P → OnErr r P
on_err (Ok x) p = tt
on_err (Err e) p = p

-- what follows from a call's success
pub then_on_ok : {T E P Q : Type 0} (r : Result T E) → OnOk r P → (P → Q) → OnOk r Q
then_on_ok (Ok x) p follows = follows p
then_on_ok (Err e) p follows = tt

-- what follows from what a clause says of a value
pub if_ok_then : {X E : Type 0} {P Q : X → Type 0} (r : Result X E) → IfOk r P → ((x : X) → P x → Q x) → IfOk r Q
if_ok_then (Ok x) p goes = goes x p
if_ok_then (Err e) p goes = tt

-- what follows from what two clauses say of an error
pub if_err_then : {X E : Type 0} {P Q R : E → Type 0} (r : Result X E) → IfErr r P → IfErr r Q → ((e : E) → P e → Q e → R e) → IfErr r R
if_err_then (Ok x) p q goes = tt
if_err_then (Err e) p q goes = goes e p q

pub ok_of_some : {E : Type 0} (r : Result ℕ E) (n : ℕ) → result_ok r ≡ Some n → r ≡ Ok n
ok_of_some (Ok x) n e = ap Ok (some_is x n e)
ok_of_some (Err f) n e = absurd cc
