-- What a judged command is.
use Rattle.std.proofs.Common.{◌≡◌, ◌∷◌, ◌++◌, [], List, ap, sym, ◌∙◌}
use Rattle.std.specs.declared.alloc.Global.{Global}
use Rattle.centre_core.specs.Asked.{Asked}
use Rattle.centre_core.specs.State.{State}
use Rattle.centre_core.specs.History.{next, after}
use Rattle.snapshots.proofs.CommandLists.{after-snoc}

-- a register after a list, and then after a command, is after the list that ends with it
pub after_accepted : (base r t : State) (xs ys : List (Asked Global)) (c : Asked Global) → r ≡ after base xs → t ≡ next r c → ys ≡ xs ++ c ∷ [] → t ≡ after base ys
after_accepted base r t xs ys c is stepped longer = stepped ∙ ap (λ s. next s c) is ∙ sym (after-snoc base xs c) ∙ ap (after base) (sym longer)
