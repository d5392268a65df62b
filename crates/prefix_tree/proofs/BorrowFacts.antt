-- A reference that may be borrowed, reported by a function.
use Rattle.std.proofs.Common.{◌≡◌, Option, Some, None, MutBor}
use Rattle.std.specs.Option.{OnSome, ghost_name_of}
use borrow.Follows.Closed.{read_of}

pub reported_alike : {D E : Type 0} (r : Option (MutBor E)) (f g : E → D) (v w : D) → ((x : E) → OnSome r (f x ≡ g x)) → v ≡ w → read_of (ghost_name_of r) f v ≡ read_of (ghost_name_of r) g w
reported_alike {E = E} None f g v w same e = λ i. read_of (ghost_name_of {A = E} None) f (e i)
reported_alike {E = E} (Some x) f g v w same e = λ i. read_of (ghost_name_of (Some x)) (λ y. same y i) v
