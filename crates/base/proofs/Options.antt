-- What may be there.
use Rattle.std.proofs.Common.{◌≡◌, Some, false, Bool, cond, None, refl, true, Option, sym, ap, ◌∙◌}
use Rattle.std.specs.Option.{is_some}
use Rattle.std.specs.Prelude.{IsSome, IfSome, IfNone}
use mathlib.Core.Bool.{false≢true}

pub some_is : {X : Type 0} (x y : X) → Some x ≡ Some y → x ≡ y
some_is x y e = cc

pub some_where : {A : Type 0} (b : Bool) (x y : A) → cond b (Some x) None ≡ Some y → (b ≡ true) × (x ≡ y)
some_where true x y e = (refl, cc)
some_where false x y e = absurd cc

pub none_there : {A : Type 0} {o : Option A} → o ≡ None → IsSome o → ⊥
none_there e there = false≢true (sym (ap is_some e) ∙ there)

pub if_some : {T : Type 0} {P Q : T → Type 0} (r : Option T) → ((x : T) → P x → Q x) → IfSome r P → IfSome r Q
if_some None f h = h
if_some (Some x) f h = f x h

pub if_none : {T P Q : Type 0} (r : Option T) → (P → Q) → IfNone r P → IfNone r Q
if_none None f h = f h
if_none (Some x) f h = h

pub none_of : {X : Type 0} (o : Option X) → is_some o ≡ false → o ≡ None
none_of None e = refl
none_of (Some x) e = absurd (false≢true (sym e))
