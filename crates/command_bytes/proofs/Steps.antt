-- Steps of reading: what was read of each part is its text, and each text is read again, whatever follows.
use Rattle.std.proofs.Common.{◌≡◌, ℕ, Bool, true, false, cond, List, ◌++◌, Option, Some, None, refl, sym, ap, ◌∙◌, append_assoc}
use Rattle.identity.specs.Packed.{AreBytes}
use Rattle.command_bytes.specs.Fields.{◌>>=◌}
use Rattle.command_bytes.specs.Reading.{Read}

pub bind_some : {A B : Type 0} (r : Option A) (f : A → Option B) (y : B) → (r >>= f) ≡ Some y → (x : A) × (r ≡ Some x) × (f x ≡ Some y)
bind_some (Some x) f y e = (x, refl, e)
bind_some None f y e = absurd cc

pub some_where : {A : Type 0} (b : Bool) (r : Option A) (y : A) → cond b r None ≡ Some y → (b ≡ true) × (r ≡ Some y)
some_where true r y e = (refl, e)
some_where false r y e = absurd cc

pub some_unless : {A : Type 0} (b : Bool) (r : Option A) (y : A) → cond b None r ≡ Some y → (b ≡ false) × (r ≡ Some y)
some_unless true r y e = absurd cc
some_unless false r y e = (refl, e)

-- the bytes are a text, and then the rest
pub record Takes (bytes text rest : List ℕ) : Type 0 where
  pub is : bytes ≡ text ++ rest
  pub are : AreBytes rest

pub takes_both : (a b : List ℕ) {bytes mid rest : List ℕ} → Takes bytes a mid → Takes mid b rest → Takes bytes (a ++ b) rest
takes_both a b {rest = rest} first second = record {
  is = first.is ∙ ap (λ (l : List ℕ). a ++ l) second.is ∙ sym (append_assoc a b rest);
  are = second.are;
}

-- a part with others after it
pub then_again : {X Y : Type 0} (a b rest : List ℕ) (read : List ℕ → Read X) (f : X × List ℕ → Option Y) (x : X) (y : Y)
    → read (a ++ (b ++ rest)) ≡ Some (x, b ++ rest) → f (x, b ++ rest) ≡ Some y → (read ((a ++ b) ++ rest) >>= f) ≡ Some y
then_again {X} {Y} a b rest read f x y part others =
    ap (λ (l : List ℕ). read l >>= f) (append_assoc a b rest) ∙ ap (λ (r : Read X). r >>= f) part ∙ others

-- the last part
pub last_again : {X Y : Type 0} {r : Option X} {x : X} (f : X → Option Y) {y : Y} → r ≡ Some x → f x ≡ Some y → (r >>= f) ≡ Some y
last_again {X = X} f part others = ap (λ (r : Option X). r >>= f) part ∙ others
