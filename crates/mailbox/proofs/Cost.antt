-- What the removal of expired items costs.
use Rattle.std.proofs.Common.{◌≡◌, ℕ, suc, ◌+◌, ◌-◌, ◌<◌, ◌≤◌, ◌^◌, List, length, ap, sym, ◌∙◌, subst, arith, Option, Some, None, Bor}
use Rattle.std.specs.Prelude.{◌*◌, ◌/◌, is_some}
use Rattle.std.specs.Option.{option_copied}
use Rattle.std.proofs.Math.Nat.{mul-le-mul_left, mul-suc}
use Rattle.std.proofs.lemmas.List.{length-map}
use Rattle.mailbox.specs.declared.place.ItemPlace.{ItemPlace}
use Rattle.mailbox.specs.Values.{Item, Mailed}
use Rattle.mailbox.specs.Order.{place_of}
use Rattle.mailbox.specs.Cost.{IsAboveAll}
use Rattle.mailbox.specs.Inside.Boxes.{Boxes, AreFiled}
use Rattle.mailbox.specs.Inside.Places.{IsAbove}

-- what is above a tree of all items is above the tree of their places
pub above_order : (ws : List Item) (boxes : Boxes) (order : List ItemPlace) (m : Mailed) (height : ℕ) → AreFiled ws boxes order → ws ≡ m.items → IsAboveAll height m → IsAbove height order
above_order ws boxes order m height filed is above =
    subst (λ (n : ℕ). n + 1 < 2 ^ (height / 2)) (sym (ap length filed.indexed ∙ length-map ws place_of ∙ ap length is)) above

-- something is found where something is copied
pub some_copied : {T : Type 0} (r : Option (Bor T)) (o : Option T) → o ≡ option_copied r → is_some r ≡ is_some o
some_copied None o is = ap is_some (sym is)
some_copied (Some x) o is = ap is_some (sym is)

-- it is above a tree of fewer
pub above_fewer : (height : ℕ) (all left : Mailed) → length left.items ≤ length all.items → IsAboveAll height all → IsAboveAll height left
above_fewer height all left fewer above = omega (arith, fewer, above)

-- one item more that goes costs three ways down
pub one_more_gone : (height all before after steps found gone left : ℕ) → after < before → before ≤ all →
    steps ≤ found + 3 * height * (all - before) → gone ≤ steps + 2 * height → left ≤ gone + height → left ≤ found + 3 * height * (all - after)
one_more_gone height all before after steps found gone left fewer within so_far first second =
    let more : 3 * height * suc (all - before) ≤ 3 * height * (all - after) = mul-le-mul_left (3 * height) (omega (arith, fewer, within)) in
    let apart : 3 * height * suc (all - before) ≡ 3 * height * (all - before) + 3 * height = mul-suc (3 * height) (all - before) in
    omega (arith, more, apart, so_far, first, second)
