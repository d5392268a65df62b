-- Taking the newest item away.
use Rattle.std.proofs.Common.{◌≡◌, ℕ, zero, suc, ◌-◌, ◌≤◌, List, [], ◌∷◌, ◌++◌, false, cond, length, map, take, refl, ap, sym, ◌∙◌, subst, arith}
use Rattle.std.specs.Prelude.{not}
use Rattle.std.specs.List.{All, AllPairs, filter}
use Rattle.std.proofs.lemmas.List.{length-append}
use Rattle.std.proofs.lemmas.List.Elements.{All-head, All-tail}
use Rattle.std.proofs.Math.Seq.{take-append_seam}
use Rattle.identity.specs.Path.{id_path}
use Rattle.mailbox.specs.declared.key.Key.{Key}
use Rattle.mailbox.specs.declared.place.ItemPlace.{ItemPlace}
use Rattle.mailbox.specs.Values.{Item}
use Rattle.mailbox.specs.Item.{same_key, is_at}
use Rattle.mailbox.specs.Inside.Boxes.{Boxes, swept, AreFiled}
use Rattle.mailbox.specs.Order.{place_of}
use Rattle.mailbox.proofs.Lists.{pairs_head, pairs_tail, filter_mapped}
use Rattle.mailbox.proofs.Keys.{key_itself}
use Rattle.mailbox.proofs.Filing.{filed_removed}

first_or : ItemPlace → List ItemPlace → ItemPlace
first_or d [] = d
first_or d (p ∷ ps) = p

others : List ItemPlace → List ItemPlace
others [] = []
others (p ∷ ps) = ps

-- items whose places end in a place end in its item
record EndsIn (ws : List Item) (left : List ItemPlace) (last : ItemPlace) : Type 0 where
  prefix : List Item
  item : Item
  is : ws ≡ prefix ++ item ∷ []
  placed : map place_of prefix ≡ left
  at : place_of item ≡ last

ends_in : (ws : List Item) (left : List ItemPlace) (last : ItemPlace) → map place_of ws ≡ left ++ last ∷ [] → EndsIn ws left last
unfolding first_or others
ends_in [] [] last e = absurd cc
ends_in [] (l ∷ left) last e = absurd cc
ends_in (w ∷ []) [] last e = record { prefix = []; item = w; is = refl; placed = refl; at = ap (first_or last) e }
ends_in (w ∷ (v ∷ ws)) [] last e = let none : place_of v ∷ map place_of ws ≡ [] = ap others e in absurd cc
ends_in (w ∷ ws) (l ∷ left) last e =
    let rest : EndsIn ws left last = ends_in ws left last (ap others e) in
    record { prefix = w ∷ rest.prefix; item = rest.item; is = ap (λ os. w ∷ os) rest.is; placed = λ i. first_or l (e i) ∷ rest.placed i; at = rest.at }

at_end : (P : Item → Type 0) (xs : List Item) (x : Item) → All P (xs ++ x ∷ []) → P x
at_end P [] x h = All-head P x [] h
at_end P (y ∷ xs) x h = at_end P xs x (All-tail P y (xs ++ x ∷ []) h)

-- of items with different keys, all but the last are left without its key
last_goes : (xs : List Item) (x : Item) → AllPairs (λ a b. same_key b.key a.key ≡ false) (xs ++ x ∷ []) → filter (λ w. not (is_at x.key w)) (xs ++ x ∷ []) ≡ xs
last_goes [] x apart = ap (λ b. cond (not b) (x ∷ []) []) (key_itself x.key)
last_goes (y ∷ xs) x apart =
    let first : same_key x.key y.key ≡ false = at_end (λ o. same_key o.key y.key ≡ false) xs x (pairs_head (λ a b. same_key b.key a.key ≡ false) y (xs ++ x ∷ []) apart) in
    let rest : filter (λ w. not (is_at x.key w)) (xs ++ x ∷ []) ≡ xs = last_goes xs x (pairs_tail (λ a b. same_key b.key a.key ≡ false) y (xs ++ x ∷ []) apart) in
    λ i. cond (not (first i)) (y ∷ rest i) (rest i)

prefix_of : (ws xs : List Item) (x : Item) → ws ≡ xs ++ x ∷ [] → take (length ws - 1) ws ≡ xs
prefix_of ws xs x is =
    let shorter : length ws - 1 ≡ length xs = omega (arith, ap length is, length-append xs (x ∷ [])) in
    ap (λ n. take n ws) shorter ∙ ap (take (length xs)) is ∙ take-append_seam xs (x ∷ [])

-- the newest item goes
pub filed_dropped : (ws : List Item) (boxes new : Boxes) (order left : List ItemPlace) (last : ItemPlace) → AreFiled ws boxes order →
    order ≡ left ++ last ∷ [] → new ≡ swept boxes (id_path last.key.destination) (is_at last.key) → AreFiled (take (length ws - 1) ws) new left
filed_dropped ws boxes new order left last filed ended swept_so =
    let end : EndsIn ws left last = ends_in ws left last (sym filed.indexed ∙ ended) in
    let k : Key = end.item.key in
    let same : last.key ≡ k = ap (λ p. p.key) (sym end.at) in
    let gone : filter (λ w. not (is_at k w)) ws ≡ end.prefix =
    ap (filter (λ w. not (is_at k w))) end.is ∙ last_goes end.prefix end.item (subst (AllPairs (λ a b. same_key b.key a.key ≡ false)) end.is filed.apart) in
    let places : filter (λ place. not (same_key k place.key)) order ≡ left =
    ap (filter (λ place. not (same_key k place.key))) filed.indexed ∙ filter_mapped place_of (λ place. not (same_key k place.key)) ws ∙ ap (map place_of) gone ∙ end.placed in
    subst (λ os. AreFiled os new left) (gone ∙ sym (prefix_of ws end.prefix end.item end.is))
    (filed_removed ws boxes new order left k filed (swept_so ∙ ap (λ j. swept boxes (id_path j.destination) (is_at j)) same) (sym places))

-- to take fewer of those taken
pub take_within : {X : Type 0} (n k : ℕ) (xs : List X) → n ≤ k → take n (take k xs) ≡ take n xs
take_within zero k xs below = refl
take_within (suc n) zero xs below = absurd (omega (arith, below))
take_within (suc n) (suc k) [] below = refl
take_within (suc n) (suc k) (x ∷ xs) below = ap (λ ys. x ∷ ys) (take_within n k xs (omega (arith, below)))
