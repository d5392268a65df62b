-- The places of all items as a tree keeps them: a node's place, those before it on one side, those after it on the other.
use Rattle.std.specs.Prelude.{◌≡◌, ℕ, ◌+◌, ◌<◌, ◌≤◌, ◌/◌, ◌^◌, min, max, nat_le, ◌&&◌, Bool, List, [], ◌∷◌, ◌++◌, length, Option, Some, None, refl}
use Rattle.std.specs.Coded.{Coded, code_by, coded×, coded_list, coded_ℕ}
use Rattle.std.specs.Ordering.{is_eq}
use Rattle.std.specs.declared.boxed.Box.{Box}
use Rattle.std.specs.declared.cmp.Ordering.{Ordering}
use Rattle.prefix_tree.specs.Following.{AreRising, is_after}
use Rattle.mailbox.specs.Numbers.{Number, Moment}
use Rattle.mailbox.specs.declared.key.Key.{Key}
use Rattle.mailbox.specs.declared.place.ItemPlace.{ItemPlace}
use Rattle.mailbox.specs.contracts.place.ItemPlace as place
use Rattle.mailbox.specs.Order.{named_cmp}
use Rattle.mailbox.specs.Inside.Boxes.{name_of}

-- the coding of places, for proofs
abbrev pub coded_places : Coded (List ItemPlace)
coded_places = coded_list (place.the_row).coded

-- the order of two places: of their numbers, then of their keys
abbrev pub place_cmp : ItemPlace → ItemPlace → Ordering
place_cmp p q = named_cmp (name_of p) (name_of q)

-- they have the same number and key
abbrev pub same_place : ItemPlace → ItemPlace → Bool
same_place p q = is_eq (place_cmp p q)

-- each comes before all later ones
abbrev pub InOrder : List ItemPlace → Type 0
InOrder places = AreRising named_cmp name_of places

-- its item has ended by the moment
abbrev pub is_due : Moment → ItemPlace → Bool
is_due moment p = nat_le p.deadline moment

-- its item has ended by the moment, and it comes after this number and key
abbrev pub is_due_after : Moment → Option (Number × Key) → ItemPlace → Bool
is_due_after moment after p = is_due moment p && is_after named_cmp name_of after p

-- the moment at which the first of the items ends; where there are none, the last number of 64 bits
abbrev pub soonest : List ItemPlace → Moment
soonest [] = 18446744073709551615
soonest (p ∷ places) = min p.deadline (soonest places)

-- ---- nodes

-- a node in contracts: the places at and below it, and its height, the number of nodes on the longest way down from it
pub record Branch : Type 0 where
  pub places : List ItemPlace
  pub height : ℕ

-- its coding, for proofs
abbrev pub coded_branch : Coded Branch
coded_branch = code_by (List ItemPlace × ℕ) (coded× coded_places coded_ℕ) (λ b. (b.places, b.height)) (λ p. record { places = p.0; height = p.1 }) (λ _. refl)

-- the places at and below what a link leads to
abbrev pub places_of : {A : Type 0} → Option (Box Branch A) → List ItemPlace
places_of None = []
places_of (Some b) = b.value.places

-- the height of what a link leads to
abbrev pub height_of : {A : Type 0} → Option (Box Branch A) → ℕ
height_of None = 0
height_of (Some b) = b.value.height

-- those before a place, the place, those after it
abbrev pub all_of : {A : Type 0} → ItemPlace → Option (Box Branch A) → Option (Box Branch A) → List ItemPlace
all_of p earlier later = places_of earlier ++ p ∷ places_of later

-- the node of a place with these sides
abbrev pub branch : {A : Type 0} → ItemPlace → Option (Box Branch A) → Option (Box Branch A) → Branch
branch p earlier later = record { places = all_of p earlier later; height = max (height_of earlier) (height_of later) + 1 }

-- this height is at most twice the base-2 logarithm of one more than this count
abbrev pub IsLow : ℕ → ℕ → Type 0
IsLow height count = 2 ^ (height / 2) ≤ count + 1

-- no tree of these places is so high
abbrev pub IsAbove : ℕ → List ItemPlace → Type 0
IsAbove height places = length places + 1 < 2 ^ (height / 2)

-- the height of a balanced node with sides of these heights; where they differ by two levels, it may be one lower
pub record IsBalanced (earlier later height : ℕ) : Type 0 where
  pub low : max earlier later ≤ height
  pub high : height ≤ max earlier later + 1
  pub even : earlier ≤ later + 1 → later ≤ earlier + 1 → height ≡ max earlier later + 1

-- What holds of a node: its height and its earliest deadline are those of its places, neither side is more than one level higher than
-- the other, it is low, and 64 bits can count its places.
pub record IsNode {A : Type 0} (height : ℕ) (least : Moment) (p : ItemPlace) (earlier later : Option (Box Branch A)) : Type 0 where
  pub tall : height ≡ max (height_of earlier) (height_of later) + 1
  pub soon : least ≡ soonest (all_of p earlier later)
  pub even_earlier : height_of earlier ≤ height_of later + 1
  pub even_later : height_of later ≤ height_of earlier + 1
  pub low : IsLow (max (height_of earlier) (height_of later) + 1) (length (all_of p earlier later))
  pub few : length (all_of p earlier later) < 2 ^ 64

-- the first place and the others, if there are any
abbrev pub IsFirstOf : List ItemPlace → List ItemPlace → Option ItemPlace → Type 0
IsFirstOf old new None = (old ≡ []) × (new ≡ [])
IsFirstOf old new (Some p) = old ≡ p ∷ new

-- the last place and the others, if there are any
abbrev pub IsLastOf : List ItemPlace → List ItemPlace → Option ItemPlace → Type 0
IsLastOf old new None = (old ≡ []) × (new ≡ [])
IsLastOf old new (Some p) = old ≡ new ++ p ∷ []

-- the last of these, if there are any
abbrev pub EndsWith : List ItemPlace → Option ItemPlace → Type 0
EndsWith places None = places ≡ []
EndsWith places (Some p) = (prefix : List ItemPlace) × (places ≡ prefix ++ p ∷ [])
