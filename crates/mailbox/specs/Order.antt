-- In which order the items wait: by the number of the command that made them, then by key.
use Rattle.std.specs.Prelude.{◌≡◌, ℕ, List, [], ◌∷◌, Option}
use Rattle.std.specs.List.{All, filter}
use Rattle.std.specs.Ordering.{nat_cmp}
use Rattle.std.specs.declared.cmp.Ordering.{Ordering}
use Rattle.std.specs.declared.cmp.Ordering.TheVariants.{Less}
use Rattle.std.specs.Cmp.Lexicographic.{slice_cmp}
use Rattle.prefix_tree.specs.Following.{next_of}
use Rattle.mailbox.specs.Numbers.{Number, Moment}
use Rattle.mailbox.specs.declared.key.Key.{Key}
use Rattle.mailbox.specs.declared.key.Kind.{Kind}
use Rattle.mailbox.specs.declared.key.Kind.TheVariants.{Message, Report}
use Rattle.mailbox.specs.declared.place.ItemPlace.{ItemPlace}
use Rattle.mailbox.specs.Values.{Item, Mailed}
use Rattle.mailbox.specs.Item.{is_expired}

-- a kind as a number: a message comes before a report
abbrev pub kind_number : Kind → ℕ
kind_number Message = 0
kind_number Report = 1

-- the place of this number and key in the order
abbrev pub place_at : Number → Key → List ℕ
place_at number k = number ∷ k.destination ∷ k.source ∷ k.reference ∷ kind_number k.kind ∷ []

-- the first item comes before the second
abbrev pub IsBefore : Item → Item → Type 0
IsBefore a b = slice_cmp nat_cmp (place_at a.number a.key) (place_at b.number b.key) ≡ Less

-- this number and key come after those of all that wait
abbrev pub ComesLast : Mailed → Number → Key → Type 0
ComesLast m number k = All (λ o. slice_cmp nat_cmp (place_at o.number o.key) (place_at number k) ≡ Less) m.items

-- the order of two numbers with their keys
abbrev pub named_cmp : Number × Key → Number × Key → Ordering
named_cmp a b = slice_cmp nat_cmp (place_at a.0 a.1) (place_at b.0 b.1)

-- an item's number and key
abbrev pub named : Item → Number × Key
named w = (w.number, w.key)

-- the first item after this number and key, or the first of all
abbrev pub next_item : Mailed → Option (Number × Key) → Option Item
next_item m after = next_of named_cmp named m.items after

-- the first item after this number and key that has ended by the moment, or the first of all that have
abbrev pub next_due : Mailed → Moment → Option (Number × Key) → Option Item
next_due m moment after = next_of named_cmp named (filter (is_expired moment) m.items) after

-- an item's place in the order of all, with its deadline
abbrev pub place_of : Item → ItemPlace
place_of w = record { number = w.number; key = w.key; deadline = w.deadline }
