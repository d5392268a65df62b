-- The bits of the parts of a PDU (clause 16.9, and annex E for the flag bits of type 2, 3 and 4 elements).
use Rattle.std.specs.Prelude.{◌≡◌, ℕ, ◌<◌, ◌^◌, Bool, true, false, List, [], ◌∷◌, ◌++◌, length, Option, Some, None, IfSome}
use Rattle.std.specs.List.{flat_map, AllByRecursion}
use Rattle.identity.specs.Number.{num}

-- An optional part: the bit 0, or the bit 1 and the part.
abbrev pub optional : Option (List Bool) → List Bool
optional None = false ∷ []
optional (Some part) = true ∷ part

-- The optional parts have these widths.
abbrev pub AreParts : List ℕ → List (Option (List Bool)) → Type 0
AreParts [] [] = Unit {0}
AreParts (w ∷ ws) (part ∷ parts) = IfSome part (λ bits. length bits ≡ w) × AreParts ws parts
AreParts [] (part ∷ parts) = ⊥
AreParts (w ∷ ws) [] = ⊥

-- An element of type 3 or 4: the bit 1, its identifier, its length, and its bits.
pub record Element : Type 0 where
  pub identifier : ℕ
  pub body : List Bool

-- The text of such an element.
abbrev pub element : Element → List Bool
element e = true ∷ num 4 e.identifier ++ num 11 (length e.body) ++ e.body

-- Its identifier fits 4 bits, and its length 11.
pub record IsElement (e : Element) : Type 0 where
  pub identifier : e.identifier < 2 ^ 4
  pub body : length e.body < 2 ^ 11

-- What may follow the fixed fields: parts of type 2, and then elements of type 3 and 4.
pub record Extension : Type 0 where
  pub parts : List (Option (List Bool))
  pub elements : List Element

-- The bit 0 where nothing follows; else the bit 1, the parts, the elements, and the bit 0.
abbrev pub extension : Option Extension → List Bool
extension None = false ∷ []
extension (Some x) = true ∷ flat_map optional x.parts ++ flat_map element x.elements ++ false ∷ []

-- The parts have these widths, and the elements' fields have the bits that they need.
abbrev pub IsExtension : List ℕ → Option Extension → Type 0
IsExtension widths x = IfSome x (λ x. AreParts widths x.parts × AllByRecursion IsElement x.elements)
