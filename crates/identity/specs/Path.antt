-- Identities and prefixes as lists of bits, and the order of such lists.
use Rattle.std.specs.Prelude.{◌-◌, Bool, true, false, List, [], ◌∷◌, ◌++◌, length, replicate}
use Rattle.std.specs.Ordering.{bool_cmp}
use Rattle.std.specs.declared.cmp.Ordering.{Ordering}
use Rattle.std.specs.Cmp.Lexicographic.{slice_cmp}
use Rattle.identity.specs.Numbers.{Identity}
use Rattle.identity.specs.Number.{num, number}

-- the bits of an identity, or the first of them
abbrev pub Path : Type 0
Path = List Bool

-- the order: a prefix is before its extensions, and else the first bit that differs decides
abbrev pub path_cmp : Path → Path → Ordering
path_cmp = slice_cmp bool_cmp

-- the 48 bits of an identity
unfoldable pub id_path : Identity → Path
id_path v = num 48 v

-- the identity of a prefix and only zeros after it
unfoldable pub left_aligned : Path → Identity
left_aligned p = number (p ++ replicate (48 - length p) false)

-- the first list is a prefix of the second
abbrev pub begins : Path → Path → Bool
begins [] q = true
begins (b ∷ p) [] = false
begins (true ∷ p) (true ∷ q) = begins p q
begins (true ∷ p) (false ∷ q) = false
begins (false ∷ p) (true ∷ q) = false
begins (false ∷ p) (false ∷ q) = begins p q
