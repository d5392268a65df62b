-- Bits as they are kept: up to 64 in place, more in a list of bytes.
use Rattle.std.specs.Prelude.{◌≡◌, ℕ, ◌<◌, ◌≤◌, false, List, length, nat_le, slice_index_or, if◌then◌else◌}
use Rattle.identity.specs.Numbers.{Byte}
use Rattle.identity.specs.Packed.{bits_of, IsPacked}

-- The bits from place `len` on are 0.
abbrev pub IsClear : List Byte → ℕ → Type 0
IsClear bytes len = (i : ℕ) → len ≤ i → slice_index_or (bits_of bytes) i false ≡ false

-- The bytes that hold `len` bits: the eight in place, or those of the list.
unfoldable pub kept : ℕ → List Byte → List Byte → List Byte
kept len short long = if nat_le len 64 then short else long

-- Eight bytes in place; what fills them is 0, or the list is packed.
pub record AreKept (len : ℕ) (short long : List Byte) : Type 0 where
  pub eight : length short ≡ 8
  pub clear : len ≤ 64 → IsClear short len
  pub packed : 64 < len → IsPacked long len
