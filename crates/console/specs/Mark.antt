-- The word of a mark, which a station writes to find its place in the answers.
use Rattle.std.specs.Prelude.{ℕ, Bool, ◌&&◌, List, length, Option, Some, None, nat_le, if◌then◌else◌}
use Rattle.std.specs.Char.{is_ascii_graphic}
use Rattle.std.specs.List.{list_all}
use Rattle.identity.specs.Numbers.{Byte}

-- the most characters of a mark
abbrev pub longest_mark : ℕ
longest_mark = 32

-- 1 to 32 bytes
abbrev pub has_mark_length : List Byte → Bool
has_mark_length word = nat_le 1 (length word) && nat_le (length word) longest_mark

-- 1 to 32 printable characters, and no space
abbrev pub is_mark : List Byte → Bool
is_mark word = has_mark_length word && list_all is_ascii_graphic word

-- the word, if it is a mark
abbrev pub mark_in : List Byte → Option (List Byte)
mark_in word = if is_mark word then Some word else None
