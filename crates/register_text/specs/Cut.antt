-- Whether a text is cut: bytes follow its last line feed, or lines are missing that its count line states. The limits make no difference.
use Rattle.std.specs.Prelude.{◌≡◌, ℕ, ◌-◌, ◌==◌, Bool, true, List, [], ◌∷◌, length, nat_lt, Option, Some, None}
use Rattle.std.specs.List.{slice_split}
use Rattle.identity.specs.Numbers.{Byte}
use Rattle.image_rows.specs.Rows.{Row, HeaderRow, row_count}
use Rattle.register_text.specs.Reading.{line_row}

-- how many lines must follow one with this row; unknown before the count line
abbrev pub due_after : Option ℕ → Option Row → Option ℕ
due_after (Some due) row = Some (due - 1)
due_after None (Some (HeaderRow h)) = Some (row_count h - 1)
due_after None row = None

-- whether a line is missing: the count line, or one that it states
abbrev pub is_due : Option ℕ → Bool
is_due None = true
is_due (Some due) = nat_lt 0 due

-- whether the text is cut, by what follows its last line feed
abbrev pub is_cut_by : Option ℕ → List Byte → Bool
is_cut_by due [] = is_due due
is_cut_by due (b ∷ part) = true

-- whether the text is cut from a line on, by its parts between line feeds
abbrev pub are_cut : Option ℕ → List (List Byte) → Bool
are_cut due [] = is_due due
are_cut due (end ∷ []) = is_cut_by due end
are_cut due (line ∷ next ∷ parts) = are_cut (due_after due (line_row line)) (next ∷ parts)

-- the lines of a text, and what follows its last line feed
abbrev pub parts_of : List Byte → List (List Byte)
parts_of text = slice_split (λ b. b == 10) text

-- whether the text is cut
unfoldable pub is_cut : List Byte → Bool
is_cut text = are_cut None (parts_of text)

-- The text is cut, and n is the number of the line after its last line feed. The text ends within that line or before it.
abbrev pub IsCutAt : List Byte → ℕ → Type 0
IsCutAt text n = (is_cut text ≡ true) × (n ≡ length (parts_of text))
