-- The bytes of a disk's label.
use Rattle.std.specs.Prelude.{◌≡◌, ℕ, List, [], ◌∷◌, ◌++◌, take}
use Rattle.identity.specs.Numbers.{Byte}
use Rattle.sector_disk.specs.Numbers.{Bytes}
use Rattle.command_bytes.specs.Fields.{big}
use Rattle.checkpoint.specs.declared.layout.Layout.{Layout}

-- the letters TETRALOC
abbrev pub name : List Byte
name = 84 ∷ 69 ∷ 84 ∷ 82 ∷ 65 ∷ 76 ∷ 79 ∷ 67 ∷ []

-- the layout number in every label, also where the sides are of layout 2
abbrev pub layout_number : ℕ
layout_number = 1

-- how many bytes a label has
abbrev pub label_size : Bytes
label_size = 30

-- the name, the number of the layout, the limits, and how many sectors a half has
unfoldable pub label_text : Layout → List Byte
label_text layout =
    name ++ big 2 layout_number ++ big 4 layout.limits.rules ++ big 4 layout.limits.radios ++ big 4 layout.limits.mail
    ++ big 4 layout.limits.stations ++ big 4 layout.journal

-- a sector begins with the label of this layout; what follows it is ignored
abbrev pub IsLabel : Layout → List Byte → Type 0
IsLabel layout bytes = take label_size bytes ≡ label_text layout
