-- The numbers of images.
use Rattle.std.specs.Prelude.{ℕ}

-- the number of an image among all images of a register, from 1 to 2 to the 62nd
abbrev pub Epoch : Type 0
Epoch = ℕ
