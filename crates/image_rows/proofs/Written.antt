-- Fields of rows as they are written.
use Rattle.std.proofs.Common.{◌≡◌, ℕ, [], refl}
use Rattle.command_bytes.specs.Fields.{big, left}
use Rattle.command_bytes.specs.Text.{bits_text}

-- no bits are the two bytes of their number
pub no_bits : big 2 0 ≡ bits_text []
unfolding big left
no_bits = refl
