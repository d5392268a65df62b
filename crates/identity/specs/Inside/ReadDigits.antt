-- What is read from the two parts of a text of bits.
use Rattle.std.specs.Prelude.{Bool, List, take, nat_le, Result, Ok, Err, if◌then◌else◌}
use Rattle.identity.specs.Numbers.{Byte}
use Rattle.identity.specs.NumberText.{judged}
use Rattle.identity.specs.BitsText.{digit_bits, bits_len, most_bits}
use Rattle.identity.specs.declared.fault.Fault.{Fault}
use Rattle.identity.specs.declared.fault.Fault.TheVariants.{OutOfRange}

-- The bits of a count and digits, or the fault.
unfoldable pub reading_digits : List Byte → List Byte → Result (List Bool) Fault
reading_digits count digits = judged (λ n. if nat_le n most_bits then Ok (take n (digit_bits digits)) else Err OutOfRange) (bits_len count digits)
