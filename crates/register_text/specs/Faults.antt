-- Why a line is not taken.
use Rattle.std.specs.Prelude.{◌≡◌, Result, Err}
use Rattle.register_text.specs.Text.{TextLoading}
use Rattle.register_text.specs.declared.cause.Cause.{Cause}
use Rattle.register_text.specs.declared.loader.TakeFault.{TakeFault}
use Rattle.register_text.specs.declared.loader.TakeFault.TheVariants.{Memory, Line}

-- a fault names the cause for which the line can't be taken; out of memory says nothing of the line
abbrev pub IsFault : Result TextLoading Cause → TakeFault → Type 0
IsFault made Memory = Unit {0}
IsFault made (Line cause) = made ≡ Err cause
