-- What a rule says.
use Rattle.mm_pdus.specs.declared.lifetime.Lifetime.{Lifetime}
use Rattle.registration.specs.Numbers.{Area, Seconds}

-- the location areas from low to high are allowed, groups stay attached for the lifetime, and a message is kept for so many seconds
pub record Rule : Type 0 where
  pub low : Area
  pub high : Area
  pub lifetime : Lifetime
  pub keep : Seconds
