-- A command as a value. A is the allocator of its bits; nothing depends on it.
use Rattle.registration.specs.Numbers.{Station}
use Rattle.mailbox.specs.Numbers.{Moment}
use Rattle.centre_core.specs.Numbers.{Sequence}
use Rattle.centre_core.specs.declared.command.Body.{Body}

-- its station, its sequence among the commands of that station, its moment, and what is asked
pub record Asked (A : Type 0) : Type 0 where
  pub station : Station
  pub sequence : Sequence
  pub moment : Moment
  pub body : Body A
