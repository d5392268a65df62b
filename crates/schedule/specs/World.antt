-- The world of the centre as a machine over events.
use Rattle.std.specs.Prelude.{ℕ, zero, suc, Bool, false, List, [], replicate, slice_index_or, slice_set, Option, None}
use Rattle.std.proofs.Common.{arith}
use Rattle.registration.specs.Numbers.{Station}
use Rattle.registration.specs.Limits.{rule_capacity, radio_capacity, mail_capacity, station_capacity}
use Rattle.registration.specs.declared.limits.Limits.{Limits}
use Rattle.mailbox.specs.Numbers.{Count}
use Rattle.centre_core.specs.declared.command.Command.{Command}
use Rattle.centre_core.specs.declared.reply.Reply.{Reply}
use Rattle.centre_core.specs.State.{State, empty}

-- the greatest limits that a register may have
abbrev pub greatest : Limits
greatest = record {
  rules = rule_capacity;
  radios = radio_capacity;
  mail = mail_capacity;
  stations = station_capacity;
  in_range = record {
    some_rules = omega arith;
    most_rules = omega arith;
    some_radios = omega arith;
    most_radios = omega arith;
    some_mail = omega arith;
    most_mail = omega arith;
    some_stations = omega arith;
    most_stations = omega arith;
  };
}

-- the state from which the running world starts
abbrev pub ground : State
ground = empty greatest

-- a command with its reply
abbrev pub Entry : Type 0 → Type 0
Entry A = Command A × Reply A

-- a station's line: the commands that it submitted and that are not sealed, oldest first, and how many accepted commands it has seen
pub record Line (A : Type 0) : Type 0 where
  pub queue : List (Command A)
  pub seen : Count

-- the lines of the stations from 1 on; the sealed batch; the commands accepted since the base, how many of them are durable,
-- and how many published; the batch of the commit in flight with its replies, if there is one; the entries that are owed, and
-- those that were answered; whether a checkpoint is under way, and whether the centre is down
pub record World (A : Type 0) : Type 0 where
  pub lines : List (Line A)
  pub batch : List (Command A)
  pub accepted : List (Command A)
  pub durable : Count
  pub published : Count
  pub in_flight : Option (List (Entry A))
  pub owed : List (Entry A)
  pub answers : List (Entry A)
  pub checking : Bool
  pub down : Bool

module _ {A : Type 0} where
  -- a station's line: its queue, and how many accepted commands it has seen
  abbrev pub line : List (Command A) → Station → Line A
  line q s = record { queue = q; seen = s }

  -- the world at the start
  abbrev pub opening : ℕ → World A
  opening sessions = record {
    lines = replicate sessions (line [] 0);
    batch = [];
    accepted = [];
    durable = 0;
    published = 0;
    in_flight = None;
    owed = [];
    answers = [];
    checking = false;
    down = false;
  }

  -- the line of a station, counted from 1; an empty line where there is no such station
  abbrev pub line_of : List (Line A) → Station → Line A
  line_of lines zero = line [] 0
  line_of lines (suc k) = slice_index_or lines k (line [] 0)

  -- the lines with another one for this station
  abbrev pub with_line : List (Line A) → Station → Line A → List (Line A)
  with_line lines zero x = lines
  with_line lines (suc k) x = slice_set lines k x

  -- the commands that a station submitted and that are not sealed
  abbrev pub queue_of : World A → Station → List (Command A)
  queue_of w s = (line_of w.lines s).queue

  -- how many accepted commands a station has seen
  abbrev pub seen_of : World A → Station → Count
  seen_of w s = (line_of w.lines s).seen
