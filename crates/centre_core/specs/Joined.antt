-- Lists of commands one after the other, and prefixes of a list.
use Rattle.std.specs.Prelude.{◌≡◌, ◌+◌, ◌≤◌, Bool, List, ◌++◌, length, Option}
use Rattle.registration.specs.Numbers.{Station}
use Rattle.mailbox.specs.Numbers.{Number}
use Rattle.centre_core.specs.declared.command.Command.{Command}
use Rattle.centre_core.specs.State.{State, LastAccepted}
use Rattle.centre_core.specs.History.{after}
use Rattle.centre_core.specs.Histories.{IsHistory}
use Rattle.centre_core.specs.InTurn.{Lands, IsLeftBy}
use Rattle.centre_core.specs.Batches.{taken}

module _ (A : Type 0) where
  -- the state after two lists is the state after the second, from the state after the first
  abbrev pub AfterIsJoined : Type 0
  AfterIsJoined = (s : State) (xs ys : List (Command A)) → after s (xs ++ ys) ≡ after (after s xs) ys

  -- a history followed by one from the state after it is a history
  abbrev pub HistoriesAreJoined : Type 0
  HistoriesAreJoined = (s : State) (xs ys : List (Command A)) → IsHistory s xs → IsHistory (after s xs) ys → IsHistory s (xs ++ ys)

  -- a prefix of a history is a history
  abbrev pub PrefixesAreHistories : Type 0
  PrefixesAreHistories = (s : State) (xs ys : List (Command A)) → IsHistory s (xs ++ ys) → IsHistory s xs

  -- the rest of a history is one, from the state after the prefix
  abbrev pub RestsAreHistories : Type 0
  RestsAreHistories = (s : State) (xs ys : List (Command A)) → IsHistory s (xs ++ ys) → IsHistory (after s xs) ys

  -- the commands of a batch that are not accepted change nothing
  abbrev pub TakenAreAll : Type 0
  TakenAreAll = (s : State) (cs : List (Command A)) → after s (taken s cs) ≡ after s cs

  -- the accepted commands of a batch are a history
  abbrev pub TakenAreHistory : Type 0
  TakenAreHistory = (s : State) (cs : List (Command A)) → IsHistory s (taken s cs)

  -- a command that has its number and reply in a list has them in a longer one
  abbrev pub LandsInLonger : Type 0
  LandsInLonger = (base : State) (xs ys : List (Command A)) (c : Command A) (number : Number) (pdu : Option (List Bool))
      → Lands base xs c number pdu → Lands base (xs ++ ys) c number pdu

  -- it has them in a prefix, if its number is within the count of the prefix
  abbrev pub LandsInPrefix : Type 0
  LandsInPrefix = (base : State) (xs ys : List (Command A)) (c : Command A) (number : Number) (pdu : Option (List Bool))
      → Lands base (xs ++ ys) c number pdu → number ≤ base.count + length xs → Lands base xs c number pdu

  -- an entry that is left by a command of a list is left by one of a longer list
  abbrev pub LeftByLonger : Type 0
  LeftByLonger = (base : State) (xs ys : List (Command A)) (station : Station) (last : LastAccepted)
      → IsLeftBy base xs station last → IsLeftBy base (xs ++ ys) station last

  -- it is left by a command of a prefix, if its number is within the count of the prefix
  abbrev pub LeftByPrefix : Type 0
  LeftByPrefix = (base : State) (xs ys : List (Command A)) (station : Station) (last : LastAccepted)
      → IsLeftBy base (xs ++ ys) station last → last.number ≤ base.count + length xs → IsLeftBy base xs station last
