-- Laws of the register for all commands and lists of commands.
use Rattle.std.specs.Prelude.{◌≡◌, ◌+◌, ◌<◌, ◌↔◌, ◌⊎◌, IsTrue, Bool, false, List, ◌∷◌, ◌++◌, length, map, Option, Some, None}
use Rattle.std.specs.List.{Contains}
use Rattle.mm_pdus.specs.declared.update.LocationUpdateType.{LocationUpdateType}
use Rattle.mm_pdus.specs.declared.update.AcceptType.{AcceptType}
use Rattle.mm_pdus.specs.Values.{update_accepted}
use Rattle.mm_pdus.specs.Downlink.{accept_text}
use Rattle.registration.specs.Numbers.{Station}
use Rattle.registration.specs.Registered.{type_refusal}
use Rattle.registration.specs.declared.limits.Limits.{Limits}
use Rattle.mailbox.specs.Numbers.{Number}
use Rattle.mailbox.specs.Values.{Item, Mailed}
use Rattle.mailbox.specs.Item.{is_message}
use Rattle.centre_core.specs.declared.command.Command.{Command}
use Rattle.centre_core.specs.declared.reply.Reply.TheVariants.{Accepted, Kept}
use Rattle.centre_core.specs.State.{State, IsState, last_number, empty}
use Rattle.centre_core.specs.Ranges.{InRange}
use Rattle.centre_core.specs.StateRanges.{StateInRange}
use Rattle.centre_core.specs.Step.{step, accept_pdu, last_at}
use Rattle.centre_core.specs.History.{is_acceptance, accepts, next, after, names, ended, made, fresh}
use Rattle.centre_core.specs.Histories.{IsHistory, numbered, accepted_by, entry_after, last_accepted_of}
use Rattle.centre_core.specs.Same.{under}

-- the D-LOCATION UPDATE ACCEPT that answers an update names its type
pub record IsAnswered (update : LocationUpdateType) : Type 0 where
  pub accept : AcceptType
  pub same : update_accepted accept ≡ update
  pub pdu : accept_pdu update ≡ Some (accept_text accept)

-- each update whose type is not refused gets such an answer
abbrev pub AcceptedAreAnswered : Type 0
AcceptedAreAnswered = (update : LocationUpdateType) → type_refusal update ≡ None → IsAnswered update

-- an empty state is a state
abbrev pub EmptyIsState : Type 0
EmptyIsState = (limits : Limits) → IsState (empty limits)

-- an empty state is in range
abbrev pub EmptyIsInRange : Type 0
EmptyIsInRange = (limits : Limits) → StateInRange (empty limits)

-- a message of the old mail is in the new one, unless the command was accepted and ends it
abbrev pub MessagesStay : Mailed → Mailed → Bool → (Item → Bool) → Type 0
MessagesStay old new accepted ends =
    (m : Item)
    → IsTrue (is_message m)
    → Contains old.items m
    → Contains new.items m ⊎ (IsTrue accepted × IsTrue (ends m))

-- the message waits in the state
abbrev pub Waits : State → Item → Type 0
Waits s m = Contains s.mail.items m

module _ (A : Type 0) where
  -- after a command a state is a state
  abbrev pub NextIsState : Type 0
  NextIsState = (s : State) (c : Command A) → IsState s → IsState (next s c)

  -- after a command in range a state in range is in range
  abbrev pub NextIsInRange : Type 0
  NextIsInRange = (s : State) (c : Command A) → InRange c → StateInRange s → StateInRange (next s c)

  -- a waiting message is missing after a list of commands exactly if one of them is accepted and ends it
  abbrev pub NoneLost : Type 0
  NoneLost =
      (s : State)
      → IsState s
      → (cs : List (Command A)) (m : Item)
      → IsTrue (is_message m)
      → Waits s m
      → (¬ Waits (after s cs) m) ↔ IsTrue (ended s cs m)

  -- a message that an accepted command makes is missing afterwards exactly if a later command is accepted and ends it
  abbrev pub NoneLostMade : Type 0
  NoneLostMade =
      (s : State)
      → IsState s
      → (bs : List (Command A)) (c : Command A) (cs : List (Command A)) (m : Item)
      → IsTrue (accepts (after s bs) c)
      → Contains (made (after s bs) c) m
      → (¬ Waits (after s (bs ++ c ∷ cs)) m) ↔ IsTrue (ended (next (after s bs) c) cs m)

  -- a state that accepts a command has a number left for it
  abbrev pub AcceptedHaveRoom : Type 0
  AcceptedHaveRoom = (s : State) (c : Command A) → IsTrue (accepts s c) → s.count < last_number

  -- an accepted command becomes its station's entry; the other stations keep theirs
  abbrev pub AcceptedAreLast : Type 0
  AcceptedAreLast =
      (s : State)
      → IsState s
      → (c : Command A)
      → IsTrue (accepts s c)
      → (station : Station)
      → last_at (next s c) station ≡ entry_after s c station (last_at s station)

  -- a history counts its commands: the one at place k gets the base's count and k as its number
  abbrev pub HistoriesAreNumbered : Type 0
  HistoriesAreNumbered =
      (base : State) (bs : List (Command A)) (c : Command A) (cs : List (Command A)) → IsHistory base (bs ++ c ∷ cs)
      → (numbered base (bs ++ c ∷ cs) (base.count + length bs + 1) ≡ Some c)
      × IsTrue (accepts (after base bs) c)
      × ((accepted_by (after base bs) c).number ≡ base.count + length bs + 1)

  -- each station's entry after a history is the base's, or that of its last command in it
  abbrev pub LastAcceptedAreLast : Type 0
  LastAcceptedAreLast =
      (base : State)
      → IsState base
      → (cs : List (Command A))
      → IsHistory base cs
      → (station : Station)
      → last_at (after base cs) station ≡ last_accepted_of station (last_at base station) base cs

  -- without its resends a list leads to the same state
  abbrev pub ResendsAreIdle : Type 0
  ResendsAreIdle = (s : State) → IsState s → (cs : List (Command A)) → after s cs ≡ after s (fresh s cs)

module _ (A B : Type 0) where
  -- a refused command and a resend change nothing
  abbrev pub OnlyAcceptedChange : Type 0
  OnlyAcceptedChange = (s : State) (c : Command A) → is_acceptance (step {B = B} s c).1 ≡ false → (step {B = B} s c).0 ≡ s

  -- the state after a command does not depend on the allocator of its reply
  abbrev pub StepIsNext : Type 0
  StepIsNext = (s : State) (c : Command A) → (step {B = B} s c).0 ≡ next s c

  -- an accepted command gets the next number, from 1
  abbrev pub AcceptedAreNumbered : Type 0
  AcceptedAreNumbered =
      (s : State) (c : Command A) (number : Number) (pdu : Option (List Bool))
      → (step {B = B} s c).1 ≡ Accepted number pdu
      → (number ≡ s.count + 1) × ((next s c).count ≡ number)

  -- its resend, with any body, gets the same number and PDU, and changes nothing
  abbrev pub ResendsAreAnswered : Type 0
  ResendsAreAnswered =
      (s : State) → IsState s → (c again : Command A) (number : Number) (pdu : Option (List Bool)) → (step {B = B} s c).1 ≡ Accepted number pdu
      → again.station ≡ c.station → again.sequence ≡ c.sequence → step {B = B} (next s c) again ≡ (next s c, Kept number pdu)

  -- a copy under another allocator, copied back, is the same command
  abbrev pub SameAgain : Type 0
  SameAgain = (c : Command A) → under A (under B c) ≡ c

  -- it ends the same messages
  abbrev pub NamesAreSame : Type 0
  NamesAreSame = (c : Command A) (m : Item) → names (under B c) m ≡ names c m

  -- it is accepted in the same states
  abbrev pub AcceptsAreSame : Type 0
  AcceptsAreSame = (s : State) (c : Command A) → accepts s (under B c) ≡ accepts s c

  -- commands under another allocator lead to the same state
  abbrev pub AfterIsSame : Type 0
  AfterIsSame = (s : State) (cs : List (Command A)) → after s (map (under B) cs) ≡ after s cs

  -- the same commands among them are no resends
  abbrev pub FreshIsSame : Type 0
  FreshIsSame = (s : State) (cs : List (Command A)) → fresh s (map (under B) cs) ≡ map (under B) (fresh s cs)

  -- a history is one under another allocator too
  abbrev pub HistoriesAreSame : Type 0
  HistoriesAreSame = (base : State) (cs : List (Command A)) → IsHistory base cs → IsHistory base (map (under B) cs)

-- a command under another allocator does the same step, with any allocator of the reply
abbrev pub StepIsSame : (A B C : Type 0) → Type 0
StepIsSame A B C = (s : State) (c : Command A) → step {B = C} s (under B c) ≡ step {B = C} s c
