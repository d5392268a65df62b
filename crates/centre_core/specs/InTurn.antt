-- What a history shows of its commands, and what a reply shows of the state after it.
use Rattle.std.specs.Prelude.{◌≡◌, ◌⊎◌, ℕ, ◌+◌, ◌<◌, Bool, List, length, take, slice_get, Option, Some}
use Rattle.std.specs.List.{list_any}
use Rattle.registration.specs.Numbers.{Station}
use Rattle.mailbox.specs.Numbers.{Number}
use Rattle.mailbox.specs.Values.{Item}
use Rattle.centre_core.specs.declared.command.Command.{Command}
use Rattle.centre_core.specs.declared.reply.Reply.{Reply}
use Rattle.centre_core.specs.declared.reply.Reply.TheVariants.{Accepted, Kept, Refused}
use Rattle.centre_core.specs.State.{State, LastAccepted}
use Rattle.centre_core.specs.Step.{step, last_at}
use Rattle.centre_core.specs.History.{after, names, ended}
use Rattle.centre_core.specs.Histories.{IsHistory}

module _ {A : Type 0} where
  -- the reply to a command
  abbrev pub reply_to : State → Command A → Reply A
  reply_to s c = (step s c).1

  -- the entry of a command with this number and reply PDU
  abbrev pub last_of : Command A → Number → Option (List Bool) → LastAccepted
  last_of c number pdu = record { sequence = c.sequence; number = number; pdu = pdu }

  -- the command is in the list, at its number less the count of the base and 1, and this is its reply there
  pub record Lands (base : State) (l : List (Command A)) (c : Command A) (number : Number) (pdu : Option (List Bool)) : Type 0 where
    pub place : ℕ
    pub numbered : number ≡ base.count + place + 1
    pub is_there : slice_get l place ≡ Some c
    pub replied : reply_to (after base (take place l)) c ≡ Accepted number pdu

  -- the entry is that of a command of this station in the list, with its number and reply there
  pub record IsLeftBy (base : State) (l : List (Command A)) (station : Station) (last : LastAccepted) : Type 0 where
    pub first : Command A
    pub of_station : first.station ≡ station
    pub of_sequence : first.sequence ≡ last.sequence
    pub lands : Lands base l first last.number last.pdu

-- each station's entry in t is its entry in s, except that this station may have this new entry
abbrev pub LastAreOldOr : State → State → ℕ → LastAccepted → Type 0
LastAreOldOr s t station new =
    (k : ℕ) (last : LastAccepted) → 0 < k → last_at t k ≡ Some last
    → ((k ≡ station) × (last ≡ new)) ⊎ (last_at s k ≡ Some last)

module _ {A B : Type 0} where
  -- what the reply to the command in s shows of the state t after it. Accepted: it has the next number, and each station's
  -- entry is the old one or that of this command. Kept: it repeats its station's entry. Refused: nothing changed.
  abbrev pub Replied : State → Command A → State → Reply B → Type 0
  Replied s c t (Accepted n p) =
      (0 < c.station) × (n ≡ s.count + 1) × (t.count ≡ s.count + 1) × LastAreOldOr s t c.station (last_of c n p)
  Replied s c t (Kept n p) = (t ≡ s) × (0 < c.station) × (last_at s c.station ≡ Some (last_of c n p))
  Replied s c t (Refused r) = t ≡ s

module _ (A B : Type 0) where
  -- every reply shows this of the state after its command
  abbrev pub RepliesSay : Type 0
  RepliesSay = (s : State) (c : Command A) → Replied s c (step {B = B} s c).0 (step {B = B} s c).1

module _ (A : Type 0) where
  -- the commands of a history are counted, each once
  abbrev pub AcceptedAreCounted : Type 0
  AcceptedAreCounted = (s : State) (cs : List (Command A)) → IsHistory s cs → (after s cs).count ≡ s.count + length cs

  -- the entry of a station after them is the old one, or that of one of them
  abbrev pub LastAreOfTheList : Type 0
  LastAreOfTheList =
      (s : State) (cs : List (Command A)) → IsHistory s cs
      → (station : Station) (last : LastAccepted) → 0 < station → last_at (after s cs) station ≡ Some last
      → IsLeftBy s cs station last ⊎ (last_at s station ≡ Some last)

  -- they end a message exactly if one of them names it
  abbrev pub EndedAreNamed : Type 0
  EndedAreNamed = (s : State) (cs : List (Command A)) (m : Item) → IsHistory s cs → ended s cs m ≡ list_any (λ c. names c m) cs
