-- What becomes of messages on a disk.
use Rattle.std.specs.Prelude.{◌↔◌, IfOk, IsTrue, List, ◌∷◌, ◌++◌}
use Rattle.std.specs.List.{Contains}
use Rattle.identity.specs.Numbers.{Byte}
use Rattle.mailbox.specs.Values.{Item}
use Rattle.mailbox.specs.Item.{is_message}
use Rattle.centre_core.specs.Asked.{Asked}
use Rattle.centre_core.specs.State.{IsState, State}
use Rattle.centre_core.specs.History.{accepts, after, ended, made, next}
use Rattle.recovery.specs.Opens.{Opening, opens}
use Rattle.recovery.specs.OpensTo.{OpensTo}

-- the register of the opening lacks the message
abbrev pub Lacks : Opening → Item → Type 0
Lacks opening m = ¬ Contains opening.state.mail.items m

module _ (A : Type 0) where
  -- if the image opens, the message is missing exactly if one of these commands, from this state on, is accepted and ends it
  abbrev pub LacksWhereEnded : List (List Byte) → Item → State → List (Asked A) → Type 0
  LacksWhereEnded image m s cs = IfOk (opens A image) (λ opening. Lacks opening m ↔ IsTrue (ended s cs m))

  -- A message waits in a state, and an image opens to the state after some commands. Then the message is missing in it exactly if
  -- one of the commands is accepted and ends it.
  abbrev pub NoneLostOnDisk : Type 0
  NoneLostOnDisk =
      (s : State) → IsState s → (cs : List (Asked A)) (m : Item) (image : List (List Byte)) → IsTrue (is_message m)
      → Contains s.mail.items m → OpensTo A (after s cs) image → LacksWhereEnded image m s cs

  -- An accepted command makes a message, and an image opens to the state after it and some later commands. Then the message is
  -- missing in the image exactly if one of the later commands is accepted and ends it.
  abbrev pub NoneLostMadeOnDisk : Type 0
  NoneLostMadeOnDisk =
      (s : State) → IsState s → (bs : List (Asked A)) (c : Asked A) (cs : List (Asked A)) (m : Item) (image : List (List Byte))
      → IsTrue (accepts (after s bs) c) → Contains (made (after s bs) c) m
      → OpensTo A (after s (bs ++ c ∷ cs)) image → LacksWhereEnded image m (next (after s bs) c) cs
