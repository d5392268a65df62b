-- An image that opens to a register.
use Rattle.std.specs.Prelude.{◌≡◌, List, Ok}
use Rattle.std.specs.List.{flat_map}
use Rattle.identity.specs.Numbers.{Byte}
use Rattle.centre_core.specs.Asked.{Asked}
use Rattle.registration.specs.declared.limits.Limits.{Limits}
use Rattle.centre_core.specs.State.{IsState, State, empty}
use Rattle.centre_core.specs.StateRanges.{StateInRange}
use Rattle.centre_core.specs.History.{after}
use Rattle.centre_core.specs.Histories.{IsHistory}
use Rattle.gated_journal.specs.declared.form.Form.{Form}
use Rattle.gated_journal.specs.Half.{RecordAt}
use Rattle.checkpoint.specs.declared.layout.Layout.{Layout}
use Rattle.checkpoint.specs.OnSide.{Base, IsOnSide}
use Rattle.recovery.specs.Opens.{Opening, opens}

-- the commands of some records, in order
abbrev pub commands_of : {A : Type 0} → List (RecordAt A) → List (Asked A)
commands_of entries = flat_map (λ entry. entry.1) entries

-- the image opens to this state
pub record OpensTo (A : Type 0) (state : State) (image : List (List Byte)) : Type 0 where
  pub opening : Opening
  pub opens : opens A image ≡ Ok opening
  pub same : opening.state ≡ state

-- the image of an empty register with the layout's limits, of epoch 1
abbrev pub first_base : Layout → Base
first_base layout = (1, empty layout.limits)

-- a state under these limits, with all its numbers in their ranges
pub record IsRanged (limits : Limits) (s : State) : Type 0 where
  pub state : IsState s
  pub ranges : StateInRange s
  pub under : s.registered.limits ≡ limits

-- The image is on the opening's side, with a base of the opening's epoch, and records of one form up to its gate. The base
-- accepts their commands one after the other, and the opening has the state after them.
pub record OpensAs (A : Type 0) (opening : Opening) (image : List (List Byte)) : Type 0 where
  pub form : Form
  pub base : State
  pub entries : List (RecordAt A)
  pub on_side : IsOnSide opening.layout opening.side form (opening.epoch, base) (entries, opening.next) image
  pub accepted : IsHistory base (commands_of entries)
  pub made : opening.state ≡ after base (commands_of entries)
