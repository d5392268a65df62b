-- What a disk opens to that is made of the dump of another disk.
use Rattle.std.specs.Prelude.{◌≡◌, List, [], None, Ok, Option, Some}
use Rattle.identity.specs.Numbers.{Byte}
use Rattle.registration.specs.declared.limits.Limits.{Limits}
use Rattle.centre_core.specs.State.{IsState, State}
use Rattle.centre_core.specs.StateRanges.{StateInRange}
use Rattle.sector_disk.specs.Disk.{View}
use Rattle.checkpoint.specs.OnSide.{InEach}
use Rattle.checkpoint.specs.declared.layout.Layout.{Layout}
use Rattle.image_rows.specs.Loading.{state_of_rows}
use Rattle.image_rows.specs.Rows.{rows_of}
use Rattle.recovery.specs.OpensTo.{OpensTo}
use Rattle.register_text.specs.declared.cause.Cause.TheVariants.{Place}
use Rattle.register_text.specs.declared.load_fault.LoadFault.{LoadFault}
use Rattle.register_text.specs.declared.load_fault.LoadFault.TheVariants as load
use Rattle.register_text.specs.Dump.{IsAll, IsLoadFault, register_bytes, text_read}
use Rattle.register_text.specs.Text.{IsUnder}
use Rattle.served_disk.specs.Dumping.{IsDumpedBy}
use Rattle.served_disk.specs.Making.{IsMadeFor}

-- The old image opens to a register, and the new one to a register with the same rows under these limits. If these are the
-- limits of the old register, the new one equals it.
pub record IsSameUnder (A : Type 0) (limits : Limits) (old new : List (List Byte)) : Type 0 where
  pub dumped : State
  pub loaded : State
  pub opened : OpensTo A dumped old
  pub opens : OpensTo A loaded new
  pub rows : IsUnder limits (rows_of 1 dumped) loaded
  pub own : limits ≡ dumped.registered.limits → loaded ≡ dumped

-- The dump of this register was not loaded: memory ran out, or the dump was not read; or its rows make no register under these limits, and
-- a row of it is at fault for its place.
abbrev pub HasNoPlace : Limits → State → LoadFault → Type 0
HasNoPlace limits s load.Memory = Unit {0}
HasNoPlace limits s load.Read = Unit {0}
HasNoPlace limits s (load.Line n cause) = (state_of_rows limits (rows_of 1 s) ≡ None) × (cause ≡ Place)
HasNoPlace limits s (load.Cut n) = ⊥

-- the dump of a register of this state is refused under these limits, with this fault
pub record IsDumpRefused (limits : Limits) (s : State) (fault : LoadFault) : Type 0 where
  pub state : IsState s
  pub ranges : StateInRange s
  pub refused : IsLoadFault (text_read limits (register_bytes s)) fault

-- ---- a disk that is made of the dump of another

-- the disk was made for the register that is read in this text, under the layout's limits
pub record IsMadeOf (A : Type 0) (layout : Layout) (text : List Byte) (disk : View) : Type 0 where
  pub register : State
  pub read : text_read layout.limits text ≡ Ok register
  pub made : IsMadeFor A layout register disk

-- Of a disk, its view is given. Of a writer, `contents` is what is known of its contents. `took` and `flushed` relate the writer before and after it
-- takes bytes or is flushed.
module _ (A : Type 0) {D W : Type 0} (view : D → View) (contents : W → Option (List Byte)) (took : W → List Byte → W → Type 0) (flushed : W → W → Type 0) where
  -- an honest disk, and the writer before and after its dump was written
  pub record Dump : Type 0 where
    pub disk : D
    pub before : W
    pub after : W
    pub honest : (view disk).honest
    pub dumped : IsDumpedBy A contents took flushed before after (view disk)

  -- a dump, and a disk of this layout that was made of a text
  pub record Copy : Type 0 where
    pub dump : Dump
    pub layout : Layout
    pub text : List Byte
    pub disk : D
    pub made : IsMadeOf A layout text (view disk)

module _ {A D W : Type 0} {view : D → View} {contents : W → Option (List Byte)} {took : W → List Byte → W → Type 0} {flushed : W → W → Type 0}
    (copy : Copy A view contents took flushed) where
  -- the text is the one that was dumped
  abbrev pub IsOfDump : Type 0
  IsOfDump = copy.text ≡ register_bytes copy.dump.dumped.register

  -- The writer held nothing before the dump. A reader gives what the writer held after the dump, and the copy's text is all that the reader gives.
  pub record ReadsBack (given : Option (List Byte)) : Type 0 where
    pub nothing : contents copy.dump.before ≡ Some []
    pub same : given ≡ contents copy.dump.after
    pub all : IsAll given copy.text

  -- the new disk opens to the register of the old one under its layout's limits, also after a stop at any moment
  abbrev pub KeepsRegister : Type 0
  KeepsRegister = InEach (view copy.disk) (IsSameUnder A copy.layout.limits (view copy.dump.disk).reads)
