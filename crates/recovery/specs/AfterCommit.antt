-- Where a commit leaves a store: the side that counts, its journal, and the checkpoint that is under way.
use Rattle.std.specs.Prelude.{◌≡◌, ◌+◌, Bool, true, false, List, [], ◌∷◌, IfSome, Option, None, Some, option_map}
use Rattle.centre_core.specs.Asked.{Asked}
use Rattle.gated_journal.specs.Settled.{following}
use Rattle.checkpoint.specs.Layout.{other_of}
use Rattle.checkpoint.specs.Progress.{written_after}
use Rattle.image_rows.specs.Numbers.{Epoch}
use Rattle.recovery.specs.declared.ongoing.Ongoing.{Ongoing}
use Rattle.recovery.specs.Lives.{StoreView}
use Rattle.recovery.specs.Stored.{fresh_place}
use Rattle.recovery.specs.UnderWay.{MayBegin, ends_with}

-- the checkpoint that is under way, if there is one, with its journal after a record of these commands
abbrev pub ongoing_after : {A : Type 0} → Option (Ongoing A) → List (Asked A) → Option (Ongoing A)
ongoing_after {A} ongoing cs = option_map {T = Ongoing A} (λ it. record it { journal = following it.journal cs }) ongoing

-- a store after a record of these commands, in its journal and in that of a checkpoint under way
abbrev pub with_record : {A D : Type 0} → StoreView A D → List (Asked A) → StoreView A D
with_record store cs = record store { journal = following store.journal cs; ongoing = ongoing_after store.ongoing cs }

-- a store as it was if the record fits (`true`), else after a checkpoint that made room
abbrev pub with_room : {A D : Type 0} → Bool → StoreView A D → StoreView A D
with_room true store = store
with_room false store = record store {
  side = other_of store.side;
  epoch = store.epoch + 1;
  journal = fresh_place store.layout (other_of store.side) store.register.count;
  ongoing = None;
}

-- the next rows of a checkpoint are written, from `was` to `is`, where `epoch` is that of the side that counts; its register and
-- its journal stay
pub record HasWrittenRows {A : Type 0} (epoch : Epoch) (was is : Ongoing A) : Type 0 where
  pub register : is.register ≡ was.register
  pub written : is.progress.written ≡ written_after (epoch + 1) was.register was.progress.written
  pub journal : is.journal ≡ was.journal

module _ {A D : Type 0} (old new : StoreView A D) where
  -- new has the side that counts, its epoch and its journal from old
  pub record Stays : Type 0 where
    pub side : new.side ≡ old.side
    pub epoch : new.epoch ≡ old.epoch
    pub journal : new.journal ≡ old.journal

  -- this checkpoint has begun, as it may: of the register as it is in new, with no row written and no record
  pub record HasBegun (it : Ongoing A) : Type 0 where
    pub register : it.register ≡ new.register
    pub written : it.progress.written ≡ 0
    pub journal : it.journal ≡ fresh_place old.layout (other_of old.side) new.register.count
    pub may : MayBegin old.layout old.epoch old.journal

  -- the side of this checkpoint counts, with the next epoch and the checkpoint's journal; no checkpoint is under way
  pub record HasEnded (was : Ongoing A) : Type 0 where
    pub side : new.side ≡ other_of old.side
    pub epoch : new.epoch ≡ old.epoch + 1
    pub journal : new.journal ≡ was.journal
    pub none : new.ongoing ≡ None

  -- this checkpoint is still under way in new, and its next rows are written
  abbrev pub HasNextRows : Ongoing A → Type 0
  HasNextRows was = (is : Ongoing A) × (new.ongoing ≡ Some is) × HasWrittenRows old.epoch was is

  -- the next rows of this checkpoint are written; if they end the image (`true`), the checkpoint's side counts
  abbrev pub GoesBy : Ongoing A → Bool → Type 0
  GoesBy was false = Stays × HasNextRows was
  GoesBy was true = HasEnded was

  -- after a record a checkpoint that is under way continues; if none is, one may begin
  abbrev pub GoesOn : Option (Ongoing A) → Type 0
  GoesOn None = Stays × IfSome new.ongoing HasBegun
  GoesOn (Some was) = GoesBy was (ends_with (old.epoch + 1) was.register was.progress.written)

-- new has the side that counts, its epoch, its journal and the checkpoint under way from old if the record fits (`true`), else
-- as a checkpoint that made room left them
abbrev pub HasRoom : {A D : Type 0} → StoreView A D → StoreView A D → Bool → Type 0
HasRoom old new fits = Stays (with_room fits old) new × (new.ongoing ≡ (with_room fits old).ongoing)

-- a checkpoint was made: the other side counts, with the next epoch and no record, and no checkpoint is under way
abbrev pub HasMoved : {A D : Type 0} → StoreView A D → StoreView A D → Type 0
HasMoved old new = HasRoom old new false

-- where a commit of these commands leaves the store; without commands nothing is changed
abbrev pub HasKept : {A D : Type 0} → StoreView A D → StoreView A D → List (Asked A) → Type 0
HasKept old new [] = Stays old new × (new.ongoing ≡ old.ongoing)
HasKept old new (c ∷ cs) = GoesOn (with_record old (c ∷ cs)) new (ongoing_after old.ongoing (c ∷ cs))
