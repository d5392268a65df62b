-- The life of a disk: it begins with a register on it, the base. Stores are opened on it, and calls of a store follow each
-- other. At any moment, between two calls or within one, the disk may stop; it then comes back as an image that the stop left.
use Rattle.std.specs.Prelude.{◌≡◌, ◌⊎◌, Bool, IsTrue, true, false, List, [], ◌∷◌, ◌++◌, Ok, Option, map, if◌then◌else◌}
use Rattle.identity.specs.Numbers.{Byte}
use Rattle.sector_disk.specs.Numbers.{Sector}
use Rattle.sector_disk.specs.Disk.{View, IsImageOf}
use Rattle.sector_disk.specs.Run.{LeavesOnly}
use Rattle.sector_disk.specs.declared.disk.Disk.{Ghosts}
use Rattle.std.specs.List.{Contains}
use Rattle.mailbox.specs.Values.{Item}
use Rattle.mailbox.specs.Item.{is_message}
use Rattle.centre_core.specs.Asked.{Asked}
use Rattle.centre_core.specs.State.{IsState, State}
use Rattle.centre_core.specs.History.{after, is_acceptance, made, next}
use Rattle.centre_core.specs.Same.{under}
use Rattle.centre_core.specs.Histories.{IsHistory}
use Rattle.image_rows.specs.Numbers.{Epoch}
use Rattle.gated_journal.specs.declared.place.Place.{Place}
use Rattle.checkpoint.specs.declared.layout.Layout.{Layout}
use Rattle.checkpoint.specs.declared.side.Side.{Side}
use Rattle.checkpoint.specs.OnSide.{InEach}
use Rattle.recovery.specs.Opens.{Opening, opening, opens}
use Rattle.recovery.specs.OpensTo.{OpensTo}
use Rattle.recovery.specs.UnderWay.{IsKept}
use Rattle.recovery.specs.Lasting.{LacksWhereEnded}
use Rattle.recovery.specs.Outcomes.{AreRecorded, OpensToEither}
use Rattle.recovery.specs.declared.ongoing.Ongoing.{Ongoing}
use Rattle.recovery.specs.declared.store.Store.{Store}
use Rattle.recovery.specs.declared.outcome.Outcome.{Outcome}
use Rattle.recovery.specs.declared.outcome.Outcome.TheVariants.{NoMemory, Replied}

-- ---- where the disk is

-- the model of a store with its disk; its journals take their memory under the allocator A
pub record StoreView (A D : Type 0) : Type 0 where
  pub layout : Layout
  pub side : Side
  pub epoch : Epoch
  pub journal : Place
  pub ongoing : Option (Ongoing A)
  pub register : State
  pub broken : Bool
  pub disk : D
  -- the disk as it was when the store was opened
  pub found : D

-- a disk on which no store is open, or a store with its disk
pub data Phase (A D : Type 0) : Type 0 where
  Closed : D → Phase A D
  Open : StoreView A D → Phase A D

-- the disk
abbrev pub disk_of : {A D : Type 0} → Phase A D → D
disk_of (Closed disk) = disk
disk_of (Open store) = store.disk

-- the model of a store
abbrev pub view_of : {A D : Type 0} {g : Ghosts D} → Store A D g → StoreView A D
view_of store = record {
  layout = store.layout;
  side = store.side;
  epoch = store.epoch;
  journal = store.journal;
  ongoing = store.ongoing;
  register = store.register;
  broken = store.broken;
  disk = store.disk;
  found = store.found.value;
}

-- the disk was honest when the store was opened, and is
abbrev pub HasBeenHonest : {A D : Type 0} → (D → View) → StoreView A D → Type 0
HasBeenHonest view store = (view store.found).honest × (view store.disk).honest

-- what is the same before and after a call
module _ {A D : Type 0} {g : Ghosts D} (old new : Store A D g) where
  -- the layout, the register, the register from before the call, and the disk as it was found are the same
  abbrev pub HasSameRegister : Type 0
  HasSameRegister =
      (new.layout ≡ old.layout) × (new.register ≡ old.register) × (new.before ≡ old.before) × (new.found.value ≡ old.found.value)

  -- all is the same but the journals, the disk, and whether the store is broken
  abbrev pub HasSameButJournals : Type 0
  HasSameButJournals =
      (new.layout ≡ old.layout) × (new.side ≡ old.side) × (new.epoch ≡ old.epoch)
      × (new.register ≡ old.register) × (new.before ≡ old.before) × (new.found.value ≡ old.found.value)

-- ---- calls

-- a call, with the commands that it accepted: it was answered, or it was not, since it failed or a stop came first
pub data Event (A : Type 0) : Type 0 where
  Answered : List (Asked A) → Event A
  Unanswered : List (Asked A) → Event A

-- those of the commands whose outcome is an acceptance
abbrev pub acknowledged_of : {B C : Type 0} → List (Asked B) → List (Outcome C) → List (Asked B)
acknowledged_of [] outcomes = []
acknowledged_of (c ∷ cs) [] = []
acknowledged_of (c ∷ cs) (Replied reply ∷ outcomes) = if is_acceptance reply then c ∷ acknowledged_of cs outcomes else acknowledged_of cs outcomes
acknowledged_of (c ∷ cs) (NoMemory ∷ outcomes) = acknowledged_of cs outcomes

-- a batch was answered with these outcomes; the disk keeps its commands under the allocator A
abbrev pub answered : {B C : Type 0} (A : Type 0) → List (Asked B) → List (Outcome C) → Event A
answered A commands outcomes = Answered (map (under A) (acknowledged_of commands outcomes))

module _ {A : Type 0} where
  -- a stop came before the answer
  abbrev pub stopped : Event A → Event A
  stopped (Answered cs) = Unanswered cs
  stopped (Unanswered cs) = Unanswered cs

  -- Of these events, the last one first, the disk keeps these commands: all of each call that was answered, and of each
  -- other call all or none.
  abbrev pub AreKept : List (Event A) → List (Asked A) → Type 0
  AreKept [] kept = kept ≡ []
  AreKept (Answered cs ∷ events) kept = (before : List (Asked A)) × AreKept events before × (kept ≡ before ++ cs)
  AreKept (Unanswered cs ∷ events) kept = AreKept events kept ⊎ ((before : List (Asked A)) × AreKept events before × (kept ≡ before ++ cs))

module _ {D : Type 0} (A : Type 0) (view : D → View) where
  -- a register in this state is on the store's disk
  abbrev pub IsKeptAs : State → StoreView A D → Type 0
  IsKeptAs state store = IsKept A store.layout store.side store.epoch store.journal store.ongoing state (view store.disk)

  -- the store's register is on its disk
  abbrev pub IsStoredIn : StoreView A D → Type 0
  IsStoredIn store = IsKeptAs store.register store

  -- P holds if the disk is honest and a register in this state is on it
  abbrev pub WhereKeptAs : State → StoreView A D → Type 0 → Type 0
  WhereKeptAs state store P = (view store.disk).honest → IsKeptAs state store → P

  -- P holds if the disk is honest and the store's register is on it
  abbrev pub WhereKept : StoreView A D → Type 0 → Type 0
  WhereKept store P = WhereKeptAs store.register store P

  -- a stop at any moment from the one store to the other leaves an image with P, if the register was on the disk
  abbrev pub StopsLeave : StoreView A D → StoreView A D → (List (List Byte) → Type 0) → Type 0
  StopsLeave old new P = WhereKept old (LeavesOnly (view old.disk) (view new.disk) P)

  -- the new store's register is on its disk, if the old one's was
  abbrev pub StaysKept : StoreView A D → StoreView A D → Type 0
  StaysKept old new = WhereKept old (IsStoredIn new)

  -- a store is opened on the disk
  pub record HasOpened (old : D) (new : StoreView A D) : Type 0 where
    pub honest : (view new.disk).honest
    pub opened : opens A (view old).reads ≡ Ok (opening new.layout new.side new.epoch new.journal.next new.register)
    pub kept : IsStoredIn new
    pub found : new.found ≡ old
    pub left : LeavesOnly (view old) (view new.disk) (IsImageOf (view old))

  -- an opening fails, and returns the disk
  pub record HasNotOpened (old new : D) : Type 0 where
    pub honest : (view new).honest
    pub left : LeavesOnly (view old) (view new) (IsImageOf (view old))

  -- a call of a store accepts these commands; a broken store does nothing
  pub record HasAccepted (old new : StoreView A D) (accepted : List (Asked A)) : Type 0 where
    pub honest : (view new.disk).honest
    pub history : IsHistory old.register accepted
    pub made : new.register ≡ after old.register accepted
    pub any_moment : IsStoredIn old → LeavesOnly (view old.disk) (view new.disk) (OpensToEither A old.register new.register)
    pub kept : new.broken ≡ false → IsStoredIn old → IsStoredIn new
    pub broken : old.broken ≡ true → new ≡ old

  -- one call: where the disk was, what happened, and where it is then
  pub data IsCall : Phase A D → Event A → Phase A D → Type 0 where
    nothing : (phase : Phase A D) → IsCall phase (Answered []) phase
    opens_to : (old : D) (new : StoreView A D) → HasOpened old new → IsCall (Closed old) (Answered []) (Open new)
    opens_not : (old new : D) → HasNotOpened old new → IsCall (Closed old) (Answered []) (Closed new)
    closes : (store : StoreView A D) → IsCall (Open store) (Answered []) (Closed store.disk)
    answers : (old new : StoreView A D) (accepted : List (Asked A)) → HasAccepted old new accepted → new.broken ≡ false
        → IsCall (Open old) (Answered accepted) (Open new)
    fails : (old new : StoreView A D) (accepted : List (Asked A)) → HasAccepted old new accepted → IsCall (Open old) (Unanswered accepted) (Open new)

  -- a call for these commands is answered, with these outcomes
  abbrev pub IsAnsweredCall : {B C : Type 0} → StoreView A D → List (Asked B) → List (Outcome C) → StoreView A D → Type 0
  IsAnsweredCall old commands outcomes new = IsCall (Open old) (answered A commands outcomes) (Open new)

  -- a call for these commands is not answered: all or none of the accepted ones are kept
  abbrev pub IsUnansweredCall : {B : Type 0} → StoreView A D → List (Asked B) → StoreView A D → Type 0
  IsUnansweredCall old commands new =
      (recorded : List (Asked A)) × AreRecorded A old.register commands new.register recorded
      × IsCall (Open old) (Unanswered recorded) (Open new)

  -- if the disk is honest, the call is answered with these outcomes
  abbrev pub IsAnsweredOnHonest : {B C : Type 0} → StoreView A D → List (Asked B) → List (Outcome C) → StoreView A D → Type 0
  IsAnsweredOnHonest old commands outcomes new = (view old.disk).honest → IsAnsweredCall old commands outcomes new

  -- if the disk is honest, the call for these commands is not answered
  abbrev pub IsUnansweredOnHonest : {B : Type 0} → StoreView A D → List (Asked B) → StoreView A D → Type 0
  IsUnansweredOnHonest old commands new = (view old.disk).honest → IsUnansweredCall old commands new

  -- ---- the life

  -- the disk comes back after a stop as this image, and nothing is pending
  pub record ComesBack (image : List (List Byte)) (disk : D) : Type 0 where
    pub honest : (view disk).honest
    pub reads : (view disk).reads ≡ image
    pub durable : (k : Sector) → (view disk).pending k ≡ false

  -- The events of a life so far, the last one first, and where the disk is. It begins with an honest disk that opens to the base after
  -- each stop. Then each event is a call, or a call in which a stop comes. The stop leaves an image of some moment of the call
  -- (`stops`). Among several calls the image may be known by what it opens to: the register before or after one of them (`stops_in`).
  pub data IsLife (base : State) : List (Event A) → Phase A D → Type 0 where
    begins : (disk : D) → (view disk).honest → InEach (view disk) (OpensTo A base) → IsLife base [] (Closed disk)
    goes_on : (events : List (Event A)) (old new : Phase A D) (event : Event A)
        → IsLife base events old → IsCall old event new → IsLife base (event ∷ events) new
    stops : (events : List (Event A)) (old new : Phase A D) (event : Event A) (image : List (List Byte)) (disk : D)
        → IsLife base events old → IsCall old event new
        → (view (disk_of new)).since (view (disk_of old)).moment image → ComesBack image disk → IsLife base (stopped event ∷ events) (Closed disk)
    stops_in : (events : List (Event A)) (old new : StoreView A D) (accepted : List (Asked A)) (image : List (List Byte)) (disk : D)
        → IsLife base events (Open old) → HasAccepted old new accepted → old.broken ≡ false
        → OpensToEither A old.register new.register image → ComesBack image disk → IsLife base (Unanswered accepted ∷ events) (Closed disk)

-- ---- what lasts

module _ (A : Type 0) (base : State) where
  -- each message that waits in the base, or that one of these commands makes, is missing in the image exactly if a later one of them ends it
  pub record LosesNoMessage (kept : List (Asked A)) (image : List (List Byte)) : Type 0 where
    pub from_base : (m : Item) → IsTrue (is_message m) → Contains base.mail.items m → LacksWhereEnded A image m base kept
    pub from_commands : (bs : List (Asked A)) (c : Asked A) (cs : List (Asked A)) (m : Item) → kept ≡ bs ++ c ∷ cs
        → Contains (made (after base bs) c) m → LacksWhereEnded A image m (next (after base bs) c) cs

  -- The image opens to the register that the kept commands of these events made of the base, each accepted in its turn.
  pub record Lasts (events : List (Event A)) (image : List (List Byte)) : Type 0 where
    pub state : IsState base
    pub kept : List (Asked A)
    pub are : AreKept events kept
    pub history : IsHistory base kept
    pub reopens : OpensTo A (after base kept) image

  -- The register of the store is what the kept commands of these events made of the base, each accepted in its turn.
  pub record LastsInStore {D : Type 0} (events : List (Event A)) (store : StoreView A D) : Type 0 where
    pub state : IsState base
    pub kept : List (Asked A)
    pub are : AreKept events kept
    pub history : IsHistory base kept
    pub made : store.register ≡ after base kept

-- ---- laws of lives

module _ {D : Type 0} (A : Type 0) (view : D → View) where
  -- a life may begin with an honest disk that opens to a register after each stop
  abbrev pub BeginsWhereEachOpens : Type 0
  BeginsWhereEachOpens =
      (base : State) (disk : D) → (view disk).honest → InEach (view disk) (OpensTo A base) → IsLife A view base [] (Closed disk)

  -- a life may begin with an honest disk on which nothing is pending, and the register that it opens to as it reads
  abbrev pub BeginsWhereDurable : Type 0
  BeginsWhereDurable =
      (opening : Opening) (disk : D) → (view disk).honest → ((k : Sector) → (view disk).pending k ≡ false)
      → opens A (view disk).reads ≡ Ok opening → IsLife A view opening.state [] (Closed disk)

  -- each image that a stop may leave is what lasts of the events
  abbrev pub LastsOnDisk : Type 0
  LastsOnDisk =
      (base : State) (events : List (Event A)) (now : Phase A D) → IsLife A view base events now
      → InEach (view (disk_of now)) (Lasts A base events)

  -- the register of a store that is not broken is what lasts of the events, and it is on the disk
  abbrev pub LastsWhereSound : Type 0
  LastsWhereSound =
      (base : State) (events : List (Event A)) (store : StoreView A D) → IsLife A view base events (Open store)
      → store.broken ≡ false → IsStoredIn A view store × LastsInStore A base events store

-- no message is lost in what lasts
abbrev pub NoMessageIsLost : Type 0 → Type 0
NoMessageIsLost A =
    (base : State) (events : List (Event A)) (image : List (List Byte)) (lasts : Lasts A base events image) → LosesNoMessage A base lasts.kept image
