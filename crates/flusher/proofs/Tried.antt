-- What one call of the store comes to.
use Rattle.std.specs.Prelude.{◌⊎◌, Bool, not, is_some, map, Result, Ok, Err, IsErrOf, IfOk, IfErr, OnOk, OnErr, Vec}
use Rattle.std.specs.Borrow.{Bor}
use Rattle.std.specs.declared.alloc.Global.{Global}
use Rattle.std.proofs.Common.{◌≡◌, ℕ, suc, ◌+◌, ◌*◌, ◌^◌, ◌<◌, ◌≤◌, inl, inr, true, false, true≢false, List, [], ◌∷◌, ◌++◌, length, refl, ap, sym, ◌∙◌, subst, arith}
use Rattle.sector_disk.specs.Disk.{HasFailed, View}
use Rattle.centre_core.specs.Asked.{Asked}
use Rattle.centre_core.specs.Same.{under}
use Rattle.image_rows.specs.Rows.{last_epoch}
use Rattle.gated_journal.specs.Record.{data_size, given, most_data_sectors, record_text}
use Rattle.gated_journal.specs.declared.form.Form.{Form}
use Rattle.gated_journal.specs.declared.place.Place.{Place}
use Rattle.command_bytes.specs.Text.{command_text, longest}
use Rattle.std.specs.List.{flat_map}
use Rattle.gated_journal.proofs.Given.{given_size}
use Rattle.gated_journal.proofs.Written.{head_most}
use Rattle.gated_journal.specs.Settled.{room_of, text_at}
use Rattle.checkpoint.specs.declared.layout.Layout.{Layout}
use Rattle.checkpoint.specs.declared.side.Side.{Side}
use Rattle.recovery.specs.declared.outcome.Outcome.{Outcome}
use Rattle.recovery.specs.declared.fault.StoreFault.{StoreFault}
use Rattle.recovery.specs.declared.fault.StoreFault.TheVariants.{BadGeometry, Broken, Damaged, DiskFault, EpochsUsedUp, NoMemory, Unformatted, Unready}
use Rattle.recovery.specs.Lives.{StoreView, IsStoredIn}
use Rattle.recovery.specs.Calls.{commit_calls_by}
use Rattle.recovery.specs.AfterCommit.{HasKept, HasRoom}
use Rattle.recovery.specs.Outcomes.{AreRecorded, IsAnswered, IsAfterBatch, asked}
use Rattle.recovery.specs.Refusals.{IsOfCheckpoint, IsOfCommit}
use Rattle.recovery.specs.Stored.{fresh_place}
use Rattle.recovery.proofs.Stored.{fits_fresh}
use Rattle.recovery.proofs.Committed.{none_kept, room_kept}
use Rattle.snapshots.specs.Counts.{IsNext}
use Rattle.flusher.specs.declared.committing.Attempts.{Attempts}
use Rattle.flusher.specs.Attempts.{HasAttempted, WasOutOfMemory}
use Rattle.flusher.specs.Batches.{AreKept, HasMadeRoom, HasRecorded, HasTried, IsAnswerOf, IsRefusedBy, IsUndone, LacksRoom}

abbrev G : Type 0
G = Asked Global

abbrev Answers : Type 0
Answers = Result (Vec (Outcome Global) Global) StoreFault

pub not_empty : {X Y : Type 0} (xs : List X) (ys : List Y) → length ys ≡ length xs → 0 < length xs → ys ≡ [] → ⊥
not_empty xs ys same some e = let n = ap length e in absurd (omega (arith, same, some, n))

pub length-asked : {B : Type 0} (cs : List (Bor (Asked B))) → length (asked cs) ≡ length cs
length-asked [] = refl
length-asked (c ∷ cs) = ap suc (length-asked cs)

pub given_asked : (cs : List (Bor G)) → map (under Global) (asked cs) ≡ given Global cs
given_asked [] = refl
given_asked (c ∷ cs) = ap (λ l. under Global c.now ∷ l) (given_asked cs)

pub lacks_by : (place : Place) (cs : List (Bor G)) → room_of place < data_size (text_at Global place cs) → LacksRoom place (asked cs)
lacks_by place cs h = subst (λ l. room_of place < data_size (record_text place.form place.count l)) (sym (given_asked cs)) h

pub on_ok : {T E : Type 0} (X Y Z : Type 0) (r : Result T E) → X → Y → OnOk r (X → Y → Z) → OnOk r Z
on_ok X Y Z (Ok t) x y h = h x y
on_ok X Y Z (Err e) x y h = tt

module _ {D : Type 0} (view : D → View) (old new : StoreView Global D) where
  up : new ≡ old → old.broken ≡ false → new.broken ≡ true → ⊥
  up same sound broken = true≢false (sym broken ∙ ap (λ (s : StoreView Global D). s.broken) same ∙ sound)

  stays : new ≡ old → IsStoredIn Global view old → IsStoredIn Global view new
  stays same h = subst (λ (s : StoreView Global D). IsStoredIn Global view s) (sym same) h

  -- ---- a commit

  -- what the store says of its record
  pub kept_of : (cmds : List G) (r : Answers) → OnOk r ((recorded : List G) × (was_open : Bool) × AreRecorded Global old.register cmds new.register recorded × HasKept old new recorded
      × ((view new.disk).calls ≡ (view old.disk).calls ++ commit_calls_by old.layout old.side old.epoch old.journal old.ongoing recorded
      (is_some new.ongoing) was_open)) → OnOk r (AreKept cmds old new true)
  kept_of cmds (Ok o) h = record { recorded = h.0; these = h.2; kept = h.3 }
  kept_of cmds (Err e) h = tt

  pub tried_by : (cmds : List G) (r : Answers) → old.broken ≡ false → (cmds ≡ [] → ⊥)
      → IfOk r (λ o. IsAnswered old.register cmds new.register o.items) → OnOk r (new.broken ≡ false)
      → (IsErrOf r Broken → old.broken ≡ true) → (IsErrOf r NoMemory → new ≡ old)
      → (IsErrOf r Unready → (new ≡ old) × LacksRoom old.journal cmds) → (IsErrOf r DiskFault → new.broken ≡ true)
      → OnErr r ((new.register ≡ old.register) ⊎ IsAfterBatch old.register cmds new.register) → IfErr r IsOfCommit → OnOk r (AreKept cmds old new true) → HasTried cmds old new r
  tried_by cmds (Ok o) sound some answered up only memory unready fault register kinds kept = (record { answered = answered; sound = up }, kept)
  tried_by cmds (Err Unformatted) sound some answered up only memory unready fault register kinds kept = absurd kinds
  tried_by cmds (Err BadGeometry) sound some answered up only memory unready fault register kinds kept = absurd kinds
  tried_by cmds (Err (Damaged at)) sound some answered up only memory unready fault register kinds kept = absurd kinds
  tried_by cmds (Err DiskFault) sound some answered up only memory unready fault register kinds kept = record {
    broken = fault refl;
    some = some;
    in_checkpoint = false;
    lacks = λ e. absurd (true≢false (sym e));
    unmoved = λ e. absurd (true≢false (sym e));
    register = register;
  }
  tried_by cmds (Err Broken) sound some answered up only memory unready fault register kinds kept = absurd (true≢false (sym (only refl) ∙ sound))
  tried_by cmds (Err NoMemory) sound some answered up only memory unready fault register kinds kept = memory refl
  tried_by cmds (Err EpochsUsedUp) sound some answered up only memory unready fault register kinds kept = absurd kinds
  tried_by cmds (Err Unready) sound some answered up only memory unready fault register kinds kept = unready refl

  pub tried_kept : (cmds : List G) (r : Answers) → HasTried cmds old new r → OnOk r (IsStoredIn Global view new) → IsStoredIn Global view old → new.broken ≡ false → IsStoredIn Global view new
  tried_kept cmds (Ok o) h kept stored sound = kept
  tried_kept cmds (Err DiskFault) h kept stored sound = absurd (true≢false (sym h.broken ∙ sound))
  tried_kept cmds (Err NoMemory) h kept stored sound = stays h stored
  tried_kept cmds (Err Unready) h kept stored sound = stays h.0 stored
  tried_kept cmds (Err EpochsUsedUp) h kept stored sound = absurd h
  tried_kept cmds (Err Broken) h kept stored sound = absurd h
  tried_kept cmds (Err Unformatted) h kept stored sound = absurd h
  tried_kept cmds (Err BadGeometry) h kept stored sound = absurd h
  tried_kept cmds (Err (Damaged at)) h kept stored sound = absurd h

  pub tried_failed : (cmds : List G) (r : Answers) → old.broken ≡ false → HasTried cmds old new r →
      (IsErrOf r DiskFault → HasFailed (view old.disk) (view new.disk)) → new.broken ≡ true → HasFailed (view old.disk) (view new.disk)
  tried_failed cmds (Ok o) sound h failed broken = absurd (true≢false (sym broken ∙ h.0.sound))
  tried_failed cmds (Err DiskFault) sound h failed broken = failed refl
  tried_failed cmds (Err NoMemory) sound h failed broken = absurd (up h sound broken)
  tried_failed cmds (Err Unready) sound h failed broken = absurd (up h.0 sound broken)
  tried_failed cmds (Err EpochsUsedUp) sound h failed broken = absurd h
  tried_failed cmds (Err Broken) sound h failed broken = absurd h
  tried_failed cmds (Err Unformatted) sound h failed broken = absurd h
  tried_failed cmds (Err BadGeometry) sound h failed broken = absurd h
  tried_failed cmds (Err (Damaged at)) sound h failed broken = absurd h

  -- ---- a checkpoint

  same_view : new.layout ≡ old.layout → new.side ≡ old.side → new.epoch ≡ old.epoch → new.journal ≡ old.journal → new.ongoing ≡ old.ongoing →
      new.register ≡ old.register → new.broken ≡ old.broken → new.disk ≡ old.disk → new.found ≡ old.found → new ≡ old
  same_view a b c d e f g h k = λ i. record { layout = a i; side = b i; epoch = c i; journal = d i; ongoing = e i; register = f i; broken = g i; disk = h i; found = k i }

  pub made_by : (r : Result (Unit {0}) StoreFault) → old.broken ≡ false → (new.layout ≡ old.layout) × (new.register ≡ old.register) ×
      (new.found ≡ old.found) → OnOk r (HasRoom old new false) →
      OnErr r ((new.side ≡ old.side) × (new.epoch ≡ old.epoch) × (new.journal ≡ old.journal)) → OnOk r (new.broken ≡ false)
      → (IsErrOf r Broken → old.broken ≡ true) →
      (IsErrOf r EpochsUsedUp → (last_epoch ≤ old.epoch) × (new.disk ≡ old.disk) × (new.broken ≡ false) × (new.ongoing ≡ old.ongoing)) →
      (IsErrOf r DiskFault → new.broken ≡ true)
      → IfErr r IsOfCheckpoint → HasMadeRoom old new r
  made_by (Ok done) sound same room unmoved up only epochs fault kinds = record {
    undone = record { register = same.1; sound = up };
    layout = same.0;
    room = room;
  }
  made_by (Err Unformatted) sound same room unmoved up only epochs fault kinds = absurd kinds
  made_by (Err BadGeometry) sound same room unmoved up only epochs fault kinds = absurd kinds
  made_by (Err (Damaged at)) sound same room unmoved up only epochs fault kinds = absurd kinds
  made_by (Err DiskFault) sound same room unmoved up only epochs fault kinds = (same.1, fault refl)
  made_by (Err Broken) sound same room unmoved up only epochs fault kinds = absurd (true≢false (sym (only refl) ∙ sound))
  made_by (Err NoMemory) sound same room unmoved up only epochs fault kinds = absurd kinds
  made_by (Err Unready) sound same room unmoved up only epochs fault kinds = absurd kinds
  made_by (Err EpochsUsedUp) sound same room unmoved up only epochs fault kinds =
      let e = epochs refl in
      (same_view same.0 unmoved.0 unmoved.1 unmoved.2 e.3 same.1 (e.2 ∙ sym sound) e.1 same.2, e.0)

  pub made_kept : (r : Result (Unit {0}) StoreFault) → HasMadeRoom old new r → OnOk r (IsStoredIn Global view new) → IsStoredIn Global view old → new.broken ≡ false → IsStoredIn Global view new
  made_kept (Ok done) h kept stored sound = kept
  made_kept (Err DiskFault) h kept stored sound = absurd (true≢false (sym h.1 ∙ sound))
  made_kept (Err EpochsUsedUp) h kept stored sound = stays h.0 stored
  made_kept (Err NoMemory) h kept stored sound = absurd h
  made_kept (Err Unready) h kept stored sound = absurd h
  made_kept (Err Broken) h kept stored sound = absurd h
  made_kept (Err Unformatted) h kept stored sound = absurd h
  made_kept (Err BadGeometry) h kept stored sound = absurd h
  made_kept (Err (Damaged at)) h kept stored sound = absurd h

  pub made_failed : (r : Result (Unit {0}) StoreFault) → old.broken ≡ false → HasMadeRoom old new r →
      (IsErrOf r DiskFault → HasFailed (view old.disk) (view new.disk)) → new.broken ≡ true → HasFailed (view old.disk) (view new.disk)
  made_failed (Ok done) sound h failed broken = absurd (true≢false (sym broken ∙ h.undone.sound))
  made_failed (Err DiskFault) sound h failed broken = failed refl
  made_failed (Err EpochsUsedUp) sound h failed broken = absurd (up h.0 sound broken)
  made_failed (Err NoMemory) sound h failed broken = absurd h
  made_failed (Err Unready) sound h failed broken = absurd h
  made_failed (Err Broken) sound h failed broken = absurd h
  made_failed (Err Unformatted) sound h failed broken = absurd h
  made_failed (Err BadGeometry) sound h failed broken = absurd h
  made_failed (Err (Damaged at)) sound h failed broken = absurd h

-- ---- a commit with a checkpoint before it, or without one

more_or_not : (n : ℕ) → (n + 1 < 2 ^ 64) ⊎ (2 ^ 64 ≤ n + 1)
more_or_not n = grind arith

next_other : (n m : ℕ) → IsNext n m → m ≡ n → ⊥
next_other n m h e = elim (more_or_not n) [ inl q ↦ let is = h.0 q in omega (arith, is, e) | inr q ↦ let is = h.1 q in omega (arith, is, e, q) ]

two_other : (n m k : ℕ) → IsNext n m → IsNext m k → k ≡ n → ⊥
two_other n m k f h e = elim (more_or_not n) [
  | inl q ↦ let is = f.0 q in elim (more_or_not m) [ inl p ↦ let next = h.0 p in omega (arith, is, next, e) | inr p ↦ let next = h.1 p in omega (arith, is, next, e, p) ]
  | inr q ↦ let is = f.1 q in let next = h.0 (omega (arith, is)) in omega (arith, is, next, e, q)
]

pub out_at : (was now : Attempts) (r : Answers) → HasAttempted was r now → IsErrOf r NoMemory → WasOutOfMemory was now
out_at was now r h is = record { refused = h.exact.1 is; tried = next_other was.count now.count h.counted }

pub out_after : (was mid now : Attempts) (q r : Answers) → HasAttempted was q mid → HasAttempted mid r now → IsErrOf r NoMemory → WasOutOfMemory was now
out_after was mid now q r f h is = record { refused = h.exact.1 is; tried = two_other was.count mid.count now.count f.counted h.counted }

-- nothing was done
pub undone_self : {D : Type 0} (store : StoreView Global D) → store.broken ≡ false → IsUndone store store
undone_self store sound = record { register = refl; sound = sound }

-- nothing is kept of no commands
none_recorded : {D : Type 0} (cmds : List G) (store : StoreView Global D) → AreKept cmds store store true
none_recorded cmds store = record { recorded = []; these = record { applied = 0; state = refl; these = refl }; kept = none_kept store }

-- the commit from the middle one, after a checkpoint or where the store was
module _ {D : Type 0} (cmds : List G) (old mid new : StoreView Global D) (made_room : Bool) (lacks : made_room ≡ true → LacksRoom old.journal cmds)
    (layout : mid.layout ≡ old.layout) (room : HasRoom old mid (not made_room)) (u : IsUndone old mid) where
  recorded_after : AreKept cmds mid new true → HasRecorded cmds old new
  recorded_after k = record {
    made_room = made_room;
    lacks = lacks;
    record_is = record {
      recorded = k.recorded;
      these = subst (λ s. AreRecorded Global s cmds new.register k.recorded) u.register k.these;
      kept = room_kept mid old (not made_room) layout room k.recorded new k.kept;
    };
  }

  pub answered_after : (r : Answers) (was now : Attempts) → (IsErrOf r Unready → ⊥) → (IsErrOf r NoMemory → WasOutOfMemory was now) → HasTried cmds mid new r → IsAnswerOf cmds old new r was now
  answered_after (Ok o) was now n out h = (record { answered = subst (λ s. IsAnswered s cmds new.register o.items) u.register h.0.answered; sound = h.0.sound }, recorded_after h.1)
  answered_after (Err DiskFault) was now n out h = record {
    broken = h.broken;
    some = h.some;
    in_checkpoint = false;
    lacks = λ e. absurd (true≢false (sym e));
    unmoved = λ e. absurd (true≢false (sym e));
    register = elim h.register [ inl q ↦ inl (q ∙ u.register) | inr q ↦ inr (subst (λ s. IsAfterBatch s cmds new.register) u.register q) ];
  }
  answered_after (Err NoMemory) was now n out h = (
    record { register = ap (λ (s : StoreView Global D). s.register) h ∙ u.register; sound = ap (λ (s : StoreView Global D). s.broken) h ∙ u.sound },
    out refl,
    recorded_after (subst (λ (s : StoreView Global D). AreKept cmds mid s true) (sym h) (none_recorded cmds mid)),
  )
  answered_after (Err Unready) was now n out h = absurd (n refl)
  answered_after (Err EpochsUsedUp) was now n out h = absurd h
  answered_after (Err Broken) was now n out h = absurd h
  answered_after (Err Unformatted) was now n out h = absurd h
  answered_after (Err BadGeometry) was now n out h = absurd h
  answered_after (Err (Damaged at)) was now n out h = absurd h

-- the first commit, without a checkpoint
pub answered_at_once : {D : Type 0} (cmds : List G) (old new : StoreView Global D) (r : Answers) (was now : Attempts) → old.broken ≡ false →
    (IsErrOf r Unready → ⊥) → (IsErrOf r NoMemory → WasOutOfMemory was now) → HasTried cmds old new r → IsAnswerOf cmds old new r was now
answered_at_once cmds old new r was now sound = answered_after cmds old old new false (λ e. absurd (true≢false (sym e))) refl (none_kept old) (undone_self old sound) r was now

-- a checkpoint that was not made
pub refused_before : {D : Type 0} (cmds : List G) (old new : StoreView Global D) (fault : StoreFault) (was now : Attempts) → (cmds ≡ [] → ⊥) →
    LacksRoom old.journal cmds → HasMadeRoom old new (Err fault) → IsRefusedBy cmds old new fault was now
refused_before cmds old new DiskFault was now some lacks h = record { broken = h.1; some = some; in_checkpoint = true; lacks = λ e. lacks; unmoved = λ e. h.0; register = inl h.0 }
refused_before cmds old new EpochsUsedUp was now some lacks h = (h.0, h.1, lacks)
refused_before cmds old new NoMemory was now some lacks h = absurd h
refused_before cmds old new Unready was now some lacks h = absurd h
refused_before cmds old new Broken was now some lacks h = absurd h
refused_before cmds old new Unformatted was now some lacks h = absurd h
refused_before cmds old new BadGeometry was now some lacks h = absurd h
refused_before cmds old new (Damaged at) was now some lacks h = absurd h

-- what is known of a commit that was unready
pub unready_is : {D : Type 0} (cmds : List G) (old new : StoreView Global D) (r : Answers) → IsErrOf r Unready → HasTried cmds old new r → (new ≡ old) × LacksRoom old.journal cmds
unready_is cmds old new (Err Unready) is h = h
unready_is cmds old new (Ok o) is h = absurd cc
unready_is cmds old new (Err DiskFault) is h = absurd cc
unready_is cmds old new (Err NoMemory) is h = absurd cc
unready_is cmds old new (Err EpochsUsedUp) is h = absurd h
unready_is cmds old new (Err Broken) is h = absurd h
unready_is cmds old new (Err Unformatted) is h = absurd h
unready_is cmds old new (Err BadGeometry) is h = absurd h
unready_is cmds old new (Err (Damaged at)) is h = absurd h

-- a record of 64 commands at most takes so many sectors at most
pub few_sectors : (cs : List (Bor G)) (size : ℕ) → length cs ≤ 64 → size ≡ length (flat_map (λ c. command_text c.now) cs) →
    size ≤ longest * length cs → (form : Form) (before : ℕ) → data_size (record_text form before (given Global cs)) ≤ most_data_sectors
few_sectors cs size few is most form before =
    let text = given_size Global form before cs in
    omega (arith, text, (head_most form).1, is, most, few)

-- after a checkpoint a record of them fits
pub not_again : {D : Type 0} (cs : List (Bor G)) (layout : Layout) (side : Side) (count : ℕ) (mid new : StoreView Global D) (r : Answers) →
    ((form : Form) (before : ℕ) → data_size (record_text form before (given Global cs)) ≤ most_data_sectors)
    → mid.journal ≡ fresh_place layout side count → HasTried (asked cs) mid new r → IsErrOf r Unready → ⊥
not_again cs layout side count mid new r most is h unready =
    let fits = fits_fresh Global ok_unit layout side count mid.journal cs most is in
    let lacks : room_of mid.journal < data_size (text_at Global mid.journal cs) =
    subst (λ l. room_of mid.journal < data_size (record_text mid.journal.form mid.journal.count l)) (given_asked cs)
    (unready_is (asked cs) mid new r unready h).1 in
    omega (arith, fits, lacks)
  where
    ok_unit : Result (Unit {0}) StoreFault
    ok_unit = Ok tt

-- no commands
pub none_committed : {D : Type 0} (cmds : List G) (store : StoreView Global D) (v : Vec (Outcome Global) Global) (was now : Attempts) → cmds ≡ [] →
    v.items ≡ [] → store.broken ≡ false → IsAnswerOf cmds store store (Ok v) was now
none_committed {D} cmds store v was now none empty sound = subst (λ (cs : List G). IsAnswerOf cs store store (Ok v) was now) (sym none) (
  record {
    answered = record {
      applied = 0;
      end = record { most = omega arith; wants = λ c e. absurd cc };
      state = refl;
      outcomes_are = empty;
    };
    sound = sound;
  },
  record { made_room = false; lacks = λ e. absurd (true≢false (sym e)); record_is = none_recorded [] store },
)
