-- The states of the sides of an image, and what opening makes of it.
use Rattle.std.proofs.Common.{◌≡◌, ℕ, Bool, true, false, List, [], ◌∷◌, Option, Some, None, Result, Ok, Err, IfErr, IfOk, refl, sym, subst, ap, ◌∙◌, if◌then◌else◌}
use Rattle.std.specs.Prelude.{nat_eq, nat_lt}
use Rattle.sector_disk.specs.Disk.{sector}
use Rattle.gated_journal.specs.Half.{RecordAt, Half, half_of, is_open}
use Rattle.centre_core.specs.State.{State}
use Rattle.checkpoint.specs.declared.layout.Layout.{Layout}
use Rattle.checkpoint.specs.declared.side.Side.{Side}
use Rattle.checkpoint.specs.declared.side.Side.TheVariants as side
use Rattle.checkpoint.specs.Layout.{half_at, half_end, root_at, slot_at}
use Rattle.checkpoint.specs.OnSide.{Base, slot_epoch, slot_form, slot_in}
use Rattle.checkpoint.proofs.Apart.{lies}
use Rattle.checkpoint.proofs.Epochs.{slot_has_epoch}
use Rattle.recovery.specs.declared.checking.SideState.{SideState}
use Rattle.recovery.specs.declared.checking.SideState.TheVariants as state
use Rattle.recovery.specs.declared.fault.StoreFault.{StoreFault}
use Rattle.recovery.specs.declared.fault.StoreFault.TheVariants.{BadGeometry, Broken, Damaged, DiskFault, EpochsUsedUp, NoMemory, Unformatted, Unready}
use Rattle.recovery.specs.Checking.{Agrees, Taken, epoch_of, opened_by, sector_of, state_after, state_by, state_in, stated, taken_from, taken_of}
use Rattle.recovery.specs.Figures.{figures_in}
use Rattle.recovery.specs.Label.{layout_in}
use Rattle.recovery.specs.Opening.{Fails, IsValueIn}
use Rattle.recovery.specs.Inside.Reads.{IsOfRowsOrRecords, IsOfSector}
use Rattle.recovery.specs.Opens.{Opening, base_in, chosen, headed, held_by, opening, opens, opens_by, placed, played, played_by, run, side_at, side_in, taken, ◌>>=◌}
use Rattle.recovery.proofs.Chained.{then_ok}

-- ---- a fault on a side is damage

-- each fault of this is damage
abbrev pub IsDamage : {X : Type 0} → Result X StoreFault → Type 0
IsDamage (Ok x) = Unit {0}
IsDamage (Err fault) = fault ≡ Damaged (sector_of fault)

damage_then : {X Y : Type 0} (r : Result X StoreFault) (go : X → Result Y StoreFault) → IsDamage r → ((x : X) → IsDamage (go x)) → IsDamage (r >>= go)
damage_then (Ok x) go is more = more x
damage_then (Err fault) go is more = is

damage_headed : (at : ℕ) (epoch : Option ℕ) → IsDamage (headed at epoch)
damage_headed at None = refl
damage_headed at (Some epoch) = tt

damage_if : {X : Type 0} (b : Bool) (x y : Result X StoreFault) → IsDamage x → IsDamage y → IsDamage (if b then x else y)
damage_if true x y a b = a
damage_if false x y a b = b

damage_placed : (at : ℕ) (r : Result Base ℕ) → IsDamage (placed at r)
damage_placed at (Ok base) = tt
damage_placed at (Err place) = refl

damage_taken : (at : ℕ) (s : Option State) → IsDamage (taken at s)
damage_taken at None = refl
damage_taken at (Some s) = tt

module _ {A : Type 0} where
  damage_held : (half : Half A) → IsDamage (held_by half)
  damage_held (Ok held) = tt
  damage_held (Err at) = refl

  damage_played : (s : State) (entries : List (RecordAt A)) → IsDamage (played s entries)
  unfolding played
  damage_played s [] = tt
  damage_played s (entry ∷ entries) = damage_then (taken entry.0 (run s entry.1)) (λ t. played t entries) (damage_taken entry.0 (run s entry.1)) (λ t. damage_played t entries)

module _ (layout : Layout) (s : Side) (image : List (List ℕ)) where
  pub damage_at : IsDamage (side_at layout s image)
  unfolding side_at
  damage_at = damage_if (is_open (sector image (root_at s))) (headed (slot_at layout s) (slot_epoch layout s image)) (Ok None) (damage_headed (slot_at layout s) (slot_epoch layout s image)) tt

  damage_base : IsDamage (base_in layout s image)
  unfolding base_in
  damage_base = damage_placed (slot_at layout s) (slot_in layout s image)

module _ (A : Type 0) (layout : Layout) (s : Side) (image : List (List ℕ)) where
  abbrev whole : State → Half A
  whole t = half_of (slot_form layout s image) t.count image (half_at layout s) (half_end layout s)

  damage_by : (t : State) → IsDamage (played_by A layout s t image)
  unfolding played_by
  damage_by t = damage_then (held_by (whole t)) (λ held. played t held.0 >>= λ u. Ok (u, held.1)) (damage_held (whole t))
      (λ held. damage_then (played t held.0) (λ u. Ok (u, held.1)) (damage_played t held.0) (λ u. tt))

  pub damage_opens : IsDamage (opens_by A layout s image)
  unfolding opens_by
  damage_opens = damage_then (base_in layout s image) (λ base. played_by A layout s base.1 image >>= λ end. Ok (opening layout s base.0 end.1 end.0)) (damage_base layout s image)
      (λ base. damage_then (played_by A layout s base.1 image) (λ end. Ok (opening layout s base.0 end.1 end.0)) (damage_by base.1) (λ end. tt))

module _ (image : List (List ℕ)) where
  -- a fault of reading what follows the header
  pub after_fault : (epoch : ℕ) (fault : StoreFault) (opened : Result Opening StoreFault) → (n : ℕ) → IsOfRowsOrRecords n fault → IsDamage opened → Fails fault opened
      → IsValueIn (λ (s : SideState). s) (state_after (Some epoch) fault) (Ok (state_by epoch image opened))
  after_fault epoch Unformatted opened n kind is failed = absurd kind
  after_fault epoch BadGeometry opened n kind is failed = absurd kind
  after_fault epoch (Damaged at) opened n kind is failed = rw failed refl
  after_fault epoch DiskFault opened n kind is failed = tt
  after_fault epoch Broken opened n kind is failed = absurd kind
  after_fault epoch NoMemory opened n kind is failed = tt
  after_fault epoch EpochsUsedUp opened n kind is failed = absurd kind
  after_fault epoch Unready opened n kind is failed = absurd kind

  -- a fault of reading root and header
  pub after_head_fault : (fault : StoreFault) (head : Result (Option ℕ) StoreFault) (opened : Result Opening StoreFault) → (n : ℕ) → IsOfSector n fault → IsDamage head → Fails fault head
      → IsValueIn (λ (s : SideState). s) (state_after None fault) (Ok (stated image head opened))
  after_head_fault Unformatted head opened n kind is failed = absurd kind
  after_head_fault BadGeometry head opened n kind is failed = absurd kind
  after_head_fault (Damaged at) head opened n kind is failed = rw failed refl
  after_head_fault DiskFault head opened n kind is failed = tt
  after_head_fault Broken head opened n kind is failed = absurd kind
  after_head_fault NoMemory head opened n kind is failed = tt
  after_head_fault EpochsUsedUp head opened n kind is failed = absurd kind
  after_head_fault Unready head opened n kind is failed = absurd kind

module _ (A : Type 0) (layout : Layout) (s : Side) (image : List (List ℕ)) where
  pub state_unread : (fault : StoreFault) (n : ℕ) → IsOfSector n fault → Fails fault (side_at layout s image) → IsValueIn (λ (s : SideState). s) (state_after None fault) (Ok (state_in A layout s image))
  unfolding state_in
  state_unread fault n kind failed = after_head_fault image fault (side_at layout s image) (opens_by A layout s image) n kind (damage_at layout s image) failed

-- ---- a result

module _ {X E : Type 0} where
  -- what holds of any value
  pub if_ok : {P : Type 0} (r : Result X E) → P → IfOk r (λ x. P)
  if_ok (Ok x) p = p
  if_ok (Err e) p = tt

  -- what holds of any fault
  pub if_err : {P : E → Type 0} (r : Result X E) → ((e : E) → P e) → IfErr r P
  if_err (Ok x) p = tt
  if_err (Err e) p = p e

-- ---- what opening makes of two sides

module _ (image : List (List ℕ)) where
  -- what a check reports of what a side opens to
  abbrev seen : Result Opening StoreFault → Taken
  seen (Ok o) = Ok (figures_in o image)
  seen (Err fault) = Err (sector_of fault)

  seen_from : (root epoch : ℕ) (opened : Result Opening StoreFault) → taken_from root (state_by epoch image opened) ≡ seen opened
  seen_from root epoch (Ok o) = refl
  seen_from root epoch (Err fault) = refl

  -- an image that opens has the epoch of its header
  abbrev HasEpoch : ℕ → Result Opening StoreFault → Type 0
  HasEpoch epoch opened = (o : Opening) → opened ≡ Ok o → o.epoch ≡ epoch

  epoch_stated : (epoch : ℕ) (opened : Result Opening StoreFault) → HasEpoch epoch opened → epoch_of (state_by epoch image opened) ≡ Ok (Some epoch)
  epoch_stated epoch (Ok o) has = ap (λ (e : ℕ). Ok (Some e)) (has o refl)
  epoch_stated epoch (Err fault) has = refl

  agrees_seen : (opened : Result Opening StoreFault) → IsDamage opened → Agrees image (seen opened) opened
  agrees_seen (Ok o) is = (o, refl, refl)
  agrees_seen (Err fault) is = ap Err is

  module _ (a b : Result Opening StoreFault) (is_a : IsDamage a) (is_b : IsDamage b) where
    abbrev on : Side → Result Opening StoreFault
    on side.A = a
    on side.B = b

    -- two open sides
    agrees_both : (x y : ℕ) → HasEpoch x a → HasEpoch y b → Agrees image (opened_by (state_by x image a) (state_by y image b)) (chosen (Some x) (Some y) >>= on)
    agrees_both x y has_a has_b =
        rw (epoch_stated x a has_a, epoch_stated y b has_b, seen_from (root_at side.A) x a, seen_from (root_at side.B) y b) (by_epochs (nat_eq x y) (nat_lt x y))
      where
        by_epochs : (same less : Bool)
            → Agrees image (taken_of (if same then None else if less then Some side.B else Some side.A) (seen a) (seen b))
            ((let r : Result Side StoreFault = if same then Err (Damaged (root_at side.B)) else if less then Ok side.B else Ok side.A in r) >>= on)
        by_epochs true less = refl
        by_epochs false true = agrees_seen b is_b
        by_epochs false false = agrees_seen a is_a

    -- one or none
    agrees_by : (x y : Option ℕ) → ((e : ℕ) → x ≡ Some e → HasEpoch e a) → ((e : ℕ) → y ≡ Some e → HasEpoch e b)
        → Agrees image (opened_by (stated image (Ok x) a) (stated image (Ok y) b)) (chosen x y >>= on)
    agrees_by None None has_a has_b = refl
    agrees_by (Some x) None has_a has_b = rw (epoch_stated x a (has_a x refl), seen_from (root_at side.A) x a) (agrees_seen a is_a)
    agrees_by None (Some y) has_a has_b = rw (epoch_stated y b (has_b y refl), seen_from (root_at side.B) y b) (agrees_seen b is_b)
    agrees_by (Some x) (Some y) has_a has_b = agrees_both x y (has_a x refl) (has_b y refl)

    -- headers that could be read, or could not
    agrees : (first second : Result (Option ℕ) StoreFault) → IsDamage first → IsDamage second
        → ((e : ℕ) → first ≡ Ok (Some e) → HasEpoch e a) → ((e : ℕ) → second ≡ Ok (Some e) → HasEpoch e b)
        → Agrees image (opened_by (stated image first a) (stated image second b)) ((first >>= λ x. second >>= λ y. chosen x y) >>= on)
    agrees (Err fault) second is_first is_second has_a has_b = ap Err is_first
    agrees (Ok None) (Err fault) is_first is_second has_a has_b = ap Err is_second
    agrees (Ok (Some x)) (Err fault) is_first is_second has_a has_b = rw (epoch_stated x a (has_a x refl)) (ap Err is_second)
    agrees (Ok x) (Ok y) is_first is_second has_a has_b = agrees_by x y (λ e is. has_a e (ap Ok is)) (λ e is. has_b e (ap Ok is))

-- ---- the law

module _ (A : Type 0) (layout : Layout) (image : List (List ℕ)) where
  -- a side that opens has the epoch of its header
  side_has : (s : Side) (e : ℕ) → side_at layout s image ≡ Ok (Some e) → (o : Opening) → opens_by A layout s image ≡ Ok o → o.epoch ≡ e
  unfolding side_at opens_by base_in
  side_has s e header o is =
      let b = then_ok (base_in layout s image) (λ base. played_by A layout s base.1 image >>= λ end. Ok (opening layout s base.0 end.1 end.0)) o is in
      let base : Base = b.0 in
      let p = then_ok (played_by A layout s base.1 image) (λ end. Ok (opening layout s base.0 end.1 end.0)) o b.2 in
      let there = slot_has_epoch layout s base image (lies layout s).some (in_slot (slot_in layout s image) base b.1) in
      ap (λ (r : Result Opening StoreFault). epoch_in r) (sym p.2) ∙ one (is_open (sector image (root_at s))) base.0 (rw there at header)
    where
      epoch_in : Result Opening StoreFault → ℕ
      epoch_in (Ok o) = o.epoch
      epoch_in (Err fault) = 0

      in_slot : (r : Result Base ℕ) (base : Base) → placed (slot_at layout s) r ≡ Ok base → r ≡ Ok base
      in_slot (Ok b) base good = cc
      in_slot (Err p) base good = absurd cc

      one : (opened : Bool) (epoch : ℕ) → (let r : Result (Option ℕ) StoreFault = if opened then headed (slot_at layout s) (Some epoch) else Ok None in r) ≡ Ok (Some e) → epoch ≡ e
      one true epoch is = cc
      one false epoch is = absurd cc

  pub states_decide : layout_in image ≡ Ok layout → Agrees image (opened_by (state_in A layout side.A image) (state_in A layout side.B image)) (opens A image)
  unfolding state_in opens side_in
  states_decide label = rw label (subst (λ (r : Result Opening StoreFault). Agrees image (opened_by (state_in A layout side.A image) (state_in A layout side.B image)) r)
      (on_sides (side_in layout image))
      (agrees image (opens_by A layout side.A image) (opens_by A layout side.B image) (damage_opens A layout side.A image) (damage_opens A layout side.B image)
      (side_at layout side.A image) (side_at layout side.B image) (damage_at layout side.A image) (damage_at layout side.B image) (side_has side.A) (side_has side.B)))
    where
      on_sides : (r : Result Side StoreFault) →
          (r >>= on image (opens_by A layout side.A image) (opens_by A layout side.B image) (damage_opens A layout side.A image)
          (damage_opens A layout side.B image)) ≡ (r >>= λ s. opens_by A layout s image)
      on_sides (Ok side.A) = refl
      on_sides (Ok side.B) = refl
      on_sides (Err fault) = refl
