-- A step of opening, and the first fault.
use Rattle.std.proofs.Common.{◌≡◌, ℕ, List, Option, Result, Ok, Err, IfOk, refl, sym, subst, ap, ◌∙◌}
use Rattle.centre_core.specs.State.{State}
use Rattle.gated_journal.specs.Half.{half_of}
use Rattle.checkpoint.specs.declared.layout.Layout.{Layout}
use Rattle.checkpoint.specs.declared.side.Side.{Side}
use Rattle.checkpoint.specs.declared.side.Side.TheVariants as side
use Rattle.checkpoint.specs.Layout.{half_at, half_end}
use Rattle.checkpoint.specs.OnSide.{Base, RecordsAndGate, slot_form}
use Rattle.recovery.specs.declared.fault.StoreFault.{StoreFault}
use Rattle.recovery.specs.declared.fault.StoreFault.TheVariants.{BadGeometry, Broken, Damaged, DiskFault, EpochsUsedUp, NoMemory, Unformatted, Unready}
use Rattle.recovery.specs.Label.{layout_in}
use Rattle.recovery.specs.Opens.{Opening, base_in, chosen, held_by, opening, opens, opens_by, played, played_by, side_at, side_in, ◌>>=◌}
use Rattle.recovery.specs.Opening.{Fails, IsValueIn}

-- a fault of one step is a fault of what it is a step of
pub fails_by : {X Y : Type 0} (e : StoreFault) (r : Result X StoreFault) (q : Result Y StoreFault) → (r ≡ Err e → q ≡ Err e) → Fails e r → Fails e q
fails_by Unformatted r q f is = f is
fails_by BadGeometry r q f is = f is
fails_by (Damaged at) r q f is = f is
fails_by DiskFault r q f is = tt
fails_by Broken r q f is = f is
fails_by NoMemory r q f is = tt
fails_by EpochsUsedUp r q f is = f is
fails_by Unready r q f is = f is

-- what holds of an answer under a premise
pub if_ok_then : {X E P : Type 0} (Q : X → Type 0) (r : Result X E) → (P → IfOk r Q) → IfOk r (λ x. P → Q x)
if_ok_then Q (Ok x) is = is
if_ok_then Q (Err e) is = tt

module _ {X Y : Type 0} where
  -- the first step fails
  pub fails_then : (e : StoreFault) (r : Result X StoreFault) (go : X → Result Y StoreFault) → Fails e r → Fails e (r >>= go)
  fails_then e r go is = fails_by e r (r >>= go) (λ f. ap (λ (s : Result X StoreFault). s >>= go) f) is

  -- it was taken
  pub then_past : (x : X) (r : Result X StoreFault) (go : X → Result Y StoreFault) → r ≡ Ok x → (r >>= go) ≡ go x
  then_past x r go is = ap (λ (s : Result X StoreFault). s >>= go) is

  pub fails_past : (e : StoreFault) (x : X) (r : Result X StoreFault) (go : X → Result Y StoreFault) → r ≡ Ok x → Fails e (go x) → Fails e (r >>= go)
  fails_past e x r go is failed = subst (λ (q : Result Y StoreFault). Fails e q) (sym (then_past x r go is)) failed

  -- both were taken
  pub then_ok : (r : Result X StoreFault) (go : X → Result Y StoreFault) (y : Y) → (r >>= go) ≡ Ok y → (x : X) × (r ≡ Ok x) × (go x ≡ Ok y)
  then_ok (Ok x) go y e = (x, refl, e)
  then_ok (Err fault) go y e = absurd cc

-- ---- the sides

module _ (layout : Layout) (image : List (List ℕ)) where
  abbrev pub with_a : Option ℕ → Result Side StoreFault
  with_a a = side_at layout side.B image >>= λ b. chosen a b

  pub side_a : (e : StoreFault) → Fails e (side_at layout side.A image) → Fails e (side_in layout image)
  unfolding side_in
  side_a e is = fails_then e (side_at layout side.A image) with_a is

  pub side_b : (a : Option ℕ) (e : StoreFault) → side_at layout side.A image ≡ Ok a → Fails e (side_at layout side.B image) → Fails e (side_in layout image)
  unfolding side_in
  side_b a e first is = fails_past e a (side_at layout side.A image) with_a first (fails_then e (side_at layout side.B image) (λ b. chosen a b) is)

  pub side_ab : (a b : Option ℕ) → side_at layout side.A image ≡ Ok a → side_at layout side.B image ≡ Ok b → side_in layout image ≡ chosen a b
  unfolding side_in
  side_ab a b first second = then_past a (side_at layout side.A image) with_a first ∙ then_past b (side_at layout side.B image) (λ b. chosen a b) second

  pub side_chosen : {X : Type 0} (view : X → Side) (a b : Option ℕ) (r : Result X StoreFault) → side_at layout side.A image ≡ Ok a →
      side_at layout side.B image ≡ Ok b → IsValueIn view r (chosen a b) → IsValueIn view r (side_in layout image)
  side_chosen view a b r first second is = subst (λ (q : Result Side StoreFault). IsValueIn view r q) (sym (side_ab a b first second)) is

-- ---- the records

module _ (A : Type 0) (layout : Layout) (s : Side) (image : List (List ℕ)) where
  abbrev pub whole : State → Result (RecordsAndGate A) StoreFault
  whole t = held_by (half_of (slot_form layout s image) t.count image (half_at layout s) (half_end layout s))

  abbrev pub on_held : State → RecordsAndGate A → Result (State × ℕ) StoreFault
  on_held t held = played t held.0 >>= λ u. Ok (u, held.1)

  -- ---- by one side

  abbrev pub on_base : Base → Result Opening StoreFault
  on_base base = played_by A layout s base.1 image >>= λ end. Ok (opening layout s base.0 end.1 end.0)

  pub by_slot : (e : StoreFault) → Fails e (base_in layout s image) → Fails e (opens_by A layout s image)
  unfolding opens_by
  by_slot e is = fails_then e (base_in layout s image) on_base is

  pub by_half : (base : Base) (e : StoreFault) → base_in layout s image ≡ Ok base → Fails e (played_by A layout s base.1 image) → Fails e (opens_by A layout s image)
  unfolding opens_by
  by_half base e there is = fails_past e base (base_in layout s image) on_base there (fails_then e (played_by A layout s base.1 image) (λ end. Ok (opening layout s base.0 end.1 end.0)) is)

  pub by_both : (base : Base) (end : State × ℕ) → base_in layout s image ≡ Ok base → played_by A layout s base.1 image ≡ Ok end → opens_by A layout s image ≡ Ok (opening layout s base.0 end.1 end.0)
  unfolding opens_by
  by_both base end there is = then_past base (base_in layout s image) on_base there ∙ then_past end (played_by A layout s base.1 image) (λ end. Ok (opening layout s base.0 end.1 end.0)) is

-- ---- the whole

module _ (A : Type 0) (image : List (List ℕ)) where
  abbrev pub on_side : Layout → Result Opening StoreFault
  on_side layout = side_in layout image >>= λ s. opens_by A layout s image

  pub opens_on : (layout : Layout) (s : Side) → layout_in image ≡ Ok layout → side_in layout image ≡ Ok s → opens A image ≡ opens_by A layout s image
  unfolding opens
  opens_on layout s there is = then_past layout (layout_in image) on_side there ∙ then_past s (side_in layout image) (λ s. opens_by A layout s image) is
