-- From what an image opens to, back to on which side it is.
use Rattle.std.proofs.Common.{◌≡◌, inl, inr, ℕ, zero, suc, ◌+◌, ◌-◌, ◌<◌, Bool, true, false, ltb, List, [], ◌∷◌, length, slice_index, Option, Some}
use Rattle.std.proofs.Common.{None, Result, Ok, Err, refl, sym, subst, ap, ◌∙◌, if◌then◌else◌, ◌≤◌, ◌≢◌, arith}
use Rattle.std.proofs.lemmas.Bool.{ltb-false, ltb-true}
use Rattle.std.proofs.lemmas.Bool.Decides.{eqb_tells}
use Rattle.base.proofs.Options.{some_is}
use Rattle.sector_disk.specs.Disk.{View, IsImageOf, sector}
use Rattle.identity.specs.Packed.{AreBytes}
use Rattle.command_bytes.proofs.Steps.{some_where}
use Rattle.centre_core.specs.Asked.{Asked}
use Rattle.centre_core.specs.State.{State}
use Rattle.centre_core.specs.History.{accepts, after, next}
use Rattle.centre_core.specs.Histories.{IsHistory}
use Rattle.centre_core.proofs.InTurnLaws.{after-append, history-append}
use Rattle.gated_journal.specs.declared.form.Form.{Form}
use Rattle.gated_journal.specs.declared.place.Place.{Place}
use Rattle.gated_journal.specs.Half.{RecordAt, Half, IsClosed, IsOpen, half_from, half_of, half_on, record_at, with_prefix}
use Rattle.gated_journal.proofs.Halves.{opened}
use Rattle.checkpoint.specs.declared.layout.Layout.{Layout}
use Rattle.checkpoint.specs.declared.side.Side.{Side}
use Rattle.checkpoint.specs.declared.side.Side.TheVariants as side
use Rattle.checkpoint.specs.Layout.{half_at, half_end, label_at, other_of, root_at, slot_at}
use Rattle.checkpoint.specs.OnSide.{Base, RecordsAndGate, IsBelow, IsInSlot, IsOnSide, slot_epoch, slot_form}
use Rattle.checkpoint.proofs.Apart.{lies}
use Rattle.checkpoint.proofs.Epochs.{slot_has_epoch}
use Rattle.recovery.specs.declared.fault.StoreFault.{StoreFault}
use Rattle.recovery.specs.declared.fault.StoreFault.TheVariants.{Damaged}
use Rattle.recovery.specs.Label.{layout_in}
use Rattle.recovery.specs.Opens.{Opening, base_in, chosen, headed, held_by, opening, opens, opens_by, placed, played, played_by, run, side_at, side_in, taken}
use Rattle.recovery.specs.Stored.{IsStored}
use Rattle.recovery.specs.OpensTo.{OpensAs, commands_of}
use Rattle.recovery.proofs.Chained.{on_base, on_held, on_side, then_ok, whole, with_a}
use Rattle.recovery.proofs.Faults.{label_only}

ok_is : {X : Type 0} (x y : X) → (let r : Result X StoreFault = Ok x in r) ≡ Ok y → x ≡ y
ok_is x y e = cc

-- ---- the sides

-- what a side states: nothing where its root is closed, else its epoch
abbrev IsStated : Layout → Side → List (List ℕ) → Option ℕ → Type 0
IsStated layout s image None = IsClosed (sector image (root_at s))
IsStated layout s image (Some epoch) = IsOpen (sector image (root_at s)) × (slot_epoch layout s image ≡ Some epoch)

headed_is : (at : ℕ) (epoch found : Option ℕ) → headed at epoch ≡ Ok found → (n : ℕ) × (epoch ≡ Some n) × (found ≡ Some n)
headed_is at None found e = absurd cc
headed_is at (Some n) found e = (n, refl, sym (ok_is (Some n) found e))

reported : (layout : Layout) (s : Side) (image : List (List ℕ)) (found : Option ℕ) → side_at layout s image ≡ Ok found → IsStated layout s image found
unfolding side_at
reported layout s image found e =
    elim (eqb_tells (slice_index (sector image (root_at s)) 0) 1) [
      | inl same ↦ (let is = headed_is (slot_at layout s) (slot_epoch layout s image) found (rw same.0 at e) in subst (IsStated layout s image) (sym is.2) (same.1, is.1))
      | inr other ↦ subst (IsStated layout s image) (ok_is None found (rw other.0 at e)) other.1
    ]

-- the side counts: its root is open, and the other one is below its epoch
record Counts (layout : Layout) (image : List (List ℕ)) (s : Side) : Type 0 where
  root : IsOpen (sector image (root_at s))
  below : (epoch : ℕ) → slot_epoch layout s image ≡ Some epoch → IsBelow layout (other_of s) epoch image

module _ (layout : Layout) (image : List (List ℕ)) where
  -- beside a closed side
  a_alone : (a : ℕ) → IsStated layout side.A image (Some a) → IsStated layout side.B image None → Counts layout image side.A
  a_alone a states shut = record { root = states.0; below = λ epoch is. inl shut }

  b_alone : (b : ℕ) → IsStated layout side.A image None → IsStated layout side.B image (Some b) → Counts layout image side.B
  b_alone b shut states = record { root = states.0; below = λ epoch is. inl shut }

  a_greater : (a b : ℕ) → IsStated layout side.A image (Some a) → IsStated layout side.B image (Some b) → b < a → Counts layout image side.A
  a_greater a b first second lt = record { root = first.0; below = λ epoch is. let same : a ≡ epoch = some_is a epoch (sym first.1 ∙ is) in inr (b, second.1, omega (arith, lt, same)) }

  b_greater : (a b : ℕ) → IsStated layout side.A image (Some a) → IsStated layout side.B image (Some b) → a < b → Counts layout image side.B
  b_greater a b first second lt = record { root = second.0; below = λ epoch is. let same : b ≡ epoch = some_is b epoch (sym second.1 ∙ is) in inr (a, first.1, omega (arith, lt, same)) }

  greater : (a b : ℕ) (s : Side) → IsStated layout side.A image (Some a) → IsStated layout side.B image (Some b) → a ≢ b → (less : Bool) →
      ltb a b ≡ less → (if less then (let r : Result Side StoreFault = Ok side.B in r) else Ok side.A) ≡ Ok s → Counts layout image s
  greater a b s first second apart true is e = subst (Counts layout image) (ok_is side.B s e) (b_greater a b first second (ltb-true a b is))
  greater a b s first second apart false is e = let le : b ≤ a = ltb-false a b is in subst (Counts layout image) (ok_is side.A s e) (a_greater a b first second (omega (arith, le, apart)))

  apart_stated : (a b : ℕ) (s : Side) → IsStated layout side.A image (Some a) → IsStated layout side.B image (Some b) → chosen (Some a) (Some b) ≡ Ok s → Counts layout image s
  apart_stated a b s first second e =
      elim (eqb_tells a b) [
        | inl same ↦ (let none : (let r : Result Side StoreFault = Err (Damaged (root_at side.B)) in r) ≡ Ok s = rw same.0 at e in absurd cc)
        | inr other ↦ greater a b s first second other.1 (ltb a b) refl (rw other.0 at e)
      ]

  chosen_counts : (a b : Option ℕ) (s : Side) → IsStated layout side.A image a → IsStated layout side.B image b → chosen a b ≡ Ok s → Counts layout image s
  chosen_counts None None s first second e = absurd cc
  chosen_counts (Some a) None s first second e = subst (Counts layout image) (ok_is side.A s e) (a_alone a first second)
  chosen_counts None (Some b) s first second e = subst (Counts layout image) (ok_is side.B s e) (b_alone b first second)
  chosen_counts (Some a) (Some b) s first second e = apart_stated a b s first second e

  side_counts : (s : Side) → side_in layout image ≡ Ok s → Counts layout image s
  unfolding side_in
  side_counts s e =
      let a = then_ok (side_at layout side.A image) (with_a layout image) s e in
      let b = then_ok (side_at layout side.B image) (λ b. chosen a.0 b) s a.2 in
      chosen_counts a.0 b.0 s (reported layout side.A image a.0 a.1) (reported layout side.B image b.0 b.1) b.2

-- ---- the image and the records

placed_is : (at : ℕ) (r : Result Base ℕ) (base : Base) → placed at r ≡ Ok base → r ≡ Ok base
placed_is at (Ok b) base e = ap Ok (ok_is b base e)
placed_is at (Err place) base e = absurd cc

in_slot : (layout : Layout) (s : Side) (base : Base) (image : List (List ℕ)) → base_in layout s image ≡ Ok base → IsInSlot layout s base image
unfolding base_in
in_slot layout s base image e = placed_is (slot_at layout s) _ base e

taken_is : (at : ℕ) (o : Option State) (s : State) → taken at o ≡ Ok s → o ≡ Some s
taken_is at None s e = absurd cc
taken_is at (Some t) s e = ap Some (ok_is t s e)

module _ {A : Type 0} where
  gate_is : (a b : List (RecordAt A)) (m n : ℕ) → ◌≡◌ {A = Half A} (Ok (a, m)) (Ok (b, n)) → m ≡ n
  gate_is a b m n e = let pair : ◌≡◌ {A = List (RecordAt A) × ℕ} (a, m) (b, n) = cc in ap (λ (x : List (RecordAt A) × ℕ). x.1) pair

  after_prefix : (entry : RecordAt A) (half : Half A) (entries : List (RecordAt A)) (gate : ℕ) → with_prefix (entry ∷ []) half ≡ Ok (entries, gate) → (rest : List (RecordAt A)) × (half ≡ Ok (rest, gate))
  after_prefix entry (Ok half) entries gate e = (half.0, ap (λ (n : ℕ). Ok (half.0, n)) (gate_is (entry ∷ half.0) entries half.1 gate e))
  after_prefix entry (Err s) entries gate e = absurd cc

  held_is : (r : Half A) (held : RecordsAndGate A) → held_by r ≡ Ok held → r ≡ Ok held
  held_is (Ok h) held e = ap Ok (ok_is h held e)
  held_is (Err at) held e = absurd cc

  pub run_history : (s t : State) (cs : List (Asked A)) → run s cs ≡ Some t → IsHistory s cs × (t ≡ after s cs)
  unfolding run
  run_history s t [] e = (tt, sym (some_is s t e))
  run_history s t (c ∷ cs) e =
      let here = some_where (accepts s c) (run (next s c) cs) t e in
      let later = run_history (next s c) t cs here.1 in
      ((here.0, later.0), later.1)

  pub played_history : (s t : State) (entries : List (RecordAt A)) → played s entries ≡ Ok t → IsHistory s (commands_of entries) × (t ≡ after s (commands_of entries))
  unfolding played
  played_history s t [] e = (tt, sym (ok_is s t e))
  played_history s t (entry ∷ entries) e =
      let one = then_ok (taken entry.0 (run s entry.1)) (λ u. played u entries) t e in
      let here = run_history s one.0 entry.1 (taken_is entry.0 (run s entry.1) one.0 one.1) in
      let later = played_history one.0 t entries one.2 in
      let following : IsHistory (after s entry.1) (commands_of entries) = subst (λ (u : State). IsHistory u (commands_of entries)) here.1 later.0 in (
        history-append s entry.1 (commands_of entries) here.0 following,
        later.1 ∙ ap (λ (u : State). after u (commands_of entries)) here.1 ∙ sym (after-append s entry.1 (commands_of entries)),
      )

module _ {A : Type 0} where
  -- a half's first closed gate lies within it
  last_before : (fuel : ℕ) (form : Form) (before : ℕ) (image : List (List ℕ)) (at end : ℕ) (entries : List (RecordAt A)) (gate : ℕ) → at < end →
      end ≤ at + fuel → half_from fuel form before image at end ≡ Ok (entries, gate) → gate < end
  unfolding half_from
  last_before zero form before image at end entries gate lt le e = absurd (omega (arith, lt, le))
  last_before (suc fuel) form before image at end entries gate lt le e =
      elim (record_at {A = A} form before image at end) as
      (λ r. record_at form before image at end ≡ r → half_on at r (λ x. half_from fuel form (before + length x.0) image x.1 end) ≡ Ok
      (entries, gate) → gate < end) [
        | Err fault ↦ λ is f. absurd cc
        | Ok o ↦ λ is f. on (λ x rest. last_before fuel form (before + length x.0) image x.1 end rest gate) o is f
      ] refl e
    where
      on : ((x : List (Asked A) × ℕ) (rest : List (RecordAt A)) → x.1 < end → end ≤ x.1 + fuel →
          half_from fuel form (before + length x.0) image x.1 end ≡ Ok (rest, gate) → gate < end) → (o : Option (List (Asked A) × ℕ)) →
          record_at form before image at end ≡ Ok o
          → half_on at (Ok o) (λ x. half_from fuel form (before + length x.0) image x.1 end) ≡ Ok (entries, gate) → gate < end
      on go None is f = let same : at ≡ gate = gate_is [] entries at gate f in omega (arith, lt, same)
      on go (Some x) is f =
          let rest = after_prefix (at + 1, x.0) (half_from fuel form (before + length x.0) image x.1 end) entries gate f in
          let there = opened form before image at end x is in
          go x rest.0 there.within (omega (arith, le, there.next_is)) rest.1

-- ---- the whole

-- what lies after an opening
pub record After (A : Type 0) (o : Opening) (image : List (List ℕ)) : Type 0 where
  pub base : State
  pub entries : List (RecordAt A)
  pub label : layout_in image ≡ Ok o.layout
  pub side : side_in o.layout image ≡ Ok o.side
  pub slot : IsInSlot o.layout o.side (o.epoch, base) image
  pub half : half_of (slot_form o.layout o.side image) base.count image (half_at o.layout o.side) (half_end o.layout o.side) ≡ Ok (entries, o.next)
  pub accepted : IsHistory base (commands_of entries)
  pub made : o.state ≡ after base (commands_of entries)

module _ (A : Type 0) where
  pub following : (o : Opening) (image : List (List ℕ)) → opens A image ≡ Ok o → After A o image
  unfolding opens opens_by played_by
  following o image e =
      let labelled = then_ok (layout_in image) (on_side A image) o e in
      let layout : Layout = labelled.0 in
      let sided = then_ok (side_in layout image) (λ s. opens_by A layout s image) o labelled.2 in
      let s : Side = sided.0 in
      let based = then_ok (base_in layout s image) (on_base A layout s image) o sided.2 in
      let base : Base = based.0 in
      let ended = then_ok (played_by A layout s base.1 image) (λ end. Ok (opening layout s base.0 end.1 end.0)) o based.2 in
      let end : State × ℕ = ended.0 in
      let read = then_ok (whole A layout s image base.1) (on_held A layout s image base.1) end ended.1 in
      let held : RecordsAndGate A = read.0 in
      let ran = then_ok (played base.1 held.0) (λ u. Ok (u, held.1)) end read.2 in
      let history = played_history base.1 ran.0 held.0 ran.1 in
      let same : ◌≡◌ {A = State × ℕ} (ran.0, held.1) end = ok_is (ran.0, held.1) end ran.2 in
      let there : After A (opening layout s base.0 held.1 ran.0) image = record {
        base = base.1;
        entries = held.0;
        label = labelled.1;
        side = sided.1;
        slot = in_slot layout s base image based.1;
        half = held_is (half_of (slot_form layout s image) base.1.count image (half_at layout s) (half_end layout s)) held read.1;
        accepted = history.0;
        made = history.1;
      } in
      let is : opening layout s base.0 held.1 ran.0 ≡ o = ap (λ (x : State × ℕ). opening layout s base.0 x.1 x.0) same ∙ ok_is (opening layout s base.0 end.1 end.0) o ended.2 in
      subst (λ (p : Opening). After A p image) is there

  pub on_side_after : (o : Opening) (image : List (List ℕ)) (is : After A o image) → AreBytes (sector image label_at) →
      o.next < half_end o.layout o.side → IsOnSide o.layout o.side (slot_form o.layout o.side image) (o.epoch, is.base) (is.entries, o.next) image
  on_side_after o image is bytes within =
      let label = label_only image bytes o.layout is.label in
      let counts = side_counts o.layout image o.side is.side in
      let places = lies o.layout o.side in
      record {
        room = label.1;
        label = label.0;
        root = counts.root;
        below = counts.below o.epoch (slot_has_epoch o.layout o.side (o.epoch, is.base) image places.some is.slot);
        slot = is.slot;
        form_is = refl;
        half = is.half;
        gate = within;
      }

  -- where every image is what is read, and that opens, the register is kept by the journal that goes on there
  module _ (disk : View) (o : Opening) (journal : Place) where
    pub stored_so : ((image : List (List ℕ)) → IsImageOf disk image → image ≡ disk.reads) → AreBytes (sector disk.reads label_at) → opens A disk.reads ≡ Ok o → o.next < half_end o.layout o.side
        → journal.next ≡ o.next → journal.form ≡ slot_form o.layout o.side disk.reads → journal.count ≡ o.state.count → IsStored A o.layout o.side o.epoch journal o.state disk
    stored_so one bytes e within next form counts =
        let is = following o disk.reads e in
        let read : IsOnSide o.layout o.side journal.form (o.epoch, is.base) (is.entries, journal.next) disk.reads = rw (next, form) (on_side_after o disk.reads is bytes within) in
        record {
          base = is.base;
          entries = is.entries;
          each = λ image here. subst (IsOnSide o.layout o.side journal.form (o.epoch, is.base) (is.entries, journal.next)) (sym (one image here)) read;
          accepted = is.accepted;
          made = is.made;
          counts = counts;
        }

  -- ---- each image that opens is on its side

  pub opens_as : (o : Opening) (image : List (List ℕ)) → AreBytes (sector image label_at) → opens A image ≡ Ok o → OpensAs A o image
  opens_as o image bytes e =
      let is = following o image e in
      let places = lies o.layout o.side in
      let some : half_at o.layout o.side < half_end o.layout o.side = omega (arith, o.layout.in_range.fewest) in
      let within = last_before (half_end o.layout o.side - half_at o.layout o.side) (slot_form o.layout o.side image) is.base.count image
      (half_at o.layout o.side) (half_end o.layout o.side) is.entries o.next some (omega arith) is.half in
      record {
        form = slot_form o.layout o.side image;
        base = is.base;
        entries = is.entries;
        on_side = on_side_after o image is bytes within;
        accepted = is.accepted;
        made = is.made;
      }
