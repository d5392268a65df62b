-- What is kept on a sound disk is determined by how the disk reads. So it need only be known truncated.
use Rattle.std.proofs.Common.{◌≡◌, inl, inr, ℕ, ◌<◌, false, List, [], ◌∷◌, Option, None, Some, Result, Ok, Err, IfSome, refl, sym, ap, subst, ◌∙◌, slice_index}
use Rattle.std.specs.Coded.{Coded, Coded-set, coded_ℕ, coded_bool, coded_list, coded_result, coded×, ×_prop, Unit-prop, le_prop}
use Rattle.std.proofs.lemmas.Bool.Decides.{eqb_tells}
use mathlib.Core.HLevel.{¬_prop, ⊥_prop}
use mathlib.Core.Logic.{∥∥₁_elim, ∥∥₁_map}
use Rattle.sector_disk.specs.Disk.{IsSound, View, sector}
use Rattle.centre_core.specs.Asked.{Asked}
use Rattle.centre_core.specs.State.{State, coded_state}
use Rattle.centre_core.specs.History.{after, next}
use Rattle.centre_core.specs.Histories.{IsHistory}
use Rattle.gated_journal.specs.declared.form.Form.{Form}
use Rattle.gated_journal.specs.declared.form.Form.TheVariants.{Numbered}
use Rattle.gated_journal.specs.contracts.form.Form as form
use Rattle.gated_journal.specs.declared.place.Place.{Place}
use Rattle.gated_journal.specs.Half.{RecordAt, half_of}
use Rattle.checkpoint.specs.declared.layout.Layout.{Layout}
use Rattle.checkpoint.specs.declared.side.Side.{Side}
use Rattle.checkpoint.specs.Layout.{half_at, half_end, other_of, root_at}
use Rattle.checkpoint.specs.OnSide.{Base, HasLesserEpoch, RecordsAndGate, IsBelow, IsOnSide, slot_epoch, slot_in}
use Rattle.recovery.specs.declared.ongoing.Ongoing.{Ongoing}
use Rattle.sector_disk.specs.declared.disk.Disk.{Ghosts}
use Rattle.recovery.specs.declared.store.Store.{Store}
use Rattle.recovery.specs.Lives.{HasBeenHonest, IsStoredIn, view_of}
use Rattle.recovery.specs.OpensTo.{commands_of}
use Rattle.recovery.specs.Stored.{IsStored}
use Rattle.recovery.specs.UnderWay.{IsBegun, IsKept, IsOngoing}

-- ---- what has one proof at most

bytes_set : IsSet (List ℕ)
bytes_set = Coded-set (coded_list coded_ℕ)

number_set : IsSet ℕ
number_set = Coded-set coded_ℕ

state_set : IsSet State
state_set = Coded-set coded_state

slot_set : IsSet (Result Base ℕ)
slot_set = Coded-set (coded_result (coded× coded_ℕ coded_state) coded_ℕ)

history_prop : {A : Type 0} (base : State) (cs : List (Asked A)) → IsProp (IsHistory base cs)
history_prop base [] = Unit-prop
history_prop base (c ∷ cs) = ×_prop (Coded-set coded_bool _ _) (history_prop (next base c) cs)

-- ---- a side that does not count

none_some : (e : ℕ) → ◌≡◌ {A = Option ℕ} None (Some e) → ⊥
none_some e same = absurd cc

some_is : (m n : ℕ) → ◌≡◌ {A = Option ℕ} (Some m) (Some n) → m ≡ n
some_is m n same = cc

module _ (layout : Layout) (side : Side) (epoch : ℕ) (image : List (List ℕ)) where
  lesser : (o : Option ℕ) → slot_epoch layout side image ≡ o → ∥ HasLesserEpoch layout side epoch image ∥₁ → HasLesserEpoch layout side epoch image
  lesser None is some = absurd (∥∥₁_elim some ⊥_prop (λ h. none_some h.0 (sym is ∙ h.1)))
  lesser (Some e) is some = (e, is, ∥∥₁_elim some le_prop (λ h. subst (λ (n : ℕ). n < epoch) (some_is h.0 e (sym h.1 ∙ is)) h.2))

  not_closed : slice_index (sector image (root_at side)) 0 ≡ 1 → IsBelow layout side epoch image → HasLesserEpoch layout side epoch image
  not_closed first (inl closed) = absurd (closed first)
  not_closed first (inr less) = less

  below : ∥ IsBelow layout side epoch image ∥₁ → IsBelow layout side epoch image
  below some = elim (eqb_tells (slice_index (sector image (root_at side)) 0) 1) [
    | inl first ↦ inr (lesser (slot_epoch layout side image) refl (∥∥₁_map some (not_closed first.1)))
    | inr closed ↦ inl closed.1
  ]

module _ {A : Type 0} (asked : Coded (Asked A)) where
  half_set : IsSet (Result (RecordsAndGate A) ℕ)
  half_set = Coded-set (coded_result (coded× (coded_list (coded× coded_ℕ (coded_list asked))) coded_ℕ) coded_ℕ)

  -- ---- an image on a side

  module _ (layout : Layout) (side : Side) (is_of : Form) (base : Base) (held : RecordsAndGate A) (image : List (List ℕ)) where
    abbrev Here : Type 0
    Here = IsOnSide layout side is_of base held image

    on_side : ∥ Here ∥₁ → Here
    on_side some = record {
      room = ∥∥₁_elim some le_prop (λ (h : Here). h.room);
      label = ∥∥₁_elim some (bytes_set _ _) (λ (h : Here). h.label);
      root = ∥∥₁_elim some (number_set _ _) (λ (h : Here). h.root);
      below = below layout (other_of side) base.0 image (∥∥₁_map some (λ (h : Here). h.below));
      slot = ∥∥₁_elim some (slot_set _ _) (λ (h : Here). h.slot);
      form_is = ∥∥₁_elim some (Coded-set form.the_row.coded _ _) (λ (h : Here). h.form_is);
      half = ∥∥₁_elim some (half_set _ _) (λ (h : Here). h.half);
      gate = ∥∥₁_elim some le_prop (λ (h : Here). h.gate);
    }

  -- ---- the side that counts

  module _ (layout : Layout) (side : Side) (epoch : ℕ) (journal : Place) (state : State) (disk : View) (sound : IsSound disk) where
    abbrev There : Type 0
    There = IsStored A layout side epoch journal state disk

    abbrev read_half : ℕ → Result (RecordsAndGate A) ℕ
    read_half count = half_of journal.form count disk.reads (half_at layout side) (half_end layout side)

    -- it is what the disk reads as
    same_base : (base : Base) → slot_in layout side disk.reads ≡ Ok base → (h : There) → (epoch, h.base) ≡ base
    same_base base is h = ok_is (epoch, h.base) base (sym (h.each disk.reads sound.reads_left).slot ∙ is)
      where
        ok_is : (x y : Base) → ◌≡◌ {A = Result Base ℕ} (Ok x) (Ok y) → x ≡ y
        ok_is x y e = cc

    same_held : (base : Base) → slot_in layout side disk.reads ≡ Ok base → (held : RecordsAndGate A) → read_half base.1.count ≡ Ok held → (h : There) → (h.entries, journal.next) ≡ held
    same_held base slot held is h =
        let count : h.base.count ≡ base.1.count = ap (λ (b : Base). b.1.count) (same_base base slot h) in
        ok_is (h.entries, journal.next) held (sym (h.each disk.reads sound.reads_left).half ∙ ap read_half count ∙ is)
      where
        ok_is : (x y : RecordsAndGate A) → ◌≡◌ {A = Result (RecordsAndGate A) ℕ} (Ok x) (Ok y) → x ≡ y
        ok_is x y e = cc

    module _ (base : Base) (slot : slot_in layout side disk.reads ≡ Ok base) (held : RecordsAndGate A) (half : read_half base.1.count ≡ Ok held) (some : ∥ There ∥₁) where
      stored_as : There
      stored_as = record {
        base = base.1;
        entries = held.0;
        each = λ image is. on_side layout side journal.form (epoch, base.1) (held.0, journal.next) image (∥∥₁_map some (λ h.
            subst (λ (b : State). IsOnSide layout side journal.form (epoch, b) (held.0, journal.next) image) (ap (λ (b : Base). b.1) (same_base base slot h))
            (subst (λ (l : List (RecordAt A)). IsOnSide layout side journal.form (epoch, h.base) (l, journal.next) image)
            (ap (λ (k : RecordsAndGate A). k.0) (same_held base slot held half h)) (h.each image is))));
        accepted = ∥∥₁_elim some (history_prop base.1 (commands_of held.0)) (λ h.
            subst (λ (b : State). IsHistory b (commands_of held.0)) (ap (λ (b : Base). b.1) (same_base base slot h))
            (subst (λ (l : List (RecordAt A)). IsHistory h.base (commands_of l)) (ap (λ (k : RecordsAndGate A). k.0) (same_held base slot held half h)) h.accepted));
        made = ∥∥₁_elim some (state_set _ _) (λ h.
            h.made ∙ ap (λ (b : State). after b (commands_of h.entries)) (ap (λ (b : Base). b.1) (same_base base slot h)) ∙
            ap (λ (l : List (RecordAt A)). after base.1 (commands_of l)) (ap (λ (k : RecordsAndGate A). k.0) (same_held base slot held half h)));
        counts = ∥∥₁_elim some (number_set _ _) (λ h. h.counts);
      }

    by_half : (base : Base) → slot_in layout side disk.reads ≡ Ok base → (half : Result (RecordsAndGate A) ℕ) → read_half base.1.count ≡ half → ∥ There ∥₁ → There
    by_half base slot (Ok held) is some = stored_as base slot held is some
    by_half base slot (Err at) is some = absurd (∥∥₁_elim some ⊥_prop (λ h.
        let count : h.base.count ≡ base.1.count = ap (λ (b : Base). b.1.count) (same_base base slot h) in
        not_both (h.entries, journal.next) (sym (h.each disk.reads sound.reads_left).half ∙ ap read_half count ∙ is)))
      where
        not_both : (x : RecordsAndGate A) → ◌≡◌ {A = Result (RecordsAndGate A) ℕ} (Ok x) (Err at) → ⊥
        not_both x e = absurd cc

    by_slot : (slot : Result Base ℕ) → slot_in layout side disk.reads ≡ slot → ∥ There ∥₁ → There
    by_slot (Ok base) is some = by_half base is (read_half base.1.count) refl some
    by_slot (Err at) is some = absurd (∥∥₁_elim some ⊥_prop (λ h. not_both (epoch, h.base) (sym (h.each disk.reads sound.reads_left).slot ∙ is)))
      where
        not_both : (x : Base) → ◌≡◌ {A = Result Base ℕ} (Ok x) (Err at) → ⊥
        not_both x e = absurd cc

    stored : ∥ There ∥₁ → There
    stored some = by_slot (slot_in layout side disk.reads) refl some

  -- ---- a checkpoint that is under way

  module _ (layout : Layout) (side : Side) (epoch : ℕ) (it : Ongoing A) (state : State) (disk : View) (sound : IsSound disk) where
    abbrev Begun : Type 0
    Begun = IsOngoing A layout side epoch it state disk

    abbrev other_half : List (List ℕ) → Result (RecordsAndGate A) ℕ
    other_half image = half_of Numbered it.register.count image (half_at layout (other_of side)) (half_end layout (other_of side))

    same_entries : (held : RecordsAndGate A) → other_half disk.reads ≡ Ok held → (h : Begun) → h.entries ≡ held.0
    same_entries held is h = ap (λ (k : RecordsAndGate A). k.0) (ok_is (h.entries, it.journal.next) held (sym (h.begun.half disk.reads sound.reads_left) ∙ is))
      where
        ok_is : (x y : RecordsAndGate A) → ◌≡◌ {A = Result (RecordsAndGate A) ℕ} (Ok x) (Ok y) → x ≡ y
        ok_is x y e = cc

    begun_as : (held : RecordsAndGate A) → other_half disk.reads ≡ Ok held → ∥ Begun ∥₁ → Begun
    begun_as held is some = record {
      entries = held.0;
      begun = record {
        root = λ image left. ∥∥₁_elim some ¬_prop (λ h. h.begun.root image left);
        half = λ image left. ∥∥₁_elim some (half_set _ _) (λ h. subst (λ (l : List (RecordAt A)). other_half image ≡ Ok (l, it.journal.next)) (same_entries held is h) (h.begun.half image left));
        gate = ∥∥₁_elim some le_prop (λ h. h.begun.gate);
        rows = λ k lt. ∥∥₁_elim some (bytes_set _ _) (λ h. h.begun.rows k lt);
        few = ∥∥₁_elim some le_prop (λ h. h.begun.few);
      };
      accepted = ∥∥₁_elim some (history_prop it.register (commands_of held.0)) (λ h. subst (λ (l : List (RecordAt A)). IsHistory it.register (commands_of l)) (same_entries held is h) h.accepted);
      made = ∥∥₁_elim some (state_set _ _) (λ h. h.made ∙ ap (λ (l : List (RecordAt A)). after it.register (commands_of l)) (same_entries held is h));
      counts = ∥∥₁_elim some (number_set _ _) (λ h. h.counts);
    }

    by_read : (half : Result (RecordsAndGate A) ℕ) → other_half disk.reads ≡ half → ∥ Begun ∥₁ → Begun
    by_read (Ok held) is some = begun_as held is some
    by_read (Err at) is some = absurd (∥∥₁_elim some ⊥_prop (λ h. not_both (h.entries, it.journal.next) (sym (h.begun.half disk.reads sound.reads_left) ∙ is)))
      where
        not_both : (x : RecordsAndGate A) → ◌≡◌ {A = Result (RecordsAndGate A) ℕ} (Ok x) (Err at) → ⊥
        not_both x e = absurd cc

    begun_is : ∥ Begun ∥₁ → Begun
    begun_is some = by_read (other_half disk.reads) refl some

  -- ---- both

  module _ (layout : Layout) (side : Side) (epoch : ℕ) (journal : Place) (state : State) (disk : View) (sound : IsSound disk) where
    under_way : (ongoing : Option (Ongoing A)) → ∥ IsKept A layout side epoch journal ongoing state disk ∥₁ → IfSome ongoing (λ it. IsOngoing A layout side epoch it state disk)
    under_way None some = tt
    under_way (Some it) some = begun_is layout side epoch it state disk sound (∥∥₁_map some (λ h. h.under_way))

    kept : (ongoing : Option (Ongoing A)) → ∥ IsKept A layout side epoch journal ongoing state disk ∥₁ → IsKept A layout side epoch journal ongoing state disk
    kept ongoing some = record { stored = stored layout side epoch journal state disk sound (∥∥₁_map some (λ h. h.stored)); under_way = under_way ongoing some }

-- so the register of a store is on its disk
pub stored_by : {A D : Type 0} {g : Ghosts D} → Coded (Asked A) → ((disk : D) → (g.view disk).honest → IsSound (g.view disk)) →
    (store : Store A D g) → store.broken ≡ false → HasBeenHonest g.view (view_of store) → IsStoredIn A g.view (view_of store)
stored_by {A} {D} {g} asked sound store whole honest =
    kept asked store.layout store.side store.epoch store.journal store.register (g.view store.disk) (sound store.disk honest.1) store.ongoing (∥∥₁_map store.stored (λ is. (is whole honest.0).1))
