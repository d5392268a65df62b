-- A record in the journal and, where a checkpoint is under way, in that of the other half: it fits both, and a stop leaves
-- the register with it or without it.
use Rattle.std.proofs.Common.{take, ◌≡◌, ◌⊎◌, inl, inr, ℕ, ◌+◌, ◌-◌, ◌*◌, ◌<◌, ◌≤◌, List, [], ◌∷◌, ◌++◌, length, slice_index, None, Some, Option}
use Rattle.std.proofs.Common.{IfSome, true, false, Result, Ok, Err, OnOk, refl, sym, subst, ap, ◌∙◌, arith}
use Rattle.std.specs.Borrow.{Bor}
use Rattle.std.specs.Prelude.{is_err, is_some}
use Rattle.std.proofs.lemmas.Grind.{flat_map-append}
use Rattle.std.proofs.lemmas.List.{append-nil, length-map}
use Rattle.sector_disk.specs.Disk.{IsSound, View, sector}
use Rattle.sector_disk.specs.Run.{LeavesOnly}
use Rattle.sector_disk.proofs.Moments.{weaker}
use Rattle.centre_core.specs.Asked.{Asked}
use Rattle.centre_core.specs.Same.{under}
use Rattle.centre_core.specs.State.{IsState, State}
use Rattle.centre_core.specs.History.{after}
use Rattle.centre_core.specs.Histories.{IsHistory}
use Rattle.centre_core.proofs.HistoryLaws as numbers
use Rattle.centre_core.proofs.InTurnLaws.{after-append, history-append}
use Rattle.image_rows.specs.Image.{slot_of}
use Rattle.gated_journal.specs.declared.form.Form.{Form}
use Rattle.gated_journal.specs.declared.form.Form.TheVariants.{Numbered, Plain}
use Rattle.gated_journal.specs.declared.place.Place.{Place}
use Rattle.gated_journal.specs.Half.{RecordAt, counted, half_of}
use Rattle.gated_journal.specs.Record.{data_size, given, head_len}
use Rattle.gated_journal.specs.Settled.{IsSettled, LeavesBoth, following, room_of, text_at}
use Rattle.gated_journal.proofs.Chain.{half_below}
use Rattle.gated_journal.proofs.Given.{given_count, given_size}
use Rattle.checkpoint.specs.declared.layout.Layout.{Layout}
use Rattle.checkpoint.specs.declared.side.Side.{Side}
use Rattle.checkpoint.specs.declared.side.Side.TheVariants as side
use Rattle.checkpoint.specs.Label.{label_size}
use Rattle.checkpoint.specs.Layout.{half_at, half_end, label_at, other_of, root_at, slot_at, slot_size}
use Rattle.checkpoint.specs.OnSide.{Base, RecordsAndGate, IsInHalf, IsOnSide, stated_form}
use Rattle.checkpoint.proofs.Apart.{lies}
use Rattle.checkpoint.proofs.Imaged.{rows_have_room}
use Rattle.checkpoint.proofs.Spared.{below_same, closed_as, left_each, sectors_same}
use Rattle.recovery.specs.declared.ongoing.Ongoing.{Ongoing}
use Rattle.recovery.specs.AfterCommit.{ongoing_after}
use Rattle.recovery.specs.Outcomes.{OpensToEither, asked}
use Rattle.recovery.specs.OpensTo.{commands_of}
use Rattle.recovery.specs.Stored.{IsStored}
use Rattle.recovery.specs.UnderWay.{BelongsTo, IsOngoing, IsKept}
use Rattle.recovery.proofs.Stored.{counted_all, given_after, given_history, settled, some_sectors, state_opens}

-- ---- the other half never fills first

head_least : (form : Form) → 6 ≤ head_len form
head_least Plain = omega arith
head_least Numbered = omega arith

head_most : (form : Form) → head_len form ≤ 14
head_most Plain = omega arith
head_most Numbered = omega arith

-- a record takes at most one data sector more in one form than in the other
pub one_more : {B : Type 0} (A : Type 0) (x y : Place) (cs : List (Bor (Asked B))) → data_size (text_at A y cs) ≤ data_size (text_at A x cs) + 1
one_more A x y cs = omega (arith, given_size A x.form x.count cs, given_size A y.form y.count cs, head_least x.form, head_most y.form)

module _ {A B : Type 0} (layout : Layout) (side : Side) (epoch : ℕ) (x : Place) (count : ℕ) (it : Ongoing A)
    (first_is : x.first ≡ half_at layout side) (end_is : x.end ≡ half_end layout side) (belongs : BelongsTo layout side epoch x count it)
    (cs : List (Bor (Asked B))) (fits : data_size (text_at A x cs) ≤ room_of x) where
  -- so it fits the other half too
  pub fits_other : data_size (text_at A it.journal cs) ≤ room_of it.journal
  fits_other = omega (arith, one_more A x it.journal cs, some_sectors A x cs, first_is, end_is, belongs.first, belongs.end, belongs.up, belongs.ahead, fits)

  -- and all holds after it
  pub belongs_after : (now then : Place) (also : Option (Ongoing A)) →
      now ≡ record { first = x.first; end = x.end; next = x.next + data_size (text_at A x cs) + 1; form = x.form; count = x.count + length cs }
      → then ≡ record { first = it.journal.first; end = it.journal.end; next = it.journal.next + data_size (text_at A it.journal cs) + 1; form = it.journal.form; count = it.journal.count + length cs }
      → also ≡ Some (record it { journal = then }) → it.journal.count + length cs ≤ count → IfSome also (λ is. BelongsTo layout side epoch now count is)
  belongs_after now then also now_is then_is also_is counts = rw (also_is, now_is, then_is) (record {
    first = belongs.first;
    end = belongs.end;
    up = let up = belongs.up in omega (arith, up);
    form = belongs.form;
    ahead = let up = belongs.up in let ahead = belongs.ahead in omega (arith, one_more A x it.journal cs, some_sectors A x cs, up, ahead);
    counts = counts;
    epoch_is = belongs.epoch_is;
    progress = belongs.progress;
    limits = belongs.limits;
    more = belongs.more;
  })

-- ---- the places after it

pub place_after : {B : Type 0} (A : Type 0) (x : Place) (cs : List (Bor (Asked B))) (now : Place) →
    now ≡ record { first = x.first; end = x.end; next = x.next + data_size (text_at A x cs) + 1; form = x.form; count = x.count + length cs } →
    now ≡ following x (given A cs)
place_after A x cs now is =
    let made : ℕ → Place = λ n. record { first = x.first; end = x.end; next = x.next + data_size (text_at A x cs) + 1; form = x.form; count = x.count + n } in
    is ∙ ap made (sym (given_count A cs))

pub also_after : {A B : Type 0} (it : Ongoing A) (cs : List (Bor (Asked B))) (ongoing also : Option (Ongoing A)) (then : Place) → ongoing ≡ Some it
    → then ≡ record { first = it.journal.first; end = it.journal.end; next = it.journal.next + data_size (text_at A it.journal cs) + 1; form = it.journal.form; count = it.journal.count + length cs }
    → also ≡ Some (record it { journal = then }) → also ≡ ongoing_after ongoing (given A cs)
also_after {A} it cs ongoing also then ongoing_is then_is also_is =
    let put : Place → Option (Ongoing A) = λ p. Some (record it { journal = p }) in
    rw ongoing_is (also_is ∙ ap put (place_after A it.journal cs then then_is))

-- the two halves share no sector
pub apart : (layout : Layout) (side : Side) (x y : Place) → x.first ≡ half_at layout side → x.end ≡ half_end layout side →
    y.first ≡ half_at layout (other_of side) → y.end ≡ half_end layout (other_of side) → (x.end ≤ y.first) ⊎ (y.end ≤ x.first)
apart layout side.A x y x_first x_end y_first y_end = inl (omega (arith, x_end, y_first))
apart layout side.B x y x_first x_end y_first y_end = inr (omega (arith, x_first, y_end))

-- ---- an image in which nothing but the halves has changed

pub record IsHalvesTorn (layout : Layout) (was image : List (List ℕ)) : Type 0 where
  pub count : length image ≡ length was
  pub prefix : (k : ℕ) → k < 3 + 2 * slot_size layout → sector image k ≡ sector was k

module _ {A : Type 0} (layout : Layout) (s : Side) (form : Form) (base : Base) where
  pub halves_on_side : (held more : RecordsAndGate A) (was image : List (List ℕ)) → IsOnSide layout s form base held was → IsHalvesTorn layout was image →
      IsInHalf layout s form base more image → more.1 < half_end layout s → IsOnSide layout s form base more image
  halves_on_side held more was image holds torn half gate =
      let places = lies layout s in
      let others = lies layout (other_of s) in
      record {
        room = rw torn.count holds.room;
        label = ap (λ (bytes : List ℕ). take label_size bytes) (torn.prefix label_at (omega arith)) ∙ holds.label;
        root = ap (λ (bytes : List ℕ). slice_index bytes 0) (torn.prefix (root_at s) (omega (arith, places.root, places.slots))) ∙ holds.root;
        below = below_same layout (other_of s) base.0 was image (torn.prefix (root_at (other_of s)) (omega (arith, others.root, others.slots)))
            (torn.prefix (slot_at layout (other_of s)) (omega (arith, others.some, others.slots))) holds.below;
        slot = ap (slot_of layout.limits) (sectors_same was image (slot_at layout s) (slot_size layout) (λ k low high. torn.prefix k (omega (arith, high, places.slots)))) ∙ holds.slot;
        form_is = ap stated_form (torn.prefix (slot_at layout s) (omega (arith, places.some, places.slots))) ∙ holds.form_is;
        half = half;
        gate = gate;
      }

-- ---- records and one more

module _ {A : Type 0} (base s : State) (entries : List (RecordAt A)) (at : ℕ) (cs : List (Asked A)) where
  all_of : commands_of (entries ++ (at, cs) ∷ []) ≡ commands_of entries ++ cs
  all_of = flat_map-append (λ (entry : RecordAt A). entry.1) entries ((at, cs) ∷ []) ∙ ap (λ (l : List (Asked A)). commands_of entries ++ l) (append-nil cs)

  module _ (accepted : IsHistory base (commands_of entries)) (made : s ≡ after base (commands_of entries)) where
    more_accepted : IsHistory s cs → IsHistory base (commands_of (entries ++ (at, cs) ∷ []))
    more_accepted history = subst (λ (l : List (Asked A)). IsHistory base l) (sym all_of) (history-append base (commands_of entries) cs accepted (subst (λ (t : State). IsHistory t cs) made history))

    more_made : after s cs ≡ after base (commands_of (entries ++ (at, cs) ∷ []))
    more_made = ap (λ (t : State). after t cs) made ∙ sym (after-append base (commands_of entries) cs) ∙ ap (after base) (sym all_of)

    -- so many commands are accepted as a place after them counts
    counts_all : (count : ℕ) → count ≡ s.count → counted base.count entries ≡ count
    counts_all count is = counted_all base.count entries ∙ sym (numbers.counted base (commands_of entries) accepted) ∙ ap (λ (t : State). t.count) (sym made) ∙ sym is

-- ---- a record is added to both halves

module _ (A : Type 0) (layout : Layout) (side : Side) (epoch : ℕ) (x : Place) (first_is : x.first ≡ half_at layout side)
    (end_is : x.end ≡ half_end layout side) (within : x.next < half_end layout side)
    (count : ℕ) (it : Ongoing A) (belongs : BelongsTo layout side epoch x count it) (state_is : IsState it.register)
    (s : State) (old : View) (stored : IsStored A layout side epoch x s old) (also : IsOngoing A layout side epoch it s old) where
  abbrev o : Side
  o = other_of side

  abbrev y : Place
  y = it.journal

  some : half_at layout side < half_end layout side
  some = let fewest = layout.in_range.fewest in omega (arith, fewest)

  other_some : half_at layout (other_of side) < half_end layout (other_of side)
  other_some = let fewest = layout.in_range.fewest in omega (arith, fewest)

  pub settled_this : IsSettled old x stored.base.count stored.entries
  settled_this = settled A layout side epoch x first_is end_is within s old stored

  pub settled_also : IsSettled old it.journal it.register.count also.entries
  settled_also = record {
    begins = let first = belongs.first in let end = belongs.end in omega (arith, first, end, other_some);
    within = let gate = also.begun.gate in let end = belongs.end in omega (arith, gate, end);
    counts = counts_all it.register s also.entries 0 [] also.accepted also.made it.journal.count also.counts;
    half = λ image is. rw (belongs.first, belongs.end, belongs.form) (also.begun.half image is);
  }

  module _ (cs : List (Asked A)) (history : IsHistory s cs) where
    abbrev last : RecordAt A
    last = (x.next + 1, cs)

    abbrev other : RecordAt A
    other = (it.journal.next + 1, cs)

    abbrev Left : List (List ℕ) → Type 0
    Left = LeavesBoth old x it.journal stored.base.count it.register.count stored.entries also.entries last other

    -- outside both halves an image is as one before
    prefix : (was image : List (List ℕ)) →
        ((k : ℕ) → (k < x.first) ⊎ (x.first + (x.end - x.first) ≤ k) → (k < it.journal.first) ⊎
        (it.journal.first + (it.journal.end - it.journal.first) ≤ k) → sector image k ≡ sector was k)
        → (k : ℕ) → k < 3 + 2 * slot_size layout → sector image k ≡ sector was k
    prefix was image same k lt =
        let places = lies layout side in
        let others = lies layout (other_of side) in
        let first = belongs.first in
        same k (inl (omega (arith, lt, first_is, places.halves))) (inl (omega (arith, lt, first, others.halves)))

    image_opens : (entries : List (RecordAt A)) (gate : ℕ) (image : List (List ℕ)) → Left image →
        half_of x.form stored.base.count image x.first x.end ≡ Ok (entries, gate) →
        IsOnSide layout side x.form (epoch, stored.base) (entries, gate) image
    image_opens entries gate image leaves half =
        let was = leaves.elsewhere.0 in
        let there : half_of x.form stored.base.count image (half_at layout side) (half_end layout side) ≡ Ok (entries, gate) = rw (first_is, end_is) at half in
        halves_on_side layout side x.form (epoch, stored.base) (stored.entries, x.next) (entries, gate) was image (stored.each was leaves.elsewhere.1)
        (record { count = leaves.elsewhere.2.count; prefix = prefix was image leaves.elsewhere.2.others }) there
        (half_below x.form stored.base.count image (half_at layout side) (half_end layout side) entries gate some there)

    -- each image opens to the old register or for the new one, by the side that counts
    left_either : (image : List (List ℕ)) → Left image → OpensToEither A s (after s cs) image
    left_either image leaves = elim (leaves.half) [
      | inl without ↦ inl (state_opens A layout side x.form (epoch, stored.base) (stored.entries, without.0) s image
          (image_opens stored.entries without.0 image leaves without.1) stored.accepted stored.made)
      | inr with ↦ inr (state_opens A layout side x.form (epoch, stored.base) (stored.entries ++ last ∷ [], with.0) (after s cs) image
          (image_opens (stored.entries ++ last ∷ []) with.0 image leaves with.1)
          (more_accepted stored.base s stored.entries (x.next + 1) cs stored.accepted stored.made history) (more_made stored.base s stored.entries (x.next + 1) cs stored.accepted stored.made))
    ]

    in_both : (new : View) → LeavesOnly old new Left → LeavesOnly old new (OpensToEither A s (after s cs))
    in_both new leaves = weaker old new Left (OpensToEither A s (after s cs)) leaves left_either

    -- both have it then; what was written of the rows still reads so
    module _ (new : View) (leaves : LeavesOnly old new Left) (sound : IsSound new)
        (same : (k : ℕ) → (k < x.first) ⊎ (x.end ≤ k) → (k < it.journal.first) ⊎ (it.journal.end ≤ k) → sector new.reads k ≡ sector old.reads k)
        (a b c d : ℕ) (a_is : c ≡ x.count + length cs) (b_is : d ≡ it.journal.count + length cs)
        (is : IsSettled new (record { first = x.first; end = x.end; next = a; form = x.form; count = c }) stored.base.count (stored.entries ++ last ∷ []))
        (is_also : IsSettled new (record { first = it.journal.first; end = it.journal.end; next = b; form = it.journal.form; count = d }) it.register.count (also.entries ++ other ∷ [])) where
      stored_more : IsStored A layout side epoch (record { first = x.first; end = x.end; next = a; form = x.form; count = c }) (after s cs) new
      stored_more = record {
        base = stored.base;
        entries = stored.entries ++ last ∷ [];
        each = λ image left. image_opens (stored.entries ++ last ∷ []) a image (left_each old new Left leaves sound image left) (is.half image left);
        accepted = more_accepted stored.base s stored.entries (x.next + 1) cs stored.accepted stored.made history;
        made = more_made stored.base s stored.entries (x.next + 1) cs stored.accepted stored.made;
        counts = let counts = stored.counts in omega (arith, a_is, counts, numbers.counted s cs history);
      }

      same_row : (k : ℕ) → k < it.progress.written → sector new.reads (slot_at layout (other_of side) + k) ≡ sector old.reads (slot_at layout (other_of side) + k)
      same_row k lt =
          let places = lies layout side in
          let others = lies layout (other_of side) in
          let few = also.begun.few in
          let first = belongs.first in
          let fit = rows_have_room layout (epoch + 1) it.register state_is belongs.limits in
          same (slot_at layout (other_of side) + k) (inl (omega (arith, lt, few, fit, others.slots, first_is, places.halves))) (inl (omega (arith, lt, few, fit, others.slots, first, others.halves)))

      ongoing_more : IsOngoing A layout side epoch (record it { journal = record { first = it.journal.first; end = it.journal.end; next = b; form = it.journal.form; count = d } }) (after s cs) new
      ongoing_more =
          let others = lies layout (other_of side) in
          let few = also.begun.few in
          let counts = also.counts in
          record {
            entries = also.entries ++ other ∷ [];
            begun = record {
              root = λ image left.
                  let one = left_each old new Left leaves sound image left in
                  let was = one.elsewhere.0 in
                  closed_as (sector was (root_at (other_of side))) (sector image (root_at (other_of side)))
                  (prefix was image one.elsewhere.2.others (root_at (other_of side)) (omega (arith, others.root, others.slots)))
                  (also.begun.root was one.elsewhere.1);
              half = λ image left. rw (belongs.first, belongs.end, belongs.form) at (is_also.half image left);
              gate = let within = is_also.within in let end = belongs.end in omega (arith, within, end);
              rows = λ k lt. same_row k lt ∙ also.begun.rows k lt;
              few = few;
            };
            accepted = more_accepted it.register s also.entries (it.journal.next + 1) cs also.accepted also.made history;
            made = more_made it.register s also.entries (it.journal.next + 1) cs also.accepted also.made;
            counts = omega (arith, b_is, counts, numbers.counted s cs history);
          }

  -- the same of commands that are given
  module _ {B : Type 0} (cs : List (Bor (Asked B))) (history : IsHistory s (asked cs)) where
    abbrev Both : List (List ℕ) → Type 0
    Both = LeavesBoth old x it.journal stored.base.count it.register.count stored.entries also.entries (x.next + 1, given A cs) (it.journal.next + 1, given A cs)

    pub both_leaves : (new : View) → LeavesOnly old new Both → LeavesOnly old new (OpensToEither A s (after s (asked cs)))
    both_leaves new leaves = subst (λ (t : State). LeavesOnly old new (OpensToEither A s t)) (given_after A s cs) (in_both (given A cs) (given_history A s cs history) new leaves)

    all_given : (before : ℕ) → before + length cs ≡ before + length (given A cs)
    all_given before = omega (arith, length-map cs (λ (c : Bor (Asked B)). under A c.now))

    pub kept_both : (new : View) (now then : Place) (with : Option (Ongoing A)) →
        now ≡ record { first = x.first; end = x.end; next = x.next + data_size (text_at A x cs) + 1; form = x.form; count = x.count + length cs }
        → then ≡ record {
          first = it.journal.first;
          end = it.journal.end;
          next = it.journal.next + data_size (text_at A it.journal cs) + 1;
          form =
              it.journal.form;
          count = it.journal.count + length cs;
        } → with ≡ Some (record it { journal = then })
        → LeavesOnly old new Both → IsSound new
        → ((k : ℕ) → (k < x.first) ⊎ (x.end ≤ k) → (k < it.journal.first) ⊎ (it.journal.end ≤ k) → sector new.reads k ≡ sector old.reads k)
        → IsSettled new now stored.base.count (stored.entries ++ (x.next + 1, given A cs) ∷ []) × IsSettled new then it.register.count (also.entries ++ (it.journal.next + 1, given A cs) ∷ [])
        → IsKept A layout side epoch now with (after s (asked cs)) new
    kept_both new now then with now_is then_is with_is leaves sound same both =
        let a = x.next + data_size (text_at A x cs) + 1 in
        let b = it.journal.next + data_size (text_at A it.journal cs) + 1 in
        let c = x.count + length cs in
        let d = it.journal.count + length cs in
        let history_given = given_history A s cs history in
        let first = rw now_is at both.0 in
        let second = rw then_is at both.1 in
        rw (with_is, now_is, then_is) (record {
          stored = subst (λ (t : State). IsStored A layout side epoch (record { first = x.first; end = x.end; next = a; form = x.form; count = c }) t new) (given_after A s cs)
              (stored_more (given A cs) history_given new leaves sound same a b c d (all_given x.count) (all_given it.journal.count) first second);
          under_way = subst (λ (t : State).
              IsOngoing A layout side epoch
              (record it { journal = record { first = it.journal.first; end = it.journal.end; next = b; form = it.journal.form; count = d } }) t new)
              (given_after A s cs)
              (ongoing_more (given A cs) history_given new leaves sound same a b c d (all_given x.count) (all_given it.journal.count) first second);
        })

-- ---- what is known at an exit

pub some_of : {T : Type 0} (o : Option T) → is_some o ≡ true → (t : T) × (o ≡ Some t)
some_of None is = absurd cc
some_of (Some t) is = (t, refl)

pub ok_part : {T E P : Type 0} (r : Result T E) → is_err r ≡ false → OnOk r P → P
ok_part (Ok t) is p = p
ok_part (Err e) is p = absurd cc

-- ---- roots lie before both halves

pub root_before : (layout : Layout) (side : Side) (x : Place) → x.first ≡ half_at layout side → (s : Side) → root_at s < x.first
root_before layout side x first s = let places = lies layout side in let others = lies layout s in omega (arith, first, places.halves, others.root, others.slots)
