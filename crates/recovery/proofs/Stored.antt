-- A register that is stored stays so: through a checkpoint, and through an append of commands that it accepts.
use Rattle.std.proofs.Common.{◌≡◌, inl, inr, ℕ, ◌+◌, ◌<◌, ◌≤◌, List, [], ◌∷◌, ◌++◌, length, map, take, true, false, Result, Ok, Err, OnOk, refl, sym, ap, subst, ◌∙◌, arith}
use Rattle.std.specs.Prelude.{nat_eq}
use Rattle.std.specs.Borrow.{Bor}
use Rattle.std.proofs.lemmas.Bool.Decides.{nat_tests}
use Rattle.std.specs.List.{flat_map}
use Rattle.std.proofs.lemmas.Grind.{flat_map-append}
use Rattle.std.proofs.lemmas.List.{append-nil, length-append, length-map}
use Rattle.std.proofs.lemmas.Simd.{map-map}
use Rattle.sector_disk.specs.Disk.{IsSound, View}
use Rattle.sector_disk.specs.Run.{IsTorn, LeavesOnly}
use Rattle.sector_disk.proofs.Moments.{run_on, started, weaker}
use Rattle.centre_core.specs.Asked.{Asked}
use Rattle.centre_core.specs.Same.{under}
use Rattle.centre_core.specs.State.{State}
use Rattle.centre_core.specs.History.{after}
use Rattle.centre_core.specs.Histories.{IsHistory}
use Rattle.centre_core.proofs.HistoryLaws as numbers
use Rattle.centre_core.proofs.InTurnLaws.{after-append, history-append}
use Rattle.centre_core.proofs.SameLaws.{after_is_same, histories_are_same}
use Rattle.command_bytes.specs.Text.{command_text}
use Rattle.gated_journal.specs.declared.form.Form.{Form}
use Rattle.gated_journal.specs.declared.form.Form.TheVariants.{Numbered, Plain}
use Rattle.gated_journal.specs.declared.place.Place.{Place}
use Rattle.gated_journal.specs.Half.{RecordAt, counted, half_of}
use Rattle.gated_journal.specs.Record.{data_size, given, head_len, most_data_sectors, record_text}
use Rattle.gated_journal.proofs.Given.{given_size}
use Rattle.gated_journal.specs.Settled.{IsSettled, Leaves, room_of, text_at}
use Rattle.gated_journal.proofs.Chain.{half_below}
use Rattle.checkpoint.specs.declared.layout.Layout.{Layout}
use Rattle.checkpoint.specs.declared.side.Side.{Side}
use Rattle.checkpoint.specs.Layout.{half_at, half_end, other_of}
use Rattle.checkpoint.specs.OnSide.{Base, RecordsAndGate, InEach, IsEither, IsOnSide, fresh}
use Rattle.checkpoint.proofs.Added.{on_side_with}
use Rattle.checkpoint.proofs.Spared.{left_each}
use Rattle.recovery.specs.Stored.{IsStored, fresh_place}
use Rattle.recovery.specs.Opens.{opening}
use Rattle.recovery.specs.declared.outcome.Outcome.{Outcome}
use Rattle.recovery.specs.Outcomes.{IsAfterBatch, IsAnswered, IsEnd, OpensToEither, asked}
use Rattle.recovery.specs.OpensTo.{OpensTo, commands_of}
use Rattle.recovery.proofs.Opened.{side_opens}

-- ---- what is is opened to

pub state_opens : (A : Type 0) (layout : Layout) (side : Side) (form : Form) (base : Base) (held : RecordsAndGate A) (s : State) (image : List (List ℕ)) →
    IsOnSide layout side form base held image → IsHistory base.1 (commands_of held.0) → s ≡ after base.1 (commands_of held.0) → OpensTo A s image
state_opens A layout side form base held s image holds history made = record {
  opening = opening layout side base.0 held.1 (after base.1 (commands_of held.0));
  opens = side_opens layout side form base held image holds history;
  same = sym made;
}

module _ (A : Type 0) (layout : Layout) (side : Side) (epoch : ℕ) (journal : Place) (s : State) (disk : View) (stored : IsStored A layout side epoch journal s disk) where
  pub stored_opens : InEach disk (OpensTo A s)
  stored_opens image is = state_opens A layout side journal.form (epoch, stored.base) (stored.entries, journal.next) s image (stored.each image is) stored.accepted stored.made

  pub nothing_done : IsSound disk → LeavesOnly disk disk (OpensTo A s)
  nothing_done sound = started disk (OpensTo A s) sound stored_opens

  -- ---- a checkpoint

  -- the image is on the old side, or by the other one with no record
  abbrev Either : List (List ℕ) → Type 0
  Either = IsEither layout side journal.form Numbered (epoch, stored.base) (epoch + 1, s) (stored.entries, journal.next) (fresh layout (other_of side))

  either_opens : (image : List (List ℕ)) → Either image → OpensTo A s image
  either_opens image (inl old) = state_opens A layout side journal.form (epoch, stored.base) (stored.entries, journal.next) s image old stored.accepted stored.made
  either_opens image (inr new) = state_opens A layout (other_of side) Numbered (epoch + 1, s) (fresh layout (other_of side)) s image new tt refl

  pub in_checkpoint : (new : View) → LeavesOnly disk new Either → LeavesOnly disk new (OpensTo A s)
  in_checkpoint new leaves = weaker disk new Either (OpensTo A s) leaves either_opens

-- the image is written, and then the side switched to
module _ {A : Type 0} (layout : Layout) (current : Side) (form also : Form) (base next : Base) (held more : RecordsAndGate A) (old mid : View)
    (written : LeavesOnly old mid (IsOnSide layout current form base held)) where
  pub not_switched : LeavesOnly old mid (IsEither layout current form also base next held more)
  not_switched = weaker old mid (IsOnSide layout current form base held) (IsEither layout current form also base next held more) written (λ image is. inl is)

  pub then_switched : (new : View) → LeavesOnly mid new (IsEither layout current form also base next held more) → LeavesOnly old new (IsEither layout current form also base next held more)
  then_switched new switched = run_on old mid new (IsEither layout current form also base next held more) (IsEither layout current form also base next held more) not_switched switched (λ image is. is)

-- where all images are on a side with no record, the register is stored there
pub stored_fresh : (A : Type 0) (layout : Layout) (side : Side) (epoch : ℕ) (s : State) (disk : View) →
    InEach disk (IsOnSide {A = A} layout side Numbered (epoch, s) (fresh layout side)) →
    IsStored A layout side epoch (fresh_place layout side s.count) s disk
stored_fresh A layout side epoch s disk each = record { base = s; entries = []; each = each; accepted = tt; made = refl; counts = refl }

-- ---- commands that are given

module _ {B : Type 0} (A : Type 0) (s : State) (cs : List (Bor (Asked B))) where
  given_asked : given A cs ≡ map (under A) (asked cs)
  given_asked = sym (map-map (under A) (λ (c : Bor (Asked B)). c.now) cs)

  pub given_history : IsHistory s (asked cs) → IsHistory s (given A cs)
  given_history is = subst (λ (l : List (Asked A)). IsHistory s l) (sym given_asked) (histories_are_same A s (asked cs) is)

  pub given_after : after s (given A cs) ≡ after s (asked cs)
  given_after = ap (after s) given_asked ∙ after_is_same A s (asked cs)

-- ---- an append

-- the commands of some records, counted
pub counted_all : {A : Type 0} (before : ℕ) (entries : List (RecordAt A)) → counted before entries ≡ before + length (commands_of entries)
counted_all before [] = omega arith
counted_all before (entry ∷ entries) = omega (arith, counted_all (before + length entry.1) entries, length-append entry.1 (commands_of entries))

module _ (A : Type 0) (layout : Layout) (side : Side) (epoch : ℕ) (place : Place) (first_is : place.first ≡ half_at layout side)
    (end_is : place.end ≡ half_end layout side) (within : place.next < half_end layout side)
    (s : State) (disk : View) (stored : IsStored A layout side epoch place s disk) where
  some : half_at layout side < half_end layout side
  some = let fewest = layout.in_range.fewest in omega (arith, fewest)

  -- with the records' commands so many are accepted as the place counts
  counts : counted stored.base.count stored.entries ≡ place.count
  counts = counted_all stored.base.count stored.entries ∙ sym (numbers.counted stored.base (commands_of stored.entries) stored.accepted) ∙
      ap (λ (t : State). t.count) (sym stored.made) ∙ sym stored.counts

  pub settled : IsSettled disk place stored.base.count stored.entries
  settled = record {
    begins = omega (arith, first_is, end_is, some);
    within = omega (arith, end_is, within);
    counts = counts;
    half = λ image is. rw (first_is, end_is) ((stored.each image is).half);
  }

  module _ (more : List (Asked A)) (history : IsHistory s more) where
    abbrev last : RecordAt A
    last = (place.next + 1, more)

    abbrev longer : List (RecordAt A)
    longer = stored.entries ++ last ∷ []

    all : commands_of longer ≡ commands_of stored.entries ++ more
    all = flat_map-append (λ (entry : RecordAt A). entry.1) stored.entries (last ∷ []) ∙ ap (λ (l : List (Asked A)). commands_of stored.entries ++ l) (append-nil more)

    all_accepted : IsHistory stored.base (commands_of longer)
    all_accepted =
        subst (λ (l : List (Asked A)). IsHistory stored.base l) (sym all)
        (history-append stored.base (commands_of stored.entries) more stored.accepted
        (subst (λ (t : State). IsHistory t more) stored.made history))

    all_made : after s more ≡ after stored.base (commands_of longer)
    all_made = ap (λ (t : State). after t more) stored.made ∙ sym (after-append stored.base (commands_of stored.entries) more) ∙ ap (after stored.base) (sym all)

    -- an image in which nothing but the half has changed
    image_opens : (entries : List (RecordAt A)) (gate : ℕ) (image : List (List ℕ)) → Leaves disk place stored.base.count stored.entries last image →
        half_of place.form stored.base.count image place.first place.end ≡ Ok (entries, gate) →
        IsOnSide layout side place.form (epoch, stored.base) (entries, gate) image
    image_opens entries gate image leaves half =
        let was = leaves.elsewhere.0 in
        let torn : IsTorn (half_at layout side) layout.journal was image = record {
          count = leaves.elsewhere.2.count;
          others = λ k out. leaves.elsewhere.2.others k (elim out [ inl low ↦ inl (omega (arith, first_is, low)) | inr high ↦ inr (omega (arith, first_is, end_is, high)) ]);
        } in
        let there : half_of place.form stored.base.count image (half_at layout side) (half_end layout side) ≡ Ok (entries, gate) = rw (first_is, end_is) at half in
        on_side_with layout side place.form (epoch, stored.base) (stored.entries, place.next) (entries, gate) was image
        (stored.each was leaves.elsewhere.1) torn there
        (half_below place.form stored.base.count image (half_at layout side) (half_end layout side) entries gate some there)

    left_either : (image : List (List ℕ)) → Leaves disk place stored.base.count stored.entries last image → OpensToEither A s (after s more) image
    left_either image leaves = elim (leaves.half) [
      | inl without ↦ inl (state_opens A layout side place.form (epoch, stored.base) (stored.entries, without.0) s image
          (image_opens stored.entries without.0 image leaves without.1) stored.accepted stored.made)
      | inr with ↦ inr (state_opens A layout side place.form (epoch, stored.base) (longer, with.0) (after s more) image (image_opens longer with.0 image leaves with.1) all_accepted all_made)
    ]

    pub in_append : (new : View) → LeavesOnly disk new (Leaves disk place stored.base.count stored.entries last) → LeavesOnly disk new (OpensToEither A s (after s more))
    in_append new leaves = weaker disk new (Leaves disk place stored.base.count stored.entries last) (OpensToEither A s (after s more)) leaves left_either

    pub stored_more : (new : View) (now : Place) → now.first ≡ place.first → now.end ≡ place.end → now.form ≡ place.form → now.count ≡ place.count + length more
        → LeavesOnly disk new (Leaves disk place stored.base.count stored.entries last) → IsSound new → IsSettled new now stored.base.count longer → IsStored A layout side epoch now (after s more) new
    stored_more new now first end form count leaves sound is = record {
      base = stored.base;
      entries = longer;
      each = λ image left. rw form
          (image_opens longer now.next image (left_each disk new (Leaves disk place stored.base.count stored.entries last) leaves sound image left)
          (rw (first, end, form) at (is.half image left)));
      accepted = all_accepted;
      made = all_made;
      counts = omega (arith, count, stored.counts, numbers.counted s more history);
    }

  -- the same of commands that are given
  module _ {B : Type 0} (cs : List (Bor (Asked B))) (history : IsHistory s (asked cs)) where
    abbrev Left : List (List ℕ) → Type 0
    Left = Leaves disk place stored.base.count stored.entries (place.next + 1, given A cs)

    pub append_leaves : (new : View) → LeavesOnly disk new Left → LeavesOnly disk new (OpensToEither A s (after s (asked cs)))
    append_leaves new leaves = subst (λ (t : State). LeavesOnly disk new (OpensToEither A s t)) (given_after A s cs) (in_append (given A cs) (given_history A s cs history) new leaves)

    pub stored_append : (new : View) (now : Place) → now.first ≡ place.first → now.end ≡ place.end → now.form ≡ place.form → now.count ≡ place.count + length cs
        → LeavesOnly disk new Left → IsSound new → IsSettled new now stored.base.count (stored.entries ++ (place.next + 1, given A cs) ∷ []) → IsStored A layout side epoch now (after s (asked cs)) new
    stored_append new now first end form count leaves sound is =
        let all : now.count ≡ place.count + length (given A cs) = omega (arith, count, length-map cs (λ (c : Bor (Asked B)). under A c.now)) in
        subst (λ (t : State). IsStored A layout side epoch now t new) (given_after A s cs) (stored_more (given A cs) (given_history A s cs history) new now first end form all leaves sound is)

-- ---- one part of a commit after another

pub only_before : (A : Type 0) (s t : State) (old new : View) → LeavesOnly old new (OpensTo A s) → LeavesOnly old new (OpensToEither A s t)
only_before A s t old new leaves = weaker old new (OpensTo A s) (OpensToEither A s t) leaves (λ image is. inl is)

pub then_either : (A : Type 0) (s t : State) (old mid new : View) → LeavesOnly old mid (OpensTo A s) → LeavesOnly mid new (OpensToEither A s t) → LeavesOnly old new (OpensToEither A s t)
then_either A s t old mid new first second = run_on old mid new (OpensToEither A s t) (OpensToEither A s t) (only_before A s t old mid first) second (λ image is. is)

-- a record takes one data sector at least
head_some : (form : Form) → 1 ≤ head_len form
head_some Plain = omega arith
head_some Numbered = omega arith

pub some_sectors : {B : Type 0} (A : Type 0) (place : Place) (cs : List (Bor (Asked B))) → 1 ≤ data_size (text_at A place cs)
some_sectors A place cs = omega (arith, given_size A place.form place.count cs, head_some place.form)

-- the greatest one fits after a new image
pub fits_fresh : {T E B : Type 0} (A : Type 0) (r : Result T E) (layout : Layout) (side : Side) (count : ℕ) (now : Place)
    (cs : List (Bor (Asked B))) → ((form : Form) (before : ℕ) → data_size (record_text form before (given A cs)) ≤ most_data_sectors)
    → OnOk r (now ≡ fresh_place layout side count) → OnOk r (data_size (text_at A now cs) ≤ room_of now)
fits_fresh A (Ok t) layout side count now cs most is =
    let fewest = layout.in_range.fewest in
    let few : data_size (text_at A (fresh_place layout side count) cs) ≤ most_data_sectors = most Numbered count in
    let fits : data_size (text_at A (fresh_place layout side count) cs) ≤ room_of (fresh_place layout side count) = omega (arith, few, fewest) in
    subst (λ (p : Place). data_size (text_at A p cs) ≤ room_of p) (sym is) fits
fits_fresh A (Err e) layout side count now cs most is = tt

-- a record of fewer bytes of commands fits where the greater one does
pub fewer_fit : {B : Type 0} (A : Type 0) (place : Place) (less few more : List (Bor (Asked B))) (room : ℕ) → less ≡ few →
    length (flat_map (λ c. command_text c.now) few) ≤ length (flat_map (λ c. command_text c.now) more)
    → data_size (text_at A place more) ≤ room → data_size (text_at A place less) ≤ room
fewer_fit A place less few more room same size fits =
    let bytes : length (flat_map (λ c. command_text c.now) less) ≡ length (flat_map (λ c. command_text c.now) few) = ap (λ l. length (flat_map (λ c. command_text c.now) l)) same in
    omega (arith, given_size A place.form place.count less, given_size A place.form place.count more, bytes, size, fits)

-- a batch is done: m is the state s as it was before, t the one after it, and u what the register has in the end
pub batch_done : {B C : Type 0} (s m t u : State) (cs : List (Asked B)) (outcomes : List (Outcome C)) → m ≡ s → u ≡ t → IsAnswered m cs t outcomes → IsAfterBatch s cs u
batch_done s m t u cs outcomes same last is = (is.applied, last ∙ is.state ∙ ap (λ x. after x (take is.applied cs)) same, subst (λ x. IsEnd cs is.applied x) (sym last) is.end)

pub no_length : (n : ℕ) → nat_eq n 0 ≡ true → n ≡ 0
no_length n e = grind (arith, nat_tests)

pub some_length : (n : ℕ) → nat_eq n 0 ≡ false → 1 ≤ n
some_length n e = grind (arith, nat_tests)

-- nothing is asked
pub none_answered : {B C : Type 0} (s : State) (cs : List (Bor (Asked B))) (outcomes : List (Outcome C)) → cs ≡ [] → outcomes ≡ [] → IsAnswered s (asked cs) s outcomes
none_answered {B} {C} s cs outcomes none empty =
    subst (λ l. IsAnswered s (asked l) s outcomes) (sym none) (record { applied = 0; end = record { most = omega arith; wants = λ c e. absurd cc }; state = refl; outcomes_are = empty })
