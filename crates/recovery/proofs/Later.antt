-- The records after the one at which those of a half end.
use Rattle.std.proofs.Common.{◌≡◌, ℕ, ◌+◌, ◌<◌, ◌≤◌, Bool, true, false, List, length, slice_index, Option, Some, None, Result, Ok, Err, IfSome}
use Rattle.std.proofs.Common.{MatchOption, refl, sym, subst, ap, arith, cond, eqb, leb, ltb}
use Rattle.std.specs.Prelude.{◌&&◌, if◌then◌else◌}
use Rattle.std.proofs.lemmas.Bool.Decides.{nat_tests}
use Rattle.byteorder.specs.Endian.{big_from}
use Rattle.sector_disk.specs.Disk.{View, sector}
use Rattle.centre_core.specs.Asked.{Asked}
use Rattle.gated_journal.specs.declared.form.Form.{Form}
use Rattle.gated_journal.specs.declared.place.Place.{Place}
use Rattle.gated_journal.specs.Half.{Found, data_from, found, record_at, stated_size}
use Rattle.gated_journal.specs.Record.{most_data_sectors, record_of}
use Rattle.gated_journal.specs.Settled.{record_in}
use Rattle.checkpoint.specs.declared.layout.Layout.{Layout}
use Rattle.checkpoint.specs.declared.side.Side.{Side}
use Rattle.recovery.specs.Label.{layout_in}
use Rattle.recovery.specs.Rests.{AreLater, AreLaterOf, AreLaterOnDisk, AreReadable, AreReadableAt, NothingIsLeft, gate_after}
use Rattle.recovery.specs.Rests.{after_played, after_refused, after_unreadable, one_more, up_to_bad, up_to_closed}
use Rattle.recovery.specs.Inside.Rests.{CanRead, CanReadAfter, EndsAt, HasLater, gate_from}

-- ---- one gate

-- a record is at fault at its gate or at its first data sector
module _ (A : Type 0) (at bad : ℕ) where
  found_from : (next : ℕ) (commands : Option (List (Asked A))) → found (at + 1) next commands ≡ Err bad → at ≤ bad
  found_from next None e = let same : at + 1 ≡ bad = cc in omega (arith, same)
  found_from next (Some commands) e = absurd cc

  by_tests : (b c d : Bool) (r : Found A) → (r ≡ Err bad → at ≤ bad) → cond b (cond c (Err at) (cond d r (Err (at + 1)))) (Ok None) ≡ Err bad → at ≤ bad
  by_tests false c d r from e = absurd cc
  by_tests true true d r from e = let same : at ≡ bad = cc in omega (arith, same)
  by_tests true false true r from e = from e
  by_tests true false false r from e = let same : at + 1 ≡ bad = cc in omega (arith, same)

  bad_from : (form : Form) (before : ℕ) (image : List (List ℕ)) (end : ℕ) → record_at {A = A} form before image at end ≡ Err bad → at ≤ bad
  unfolding record_at
  bad_from form before image end e =
      let size = stated_size form (sector image (at + 1)) in
      let next = at + 1 + size in
      let commands = record_of {A = A} form before (data_from image (at + 1) size) in
      by_tests (eqb (slice_index (sector image at) 0) 1) (eqb (at + 1) end) (leb size most_data_sectors && ltb next end) (found (at + 1) next commands) (found_from next commands) e

-- ---- the gate after a record

module _ (place : Place) (disk : View) (bad : ℕ) where
  -- the journal has passed it
  pub passed : bad < place.next → gate_from place disk bad ≡ Some (place.count, place.next)
  passed lt = let yes : ltb bad place.next ≡ true = grind (arith, nat_tests) in rw yes refl

  -- the bad sector is the record's gate
  pub at_gate : bad ≡ place.next → gate_from place disk bad ≡ None
  at_gate is =
      let no : ltb bad place.next ≡ false = grind (arith, nat_tests) in
      let nor : ltb place.next bad ≡ false = grind (arith, nat_tests) in
      rw (no, nor) refl

  module _ (after : place.next < bad) (commands size : ℕ) (commands_is : commands ≡ big_from 0 2 (sector disk.reads bad)) (size_is : size ≡ stated_size place.form (sector disk.reads bad)) where
    -- it states where it ends
    pub stated : commands ≤ 64 → bad + size < place.end → Some (place.count + commands, bad + size) ≡ gate_from place disk bad
    stated few inside =
        let no : ltb bad place.next ≡ false = grind (arith, nat_tests) in
        let yes : ltb place.next bad ≡ true = grind (arith, nat_tests) in
        let a : leb commands 64 ≡ true = grind (arith, nat_tests) in
        let b : ltb (bad + size) place.end ≡ true = grind (arith, nat_tests) in
        rw (← commands_is, ← size_is, no, yes, a, b) refl

-- ---- records that can be read

module _ (A : Type 0) (p : Place) (disk : View) where
  pub none_closed : record_in A p disk ≡ Ok None → CanRead A p disk 0
  none_closed is = up_to_closed p.count p.next is

  pub none_bad : (bad : ℕ) → record_in A p disk ≡ Err bad → CanRead A p disk 0
  none_bad bad is = up_to_bad p.count p.next bad is

  -- after a record that can't be read
  pub later_bad : (bad : ℕ) → record_in A p disk ≡ Err bad → (later : ℕ) → CanReadAfter A p disk bad later → HasLater A p disk bad later
  later_bad bad is later can =
      let from : p.next ≤ bad = bad_from A p.next bad p.form p.count disk.reads p.end is in
      let no : ltb bad p.next ≡ false = grind (arith, nat_tests) in
      after_unreadable p.count p.next bad later is (rw no at can)

  -- none after the one in this sector
  pub none_after : (bad : ℕ) → None ≡ gate_from p disk bad → CanReadAfter A p disk bad 0
  none_after bad is = subst (λ (gate : Option (ℕ × ℕ)). AreReadableAt A p.form disk.reads p.end gate 0) is refl

  module _ (commands : List (Asked A)) (gate : ℕ) (there : record_in A p disk ≡ Ok (Some (commands, gate))) (new : Place)
      (form : new.form ≡ p.form) (end : new.end ≡ p.end) (next : new.next ≡ gate) (count : new.count ≡ p.count + length commands) where
    pub more : (n : ℕ) → CanRead A new disk n → CanRead A p disk (n + 1)
    more n can =
        let on : AreReadable A new.form disk.reads new.end new.count new.next n = can in
        one_more p.count p.next commands gate n there (rw (form, end, next, count) at on)

    pub later_played : (bad later : ℕ) → HasLater A new disk bad later → HasLater A p disk bad later
    later_played bad later has = after_played p.count p.next commands gate bad later there (rw (form, end, next, count) at has)

    pub later_refused : (bad : ℕ) → bad ≡ p.next + 1 → bad < new.next → (later : ℕ) → CanReadAfter A new disk bad later → HasLater A p disk bad later
    later_refused bad is lt later can =
        let there_on : AreReadable A new.form disk.reads new.end new.count new.next later = rw (passed new disk bad lt) at can in
        let last : HasLater A p disk (p.next + 1) later = after_refused p.count p.next commands gate later there (rw (form, end, next, count) at there_on) in
        subst (λ (b : ℕ). HasLater A p disk b later) (sym is) last

  -- if the records end, from an earlier gate on as well
  pub ends_on : (start new : Place) (mid : View) → mid.reads ≡ disk.reads → (bad : Option ℕ) → EndsAt A p new mid bad
      → ((at later : ℕ) → HasLater A p disk at later → HasLater A start disk at later) → EndsAt A start new disk bad
  ends_on start new mid same None ends on = tt
  ends_on start new mid same (Some at) ends on = λ later can.
      let there : CanReadAfter A new mid at later =
      subst (λ (i : List (List ℕ)).
      AreReadableAt A new.form i new.end
      (if ltb at new.next then Some (new.count, new.next) else gate_after new.form new.count i new.next at new.end) later) (sym same) can in
      on at later (subst (λ (i : List (List ℕ)). AreLater A p.form i p.end p.count p.next at later) same (ends later there))

-- ---- a disk

module _ (A : Type 0) (image : List (List ℕ)) (layout : Layout) (label : layout_in image ≡ Ok layout) (side : Side) where
  on_disk : (bad : Option ℕ) (later : ℕ) → AreLaterOf A layout side image bad later → AreLaterOnDisk A image side bad later
  on_disk None later is = is.2
  on_disk (Some bad) later is = (layout, label, is)

  -- of a damaged disk
  pub later_of_greater : {X : Type 0} (found : Option X) (side_of : X → Side) (stop_of : X → Option ℕ) (later_of : X → ℕ) (P : X → Type 0)
      → MatchOption found (NothingIsLeft layout side image) (λ x. (side_of x ≡ side) × P x × AreLaterOf A layout side image (stop_of x) (later_of x))
      → IfSome found (λ x. AreLaterOnDisk A image (side_of x) (stop_of x) (later_of x))
  later_of_greater None side_of stop_of later_of P says = tt
  later_of_greater (Some x) side_of stop_of later_of P says =
      let later : AreLaterOf A layout side image (stop_of x) (later_of x) = says.2 in
      subst (λ (s : Side). AreLaterOnDisk A image s (stop_of x) (later_of x)) (sym says.0) (on_disk (stop_of x) (later_of x) later)
