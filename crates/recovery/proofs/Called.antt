-- The calls that a format, a checkpoint and a commit have made.
use Rattle.std.proofs.Common.{◌≡◌, ◌≤◌, List, [], ◌∷◌, ◌++◌, length, None, Some, Result, Ok, Err, OnOk, refl, sym, ap, ◌∙◌, append_assoc, arith}
use Rattle.std.specs.Borrow.{Bor}
use Rattle.sector_disk.specs.Disk.{View, IsCalled}
use Rattle.sector_disk.specs.Run.{HasMade}
use Rattle.sector_disk.specs.declared.disk.DiskError.{DiskError}
use Rattle.sector_disk.specs.declared.record.Call.{Call}
use Rattle.sector_disk.specs.declared.record.Call.TheVariants.{Sync, Write}
use Rattle.sector_disk.proofs.Made.{all_made, made_on}
use Rattle.centre_core.specs.Asked.{Asked}
use Rattle.gated_journal.specs.Calls.{append_both_calls, append_calls, closed_gate, open_gate}
use Rattle.gated_journal.specs.Record.{given}
use Rattle.gated_journal.specs.Settled.{text_at}
use Rattle.gated_journal.specs.declared.place.Place.{Place}
use Rattle.checkpoint.specs.declared.layout.Layout.{Layout}
use Rattle.checkpoint.specs.declared.side.Side.TheVariants as side
use Rattle.checkpoint.specs.Layout.{half_at, label_at, root_at, slot_at}
use Rattle.recovery.specs.declared.ongoing.Ongoing.{Ongoing}
use Rattle.recovery.specs.Calls.{first_header, format_calls, record_calls, label_sector, side_calls}

-- ---- the sides

module _ (layout : Layout) (old : View) where
  abbrev header : Call
  header = Write (slot_at layout side.A) first_header

  abbrev root : Call
  root = Write (root_at side.A) open_gate

  abbrev other : Call
  other = Write (root_at side.B) closed_gate

  abbrev gate : Call
  gate = Write (half_at layout side.A) closed_gate

  abbrev other_gate : Call
  other_gate = Write (half_at layout side.B) closed_gate

  module _ (one : View) (first_made : one.calls ≡ old.calls ++ header ∷ []) where
    pub calls_in_root : (new : View) (result : Result Unit DiskError) → IsCalled one new root result → HasMade old new (side_calls layout)
    calls_in_root new result called = made_on old one new (header ∷ []) (other ∷ gate ∷ other_gate ∷ Sync ∷ []) root result first_made called

    module _ (two : View) (second_made : two.calls ≡ one.calls ++ root ∷ []) where
      two_made : two.calls ≡ old.calls ++ (header ∷ root ∷ [])
      two_made = all_made old.calls one.calls two.calls (header ∷ []) root first_made second_made

      pub calls_in_other : (new : View) (result : Result Unit DiskError) → IsCalled two new other result → HasMade old new (side_calls layout)
      calls_in_other new result called = made_on old two new (header ∷ root ∷ []) (gate ∷ other_gate ∷ Sync ∷ []) other result two_made called

      module _ (three : View) (third_made : three.calls ≡ two.calls ++ other ∷ []) where
        three_made : three.calls ≡ old.calls ++ (header ∷ root ∷ other ∷ [])
        three_made = all_made old.calls two.calls three.calls (header ∷ root ∷ []) other two_made third_made

        pub calls_in_gate : (new : View) (result : Result Unit DiskError) → IsCalled three new gate result → HasMade old new (side_calls layout)
        calls_in_gate new result called = made_on old three new (header ∷ root ∷ other ∷ []) (other_gate ∷ Sync ∷ []) gate result three_made called

        module _ (four : View) (fourth_made : four.calls ≡ three.calls ++ gate ∷ []) where
          four_made : four.calls ≡ old.calls ++ (header ∷ root ∷ other ∷ gate ∷ [])
          four_made = all_made old.calls three.calls four.calls (header ∷ root ∷ other ∷ []) gate three_made fourth_made

          pub calls_in_other_gate : (new : View) (result : Result Unit DiskError) → IsCalled four new other_gate result → HasMade old new (side_calls layout)
          calls_in_other_gate new result called = made_on old four new (header ∷ root ∷ other ∷ gate ∷ []) (Sync ∷ []) other_gate result four_made called

          module _ (five : View) (fifth_made : five.calls ≡ four.calls ++ other_gate ∷ []) where
            five_made : five.calls ≡ old.calls ++ (header ∷ root ∷ other ∷ gate ∷ other_gate ∷ [])
            five_made = all_made old.calls four.calls five.calls (header ∷ root ∷ other ∷ gate ∷ []) other_gate four_made fifth_made

            pub calls_in_sync : (new : View) (result : Result Unit DiskError) → IsCalled five new Sync result → HasMade old new (side_calls layout)
            calls_in_sync new result called = made_on old five new (header ∷ root ∷ other ∷ gate ∷ other_gate ∷ []) [] Sync result five_made called

            pub calls_at_sync : (new : View) (result : Result Unit DiskError) → IsCalled five new Sync result → OnOk result (new.calls ≡ old.calls ++ side_calls layout)
            calls_at_sync new (Ok u) called = all_made old.calls five.calls new.calls (header ∷ root ∷ other ∷ gate ∷ other_gate ∷ []) Sync five_made called.made
            calls_at_sync new (Err e) called = tt

  -- ---- the label after them

  abbrev label : Call
  label = Write label_at (label_sector layout)

  module _ (sides : View) (were : sides.calls ≡ old.calls ++ side_calls layout) where
    module _ (labelled : View) (made : labelled.calls ≡ sides.calls ++ label ∷ []) where
      all_but_one : labelled.calls ≡ old.calls ++ (side_calls layout ++ label ∷ [])
      all_but_one = all_made old.calls sides.calls labelled.calls (side_calls layout) label were made

      pub calls_in_last : (new : View) (result : Result Unit DiskError) → IsCalled labelled new Sync result → HasMade old new (format_calls layout)
      calls_in_last new result called = made_on old labelled new (side_calls layout ++ label ∷ []) [] Sync result all_but_one called

-- ---- two runs, the second after the first

module _ (old mid new : View) (first second : List Call) (were : mid.calls ≡ old.calls ++ first) where
  pub made_both : new.calls ≡ mid.calls ++ second → new.calls ≡ old.calls ++ (first ++ second)
  made_both is = is ∙ ap (λ (some : List Call). some ++ second) were ∙ append_assoc old.calls first second

  pub made_in_second : HasMade mid new second → HasMade old new (first ++ second)
  made_in_second has = record {
    made = first ++ has.made;
    left = has.left;
    prefix = ap (λ (some : List Call). first ++ some) has.prefix ∙ sym (append_assoc first has.made has.left);
    now = has.now ∙ ap (λ (some : List Call). some ++ has.made) were ∙ append_assoc old.calls first has.made;
  }

-- commands are written by one append to the journal
pub recorded_by_one : {B : Type 0} (A : Type 0) (place : Place) (items : List (Bor (Asked B))) → 1 ≤ length items
    → record_calls {A = A} place None (given A items) ≡ append_calls place.next (text_at A place items)
recorded_by_one A place [] some = absurd (omega (arith, some))
recorded_by_one A place (x ∷ xs) some = refl

-- and by one to both halves, where a checkpoint is under way
pub recorded_by_both : {B : Type 0} (A : Type 0) (place : Place) (it : Ongoing A) (items : List (Bor (Asked B))) → 1 ≤ length items
    → record_calls place (Some it) (given A items) ≡ append_both_calls place.next (text_at A place items) it.journal.next (text_at A it.journal items)
recorded_by_both A place it [] some = absurd (omega (arith, some))
recorded_by_both A place it (x ∷ xs) some = refl
