-- The calls that were made.
use Rattle.std.proofs.Common.{◌≡◌, eqb, Bool, true, false, List, [], ◌∷◌, ◌++◌, slice_index, Result, refl, sym, ap, ◌∙◌, append_assoc, arith}
use Rattle.std.proofs.lemmas.Bool.Decides.{nat_tests}
use Rattle.sector_disk.specs.Disk.{View, IsCalled, sector}
use Rattle.sector_disk.specs.Run.{HasMade}
use Rattle.sector_disk.specs.declared.disk.DiskError.{DiskError}
use Rattle.sector_disk.specs.declared.record.Call.{Call}
use Rattle.sector_disk.specs.declared.record.Call.TheVariants.{Read, Sync, Write}
use Rattle.sector_disk.proofs.Made.{all_made, made_of_more, made_on}
use Rattle.gated_journal.specs.Half.{IsOpen}
use Rattle.gated_journal.specs.Calls.{closed_gate}
use Rattle.checkpoint.specs.declared.side.Side.{Side}
use Rattle.checkpoint.specs.Layout.{root_at}
use Rattle.checkpoint.specs.Calls.{root_calls, root_calls_by}

-- ---- the root is read, and closed where it is open

module _ (side : Side) (old : View) where
  abbrev read_calls : List Call
  read_calls = Read (root_at side) ∷ []

  where_open : IsOpen (sector old.reads (root_at side)) → root_calls side old.reads ≡ read_calls ++ Write (root_at side) closed_gate ∷ []
  where_open is = let b : eqb (slice_index (sector old.reads (root_at side)) 0) 1 ≡ true = grind (arith, nat_tests) in rw b refl

  module _ (mid : View) (opened : IsOpen (sector old.reads (root_at side))) (were : mid.calls ≡ old.calls ++ read_calls) where
    pub calls_in_root : (new : View) (result : Result Unit DiskError) → IsCalled mid new (Write (root_at side) closed_gate) result → HasMade old new (root_calls side old.reads)
    calls_in_root new result called = rw (where_open opened) (made_on old mid new read_calls [] (Write (root_at side) closed_gate) result were called)

    pub calls_at_root : (new : View) → new.calls ≡ mid.calls ++ Write (root_at side) closed_gate ∷ [] → new.calls ≡ old.calls ++ root_calls side old.reads
    calls_at_root new is = rw (where_open opened) (all_made old.calls mid.calls new.calls read_calls (Write (root_at side) closed_gate) were is)

-- ---- whatever the root reads as

module _ (side : Side) (old : View) where
  -- with the root's write, or without it
  abbrev pub MayMakeRoot : View → Type 0
  MayMakeRoot new = (was_open : Bool) × HasMade old new (root_calls_by side was_open)

  abbrev pub MakesRoot : View → Type 0
  MakesRoot new = (was_open : Bool) × (new.calls ≡ old.calls ++ root_calls_by side was_open)

  pub root_left : (new : View) → new.calls ≡ old.calls ++ Read (root_at side) ∷ [] → MakesRoot new
  root_left new is = (false, is)

  module _ (mid : View) (were : mid.calls ≡ old.calls ++ Read (root_at side) ∷ []) where
    pub root_written : (new : View) (result : Result Unit DiskError) → IsCalled mid new (Write (root_at side) closed_gate) result → MayMakeRoot new
    root_written new result called = (true, made_on old mid new (Read (root_at side) ∷ []) [] (Write (root_at side) closed_gate) result were called)

    pub root_shut : (new : View) → new.calls ≡ mid.calls ++ Write (root_at side) closed_gate ∷ [] → MakesRoot new
    root_shut new is = (true, all_made old.calls mid.calls new.calls (Read (root_at side) ∷ []) (Write (root_at side) closed_gate) were is)

-- ---- a call, and a sync after it

module _ (old mid : View) (before : List Call) (call : Call) (were : mid.calls ≡ old.calls ++ before) where
  pub calls_in_call : (new : View) (result : Result Unit DiskError) → IsCalled mid new call result → HasMade old new (before ++ call ∷ Sync ∷ [])
  calls_in_call new result called = made_on old mid new before (Sync ∷ []) call result were called

  module _ (new : View) (made : new.calls ≡ mid.calls ++ call ∷ []) where
    both : before ++ call ∷ Sync ∷ [] ≡ (before ++ call ∷ []) ++ Sync ∷ []
    both = sym (append_assoc before (call ∷ []) (Sync ∷ []))

    pub calls_in_sync : (last : View) (result : Result Unit DiskError) → IsCalled new last Sync result → HasMade old last (before ++ call ∷ Sync ∷ [])
    calls_in_sync last result called = rw both (made_on old new last (before ++ call ∷ []) [] Sync result (all_made old.calls mid.calls new.calls before call were made) called)

    pub calls_at_sync : (last : View) → last.calls ≡ new.calls ++ Sync ∷ [] → last.calls ≡ old.calls ++ (before ++ call ∷ Sync ∷ [])
    calls_at_sync last is = rw both (all_made old.calls new.calls last.calls (before ++ call ∷ []) Sync (all_made old.calls mid.calls new.calls before call were made) is)

-- ---- the side is closed, the rows are written, and a sync

module _ (old mid : View) (before rows : List Call) where
  pub calls_in_close : HasMade old mid before → HasMade old mid (before ++ rows ++ Sync ∷ [])
  calls_in_close made = made_of_more old mid (before ++ rows) (Sync ∷ []) (made_of_more old mid before rows made)

  module _ (were : mid.calls ≡ old.calls ++ before) where
    pub calls_in_rows : (new : View) → HasMade mid new rows → HasMade old new (before ++ rows ++ Sync ∷ [])
    calls_in_rows new has = made_of_more old new (before ++ rows) (Sync ∷ []) (record {
      made = before ++ has.made;
      left = has.left;
      prefix = ap (λ (some : List Call). before ++ some) has.prefix ∙ sym (append_assoc before has.made has.left);
      now = has.now ∙ ap (λ (some : List Call). some ++ has.made) were ∙ append_assoc old.calls before has.made;
    })

    module _ (new : View) (made : new.calls ≡ mid.calls ++ rows) where
      both_so_far : new.calls ≡ old.calls ++ (before ++ rows)
      both_so_far = made ∙ ap (λ (some : List Call). some ++ rows) were ∙ append_assoc old.calls before rows

      pub calls_in_last : (last : View) (result : Result Unit DiskError) → IsCalled new last Sync result → HasMade old last (before ++ rows ++ Sync ∷ [])
      calls_in_last last result called = made_on old new last (before ++ rows) [] Sync result both_so_far called

      pub calls_at_last : (last : View) → last.calls ≡ new.calls ++ Sync ∷ [] → last.calls ≡ old.calls ++ (before ++ rows ++ Sync ∷ [])
      calls_at_last last is = all_made old.calls new.calls last.calls (before ++ rows) Sync both_so_far is
