-- The calls of a call that reads a side's root first, and closes it where it is open.
use Rattle.std.proofs.Common.{◌≡◌, Bool, false, List, [], ◌∷◌, ◌++◌, if◌then◌else◌, Ok, Result, eqb, refl, sym, ap, slice_index, ◌∙◌, append_assoc, arith}
use Rattle.std.specs.Result.{IsErr}
use Rattle.std.proofs.lemmas.List.{append-nil}
use Rattle.std.proofs.lemmas.Result.{IfOk-from_err}
use Rattle.std.proofs.lemmas.Bool.Decides.{nat_tests}
use Rattle.sector_disk.specs.Disk.{IsCalled, View, sector}
use Rattle.sector_disk.specs.Run.{HasCalled, HasMade}
use Rattle.sector_disk.specs.declared.disk.DiskError.{DiskError}
use Rattle.sector_disk.specs.declared.record.Call.{Call}
use Rattle.sector_disk.specs.declared.record.Call.TheVariants.{Read, Write}
use Rattle.sector_disk.proofs.Made.{made_of_more, made_on}
use Rattle.gated_journal.specs.Calls.{closed_gate}
use Rattle.gated_journal.specs.Half.{IsClosed}
use Rattle.checkpoint.specs.Calls.{MakesCalls, MakesCallsByRoot, is_root_open, root_calls, root_calls_by}
use Rattle.checkpoint.specs.Layout.{root_at}
use Rattle.checkpoint.specs.declared.side.Side.{Side}

-- ---- all of them, or some

pub has_made_all : (old new : View) (calls : List Call) → HasCalled old new calls → HasMade old new calls
has_made_all old new calls is = record { made = calls; left = []; prefix = sym (append-nil calls); now = is }

-- these after others
pub made_after : (old mid new : View) (before more : List Call) → HasCalled old mid before → HasMade mid new more → HasMade old new (before ++ more)
made_after old mid new before more were has = record {
  made = before ++ has.made;
  left = has.left;
  prefix = ap (λ (some : List Call). before ++ some) has.prefix ∙ sym (append_assoc before has.made has.left);
  now = has.now ∙ ap (λ (some : List Call). some ++ has.made) were ∙ append_assoc old.calls before has.made;
}

pub called_after : (old mid new : View) (before more : List Call) → HasCalled old mid before → HasCalled mid new more → HasCalled old new (before ++ more)
called_after old mid new before more were is = is ∙ ap (λ (some : List Call). some ++ more) were ∙ append_assoc old.calls before more

module _ {T E : Type 0} (old new : View) (list : List Call) where
  pub calls_failed : (result : Result T E) → IsErr result → HasMade old new list → MakesCalls old new list result
  calls_failed result failed some = record { calls = IfOk-from_err result (λ _. HasCalled old new list) failed; some_calls = some }

  pub calls_done : (given : T) → HasCalled old new list → MakesCalls {T = T} {E = E} old new list (Ok given)
  calls_done given all = record { calls = all; some_calls = has_made_all old new list all }

-- ---- by what the root reads as

module _ {T E : Type 0} (old new : View) (side : Side) (calls_by : Bool → List Call) where
  pub root_failed : (result : Result T E) → IsErr result → (old.honest → HasMade old new (calls_by (is_root_open side old.reads))) → (was_open : Bool) × HasMade old new (calls_by was_open)
      → MakesCallsByRoot old new side calls_by result
  root_failed result failed some any = record {
    calls = IfOk-from_err result (λ _. old.honest → HasCalled old new (calls_by (is_root_open side old.reads))) failed;
    some_calls = some;
    calls_on_any_disk = IfOk-from_err result (λ _. (was_open : Bool) × HasCalled old new (calls_by was_open)) failed;
    some_calls_on_any_disk = any;
  }

  pub root_done : (given : T) → (old.honest → HasCalled old new (calls_by (is_root_open side old.reads))) → (was_open : Bool) × HasCalled old new (calls_by was_open)
      → MakesCallsByRoot {T = T} {E = E} old new side calls_by (Ok given)
  root_done given all any = record {
    calls = all;
    some_calls = λ honest. has_made_all old new (calls_by (is_root_open side old.reads)) (all honest);
    calls_on_any_disk = any;
    some_calls_on_any_disk = (any.0, has_made_all old new (calls_by any.0) any.1);
  }

-- and then others
module _ {T E U F : Type 0} (old mid : View) (side : Side) (calls_by : Bool → List Call) (more : List Call) where
  -- none of them is made
  pub root_only : (first : Result U F) → MakesCallsByRoot old mid side calls_by first → (result : Result T E) → IsErr result
      → MakesCallsByRoot old mid side (λ was_open. calls_by was_open ++ more) result
  root_only first made result failed =
      let any = made.some_calls_on_any_disk in
      root_failed old mid side (λ was_open. calls_by was_open ++ more) result failed
      (λ honest. made_of_more old mid (calls_by (is_root_open side old.reads)) more (made.some_calls honest))
      (any.0, made_of_more old mid (calls_by any.0) more any.1)

  module _ (new : View) (given : U) (made : MakesCallsByRoot {T = U} {E = F} old mid side calls_by (Ok given)) where
    -- one of them fails
    pub root_then_some : (result : Result T E) → IsErr result → HasMade mid new more → MakesCallsByRoot old new side (λ was_open. calls_by was_open ++ more) result
    root_then_some result failed some =
        let any = made.calls_on_any_disk in
        root_failed old new side (λ was_open. calls_by was_open ++ more) result failed
        (λ honest. made_after old mid new (calls_by (is_root_open side old.reads)) more (made.calls honest) some)
        (any.0, made_after old mid new (calls_by any.0) more any.1 some)

    pub root_then_all : (last : T) → HasCalled mid new more → MakesCallsByRoot {T = T} {E = E} old new side (λ was_open. calls_by was_open ++ more) (Ok last)
    root_then_all last all =
        let any = made.calls_on_any_disk in
        root_done old new side (λ was_open. calls_by was_open ++ more) last
        (λ honest. called_after old mid new (calls_by (is_root_open side old.reads)) more (made.calls honest) all)
        (any.0, called_after old mid new (calls_by any.0) more any.1 all)

-- ---- the root itself

module _ (side : Side) (old : View) where
  -- its read, which may fail
  pub root_tried : (new : View) (result : Result Unit DiskError) → IsCalled old new (Read (root_at side)) result → (was_open : Bool) → HasMade old new (root_calls_by side was_open)
  root_tried new result called was_open =
      made_on old old new [] (if was_open then Write (root_at side) closed_gate ∷ [] else []) (Read (root_at side)) result (sym (append-nil old.calls)) called

  -- it reads as closed
  where_closed : IsClosed (sector old.reads (root_at side)) → root_calls side old.reads ≡ Read (root_at side) ∷ []
  where_closed is = let b : eqb (slice_index (sector old.reads (root_at side)) 0) 1 ≡ false = grind (arith, nat_tests) in rw b refl

  pub calls_where_closed : (new : View) → IsClosed (sector old.reads (root_at side)) → HasCalled old new (Read (root_at side) ∷ []) → HasCalled old new (root_calls side old.reads)
  calls_where_closed new is called = rw (where_closed is) called
