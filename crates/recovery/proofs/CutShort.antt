-- A stop at any moment of several calls is a stop in one of them.
use Rattle.std.proofs.Common.{◌≡◌, ◌≤◌, inl, inr, ℕ, Bool, true, false, List, [], ◌∷◌, refl, sym, subst, arith}
use Rattle.std.specs.Prelude.{◌⊎◌}
use Rattle.sector_disk.specs.Disk.{View, IsImageOf, IsSound}
use Rattle.sector_disk.specs.Run.{LeavesOnly}
use Rattle.centre_core.specs.Asked.{Asked}
use Rattle.centre_core.specs.State.{State}
use Rattle.recovery.specs.Outcomes.{OpensToEither}
use Rattle.recovery.specs.Lives.{Closed, Answered, Event, IsCall, HasAccepted, ComesBack, StoreView, IsLife, Open, Phase, Unanswered, answers}
use Rattle.recovery.specs.Lives.{stopped, disk_of, fails, closes, opens_not, opens_to, stops_in, nothing}
use Rattle.recovery.proofs.Lived.{life_holds, life_honest}

module _ {A D : Type 0} (view : D → View) (sound : (disk : D) → (view disk).honest → IsSound (view disk)) (base : State) (t : ℕ) where
  -- what a stop may leave since t was left before this call already, or is a stop in it
  abbrev Divides : List (Event A) → Event A → D → D → Type 0
  Divides events event old new =
      (image : List (List ℕ)) (disk : D) → (view new).since t image → ComesBack A view image disk
      → (view old).since t image ⊎ IsLife A view base (stopped event ∷ events) (Closed disk)

  -- and the call comes after t
  pub record Parts (events : List (Event A)) (event : Event A) (old new : D) : Type 0 where
    pub later : t ≤ (view new).moment
    pub divides : Divides events event old new

  -- a disk that is left as it is
  same_parts : (events : List (Event A)) (event : Event A) (disk : D) → t ≤ (view disk).moment → Parts events event disk disk
  same_parts events event disk le = record { later = le; divides = λ image back left is. inl left }

  -- an opening
  opening_parts : (events : List (Event A)) (event : Event A) (old new : D) → (view old).honest →
      LeavesOnly (view old) (view new) (IsImageOf (view old)) → t ≤ (view old).moment → Parts events event old new
  opening_parts events event old new honest leaves le =
      let later = leaves.later in
      record {
        later = omega (arith, le, later);
        divides = λ image back left is. elim (leaves.before t image le left) [ inl was ↦ inl was | inr here ↦ inl ((sound old honest).counts_now t image le here) ];
      }

  -- a call of a store
  module _ (events : List (Event A)) (old new : StoreView A D) (accepted : List (Asked A)) (life : IsLife A view base events (Open old))
      (done : HasAccepted A view old new accepted) (le : t ≤ (view old.disk).moment) where
    accepted_parts : (broken : Bool) → old.broken ≡ broken → Parts events (Unanswered accepted) old.disk new.disk
    accepted_parts true down = subst (λ (k : StoreView A D). Parts events (Unanswered accepted) old.disk k.disk) (sym (done.broken down)) (same_parts events (Unanswered accepted) old.disk le)
    accepted_parts false up =
        let leaves : LeavesOnly (view old.disk) (view new.disk) (OpensToEither A old.register new.register) = done.any_moment (life_holds view sound base events old life up).0 in
        let later = leaves.later in
        record {
          later = omega (arith, le, later);
          divides = λ image back left is. elim (leaves.before t image le left) [ inl was ↦ inl was | inr here ↦ inr (stops_in events old new accepted image back life done up here is) ];
        }

  -- any call
  pub call_parts : (events : List (Event A)) (old new : Phase A D) (event : Event A) → IsLife A view base events old → IsCall A view old event new →
      t ≤ (view (disk_of old)).moment → Parts events event (disk_of old) (disk_of new)
  call_parts events old new event life (nothing phase) le = same_parts events (Answered []) (disk_of phase) le
  call_parts events old new event life (opens_to disk store has) le = opening_parts events (Answered []) disk store.disk (life_honest view base events (Closed disk) life) has.left le
  call_parts events old new event life (opens_not disk then has) le = opening_parts events (Answered []) disk then (life_honest view base events (Closed disk) life) has.left le
  call_parts events old new event life (closes store) le = same_parts events (Answered []) store.disk le
  call_parts events old new event life (answers was now cs done whole) le = let p = accepted_parts events was now cs life done le was.broken refl in record { later = p.later; divides = p.divides }
  call_parts events old new event life (fails was now cs done) le = accepted_parts events was now cs life done le was.broken refl
