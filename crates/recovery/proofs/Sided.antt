-- Which side counts.
use Rattle.std.proofs.Common.{◌≡◌, ◌≢◌, ◌⊎◌, inl, inr, ℕ, ◌<◌, false, List, slice_index, Some, None, Ok, refl, arith}
use Rattle.std.specs.Prelude.{nat_eq}
use Rattle.std.proofs.lemmas.Bool.{lt-ltb, le-ltb}
use Rattle.std.proofs.lemmas.Bool.Decides.{eqb_tells}
use Rattle.sector_disk.specs.Disk.{sector}
use Rattle.gated_journal.specs.Half.{IsClosed, IsOpen}
use Rattle.checkpoint.specs.declared.layout.Layout.{Layout}
use Rattle.checkpoint.specs.declared.side.Side.{Side}
use Rattle.checkpoint.specs.declared.side.Side.TheVariants as side
use Rattle.checkpoint.specs.Layout.{other_of, root_at}
use Rattle.checkpoint.specs.OnSide.{IsBelow, slot_epoch}
use Rattle.recovery.specs.Opens.{chosen, side_at, side_in}

pub eqb_no : (a b : ℕ) → a ≢ b → nat_eq a b ≡ false
eqb_no a b apart = elim (eqb_tells a b) [ inl same ↦ absurd (apart same.1) | inr other ↦ other.0 ]

module _ (layout : Layout) (s : Side) (image : List (List ℕ)) where
  pub shut_side : IsClosed (sector image (root_at s)) → side_at layout s image ≡ Ok None
  unfolding side_at
  shut_side shut = rw (eqb_no (slice_index (sector image (root_at s)) 0) 1 shut) refl

  pub open_side : (epoch : ℕ) → IsOpen (sector image (root_at s)) → slot_epoch layout s image ≡ Some epoch → side_at layout s image ≡ Ok (Some epoch)
  unfolding side_at
  open_side epoch opened states = rw opened (rw states refl)

  -- a side below an epoch has its root closed, or states a smaller one
  abbrev States : ℕ → Type 0
  States epoch = (side_at layout s image ≡ Ok None) ⊎ ((e : ℕ) × (side_at layout s image ≡ Ok (Some e)) × (e < epoch))

  pub below_states : (epoch : ℕ) → IsBelow layout s epoch image → States epoch
  below_states epoch (inl shut) = inl (shut_side shut)
  below_states epoch (inr (e, states, lt)) = elim (eqb_tells (slice_index (sector image (root_at s)) 0) 1) [
    | inl same ↦ inr (e, open_side e same.1 states, lt)
    | inr other ↦ inl (shut_side other.1)
  ]

-- of two open sides the one with the greater epoch

a_chosen : (a b : ℕ) → b < a → chosen (Some a) (Some b) ≡ Ok side.A
a_chosen a b lt = rw (eqb_no a b (omega (arith, lt)), le-ltb a b (omega (arith, lt))) refl

b_chosen : (a b : ℕ) → a < b → chosen (Some a) (Some b) ≡ Ok side.B
b_chosen a b lt = rw (eqb_no a b (omega (arith, lt)), lt-ltb a b lt) refl

pub side_found : (layout : Layout) (s : Side) (epoch : ℕ) (image : List (List ℕ)) → IsOpen (sector image (root_at s)) →
    slot_epoch layout s image ≡ Some epoch → IsBelow layout (other_of s) epoch image → side_in layout image ≡ Ok s
unfolding side_in
side_found layout side.A epoch image opened states below =
    elim (below_states layout side.B image epoch below) [
      | inl shut ↦ rw (open_side layout side.A image epoch opened states) (rw shut refl)
      | inr (e, reported, lt) ↦ rw (open_side layout side.A image epoch opened states) (rw reported (a_chosen epoch e lt))
    ]
side_found layout side.B epoch image opened states below =
    elim (below_states layout side.A image epoch below) [
      | inl shut ↦ rw shut (rw (open_side layout side.B image epoch opened states) refl)
      | inr (e, reported, lt) ↦ rw reported (rw (open_side layout side.B image epoch opened states) (b_chosen e epoch lt))
    ]
