-- The parts of the two sides do not meet.
use Rattle.std.proofs.Common.{◌≡◌, ◌≢◌, ◌⊎◌, inl, inr, ℕ, ◌+◌, ◌*◌, ◌^◌, ◌<◌, ◌≤◌, refl, arith}
use Rattle.checkpoint.specs.declared.layout.Layout.{Layout}
use Rattle.checkpoint.specs.declared.side.Side.{Side}
use Rattle.checkpoint.specs.declared.side.Side.TheVariants as side
use Rattle.checkpoint.specs.Layout.{disk_size, half_at, half_end, label_at, other_of, root_at, slot_at, slot_size}

pub other_twice : (s : Side) → other_of (other_of s) ≡ s
other_twice side.A = refl
other_twice side.B = refl

-- a sector of none of the side's parts
pub record IsElsewhere (layout : Layout) (s : Side) (k : ℕ) : Type 0 where
  pub root : k ≢ root_at s
  pub slot : (k < slot_at layout s) ⊎ (slot_at layout s + slot_size layout ≤ k)
  pub half : (k < half_at layout s) ⊎ (half_end layout s ≤ k)

-- the label and the other side's parts are such

pub label_elsewhere : (layout : Layout) (s : Side) → IsElsewhere layout (other_of s) label_at
label_elsewhere layout side.A = record { root = omega arith; slot = inl (omega arith); half = inl (omega arith) }
label_elsewhere layout side.B = record { root = omega arith; slot = inl (omega arith); half = inl (omega arith) }

pub root_elsewhere : (layout : Layout) (s : Side) → IsElsewhere layout (other_of s) (root_at s)
root_elsewhere layout side.A = record { root = omega arith; slot = inl (omega arith); half = inl (omega arith) }
root_elsewhere layout side.B = record { root = omega arith; slot = inl (omega arith); half = inl (omega arith) }

pub slot_elsewhere : (layout : Layout) (s : Side) (k : ℕ) → slot_at layout s ≤ k → k < slot_at layout s + slot_size layout → IsElsewhere layout (other_of s) k
slot_elsewhere layout side.A k low high = record { root = omega (arith, low); slot = inl (omega (arith, high)); half = inl (omega (arith, high)) }
slot_elsewhere layout side.B k low high = record { root = omega (arith, low); slot = inr (omega (arith, low)); half = inl (omega (arith, high)) }

pub half_elsewhere : (layout : Layout) (s : Side) (k : ℕ) → half_at layout s ≤ k → k < half_end layout s → IsElsewhere layout (other_of s) k
half_elsewhere layout side.A k low high = record { root = omega (arith, low); slot = inr (omega (arith, low)); half = inl (omega (arith, high)) }
half_elsewhere layout side.B k low high = record { root = omega (arith, low); slot = inr (omega (arith, low)); half = inr (omega (arith, low)) }

-- ---- where a side's own parts lie

pub record Lies (layout : Layout) (s : Side) : Type 0 where
  pub root : root_at s < slot_at layout s
  pub root_in : root_at s < disk_size layout
  pub slot : slot_at layout s + slot_size layout ≤ half_at layout s
  pub slots : slot_at layout s + slot_size layout ≤ 3 + 2 * slot_size layout
  pub halves : 3 + 2 * slot_size layout ≤ half_at layout s
  pub half : half_end layout s ≤ disk_size layout
  pub some : 0 < slot_size layout
  pub short : disk_size layout < 2 ^ 20

pub lies : (layout : Layout) (s : Side) → Lies layout s
lies layout side.A = let limits = layout.limits.in_range in let journal = layout.in_range in
    record {
      root = omega arith;
      root_in = omega arith;
      slot = omega arith;
      slots = omega arith;
      halves = omega arith;
      half = omega arith;
      some =
          omega arith;
      short = omega (arith, limits.most_rules, limits.most_radios, limits.most_mail, limits.most_stations, journal.most);
    }
lies layout side.B = let limits = layout.limits.in_range in let journal = layout.in_range in
    record {
      root = omega arith;
      root_in = omega arith;
      slot = omega arith;
      slots = omega arith;
      halves = omega arith;
      half = omega arith;
      some =
          omega arith;
      short = omega (arith, limits.most_rules, limits.most_radios, limits.most_mail, limits.most_stations, journal.most);
    }

pub root_inside : (layout : Layout) (s : Side) (sectors : ℕ) → disk_size layout ≤ sectors → root_at s < sectors
root_inside layout s sectors room = let places = lies layout s in omega (arith, places.root_in, room)

pub gate_inside : (layout : Layout) (s : Side) (sectors : ℕ) → disk_size layout ≤ sectors → half_at layout s < sectors
gate_inside layout s sectors room = let places = lies layout s in let some = layout.in_range.fewest in omega (arith, places.half, room, some)
