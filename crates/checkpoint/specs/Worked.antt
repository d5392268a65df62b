-- A disk worked out by hand.
use Rattle.std.specs.Prelude.{◌≡◌, [], ◌∷◌, ◌+◌}
use Rattle.checkpoint.specs.declared.layout.Layout.{Layout}
use Rattle.checkpoint.specs.declared.side.Side.TheVariants as side
use Rattle.checkpoint.specs.Layout.{disk_size, half_at, half_end, label_at, root_at, slot_at, slot_size}
use Rattle.checkpoint.specs.Label.{label_text}

-- 16 rules, 16 radios, 256 items, 4 stations, and halves of 39 sectors
pub record HasWorkedLimits (layout : Layout) : Type 0 where
  pub rules : layout.limits.rules ≡ 16
  pub radios : layout.limits.radios ≡ 16
  pub mail : layout.limits.mail ≡ 256
  pub stations : layout.limits.stations ≡ 4
  pub journal : layout.journal ≡ 39

-- how large each slot is, where each slot and each half begins, how many sectors there are in all, and the bytes of the label
pub record IsWorkedDisk (layout : Layout) : Type 0 where
  pub slot : slot_size layout ≡ 293
  pub slot_a : slot_at layout side.A ≡ 3
  pub slot_b : slot_at layout side.B ≡ 296
  pub half_a : half_at layout side.A ≡ 589
  pub half_b : half_at layout side.B ≡ 628
  pub all : disk_size layout ≡ 667
  pub label : label_text layout
      ≡ 84 ∷ 69 ∷ 84 ∷ 82 ∷ 65 ∷ 76 ∷ 79 ∷ 67 ∷ 0 ∷ 1 ∷ 0 ∷ 0 ∷ 0 ∷ 16 ∷ 0 ∷ 0 ∷ 0 ∷ 16 ∷ 0 ∷ 0 ∷ 1 ∷ 0 ∷ 0 ∷ 0 ∷ 0 ∷ 4 ∷ 0 ∷ 0 ∷ 0 ∷ 39 ∷ []

-- each part begins where the one before it ends: the label, the roots, the slots and the halves
pub record AreSideBySide (layout : Layout) : Type 0 where
  pub label : label_at ≡ 0
  pub root_a : root_at side.A ≡ label_at + 1
  pub root_b : root_at side.B ≡ root_at side.A + 1
  pub slot_a : slot_at layout side.A ≡ root_at side.B + 1
  pub slot_b : slot_at layout side.B ≡ slot_at layout side.A + slot_size layout
  pub half_a : half_at layout side.A ≡ slot_at layout side.B + slot_size layout
  pub half_b : half_at layout side.B ≡ half_end layout side.A
  pub all : disk_size layout ≡ half_end layout side.B
