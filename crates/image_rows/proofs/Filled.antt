-- A sector that is filled from its start.
use Rattle.std.proofs.Common.{◌≡◌, ℕ, ◌+◌, ◌-◌, ◌≤◌, List, ◌++◌, length, take, drop, replicate, sym, ap, ◌∙◌, arith}
use Rattle.std.proofs.lemmas.List.{take_at, drop_at, drop-drop, drop-replicate, length-append, length-take}

module _ (sector bytes new : List ℕ) (len : ℕ) (long : length sector ≡ 512) (some : len ≤ 512) (room : length bytes ≤ 512 - len)
    (put : new ≡ take len sector ++ bytes ++ drop (len + length bytes) sector) where
  prefix : length (take len sector ++ bytes) ≡ len + length bytes
  prefix = length-append (take len sector) bytes ∙ omega (arith, length-take len sector, long, some)

  whole : new ≡ (take len sector ++ bytes) ++ drop (len + length bytes) sector
  whole = put

  -- the bytes follow those before
  pub put_after : take (len + length bytes) new ≡ take len sector ++ bytes
  put_after = ap (take (len + length bytes)) whole ∙ take_at (take len sector ++ bytes) (drop (len + length bytes) sector) (len + length bytes) prefix

  -- and zeros after them
  pub still_zeros : drop len sector ≡ replicate (512 - len) 0 → (len + length bytes ≤ 512) × (drop (len + length bytes) new ≡ replicate (512 - (len + length bytes)) 0)
  still_zeros zeros = (
    omega (arith, some, room),
    ap (drop (len + length bytes)) whole
        ∙ drop_at (take len sector ++ bytes) (drop (len + length bytes) sector) (len + length bytes) prefix
        ∙ sym (drop-drop (length bytes) len sector)
        ∙ ap (drop (length bytes)) zeros
        ∙ drop-replicate (length bytes) (512 - len) 0
        ∙ ap (λ (n : ℕ). replicate n 0) (omega arith),
  )
