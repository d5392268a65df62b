-- Rows written after those that are written.
use Rattle.std.proofs.Common.{◌≡◌, ℕ, ◌+◌, ◌-◌, ◌<◌, ◌≤◌, List, [], ◌∷◌, ◌++◌, length, Result, Ok, sym, ap, subst, ◌∙◌, arith}
use Rattle.std.specs.Result.{IsErr}
use Rattle.sector_disk.specs.Disk.{HasWritten, IsCalled, IsSound, View}
use Rattle.sector_disk.specs.Run.{HasCalled, HasMade, writes}
use Rattle.sector_disk.specs.Filling.{HasFilled}
use Rattle.sector_disk.specs.declared.disk.DiskError.{DiskError}
use Rattle.sector_disk.specs.declared.record.Call.{Call}
use Rattle.sector_disk.specs.declared.record.Call.TheVariants.{Write}
use Rattle.sector_disk.proofs.Filled.{fill_more, fill_none, fill_wider}
use Rattle.sector_disk.proofs.Made.{no_write_yet, one_made, write_made}
use Rattle.centre_core.specs.State.{State}
use Rattle.image_rows.specs.Rows.{rows_of}
use Rattle.checkpoint.specs.Calls.{row_sector}
use Rattle.checkpoint.specs.Progress.{WritesNextAt, next_rows, next_row}
use Rattle.checkpoint.proofs.ByRoot.{has_made_all}
use Rattle.checkpoint.proofs.Kept.{kept_so_far}

module _ (epoch : ℕ) (state : State) (at first : ℕ) where
  abbrev bytes : ℕ → List ℕ
  bytes = next_row (epoch, state) first

  -- none yet
  pub none_filled : (disk : View) → disk.honest → IsSound disk → HasFilled disk disk (at + first) (first - first) bytes (Ok tt)
  none_filled disk honest sound = let none : first - first ≡ 0 = omega arith in rw none (fill_none disk (at + first) bytes honest sound)

  pub none_called : (calls : List Call) → calls ≡ calls ++ writes (at + first) (first - first) bytes
  none_called calls = let none : first - first ≡ 0 = omega arith in rw none (no_write_yet calls (at + first) bytes)

  module _ (written : ℕ) (up : first ≤ written) (one : List ℕ) (is : one ≡ row_sector (epoch, state) written) where
    here : at + written ≡ at + first + (written - first)
    here = omega (arith, up)

    next : written + 1 - first ≡ written - first + 1
    next = omega (arith, up)

    same : one ≡ bytes (written - first)
    same = let back : first + (written - first) ≡ written = omega (arith, up) in is ∙ ap (row_sector (epoch, state)) (sym back)

    -- one more
    pub one_filled : (old mid new : View) (result : Result Unit DiskError) → HasFilled old mid (at + first) (written - first) bytes (Ok tt) →
        HasWritten mid new (at + written) one result → IsSound mid → at + written < mid.sectors →
        HasFilled old new (at + first) (written + 1 - first) bytes result
    one_filled old mid new result was wrote sound inside =
        subst (λ (n : ℕ). HasFilled old new (at + first) n bytes result) (sym next)
        (fill_more old mid new (at + first) (written - first) bytes one result was (subst (λ (k : ℕ). HasWritten mid new k one result) here wrote) same sound (omega (arith, inside, up)))

    pub one_called : (old mid new : List Call) → mid ≡ old ++ writes (at + first) (written - first) bytes →
        new ≡ mid ++ Write (at + written) one ∷ [] → new ≡ old ++ writes (at + first) (written + 1 - first) bytes
    one_called old mid new were called =
        subst (λ (n : ℕ). new ≡ old ++ writes (at + first) n bytes) (sym next)
        (one_made old mid new (at + first) (written - first) bytes one same were (subst (λ (k : ℕ). new ≡ mid ++ Write k one ∷ []) here called))

    module _ (few : written < length (rows_of epoch state)) (left : written < first + 8) where
      within : written + 1 - first ≤ next_rows epoch state first
      within = omega (arith, few, left, up)

      -- it fails
      pub last_filled : (old mid new : View) (first_result result : Result Unit DiskError) → IsErr result →
          HasFilled old mid (at + first) (written - first) bytes (Ok tt) → HasWritten mid new (at + written) one first_result → IsSound mid →
          at + written < mid.sectors → HasFilled old new (at + first) (next_rows epoch state first) bytes result
      last_filled old mid new first_result result err was wrote sound inside =
          fill_wider old new (at + first) (written + 1 - first) (next_rows epoch state first) bytes first_result result err within
          (one_filled old mid new first_result was wrote sound inside)

      pub last_called : (old mid new : View) (result : Result Unit DiskError) → mid.calls ≡ old.calls ++ writes (at + first) (written - first) bytes →
          IsCalled mid new (Write (at + written) one) result → HasMade old new (writes (at + first) (next_rows epoch state first) bytes)
      last_called old mid new result were called =
          write_made old mid new (at + first) (written - first) (next_rows epoch state first) bytes one result (omega (arith, within, up)) same were
          (subst (λ (k : ℕ). IsCalled mid new (Write k one) result) here called)

  -- all that were to come, since no row is left or there were eight
  pub all_written : (written : ℕ) → written - first ≡ next_rows epoch state first → (old new : View) → new.sectors ≡ old.sectors → old.failures ≤ new.failures
      → new.calls ≡ old.calls ++ writes (at + first) (written - first) bytes → (old.honest → HasFilled old new (at + first) (written - first) bytes (Ok tt))
      → WritesNextAt old new at (epoch, state) first (Ok tt)
  all_written written all old new sectors later called filled =
      let calls = writes (at + first) (next_rows epoch state first) bytes in
      let has : HasCalled old new calls = subst (λ (n : ℕ). HasCalled old new (writes (at + first) n bytes)) all called in
      record {
        effect = λ honest. subst (λ (n : ℕ). HasFilled old new (at + first) n bytes (Ok tt)) all (filled honest);
        calls = has;
        some_calls = has_made_all old new calls has;
        keeps = kept_so_far old new sectors later (λ honest. (filled honest).honest) (λ e. cc);
        in_range = λ e. cc;
      }
