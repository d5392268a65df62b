-- The moments of a disk in memory.
use Rattle.std.specs.Prelude.{◌≡◌, ◌⊎◌, ◌≤◌, List, [], ◌∷◌, ◌++◌, length}
use Rattle.std.proofs.Common.{refl, sym, ap, subst, inl, inr, arith, length-append}
use Rattle.std.proofs.lemmas.List.{take_all, take-append-le}
use Rattle.std.proofs.lemmas.Bool.{cases_lt}
use Rattle.sector_disk.specs.Numbers.{Byte, Tick}
use Rattle.sector_disk.specs.Disk.{IsImage, IsSound, Elapses}
use Rattle.sector_disk.specs.Memory.{Contents, IsLeftOf, after_calls, called, left_since, memory_view, IsReplayed, began}
use Rattle.sector_disk.specs.Crash.{is_pending}
use Rattle.sector_disk.specs.declared.record.Call.{Call}
use Rattle.sector_disk.specs.declared.memory.MemoryDisk.{MemoryDisk}

counted : (was : Contents) (calls : List Call) (t : Tick) (image : List (List Byte)) → t ≤ length calls → IsLeftOf (after_calls calls was) image
    → left_since was calls t image
counted was calls t image le now =
    (length calls, le, omega arith, subst (λ (some : List Call). IsLeftOf (after_calls some was) image) (sym (take_all (length calls) calls (omega arith))) now)

only_last : (was : Contents) (calls : List Call) (image : List (List Byte)) → left_since was calls (length calls) image → IsLeftOf (after_calls calls was) image
only_last was calls image (k, low, high, left) =
    subst (λ (some : List Call). IsLeftOf (after_calls some was) image) (take_all k calls low) left

pub after_calls-append : (was : Contents) (calls : List Call) (call : Call) → after_calls (calls ++ call ∷ []) was ≡ called call (after_calls calls was)
after_calls-append was [] call = refl
after_calls-append was (first ∷ calls) call = after_calls-append (called first was) calls call

-- one call more
left_on : (was : Contents) (calls : List Call) (call : Call) (t : Tick) (image : List (List Byte)) → left_since was calls t image
    → left_since was (calls ++ call ∷ []) t image
left_on was calls call t image (k, low, high, left) = (
  k,
  low,
  omega (arith, length-append calls (call ∷ [])),
  subst (λ (some : List Call). IsLeftOf (after_calls some was) image) (sym (take-append-le k calls (call ∷ []) high)) left,
)

old_or_last : (was : Contents) (calls : List Call) (call : Call) (t : Tick) (image : List (List Byte)) → left_since was (calls ++ call ∷ []) t image
    → left_since was calls t image ⊎ IsLeftOf (after_calls (calls ++ call ∷ []) was) image
old_or_last was calls call t image (k, low, high, left) = elim (cases_lt (length calls) k) [
  | inr within ↦ inl (k, low, within, subst (λ (some : List Call). IsLeftOf (after_calls some was) image) (take-append-le k calls (call ∷ []) within) left)
  | inl past ↦
      let whole = take_all k (calls ++ call ∷ []) (omega (arith, past, length-append calls (call ∷ []))) in
      inr (subst (λ (some : List Call). IsLeftOf (after_calls some was) image) whole left)
]

-- since an earlier moment there are no fewer
left_earlier : (was : Contents) (calls : List Call) (s t : Tick) (image : List (List Byte)) → s ≤ t → left_since was calls t image
    → left_since was calls s image
left_earlier was calls s t image le (k, low, high, left) = (k, omega (arith, le, low), high, left)

-- what is in the disk now
pub of_contents : {A : Type 0} (disk : MemoryDisk A) (image : List (List Byte)) → IsReplayed disk
    → IsLeftOf (after_calls disk.record.calls.items (began disk)) image → IsImage disk.sectors.items (is_pending disk.pending.items) image
of_contents disk image is left = rw (is.reads, is.pending) left

to_contents : {A : Type 0} (disk : MemoryDisk A) (image : List (List Byte)) → IsReplayed disk
    → IsImage disk.sectors.items (is_pending disk.pending.items) image → IsLeftOf (after_calls disk.record.calls.items (began disk)) image
to_contents disk image is now = rw (is.reads, is.pending) at now

-- a disk in memory that is replayed is sound
pub memory_sound : {A : Type 0} (disk : MemoryDisk A) → IsReplayed disk → IsSound (memory_view disk)
memory_sound disk is = record {
  count = refl;
  reads_left = record { count = refl; whole = is.bytes; others = λ k clear. refl };
  counts_now = λ t image le now. counted (began disk) disk.record.calls.items t image le (to_contents disk image is now);
  only_now = λ image left. of_contents disk image is (only_last (began disk) disk.record.calls.items image left);
  earlier = left_earlier (began disk) disk.record.calls.items;
}

-- time passes by a call
pub time_on : {A : Type 0} (old new : MemoryDisk A) (call : Call) → new.base.items ≡ old.base.items
    → new.record.calls.items ≡ old.record.calls.items ++ call ∷ [] → IsReplayed new → Elapses (memory_view old) (memory_view new)
time_on old new call base calls is = record {
  later = omega (arith, ap length calls, length-append old.record.calls.items (call ∷ []));
  each_stays = λ t image le left. rw (calls, base) (left_on (began old) old.record.calls.items call t image left);
  nothing_else = λ t image le left.
      let then : left_since (began old) (old.record.calls.items ++ call ∷ []) t image = rw (calls, base) at left in
      elim (old_or_last (began old) old.record.calls.items call t image then) [
        | inl before ↦ inl before
        | inr now ↦ inr (of_contents new image is (rw (calls, base) now))
      ];
}
