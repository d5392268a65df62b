-- What a call of a disk in memory leaves.
use Rattle.std.proofs.Common.{replicate, zero, suc, take, drop, ◌≡◌, ℕ, ◌<◌, Bool, true, false, List, [], ◌∷◌, ◌++◌, length, map, set, filter, ◌+◌}
use Rattle.std.proofs.Common.{if◌then◌else◌, refl, sym, ◌∙◌, ap, arith, Ok, inl, inr, get_or-set_same, get_or-set_other}
use Rattle.std.proofs.Math.ListN.{length-set, get_or-map}
use Rattle.std.proofs.lemmas.List.{get_or_past, get_or-replicate, length-replicate, take_all, drop_all, append-nil, map-id}
use Rattle.std.proofs.lemmas.Bool.{cases_eq, cases_lt}
use Rattle.std.proofs.lemmas.List.FromFn.{filter_of_map_range_with_len_more}
use Rattle.std.specs.List.{range_with_len}
use Rattle.sector_disk.specs.Disk.{AreSectors, IsSector, sector, HasRead, HasWritten, HasSynced}
use Rattle.sector_disk.specs.Memory.{IsBlank, IsRestarted, Contents, after_calls, called, IsReplayed, began, memory_view}
use Rattle.sector_disk.specs.Crash.{is_pending}
use Rattle.sector_disk.specs.Inside.Past.{after_calls-append, time_on}
use Rattle.sector_disk.specs.declared.record.Call.{Call}
use Rattle.sector_disk.specs.declared.record.Call.TheVariants.{Read, Write, Sync}
use Rattle.sector_disk.specs.declared.memory.MemoryDisk.{MemoryDisk}

abbrev pub contents : {A : Type 0} → MemoryDisk A → Contents
contents disk = record { reads = disk.sectors.items; pending = disk.pending.items }

contents_are : {A : Type 0} (disk : MemoryDisk A) → IsReplayed disk → contents disk ≡ after_calls disk.record.calls.items (began disk)
contents_are disk is = rw (is.reads, is.pending) refl

pub replayed_on : {A : Type 0} (old new : MemoryDisk A) (call : Call) → IsReplayed old → new.base.items ≡ old.base.items → new.record.calls.items ≡ old.record.calls.items ++ call ∷ []
    → new.sectors.items ≡ (called call (contents old)).reads → new.pending.items ≡ (called call (contents old)).pending
    → ((k : ℕ) → k < length new.sectors.items → IsSector (sector new.sectors.items k)) → IsReplayed new
replayed_on old new call is base calls reads pending bytes =
    let now : after_calls new.record.calls.items (began new) ≡ called call (contents old) =
    rw (calls, base) (after_calls-append (began old) old.record.calls.items call ∙ ap (called call) (sym (contents_are old is))) in
    record {
      reads = reads ∙ ap (λ (c : Contents). c.reads) (sym now);
      pending = pending ∙ ap (λ (c : Contents). c.pending) (sym now);
      bytes = bytes;
    }

pub read_effect : {A : Type 0} (old new : MemoryDisk A) (at : ℕ) (bytes : List ℕ) → IsReplayed old → new.base.items ≡ old.base.items → new.record.calls.items ≡ old.record.calls.items ++ Read at ∷ []
    → new.sectors.items ≡ old.sectors.items → new.pending.items ≡ old.pending.items → bytes ≡ sector old.sectors.items at
    → HasRead (memory_view old) (memory_view new) at bytes (Ok tt)
read_effect old new at bytes is base calls reads pending given =
    let now : IsReplayed new = replayed_on old new (Read at) is base calls reads pending (λ k lt. rw reads (is.bytes k (rw (← reads) lt))) in
    record {
      honest = now;
      reads = reads;
      pending = ap is_pending pending;
      time = time_on old new (Read at) base calls now;
      given = given;
    }

pub write_effect : {A : Type 0} (old new : MemoryDisk A) (at : ℕ) (bytes : List ℕ) → IsReplayed old → at < length old.sectors.items →
    length old.pending.items ≡ length old.sectors.items → IsSector bytes
    → new.base.items ≡ old.base.items → new.record.calls.items ≡ old.record.calls.items ++ Write at bytes ∷ []
    → new.sectors.items ≡ set old.sectors.items at bytes → new.pending.items ≡ set old.pending.items at true
    → HasWritten (memory_view old) (memory_view new) at bytes (Ok tt)
write_effect old new at bytes is within marks whole base calls reads pending =
    let each : (k : ℕ) → k < length new.sectors.items → IsSector (sector new.sectors.items k) = λ k lt.
    rw reads (elim (cases_eq k at) [
      | inl same ↦ rw (same, get_or-set_same old.sectors.items at bytes [] within) whole
      | inr other ↦ rw (get_or-set_other old.sectors.items at k bytes [] other) (is.bytes k (omega (arith, lt, ap length reads, length-set old.sectors.items at bytes)))
    ]) in
    let now : IsReplayed new = replayed_on old new (Write at bytes) is base calls reads pending each in
    let marked : is_pending new.pending.items at ≡ true = rw pending (get_or-set_same old.pending.items at true false (omega (arith, within, marks))) in
    record {
      honest = now;
      time = time_on old new (Write at bytes) base calls now;
      count = ap length reads ∙ length-set old.sectors.items at bytes;
      others = λ k other. rw reads (get_or-set_other old.sectors.items at k bytes [] other);
      others_pending = λ k other. rw pending (get_or-set_other old.pending.items at k true false other);
      still_pending = λ was. marked;
      written = (rw reads (get_or-set_same old.sectors.items at bytes [] within), marked);
    }

pub sync_effect : {A : Type 0} (old new : MemoryDisk A) → IsReplayed old
    → new.base.items ≡ old.base.items → new.record.calls.items ≡ old.record.calls.items ++ Sync ∷ []
    → new.sectors.items ≡ old.sectors.items → new.pending.items ≡ map (λ mark. false) old.pending.items
    → HasSynced (memory_view old) (memory_view new) (Ok tt)
sync_effect old new is base calls reads pending =
    let now : IsReplayed new = replayed_on old new Sync is base calls reads pending (λ k lt. rw reads (is.bytes k (rw (← reads) lt))) in
    record {
      honest = now;
      time = time_on old new Sync base calls now;
      reads = reads;
      pending = tt;
      durable = λ k. rw pending (get_or-map (λ (mark : Bool). false) old.pending.items k false);
    }

-- the loop that clears all marks has come to its end
pub cleared : (xs ys : List Bool) (i : ℕ) → length xs ≡ i → ys ≡ map (λ (mark : Bool). false) (take i xs) ++ drop i xs → ys ≡ map (λ (mark : Bool). false) xs
cleared xs ys i at_end is =
    is ∙ ap (λ (l : List Bool). map (λ (mark : Bool). false) l ++ drop i xs) (take_all i xs (omega (arith, at_end)))
    ∙ ap (λ (l : List Bool). map (λ (mark : Bool). false) xs ++ l) (drop_all i xs (omega (arith, at_end))) ∙ append-nil _

-- no mark is set
pub all_clear : (marks : List Bool) (k : ℕ) → is_pending (map (λ mark. false) marks) k ≡ false
all_clear marks k = get_or-map (λ (mark : Bool). false) marks k false

no_marks : {A B : Type 0} (xs : List A) (ys : List B) → length xs ≡ length ys → map (λ (x : A). false) xs ≡ map (λ (y : B). false) ys
no_marks [] [] same = refl
no_marks [] (y ∷ ys) same = absurd (omega (arith, same))
no_marks (x ∷ xs) [] same = absurd (omega (arith, same))
no_marks (x ∷ xs) (y ∷ ys) same = ap (λ (l : List Bool). false ∷ l) (no_marks xs ys (omega (arith, same)))

pub crash_replayed : {A : Type 0} (new : MemoryDisk A) (after_calls : List (List ℕ)) (marks : List Bool) → new.record.calls.items ≡ [] → new.base.items ≡ after_calls → new.sectors.items ≡ after_calls
    → new.pending.items ≡ map (λ mark. false) marks → length marks ≡ length after_calls → AreSectors after_calls → IsReplayed new
crash_replayed new after_calls marks calls base sectors pending count whole = record {
  reads = rw calls (sectors ∙ sym base);
  pending = rw (calls, base) (pending ∙ no_marks marks after_calls count);
  bytes = rw sectors whole.each;
}

-- after a stop
pub restarted : {A : Type 0} (old new : MemoryDisk A) (after_calls : List (List ℕ)) (marks : List Bool) → new.record.calls.items ≡ [] → new.base.items ≡ after_calls → new.sectors.items ≡ after_calls
    → new.pending.items ≡ map (λ mark. false) marks → length marks ≡ length after_calls → (IsReplayed old → AreSectors after_calls) →
    new.record.room ≡ old.record.room → new.record.failures ≡ old.record.failures → IsRestarted old new
restarted old new after_calls marks calls base sectors pending count whole room failures = record {
  honest = λ is. crash_replayed new after_calls marks calls base sectors pending count (whole is);
  durable = λ k. rw pending (all_clear marks k);
  moment = rw calls refl;
  room = room;
  failures = failures;
}

no_marks_at_all : (n : ℕ) → replicate n false ≡ map (λ (mark : Bool). false) (replicate n false)
no_marks_at_all zero = refl
no_marks_at_all (suc n) = ap (λ (l : List Bool). false ∷ l) (no_marks_at_all n)

zero_sector : IsSector (replicate 512 0)
zero_sector = record {
  size = refl;
  bytes = λ i. elim (cases_lt i 512) [
    | inl within ↦ rw (get_or-replicate {A = ℕ} 512 i 0 0 within) (omega arith)
    | inr past ↦ rw (get_or_past {X = ℕ} (replicate 512 0) i 0 (omega (arith, past, length-replicate {A = ℕ} 512 0))) (omega arith)
  ];
}

zero_sectors : (n : ℕ) → AreSectors (replicate n (replicate 512 0))
zero_sectors n = record { each = λ k lt. rw (get_or-replicate n k (replicate {A = ℕ} 512 0) [] (omega (arith, lt, length-replicate n (replicate {A = ℕ} 512 0)))) zero_sector }

pub blank : {A : Type 0} (new : MemoryDisk A) (n room : ℕ) → new.record.calls.items ≡ [] → new.base.items ≡ replicate n (replicate 512 0) → new.sectors.items ≡ replicate n (replicate 512 0)
    → new.pending.items ≡ replicate n false → new.record.failures ≡ 0 → new.record.room ≡ room → IsBlank new n room
blank new n room calls base sectors pending failures is_room =
    let count : length (replicate n (replicate {A = ℕ} 512 0)) ≡ n = length-replicate n (replicate {A = ℕ} 512 0) in
    let marks : length (replicate {A = Bool} n false) ≡ n = length-replicate n false in
    record {
      honest = crash_replayed new (replicate n (replicate 512 0)) (replicate n false) calls base sectors (pending ∙ no_marks_at_all n) (marks ∙ sym count) (zero_sectors n);
      reads = sectors;
      durable = λ k. rw (pending, no_marks_at_all n) (all_clear (replicate n false) k);
      moment = rw calls refl;
      room = is_room;
      failures = failures;
    }

-- the pending ones of one sector more, which is pending or not
module _ (marks : List Bool) (k : ℕ) (all new : List ℕ) (so_far : all ≡ filter (is_pending marks) (range_with_len 0 k)) where
  more : all ++ (if is_pending marks k then k ∷ [] else []) ≡ filter (is_pending marks) (range_with_len 0 (k + 1))
  more =
      let both : filter (is_pending marks) (map (λ (n : ℕ). n) (range_with_len 0 (k + 1))) ≡ filter (is_pending marks)
      (map (λ (n : ℕ). n) (range_with_len 0 k)) ++ (if is_pending marks k then k ∷ [] else []) =
      filter_of_map_range_with_len_more (is_pending marks) (λ (n : ℕ). n) 0 k k (omega arith) in
      ap (λ (xs : List ℕ). xs ++ (if is_pending marks k then k ∷ [] else [])) so_far ∙ sym (simp map-id at both)

  pub one_more : is_pending marks k ≡ true → new ≡ all ++ k ∷ [] → new ≡ filter (is_pending marks) (range_with_len 0 (k + 1))
  one_more on is = is ∙ (rw on at more)

  pub no_more : is_pending marks k ≡ false → new ≡ all → new ≡ filter (is_pending marks) (range_with_len 0 (k + 1))
  no_more off is = is ∙ sym (append-nil all) ∙ (rw off at more)

-- a sector is written over
pub sectors_put : (sectors : List (List ℕ)) (at : ℕ) (bytes : List ℕ) → at < length sectors → IsSector bytes → AreSectors sectors → AreSectors (set sectors at bytes)
sectors_put sectors at bytes within is all = record {
  each = λ k lt. elim (cases_eq k at) [
    | inl same ↦ rw (same, get_or-set_same sectors at bytes [] within) is
    | inr other ↦ rw (get_or-set_other sectors at k bytes [] other) (all.each k (omega (arith, lt, length-set sectors at bytes)))
  ];
}
