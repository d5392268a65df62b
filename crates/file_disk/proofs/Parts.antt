-- A sector that is moved part by part.
use Rattle.std.proofs.Common.{◌≡◌, ◌⊎◌, inl, inr, ⊎_elim, ℕ, ◌+◌, ◌-◌, ◌^◌, ◌<◌, ◌≤◌, ◌==◌, Bool, true, false, List, ◌++◌, length, take, drop}
use Rattle.std.proofs.Common.{if◌then◌else◌, Result, Ok, Err, refl, sym, ap, ◌∙◌, arith}
use Rattle.std.specs.Result.{IfOk, IsErr}
use Rattle.std.specs.Io.{ReadsAtMost}
use Rattle.std.specs.IoError.{error_kind}
use Rattle.std.specs.declared.io.Error.{Error}
use Rattle.std.proofs.Math.Seq.{take-add, drop-append_seam}
use Rattle.std.proofs.lemmas.List.{length-take-le, take-append-le, take_all}
use Rattle.std.proofs.lemmas.Bool.{cases_eq, cases_lt, true≢false}
use Rattle.std.proofs.lemmas.Result.{IfOk-from_err}
use Rattle.sector_disk.specs.Disk.{View, HasCause, HasRead, HasWritten, IsImageOf, IsSound, sector}
use Rattle.sector_disk.specs.Run.{HasOnlyRead}
use Rattle.sector_disk.specs.declared.disk.DiskError.{DiskError}
use Rattle.sector_disk.specs.declared.disk.DiskError.TheVariants.{DiskFault}
use Rattle.sector_disk.proofs.OnlyRead.{only_read_on}
use Rattle.file_disk.specs.File.{HasReadPart, HasWrittenPart, HaveTurned, is_interrupted, moved, one_more}

-- ---- how much a call moves

none_or : (b : Bool) (n k : ℕ) → k ≤ n → IfOk (if b then Err DiskFault else Ok k) (λ k. k ≤ n)
none_or true n k le = tt
none_or false n k le = le

or_none : (b : Bool) (n : ℕ) → IfOk (if b then Ok 0 else Err DiskFault) (λ k. k ≤ n)
or_none true n = omega arith
or_none false n = tt

pub read_at_most : (bytes : List ℕ) (r : Result ℕ Error) → ReadsAtMost r bytes → IfOk (moved r) (λ k. k ≤ length bytes)
read_at_most bytes (Ok k) bound = none_or (k == 0) (length bytes) k bound.0
read_at_most bytes (Err e) bound = or_none (is_interrupted (error_kind e)) (length bytes)

-- ---- calls of which none has failed

pub record HasGoneOn (old now : View) (before turns calls : ℕ) : Type 0 where
  pub sectors : now.sectors ≡ old.sectors
  pub failures : old.failures ≤ now.failures
  pub most : turns ≤ before + calls
  pub least : HaveTurned calls before turns

pub none_yet : (file : View) (turns : ℕ) → HasGoneOn file file turns turns 0
none_yet file turns = record { sectors = refl; failures = omega arith; most = omega arith; least = inl (omega arith) }

pub one_call : (old mid new : View) (before turns after calls : ℕ) (r : Result ℕ DiskError) → HasGoneOn old mid before turns calls → HasCause mid new r → after ≡ one_more turns
    → HasGoneOn old new before after (calls + 1)
one_call old mid new before turns after calls r gone cause is = record {
  sectors = cause.sectors ∙ gone.sectors;
  failures = omega (arith, cause.later, gone.failures);
  most = omega (arith, gone.most, is);
  least = elim gone.least [
    | inl some ↦ elim (cases_lt turns (2 ^ 64 - 1)) [ inl less ↦ inl (omega (arith, some, less, is)) | inr full ↦ inr (omega (arith, full, is)) ]
    | inr full ↦ inr (omega (arith, full, is))
  ];
}

-- ---- reading

pub read_after : (old new : View) (at done : ℕ) (b x y : List ℕ) (r : Result ℕ Error) → done ≤ length b → ReadsAtMost r x → HasReadPart old new at done x (moved r)
    → HasReadPart old new at done (drop done (take done b ++ (x ++ y))) (moved r)
read_after old new at done b x y r le bound read =
    let seam : drop done (take done b ++ (x ++ y)) ≡ x ++ y =
    ap (λ n. drop n (take done b ++ (x ++ y))) (sym (length-take-le done b le)) ∙ drop-append_seam (take done b) (x ++ y) in
    rw seam (record { only_read = read.only_read; given = given (moved r) (read_at_most x r bound) read.given })
  where
    given : (m : Result ℕ DiskError) → IfOk m (λ n. n ≤ length x) → IfOk m (λ n. take n x ≡ take n (drop done (sector old.reads at))) →
        IfOk m (λ n. take n (x ++ y) ≡ take n (drop done (sector old.reads at)))
    given (Ok n) small is = take-append-le n x y small ∙ is
    given (Err e) small is = tt

-- the prefix of the sector has been read
abbrev pub IsPrefix : List ℕ → List ℕ → ℕ → Type 0
IsPrefix bytes whole done = take done bytes ≡ take done whole

pub prefix_on : (bytes was whole : List ℕ) (done n : ℕ) → IsPrefix was whole done → take done bytes ≡ take done was →
    take n (drop done bytes) ≡ take n (drop done whole) → IsPrefix bytes whole (done + n)
prefix_on bytes was whole done n prefix same more =
    take-add done n bytes ∙ ap (λ (l : List ℕ). l ++ take n (drop done bytes)) (same ∙ prefix) ∙ ap (λ (l : List ℕ). take done whole ++ l) more ∙ sym (take-add done n whole)

pub whole_prefix : (bytes whole : List ℕ) (done : ℕ) → IsPrefix bytes whole done → done ≡ 512 → length bytes ≡ 512 → length whole ≡ 512 → bytes ≡ whole
whole_prefix bytes whole done prefix all size_bytes size_whole =
    sym (take_all done bytes (omega (arith, all, size_bytes))) ∙ prefix ∙ take_all done whole (omega (arith, all, size_whole))

-- one call more
pub read_on : (old mid new : View) (at done n : ℕ) (was bytes : List ℕ) → HasOnlyRead old mid → IsPrefix was (sector old.reads at) done →
    take done bytes ≡ take done was → HasReadPart mid new at done (drop done bytes) (Ok n)
    → HasOnlyRead old new × IsPrefix bytes (sector old.reads at) (done + n)
read_on old mid new at done n was bytes only_read prefix same read =
    let given : take n (drop done bytes) ≡ take n (drop done (sector old.reads at)) = rw (← only_read.reads) read.given in
    (only_read_on old mid new only_read read.only_read, prefix_on bytes was (sector old.reads at) done n prefix same given)

-- the last one failed
pub read_failed : (old mid new : View) (at done : ℕ) (some bytes : List ℕ) (r : Result ℕ DiskError) (result : Result Unit DiskError) →
    HasOnlyRead old mid → HasReadPart mid new at done some r → IsErr result → HasRead old new at bytes result
read_failed old mid new at done some bytes r result only_read read err =
    let all : HasOnlyRead old new = only_read_on old mid new only_read read.only_read in
    record { honest = all.honest; time = all.time; reads = all.reads; pending = all.pending; given = IfOk-from_err result (λ u. bytes ≡ sector old.reads at) err }

-- the sector has been read whole
pub read_whole : (old new : View) (at done : ℕ) (bytes : List ℕ) → HasOnlyRead old new × IsPrefix bytes (sector old.reads at) done → done ≡ 512 →
    length bytes ≡ 512 → IsSound old → at < old.sectors → HasRead old new at bytes (Ok tt)
read_whole old new at done bytes (only_read, prefix) all size sound within = record {
  honest = only_read.honest;
  time = only_read.time;
  reads = only_read.reads;
  pending = only_read.pending;
  given = whole_prefix bytes (sector old.reads at) done prefix all size (sound.reads_left.whole at (omega (arith, within, sound.count))).size;
}

-- ---- writing

module _ (at : ℕ) (bytes : List ℕ) where
  -- the prefix of the sector has been written, and what has been changed is pending
  pub record HasPut (old now : View) (done : ℕ) : Type 0 where
    pub rest : HasWritten old now at bytes (Err DiskFault)
    pub prefix : IsPrefix (sector now.reads at) bytes done
    pub marked : (now.pending at ≡ true) ⊎ ((done ≡ 0) × (sector now.reads at ≡ sector old.reads at))

  not_both : {b : Bool} → b ≡ true → b ≡ false → ⊥
  not_both on off = true≢false (sym on ∙ off)

  -- an image from before a write is one after it, where the sector was pending, or is unchanged
  image_on : (mid new : View) → HasWritten mid new at bytes (Err DiskFault) → (mid.pending at ≡ true) ⊎ ((new.pending at ≡ true) ⊎ (sector new.reads at ≡ sector mid.reads at))
      → (image : List (List ℕ)) → IsImageOf mid image → IsImageOf new image
  image_on mid new wrote marked image is = record {
    count = is.count ∙ sym wrote.count;
    whole = is.whole;
    others = λ k clear. elim (cases_eq k at) [ inl same ↦ here k same clear | inr other ↦ is.others k (sym (wrote.others_pending k other) ∙ clear) ∙ sym (wrote.others k other) ];
  }
    where
      was_clear : (b : Bool) → (b ≡ true → new.pending at ≡ true) → new.pending at ≡ false → b ≡ false
      was_clear true stays clear = absurd (not_both (stays refl) clear)
      was_clear false stays clear = refl

      here : (k : ℕ) → k ≡ at → new.pending k ≡ false → sector image k ≡ sector new.reads k
      here k same clear =
          let off : new.pending at ≡ false = rw (← same) clear in
          rw same (elim marked [
            | inl was ↦ absurd (not_both (wrote.still_pending was) off)
            | inr (inl on) ↦ absurd (not_both on off)
            | inr (inr equal) ↦ is.others at (was_clear (mid.pending at) wrote.still_pending off) ∙ sym equal
          ])

  -- one write after another, where each image between them is one of before or one of after
  both : (old mid new : View) → HasWritten old mid at bytes (Err DiskFault) → HasWritten mid new at bytes (Err DiskFault)
      → ((t : ℕ) (image : List (List ℕ)) → t ≤ old.moment → IsImageOf mid image → old.since t image ⊎ IsImageOf new image) → HasWritten old new at bytes (Err DiskFault)
  both old mid new was wrote between = record {
    honest = wrote.honest;
    time = record {
      later = omega (arith, was.time.later, wrote.time.later);
      each_stays = λ t image le left. wrote.time.each_stays t image (omega (arith, le, was.time.later)) (was.time.each_stays t image le left);
      nothing_else = λ t image le left. ⊎_elim (λ earlier. ⊎_elim inl (between t image le) (was.time.nothing_else t image le earlier)) inr
          (wrote.time.nothing_else t image (omega (arith, le, was.time.later)) left);
    };
    count = wrote.count ∙ was.count;
    others = λ k other. wrote.others k other ∙ was.others k other;
    others_pending = λ k other. wrote.others_pending k other ∙ was.others_pending k other;
    still_pending = λ is. wrote.still_pending (was.still_pending is);
    written = tt;
  }

  -- one call more
  pub put_on : (old mid new : View) (done n : ℕ) → HasPut old mid done → HasWrittenPart mid new at done (drop done bytes) (Ok n) → HasPut old new (done + n)
  put_on old mid new done n put wrote =
      let rest : HasWritten mid new at bytes (Err DiskFault) = record {
        honest = wrote.rest.honest;
        time = wrote.rest.time;
        count = wrote.rest.count;
        others = wrote.rest.others;
        others_pending = wrote.rest.others_pending;
        still_pending = wrote.rest.still_pending;
        written = tt;
      } in
      record {
        rest = both old mid new put.rest rest (λ t image le is. inr (image_on mid new rest (inr (goes_on wrote.marked)) image is));
        prefix = prefix_on (sector new.reads at) (sector mid.reads at) bytes done n put.prefix wrote.before wrote.written;
        marked = elim wrote.marked [
          | inl on ↦ inl on
          | inr (none, same) ↦ elim put.marked [ inl on ↦ inl (wrote.rest.still_pending on) | inr (nothing, equal) ↦ inr (omega (arith, none, nothing), same ∙ equal) ]
        ];
      }
    where
      goes_on : (new.pending at ≡ true) ⊎ ((n ≡ 0) × (sector new.reads at ≡ sector mid.reads at)) → (new.pending at ≡ true) ⊎ (sector new.reads at ≡ sector mid.reads at)
      goes_on (inl on) = inl on
      goes_on (inr (none, same)) = inr same

  pub put_in_part : (old new : View) (result : Result Unit DiskError) → HasWritten old new at bytes (Err DiskFault) → IsErr result → HasWritten old new at bytes result
  put_in_part old new result has err = record {
    honest = has.honest;
    time = has.time;
    count = has.count;
    others = has.others;
    others_pending = has.others_pending;
    still_pending = has.still_pending;
    written = IfOk-from_err result (λ u. (sector new.reads at ≡ bytes) × (new.pending at ≡ true)) err;
  }

  -- the last one failed
  pub put_failed : (old mid new : View) (done : ℕ) (r : Result ℕ DiskError) (result : Result Unit DiskError) → IsSound old → HasPut old mid done →
      HasWrittenPart mid new at done (drop done bytes) r → IsErr result → HasWritten old new at bytes result
  put_failed old mid new done r result sound put wrote err =
      let rest : HasWritten mid new at bytes (Err DiskFault) = record {
        honest = wrote.rest.honest;
        time = wrote.rest.time;
        count = wrote.rest.count;
        others = wrote.rest.others;
        others_pending = wrote.rest.others_pending;
        still_pending = wrote.rest.still_pending;
        written = tt;
      } in
      put_in_part old new result (both old mid new put.rest rest (λ t image le is. elim put.marked [
        | inl on ↦ inr (image_on mid new rest (inl on) image is)
        | inr (nothing, same) ↦ elim (mid.pending at) as (λ b. mid.pending at ≡ b → old.since t image ⊎ IsImageOf new image) [
          | true ↦ λ on. inr (image_on mid new rest (inl on) image is)
          | false ↦ λ off. inl (sound.counts_now t image le (unmoved off same image is))
        ] refl
      ])) err
    where
      -- nothing had been changed yet
      unmoved : mid.pending at ≡ false → sector mid.reads at ≡ sector old.reads at → (image : List (List ℕ)) → IsImageOf mid image → IsImageOf old image
      unmoved off same image is = record {
        count = is.count ∙ put.rest.count;
        whole = is.whole;
        others = λ k clear. elim (cases_eq k at) [
          | inl here ↦ rw here (is.others at off ∙ same)
          | inr other ↦ is.others k (put.rest.others_pending k other ∙ clear) ∙ put.rest.others k other
        ];
      }

  -- the sector has been written whole
  pub put_whole : (old new : View) (done : ℕ) → HasPut old new done → done ≡ 512 → length bytes ≡ 512 → IsSound new → at < length new.reads → HasWritten old new at bytes (Ok tt)
  put_whole old new done put all size sound within =
      let has = put.rest in
      record {
        honest = has.honest;
        time = has.time;
        count = has.count;
        others = has.others;
        others_pending = has.others_pending;
        still_pending = has.still_pending;
        written = (whole_prefix (sector new.reads at) bytes done put.prefix all (sound.reads_left.whole at within).size size, pending put.marked);
      }
    where
      pending : (new.pending at ≡ true) ⊎ ((done ≡ 0) × (sector new.reads at ≡ sector old.reads at)) → new.pending at ≡ true
      pending (inl on) = on
      pending (inr (nothing, same)) = absurd (omega (arith, nothing, all))
