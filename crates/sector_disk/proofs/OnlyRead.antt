-- Runs of reads.
use Rattle.std.proofs.Common.{ℕ, List, Result, refl, ◌∙◌, arith, inl, inr, ⊎_elim}
use Rattle.sector_disk.specs.Disk.{View, HasRead}
use Rattle.sector_disk.specs.Run.{HasOnlyRead}
use Rattle.sector_disk.specs.declared.disk.DiskError.{DiskError}

-- before the first of them
pub no_read : (disk : View) → disk.honest → HasOnlyRead disk disk
no_read disk honest = record {
  honest = honest;
  reads = refl;
  pending = refl;
  time = record { later = omega arith; each_stays = λ t image le was. was; nothing_else = λ t image le was. inl was };
}

-- one run after another
pub only_read_on : (old mid new : View) → HasOnlyRead old mid → HasOnlyRead mid new → HasOnlyRead old new
only_read_on old mid new first second = record {
  honest = second.honest;
  reads = second.reads ∙ first.reads;
  pending = second.pending ∙ first.pending;
  time = record {
    later = omega (arith, first.time.later, second.time.later);
    each_stays = λ t image le was. second.time.each_stays t image (omega (arith, le, first.time.later)) (first.time.each_stays t image le was);
    nothing_else = λ t image le left. ⊎_elim (λ mid_left. ⊎_elim inl (λ now. inr (rw (second.reads, second.pending) now)) (first.time.nothing_else t image le mid_left)) inr
        (second.time.nothing_else t image (omega (arith, le, first.time.later)) left);
  };
}

-- one read
pub one_only_read : (old new : View) (at : ℕ) (bytes : List ℕ) (result : Result Unit DiskError) → HasRead old new at bytes result → HasOnlyRead old new
one_only_read old new at bytes result read = record { honest = read.honest; reads = read.reads; pending = read.pending; time = read.time }
