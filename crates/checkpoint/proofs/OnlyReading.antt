-- What a run of reads leaves of the disk, and why an image is not read.
use Rattle.std.proofs.Common.{◌≡◌, Result, Ok, Err, refl, arith}
use Rattle.sector_disk.specs.Disk.{View}
use Rattle.sector_disk.specs.Effects.{OnlyReads}
use Rattle.sector_disk.proofs.OnlyRead.{no_read}
use Rattle.checkpoint.specs.Reading.{RefusesImage}
use Rattle.checkpoint.specs.declared.layout.Layout.{Layout}
use Rattle.checkpoint.specs.declared.read_fault.ReadFault.{ReadFault}
use Rattle.checkpoint.specs.declared.side.Side.{Side}

pub none_read : {X : Type 0} (disk : View) → (X → ⊥) → OnlyReads disk disk X
none_read disk none = record {
  only_read = λ honest. no_read disk honest;
  only_reads = refl;
  fault = λ e. absurd (none e);
  sectors = refl;
  later = omega arith;
}

pub reads_as : {X Y : Type 0} (old new : View) → OnlyReads old new X → (Y → X) → OnlyReads old new Y
reads_as old new reads is_reported = record {
  only_read = reads.only_read;
  only_reads = reads.only_reads;
  fault = λ e. reads.fault (is_reported e);
  sectors = reads.sectors;
  later = reads.later;
}

err_as : {T U : Type 0} (x y : ReadFault) → (let r : Result T ReadFault = Err x in r) ≡ Err y → (let r : Result U ReadFault = Err x in r) ≡ Err y
err_as x y e = cc

module _ {T : Type 0} (layout : Layout) (side : Side) (old new : View) where
  -- it is read
  pub not_refused : (given : T) → RefusesImage {T = T} layout side old new (Ok given)
  not_refused given = record { damaged = λ at e. absurd cc; on_disk = λ at e. absurd cc; memory = λ e. absurd cc }

  -- the reason is passed on
  pub refused_as : {U : Type 0} (fault : ReadFault) → RefusesImage {T = U} layout side old new (Err fault) → RefusesImage {T = T} layout side old new (Err fault)
  refused_as fault refused = record {
    damaged = λ at e. refused.damaged at (err_as fault _ e);
    on_disk = λ at e. refused.on_disk at (err_as fault _ e);
    memory = λ e. refused.memory (err_as fault _ e);
  }
