-- A sync, and then nothing but reading.
use Rattle.std.proofs.Common.{◌≡◌, ℕ, List, Result, Ok}
use Rattle.sector_disk.specs.Disk.{View, IsImageOf, IsSound, HasSynced}
use Rattle.sector_disk.specs.Run.{HasOnlyRead, LeavesOnly}
use Rattle.sector_disk.specs.declared.disk.DiskError.{DiskError}
use Rattle.sector_disk.proofs.Moments.{goes_on, only_image, started, sync_on, synced_images}

module _ (given synced now : View) (result : Result Unit DiskError) (sound : IsSound given) (syncs : HasSynced given synced result) where
  pub after_sync : LeavesOnly given synced (IsImageOf given)
  after_sync = sync_on given given synced (IsImageOf given) result (started given (IsImageOf given) sound (λ image is. is)) syncs (λ image is. is)

  module _ (only_read : HasOnlyRead synced now) where
    same_images : (image : List (List ℕ)) → IsImageOf now image → IsImageOf synced image
    same_images image is = record {
      count = rw (← only_read.reads) is.count;
      whole = is.whole;
      others = λ k clear. rw (← only_read.reads) (is.others k (rw only_read.pending clear));
    }

    pub no_image_arises : LeavesOnly given now (IsImageOf given)
    no_image_arises = goes_on given synced now (IsImageOf given) after_sync only_read.time (λ image is. synced_images given synced result syncs image (same_images image is))

pub one_image : (given synced now : View) → HasSynced given synced (Ok tt) → HasOnlyRead synced now → (image : List (List ℕ)) → IsImageOf now image → image ≡ now.reads
one_image given synced now syncs only_read image is = only_image now (λ k. rw only_read.pending (syncs.durable k)) image is
