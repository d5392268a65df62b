-- The other side is closed.
use Rattle.std.proofs.Common.{◌≡◌, ◌≢◌, inl, inr, ℕ, ◌<◌, ◌≤◌, List, slice_index, Result, Ok, sym, ap, ◌∙◌, arith}
use Rattle.sector_disk.specs.Disk.{IsSound, View, HasRead, HasWritten, HasSynced, sector}
use Rattle.sector_disk.specs.Run.{IsTornImage, LeavesOnly}
use Rattle.sector_disk.specs.declared.disk.DiskError.{DiskError}
use Rattle.sector_disk.proofs.Moments.{read_images, read_on, started, sync_on, torn_by, write_on}
use Rattle.gated_journal.specs.declared.form.Form.{Form}
use Rattle.gated_journal.specs.Half.{IsClosed, IsOpen}
use Rattle.gated_journal.specs.Calls.{closed_gate}
use Rattle.checkpoint.specs.declared.layout.Layout.{Layout}
use Rattle.checkpoint.specs.declared.side.Side.{Side}
use Rattle.checkpoint.specs.Layout.{disk_size, half_at, other_of, root_at, slot_at}
use Rattle.checkpoint.specs.OnSide.{Base, RecordsAndGate, InEach, IsShut, IsOnSide}
use Rattle.checkpoint.proofs.Apart.{lies}
use Rattle.checkpoint.proofs.Spared.{below_older, below_same, closed_as, gate_torn, left_each, older_each, root_torn, stays_on_side}

closed_zeros : IsClosed closed_gate
closed_zeros is = cc

module _ {A : Type 0} (layout : Layout) (s : Side) (form : Form) (base : Base) (held : RecordsAndGate A) where
  abbrev P : List (List ℕ) → Type 0
  P = IsOnSide layout s form base held

  abbrev o : Side
  o = other_of s

  -- ---- the root

  module _ (old mid : View) (sound : IsSound old) (room : root_at o < old.sectors) (each : InEach old P) (bytes : List ℕ) where
    pub in_read : (result : Result Unit DiskError) → HasRead old mid (root_at o) bytes result → LeavesOnly old mid P
    in_read result has = read_on old old mid P (root_at o) bytes result (started old P sound each) has each

    pub in_root : (new : View) (one : List ℕ) (result : Result Unit DiskError) → HasRead old mid (root_at o) bytes (Ok tt) → IsOpen bytes →
        IsSound mid → mid.sectors ≡ old.sectors → HasWritten mid new (root_at o) one result → LeavesOnly old new P
    in_root new one result has opened sound_mid same wrote =
        let each_mid : InEach mid P = λ image is. each image (read_images old mid (root_at o) bytes (Ok tt) has image is) in
        let places = lies layout o in
        let opened_mid : IsOpen (sector mid.reads (root_at o)) = ap (λ (b : List ℕ). slice_index b 0) (ap (λ (l : List (List ℕ)). sector l (root_at o)) has.reads ∙ sym has.given) ∙ opened in
        let older = older_each layout s form base held mid sound_mid (omega (arith, room, same)) each_mid opened_mid in
        write_on old mid new P (root_at o) one result (in_read (Ok tt) has) sound_mid (omega (arith, room, same)) wrote (λ image torn.
        let slot : sector image (slot_at layout o) ≡ sector torn.0 (slot_at layout o) = torn.2.others (slot_at layout o) (inr (omega (arith, places.root))) in
        stays_on_side layout s form base held torn.0 image (each_mid torn.0 torn.1) (root_torn layout o torn.0 image torn.2) (below_older layout o base.0 torn.0 image slot (older torn.0 torn.1)))

  -- ---- the gate

  module _ (old mid : View) (before : LeavesOnly old mid P) (sound : IsSound mid) (room : disk_size layout ≤ mid.sectors) where
    at_gate : (image : List (List ℕ)) → IsTornImage mid (half_at layout o) 1 image → P image
    at_gate image torn =
        let places = lies layout o in
        let was = left_each old mid P before sound torn.0 torn.1 in
        let root : sector image (root_at o) ≡ sector torn.0 (root_at o) = torn.2.others (root_at o) (inl (omega (arith, places.root, places.slot))) in
        let slot : sector image (slot_at layout o) ≡ sector torn.0 (slot_at layout o) = torn.2.others (slot_at layout o) (inl (omega (arith, places.slot, places.some))) in
        stays_on_side layout s form base held torn.0 image was (gate_torn layout o torn.0 image torn.2) (below_same layout o base.0 torn.0 image root slot was.below)

    inside : half_at layout o < mid.sectors
    inside = let places = lies layout o in let some = layout.in_range.fewest in omega (arith, places.half, room, some)

    pub in_gate : (new : View) (one : List ℕ) (result : Result Unit DiskError) → HasWritten mid new (half_at layout o) one result → LeavesOnly old new P
    in_gate new one result wrote = write_on old mid new P (half_at layout o) one result before sound inside wrote at_gate

    pub in_sync : (new last : View) (one : List ℕ) (result : Result Unit DiskError) → HasWritten mid new (half_at layout o) one (Ok tt) → HasSynced new last result → LeavesOnly old last P
    in_sync new last one result wrote syncs =
        sync_on old new last P result (in_gate new one (Ok tt) wrote) syncs (λ image is. at_gate image (torn_by mid new (half_at layout o) one (Ok tt) sound inside wrote image is))

-- once all is synced
pub is_shut : (layout : Layout) (side : Side) (mid new last : View) → IsClosed (sector mid.reads (root_at side)) →
    HasWritten mid new (half_at layout side) closed_gate (Ok tt) → HasSynced new last (Ok tt) → IsShut layout side last
is_shut layout side mid new last closed wrote syncs =
    let places = lies layout side in
    let far : root_at side ≢ half_at layout side = omega (arith, places.root, places.slot) in
    record {
      durable = syncs.durable;
      root = closed_as (sector mid.reads (root_at side)) (sector last.reads (root_at side)) (ap (λ (l : List (List ℕ)). sector l (root_at side)) syncs.reads ∙ wrote.others (root_at side) far) closed;
      gate = closed_as closed_gate (sector last.reads (half_at layout side)) (ap (λ (l : List (List ℕ)). sector l (half_at layout side)) syncs.reads ∙ wrote.written.0) closed_zeros;
    }
