-- An image is written after a closed root.
use Rattle.std.proofs.Common.{◌≡◌, ◌⊎◌, inl, inr, ℕ, zero, suc, ◌+◌, ◌-◌, ◌<◌, ◌≤◌, List, [], ◌∷◌, ◌++◌, length, Result, Ok, refl, sym, ap, ◌∙◌, arith}
use Rattle.sector_disk.specs.Disk.{IsSound, View, HasSynced, sector}
use Rattle.sector_disk.specs.Run.{IsTornImage, LeavesOnly}
use Rattle.sector_disk.specs.Filling.{HasFilled}
use Rattle.sector_disk.specs.declared.disk.DiskError.{DiskError}
use Rattle.sector_disk.proofs.Moments.{durable_image, run_on, sync_on}
use Rattle.registration.specs.declared.limits.Limits.{Limits}
use Rattle.centre_core.specs.State.{State, IsState}
use Rattle.centre_core.specs.StateRanges.{StateInRange}
use Rattle.image_rows.specs.Rows.{header_of, last_epoch, rows_of}
use Rattle.image_rows.specs.RowText.{sector_of}
use Rattle.image_rows.specs.Image.{sectors_of, slot_of}
use Rattle.image_rows.proofs.Counts.{rows_fit}
use Rattle.image_rows.proofs.Groups.{length_each}
use Rattle.image_rows.proofs.Images.{written_is_image}
use Rattle.image_rows.proofs.Tags.{header_is_tagged}
use Rattle.checkpoint.specs.declared.layout.Layout.{Layout}
use Rattle.checkpoint.specs.declared.side.Side.{Side}
use Rattle.checkpoint.specs.Layout.{half_at, half_end, other_of, root_at, slot_at, slot_size}
use Rattle.checkpoint.specs.Calls.{row_sector}
use Rattle.checkpoint.specs.OnSide.{Base, RecordsAndGate, InEach, IsReady, IsShut, IsOnSide, stated_form, fresh, sectors_from}
use Rattle.gated_journal.specs.declared.form.Form.{Form}
use Rattle.gated_journal.specs.declared.form.Form.TheVariants.{Numbered}
use Rattle.gated_journal.proofs.Chain.{last_gate}
use Rattle.checkpoint.proofs.Apart.{lies}
use Rattle.checkpoint.proofs.Spared.{closed_as, left_each, slot_torn, stays_on_side}

-- the rows of an image have room in a slot
pub rows_have_room : (layout : Layout) (epoch : ℕ) (state : State) → IsState state → state.registered.limits ≡ layout.limits → length (rows_of epoch state) ≤ slot_size layout
rows_have_room layout epoch state is same =
    let fit : length (rows_of epoch state) ≤ 1 + state.registered.limits.rules + state.registered.limits.radios + state.registered.limits.mail +
    state.registered.limits.stations = rows_fit epoch state is in
    rw same at fit

-- ---- sectors

sectors_split : (image : List (List ℕ)) (at a b : ℕ) → sectors_from image at (a + b) ≡ sectors_from image at a ++ sectors_from image (at + a) b
unfolding sectors_from
sectors_split image at zero b = let here : at + 0 ≡ at = omega arith in let none : 0 + b ≡ b = omega arith in rw (here, none) refl
sectors_split image at (suc a) b =
    let one : suc a + b ≡ suc (a + b) = omega arith in
    let there : at + suc a ≡ at + 1 + a = omega arith in
    rw (one, there) (ap (λ (l : List (List ℕ)). sector image at ∷ l) (sectors_split image (at + 1) a b))

sectors_are : (image : List (List ℕ)) (at : ℕ) (xs : List (List ℕ)) → ((k : ℕ) → k < length xs → sector image (at + k) ≡ sector xs k) → sectors_from image at (length xs) ≡ xs
unfolding sectors_from
sectors_are image at [] are = refl
sectors_are image at (x ∷ xs) are =
    let here : at + 0 ≡ at = omega arith in
    let first : sector image at ≡ x = rw here at (are 0 (omega arith)) in
    let rest : sectors_from image (at + 1) (length xs) ≡ xs =
    sectors_are image (at + 1) xs (λ k lt. let there : at + suc k ≡ at + 1 + k = omega arith in rw there at (are (suc k) (omega (arith, lt)))) in
    rw (first, rest) refl

-- after the header that is written the records are numbered
header_form : (epoch : ℕ) (state : State) → stated_form (row_sector (epoch, state) 0) ≡ Numbered
header_form epoch state = rw (header_is_tagged (header_of epoch state)) refl

-- sectors that were written are the image, and after it the records are numbered
pub written_slot : (layout : Layout) (at epoch : ℕ) (state : State) (image : List (List ℕ)) → IsState state → StateInRange state →
    state.registered.limits ≡ layout.limits → 0 < epoch → epoch ≤ last_epoch
    → ((k : ℕ) → k < length (rows_of epoch state) → sector image (at + k) ≡ row_sector (epoch, state) k) →
    (slot_of layout.limits (sectors_from image at (slot_size layout)) ≡ Ok (epoch, state)) × (stated_form (sector image at) ≡ Numbered)
written_slot layout at epoch state image is ranges limits some most are =
    let n = length (rows_of epoch state) in
    let fit = rows_have_room layout epoch state is limits in
    let long : length (sectors_of epoch state) ≡ n = length_each sector_of (rows_of epoch state) in
    let size : slot_size layout ≡ length (sectors_of epoch state) + (slot_size layout - n) = omega (arith, fit, long) in
    let prefix : sectors_from image at (length (sectors_of epoch state)) ≡ sectors_of epoch state = sectors_are image at (sectors_of epoch state) (λ k lt. are k (omega (arith, lt, long))) in
    let following = sectors_from image (at + length (sectors_of epoch state)) (slot_size layout - n) in
    let whole : sectors_from image at (slot_size layout) ≡ sectors_of epoch state ++ following =
    ap (sectors_from image at) size ∙ sectors_split image at (length (sectors_of epoch state)) (slot_size layout - n) ∙ ap (λ (l : List (List ℕ)). l ++ following) prefix in
    let read : slot_of state.registered.limits (sectors_of epoch state ++ following) ≡ Ok (epoch, state) = written_is_image epoch state following some most is ranges in
    let here : at + 0 ≡ at = omega arith in
    let header : sector image at ≡ row_sector (epoch, state) 0 = rw here at (are 0 (omega arith)) in
    (ap (slot_of layout.limits) whole ∙ ap (λ (l : Limits). slot_of l (sectors_of epoch state ++ following)) (sym limits) ∙ read, ap stated_form header ∙ header_form epoch state)

-- ---- the rows are written

module _ (layout : Layout) (s : Side) (old mid : View) (shut : IsShut layout (other_of s) mid) (n : ℕ) (few : n ≤ slot_size layout) (bytes : ℕ → List ℕ) (new : View) where
  abbrev o : Side
  o = other_of s

  module _ {A : Type 0} (form : Form) (base : Base) (held : RecordsAndGate A) (before : LeavesOnly old mid (IsOnSide layout s form base held)) (sound : IsSound mid) where
    abbrev P : List (List ℕ) → Type 0
    P = IsOnSide layout s form base held

    at_slot : (image : List (List ℕ)) → IsTornImage mid (slot_at layout o) n image → P image
    at_slot image torn =
        let places = lies layout o in
        let was = left_each old mid P before sound torn.0 torn.1 in
        let root : sector image (root_at o) ≡ sector mid.reads (root_at o) = torn.2.others (root_at o) (inl places.root) ∙ durable_image mid shut.durable torn.0 torn.1 (root_at o) in
        stays_on_side layout s form base held torn.0 image was (slot_torn layout o torn.0 image n few torn.2) (inl (closed_as (sector mid.reads (root_at o)) (sector image (root_at o)) root shut.root))

    pub in_rows : (result : Result Unit DiskError) → HasFilled mid new (slot_at layout o) n bytes result → LeavesOnly old new P
    in_rows result filled = run_on old mid new P (IsTornImage mid (slot_at layout o) n) before filled.crash at_slot

    pub in_last : (last : View) (result : Result Unit DiskError) → HasFilled mid new (slot_at layout o) n bytes (Ok tt) → HasSynced new last result → LeavesOnly old last P
    in_last last result filled syncs = sync_on old new last P result (in_rows (Ok tt) filled) syncs (λ image is. at_slot image (filled.now image is))

-- the image is on the disk
pub is_ready : {A : Type 0} (layout : Layout) (side : Side) (epoch : ℕ) (state : State) (mid new last : View) → IsShut layout side mid →
    IsState state → StateInRange state → state.registered.limits ≡ layout.limits → 0 < epoch → epoch ≤ last_epoch
    → HasFilled mid new (slot_at layout side) (length (rows_of epoch state)) (row_sector (epoch, state)) (Ok tt) → HasSynced new last (Ok tt) →
    InEach last (IsReady {A = A} layout side Numbered (epoch, state) (fresh layout side))
is_ready layout side epoch state mid new last shut is ranges limits some most filled syncs image left =
    let places = lies layout side in
    let fit = rows_have_room layout epoch state is limits in
    let same = λ (k : ℕ) (out : (k < slot_at layout side) ⊎ (slot_at layout side + length (rows_of epoch state) ≤ k)).
    durable_image last syncs.durable image left k ∙ ap (λ (l : List (List ℕ)). sector l k) syncs.reads ∙ filled.others k out in
    let written = written_slot layout (slot_at layout side) epoch state image is ranges limits some most
    (λ k lt. durable_image last syncs.durable image left (slot_at layout side + k) ∙ ap (λ (l : List (List ℕ)). sector l (slot_at layout side + k)) syncs.reads ∙ filled.written k lt) in
    record {
      root = closed_as (sector mid.reads (root_at side)) (sector image (root_at side)) (same (root_at side) (inl places.root)) shut.root;
      slot = written.0;
      form_is = written.1;
      half = last_gate Numbered (half_end layout side - half_at layout side) state.count image (half_at layout side) (half_end layout side)
          (closed_as (sector mid.reads (half_at layout side)) (sector image (half_at layout side))
          (same (half_at layout side) (inr (omega (arith, fit, places.slot)))) shut.gate);
      gate = let some = layout.in_range.fewest in omega (arith, some);
    }
