-- A slot that begins with an image states its epoch in its first sector.
use Rattle.std.proofs.Common.{◌≡◌, ℕ, suc, ◌+◌, ◌-◌, ◌<◌, Bool, true, false, cond, List, [], ◌∷◌, Option, Some, None, Result, Ok, refl, sym, ap, ◌∙◌, arith}
use Rattle.std.specs.Prelude.{map as each}
use Rattle.base.proofs.Options.{some_is}
use Rattle.registration.specs.declared.limits.Limits.{Limits}
use Rattle.sector_disk.specs.Disk.{sector}
use Rattle.centre_core.specs.State.{State}
use Rattle.image_rows.specs.Rows.{Row, HeaderRow, RuleRow, RadioRow, MailRow, ServedRow, Header}
use Rattle.image_rows.specs.RowReading.{row_in}
use Rattle.image_rows.specs.Loading.{◌>>=◌, Loading, all_done, begun, finished, header_may, put, row_taken}
use Rattle.image_rows.specs.Slot.{or_later, read_from, with_row}
use Rattle.image_rows.specs.Image.{slot_of}
use Rattle.checkpoint.specs.declared.layout.Layout.{Layout}
use Rattle.checkpoint.specs.declared.side.Side.{Side}
use Rattle.checkpoint.specs.Layout.{slot_at, slot_size}
use Rattle.checkpoint.specs.OnSide.{Base, IsInSlot, epoch_of, sectors_from, slot_epoch}

ok_is : (x y : Base) → (let r : Result Base ℕ = Ok x in r) ≡ Ok y → x ≡ y
ok_is x y e = cc

-- the header stays what it was
put_header : (h : Header) (o : Option State) (n : Loading) → (o >>= λ s. Some (record { header = Some h; state = s })) ≡ Some n → n.header ≡ Some h
put_header h None n e = absurd cc
put_header h (Some s) n e = ap (λ (l : Loading). l.header) (sym (some_is (record { header = Some h; state = s }) n e))

taken_header : (h : Header) (l n : Loading) (row : Row) → l.header ≡ Some h → row_taken l row ≡ Some n → n.header ≡ Some h
unfolding row_taken
taken_header h l n row was e = put_header h (put h l.state row) n (rw was at e)

done_epoch : (h : Header) (s : State) (done : Bool) (image : Base) → cond done (Some (h.epoch, s)) None ≡ Some image → image.0 ≡ h.epoch
done_epoch h s true image e = ap (λ (b : Base). b.0) (sym (some_is (h.epoch, s) image e))
done_epoch h s false image e = absurd cc

finished_epoch : (h : Header) (l : Loading) (image : Base) → l.header ≡ Some h → finished l ≡ Some image → image.0 ≡ h.epoch
unfolding finished
finished_epoch h l image was e = done_epoch h l.state (all_done h l.state) image (rw was at e)

-- once one more was taken
on_epoch : (h : Header) (n : Loading) (later : Result Base ℕ) (image : Base) → n.header ≡ Some h → (later ≡ Ok image → image.0 ≡ h.epoch) → or_later (finished n) later ≡ Ok image → image.0 ≡ h.epoch
on_epoch h n later image was more e =
    elim (finished n) as (λ o. finished n ≡ o → or_later o later ≡ Ok image → image.0 ≡ h.epoch) [
      | Some last ↦ λ is here. ap (λ (b : Base). b.0) (sym (ok_is last image here)) ∙ finished_epoch h n last was is
      | None ↦ λ is on. more on
    ] refl e

read_epoch : (place : ℕ) (h : Header) (l : Loading) (rows : List (Option Row)) (image : Base) → l.header ≡ Some h → read_from place l rows ≡ Ok image → image.0 ≡ h.epoch
read_epoch place h l [] image was e = absurd cc
read_epoch place h l (None ∷ rows) image was e = absurd cc
read_epoch place h l (Some row ∷ rows) image was e =
    elim (row_taken l row) as (λ r. row_taken l row ≡ r → with_row place r (λ n. read_from (place + 1) n rows) ≡ Ok image → image.0 ≡ h.epoch) [
      | None ↦ λ is none. absurd cc
      | Some n ↦ λ is on. on_epoch h n (read_from (place + 1) n rows) image (taken_header h l n row was is) (read_epoch (place + 1) h n rows image (taken_header h l n row was is)) on
    ] refl e

-- the first row is a header
begun_header : (limits : Limits) (row : Row) (n : Loading) → row_taken (begun limits) row ≡ Some n → (h : Header) × (row ≡ HeaderRow h) × (n.header ≡ Some h)
unfolding row_taken
begun_header limits (HeaderRow h) n e = (h, refl, may_begin limits h n (header_may limits h) e)
  where
    may_begin : (limits : Limits) (h : Header) (n : Loading) (may : Bool) →
        cond may (Some (record { header = Some h; state = record ((begun limits).state) { count = h.count } })) None ≡ Some n → n.header ≡ Some h
    may_begin limits h n true e = ap (λ (l : Loading). l.header) (sym (some_is (record { header = Some h; state = record ((begun limits).state) { count = h.count } }) n e))
    may_begin limits h n false e = absurd cc
begun_header limits (RuleRow prefix rule) n e = absurd cc
begun_header limits (RadioRow itsi radio groups) n e = absurd cc
begun_header limits (MailRow w) n e = absurd cc
begun_header limits (ServedRow station last) n e = absurd cc

first_epoch : (limits : Limits) (first : Option Row) (rows : List (Option Row)) (image : Base) → read_from 0 (begun limits) (first ∷ rows) ≡ Ok image → epoch_of first ≡ Some image.0
first_epoch limits None rows image e = absurd cc
first_epoch limits (Some row) rows image e =
    elim (row_taken (begun limits) row) as (λ r. row_taken (begun limits) row ≡ r → with_row 0 r (λ n. read_from 1 n rows) ≡ Ok image → epoch_of (Some row) ≡ Some image.0) [
      | None ↦ λ is none. absurd cc
      | Some n ↦ λ is on.
          let header = begun_header limits row n is in
          rw header.1 (ap Some (sym (on_epoch header.0 n (read_from 1 n rows) image header.2 (read_epoch 1 header.0 n rows image header.2) on)))
    ] refl e

pub slot_has_epoch : (layout : Layout) (s : Side) (base : Base) (image : List (List ℕ)) → 0 < slot_size layout → IsInSlot layout s base image → slot_epoch layout s image ≡ Some base.0
unfolding sectors_from
slot_has_epoch layout s base image some is =
    let size : slot_size layout ≡ suc (slot_size layout - 1) = omega (arith, some) in
    first_epoch layout.limits (row_in (sector image (slot_at layout s))) (each row_in (sectors_from image (slot_at layout s + 1) (slot_size layout - 1))) base
    (ap (λ (n : ℕ). slot_of layout.limits (sectors_from image (slot_at layout s) n)) (sym size) ∙ is)
