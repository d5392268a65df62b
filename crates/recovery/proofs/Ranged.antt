-- The state that an image opens to is one, and in its ranges.
use Rattle.std.proofs.Common.{◌≡◌, ℕ, zero, suc, ◌+◌, ◌-◌, List, [], ◌∷◌, ◌++◌, length, Option, Some, None, Ok, Err, refl, sym, subst, ap, ◌∙◌, inl, inr, arith}
use Rattle.std.specs.List.{All}
use Rattle.std.proofs.lemmas.Bool.{cases_lt}
use Rattle.std.proofs.lemmas.List.{get_or_past}
use Rattle.std.proofs.Math.ListN.{get_or-append}
use Rattle.std.proofs.Math.Seq.{get_or-append_right}
use Rattle.std.proofs.lemmas.List.Elements.{All-append, All-cons, All-head, All-nil, All-tail}
use Rattle.sector_disk.specs.Disk.{AreSectors, sector}
use Rattle.identity.specs.Packed.{AreBytes}
use Rattle.command_bytes.specs.Text.{IsCommand}
use Rattle.centre_core.specs.Asked.{Asked}
use Rattle.centre_core.specs.State.{State}
use Rattle.centre_core.specs.Step.{step}
use Rattle.centre_core.specs.History.{after, next}
use Rattle.centre_core.proofs.RangeLaws.{next_is_in_range}
use Rattle.centre_core.proofs.StateLaws.{next_is_state}
use Rattle.registration.specs.declared.limits.Limits.{Limits}
use Rattle.image_rows.proofs.Images.{image_is_spelt}
use Rattle.gated_journal.specs.declared.form.Form.{Form}
use Rattle.gated_journal.specs.Half.{RecordAt, Half, data_from, half_from, half_on, record_at, stated_size, with_prefix}
use Rattle.gated_journal.proofs.Halves.{opened}
use Rattle.gated_journal.proofs.Listed.{record_taken}
use Rattle.checkpoint.specs.Layout.{half_at, half_end, slot_at, slot_size}
use Rattle.checkpoint.specs.OnSide.{sectors_from, slot_form}
use Rattle.recovery.specs.Opens.{Opening, opens}
use Rattle.recovery.specs.OpensTo.{IsRanged, commands_of}
use Rattle.recovery.proofs.Limited.{step_limits}
use Rattle.recovery.proofs.FromOpening.{following}

-- ---- bytes

no_bytes : AreBytes []
no_bytes i = omega arith

more_bytes : (xs ys : List ℕ) → AreBytes xs → AreBytes ys → AreBytes (xs ++ ys)
more_bytes xs ys prefix back = λ i.
    elim (cases_lt i (length xs)) [
      | inl lt ↦ rw (get_or-append xs ys 0 i lt) (prefix i)
      | inr le ↦ rw (get_or-append_right xs ys i 0 le) (back (i - length xs))
    ]

module _ (image : List (List ℕ)) (are : AreSectors image) where
  pub sector_bytes : (k : ℕ) → AreBytes (sector image k)
  sector_bytes k =
      elim (cases_lt k (length image)) [
        | inl lt ↦ (are.each k lt).bytes
        | inr le ↦ rw (get_or_past image k [] le) no_bytes
      ]

  slot_bytes : (n at : ℕ) → All AreBytes (sectors_from image at n)
  unfolding sectors_from
  slot_bytes zero at = All-nil AreBytes
  slot_bytes (suc n) at = All-cons AreBytes (sector image at) (sectors_from image (at + 1) n) (sector_bytes at) (slot_bytes n (at + 1))

  data_bytes : (n at : ℕ) → AreBytes (data_from image at n)
  unfolding data_from
  data_bytes zero at = no_bytes
  data_bytes (suc n) at = more_bytes (data_from image at n) (sector image (at + n)) (data_bytes n at) (sector_bytes (at + n))

  -- ---- the commands of a half

  module _ {A : Type 0} where
    abbrev Mine : RecordAt A → Type 0
    Mine entry = All IsCommand entry.1

    entries_is : (entry : RecordAt A) (half : Half A) (entries : List (RecordAt A)) (gate : ℕ) → with_prefix (entry ∷ []) half ≡ Ok (entries, gate) →
        (rest : List (RecordAt A)) × (half ≡ Ok (rest, gate)) × (entries ≡ entry ∷ rest)
    entries_is entry (Ok half) entries gate e =
        let pair : ◌≡◌ {A = List (RecordAt A) × ℕ} (entry ∷ half.0, half.1) (entries, gate) = cc in
        (half.0, ap (λ (x : List (RecordAt A) × ℕ). Ok (half.0, x.1)) pair, sym (ap (λ (x : List (RecordAt A) × ℕ). x.0) pair))
    entries_is entry (Err s) entries gate e = absurd cc

    no_entries : (at : ℕ) (entries : List (RecordAt A)) (gate : ℕ) → (let r : Half A = Ok ([], at) in r) ≡ Ok (entries, gate) → entries ≡ []
    no_entries at entries gate e = let pair : ◌≡◌ {A = List (RecordAt A) × ℕ} ([], at) (entries, gate) = cc in sym (ap (λ (x : List (RecordAt A) × ℕ). x.0) pair)

    none_mine : (at : ℕ) (entries : List (RecordAt A)) (gate : ℕ) → (let r : Half A = Ok ([], at) in r) ≡ Ok (entries, gate) → All Mine entries
    none_mine at entries gate e = subst (All Mine) (sym (no_entries at entries gate e)) (All-nil Mine)

    half_commands : (fuel : ℕ) (form : Form) (before at end : ℕ) (entries : List (RecordAt A)) (gate : ℕ) → half_from fuel form before image at end ≡ Ok (entries, gate) → All Mine entries
    unfolding half_from
    half_commands zero form before at end entries gate e = none_mine at entries gate e
    half_commands (suc fuel) form before at end entries gate e =
        elim (record_at {A = A} form before image at end) as
        (λ r. record_at form before image at end ≡ r → half_on at r (λ x. half_from fuel form (before + length x.0) image x.1 end) ≡ Ok
        (entries, gate) → All Mine entries) [
          | Err fault ↦ λ is f. absurd cc
          | Ok o ↦ λ is f. on (λ x rest. half_commands fuel form (before + length x.0) x.1 end rest gate) o is f
        ] refl e
      where
        on : ((x : List (Asked A) × ℕ) (rest : List (RecordAt A)) → half_from fuel form (before + length x.0) image x.1 end ≡ Ok (rest, gate) →
            All Mine rest) → (o : Option (List (Asked A) × ℕ)) → record_at form before image at end ≡ Ok o
            → half_on at (Ok o) (λ x. half_from fuel form (before + length x.0) image x.1 end) ≡ Ok (entries, gate) → All Mine entries
        on go None is f = none_mine at entries gate f
        on go (Some x) is f =
            let rest = entries_is (at + 1, x.0) (half_from fuel form (before + length x.0) image x.1 end) entries gate f in
            let there = opened form before image at end x is in
            let fit = (record_taken form before (data_from image (at + 1) (stated_size form (sector image (at + 1)))) x.0
            (data_bytes (stated_size form (sector image (at + 1))) (at + 1)) there.read).fit in
            subst (All Mine) (sym rest.2) (All-cons Mine (at + 1, x.0) rest.0 fit.each (go x rest.0 rest.1))

-- ---- the state after them

module _ {A : Type 0} where
  all_commands : (entries : List (RecordAt A)) → All (λ (entry : RecordAt A). All IsCommand entry.1) entries → All IsCommand (commands_of entries)
  all_commands [] are = All-nil IsCommand
  all_commands (entry ∷ entries) are =
      let P = λ (entry : RecordAt A). All IsCommand entry.1 in
      All-append IsCommand entry.1 (commands_of entries) (All-head P entry entries are) (all_commands entries (All-tail P entry entries are))

  ranged_after : (limits : Limits) (s : State) (cs : List (Asked A)) → All IsCommand cs → IsRanged limits s → IsRanged limits (after s cs)
  ranged_after limits s [] are is = is
  ranged_after limits s (c ∷ cs) are is =
      let first = All-head IsCommand c cs are in
      ranged_after limits (next s c) cs (All-tail IsCommand c cs are) (record {
        state = next_is_state s c is.state;
        ranges = next_is_in_range A s c first.range is.ranges;
        under = step_limits s (next s c) c (step {B = A} s c).1 refl ∙ is.under;
      })

pub opens_ranged : (A : Type 0) (o : Opening) (image : List (List ℕ)) → AreSectors image → opens A image ≡ Ok o → IsRanged o.layout.limits o.state
opens_ranged A o image are e =
    let is = following A o image e in
    let first = half_at o.layout o.side in
    let end = half_end o.layout o.side in
    let base = image_is_spelt o.layout.limits (sectors_from image (slot_at o.layout o.side) (slot_size o.layout)) o.epoch is.base
    (slot_bytes image are (slot_size o.layout) (slot_at o.layout o.side)) is.slot in
    let commands = all_commands is.entries (half_commands image are (end - first) (slot_form o.layout o.side image) is.base.count first end is.entries o.next is.half) in
    let after_is = ranged_after o.layout.limits is.base (commands_of is.entries) commands (record { state = base.0; ranges = base.1; under = base.2 }) in
    subst (IsRanged o.layout.limits) (sym is.made) after_is
