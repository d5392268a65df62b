-- The calls that an append has made.
use Rattle.std.proofs.Common.{◌≡◌, ℕ, zero, suc, ◌+◌, ◌*◌, ◌<◌, List, [], ◌∷◌, ◌++◌, replicate, slice_index, Result, Ok, Err, refl, sym, ap, ◌∙◌, append_assoc, arith}
use Rattle.std.specs.Result.{OnOk}
use Rattle.std.proofs.lemmas.List.{get_or_past, length-replicate, get_or-replicate}
use Rattle.std.proofs.lemmas.List.FromFn.{fill_by_all}
use Rattle.sector_disk.specs.Disk.{View, IsCalled}
use Rattle.sector_disk.specs.Run.{HasMade, writes}
use Rattle.sector_disk.specs.declared.disk.DiskError.{DiskError}
use Rattle.sector_disk.specs.declared.record.Call.{Call}
use Rattle.sector_disk.specs.declared.record.Call.TheVariants.{Sync, Write}
use Rattle.sector_disk.proofs.Made.{all_made, made_of_more, one_write_more}
use Rattle.gated_journal.specs.Record.{data_sector, data_size}
use Rattle.gated_journal.specs.Calls.{append_calls, closed_gate, open_gate, settled_calls}

-- after a text is a closed gate
pub closed_gate_after : (text : List ℕ) → closed_gate ≡ data_sector text (data_size text)
unfolding data_sector
closed_gate_after text =
    fill_by_all (λ (i : ℕ). slice_index text (512 * data_size text + i)) (replicate 512 0) 512 0 (length-replicate {A = ℕ} 512 0)
    (λ i lt. get_or-replicate 512 i 0 0 lt ∙ sym (get_or_past text (512 * data_size text + i) 0 (omega arith)))

-- an open gate is the first sector of a text of one byte
pub open_gate_is : open_gate ≡ data_sector (1 ∷ []) 0
unfolding data_sector
open_gate_is = fill_by_all (λ (i : ℕ). slice_index (1 ∷ []) (512 * 0 + i)) open_gate 512 0 (ap suc (length-replicate {A = ℕ} 511 0)) byte
  where
    byte : (i : ℕ) → i < 512 → slice_index open_gate i ≡ slice_index (1 ∷ []) (512 * 0 + i)
    byte zero lt = refl
    byte (suc i) lt = get_or-replicate 511 i 0 0 (omega (arith, lt)) ∙ sym (get_or_past (1 ∷ []) (512 * 0 + suc i) 0 (omega arith))

module _ (gate : ℕ) (text : List ℕ) where
  -- the data sectors and the gate after them
  abbrev filled : List Call
  filled = writes (gate + 1) (data_size text + 1) (data_sector text)

  opened : Write gate open_gate ∷ Sync ∷ [] ≡ settled_calls gate 1 (1 ∷ [])
  unfolding writes
  opened =
      let here : gate + 0 ≡ gate = omega arith in
      ap (λ (at : ℕ). Write at open_gate ∷ Sync ∷ []) (sym here) ∙ ap (λ (bytes : List ℕ). Write (gate + 0) bytes ∷ Sync ∷ []) open_gate_is

  -- the text is settled, and then the gate
  whole : append_calls gate text ≡ settled_calls (gate + 1) (data_size text + 1) text ++ settled_calls gate 1 (1 ∷ [])
  whole = sym (append_assoc (writes (gate + 1) (data_size text) (data_sector text)) (Write (gate + 1 + data_size text) closed_gate ∷ []) (Sync ∷ Write gate open_gate ∷ Sync ∷ []))
      ∙ ap (λ (some : List Call). some ++ Sync ∷ Write gate open_gate ∷ Sync ∷ []) (one_write_more (gate + 1) (data_size text) (data_sector text) closed_gate (closed_gate_after text))
      ∙ sym (append_assoc filled (Sync ∷ []) (Write gate open_gate ∷ Sync ∷ []))
      ∙ ap (λ (some : List Call). (filled ++ Sync ∷ []) ++ some) opened

  pub calls_in_text : (old new : View) → HasMade old new (settled_calls (gate + 1) (data_size text + 1) text) → HasMade old new (append_calls gate text)
  calls_in_text old new made = rw whole (made_of_more old new (settled_calls (gate + 1) (data_size text + 1) text) (settled_calls gate 1 (1 ∷ [])) made)

  module _ (old mid new : View) (were : mid.calls ≡ old.calls ++ settled_calls (gate + 1) (data_size text + 1) text) where
    pub calls_in_gate : HasMade mid new (settled_calls gate 1 (1 ∷ [])) → HasMade old new (append_calls gate text)
    calls_in_gate has = rw whole (record {
      made = settled_calls (gate + 1) (data_size text + 1) text ++ has.made;
      left = has.left;
      prefix = ap (λ (some : List Call). settled_calls (gate + 1) (data_size text + 1) text ++ some) has.prefix ∙
          sym (append_assoc (settled_calls (gate + 1) (data_size text + 1) text) has.made has.left);
      now = has.now ∙ ap (λ (some : List Call). some ++ has.made) were ∙ append_assoc old.calls (settled_calls (gate + 1) (data_size text + 1) text) has.made;
    })

    pub calls_at_end : new.calls ≡ mid.calls ++ settled_calls gate 1 (1 ∷ []) → new.calls ≡ old.calls ++ append_calls gate text
    calls_at_end last = rw whole (last ∙ ap (λ (some : List Call). some ++ settled_calls gate 1 (1 ∷ [])) were ∙
        append_assoc old.calls (settled_calls (gate + 1) (data_size text + 1) text) (settled_calls gate 1 (1 ∷ [])))

-- the sectors are filled, and then synced
pub settled_at_end : (old mid new : View) (at n : ℕ) (text : List ℕ) (result : Result Unit DiskError) → mid.calls ≡ old.calls ++ writes at n (data_sector text) → IsCalled mid new Sync result
    → OnOk result (new.calls ≡ old.calls ++ settled_calls at n text)
settled_at_end old mid new at n text (Ok u) were called = all_made old.calls mid.calls new.calls (writes at n (data_sector text)) Sync were called.made
settled_at_end old mid new at n text (Err e) were called = tt
