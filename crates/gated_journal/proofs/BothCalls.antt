-- The calls that an append to two halves has made.
use Rattle.std.proofs.Common.{◌≡◌, ℕ, ◌+◌, List, [], ◌∷◌, ◌++◌, Result, Ok, Err, sym, ap, ◌∙◌, append_assoc, arith}
use Rattle.std.specs.Result.{OnOk}
use Rattle.sector_disk.specs.Disk.{View, IsCalled}
use Rattle.sector_disk.specs.Run.{HasMade, writes}
use Rattle.sector_disk.specs.declared.disk.DiskError.{DiskError}
use Rattle.sector_disk.specs.declared.record.Call.{Call}
use Rattle.sector_disk.specs.declared.record.Call.TheVariants.{Sync, Write}
use Rattle.sector_disk.proofs.Made.{all_made, made_of_more, made_on, one_write_more}
use Rattle.gated_journal.specs.Record.{data_sector, data_size}
use Rattle.gated_journal.specs.Calls.{append_both_calls, closed_gate, open_gate, settled_both_calls, text_calls}
use Rattle.gated_journal.proofs.Called.{closed_gate_after, open_gate_is}

-- more calls after some that were made
made_after : (old mid new : View) (before calls : List Call) → mid.calls ≡ old.calls ++ before → HasMade mid new calls → HasMade old new (before ++ calls)
made_after old mid new before calls were has = record {
  made = before ++ has.made;
  left = has.left;
  prefix = ap (λ (some : List Call). before ++ some) has.prefix ∙ sym (append_assoc before has.made has.left);
  now = has.now ∙ ap (λ (some : List Call). some ++ has.made) were ∙ append_assoc old.calls before has.made;
}

all_after : (old mid new before calls : List Call) → mid ≡ old ++ before → new ≡ mid ++ calls → new ≡ old ++ (before ++ calls)
all_after old mid new before calls were is = is ∙ ap (λ (some : List Call). some ++ calls) were ∙ append_assoc old before calls

-- ---- two texts, and a sync

module _ (at n : ℕ) (text : List ℕ) (to m : ℕ) (other : List ℕ) where
  pub in_first : (old new : View) → HasMade old new (writes at n (data_sector text)) → HasMade old new (settled_both_calls at n text to m other)
  in_first old new has = made_of_more old new (writes at n (data_sector text)) (writes to m (data_sector other) ++ Sync ∷ []) has

  pub in_second : (old mid new : View) → mid.calls ≡ old.calls ++ writes at n (data_sector text) → HasMade mid new (writes to m (data_sector other)) →
      HasMade old new (settled_both_calls at n text to m other)
  in_second old mid new were has = made_after old mid new (writes at n (data_sector text)) (writes to m (data_sector other) ++ Sync ∷ []) were
      (made_of_more mid new (writes to m (data_sector other)) (Sync ∷ []) has)

  pub in_their_sync : (old mid filled new : View) (result : Result Unit DiskError) → mid.calls ≡ old.calls ++ writes at n (data_sector text) →
      filled.calls ≡ mid.calls ++ writes to m (data_sector other) → IsCalled filled new Sync result →
      HasMade old new (settled_both_calls at n text to m other)
  in_their_sync old mid filled new result were then called =
      made_after old mid new (writes at n (data_sector text)) (writes to m (data_sector other) ++ Sync ∷ []) were (made_on mid filled new (writes to m (data_sector other)) [] Sync result then called)

  pub both_settled : (old mid filled new : View) (result : Result Unit DiskError) → mid.calls ≡ old.calls ++ writes at n (data_sector text) →
      filled.calls ≡ mid.calls ++ writes to m (data_sector other) → IsCalled filled new Sync result
      → OnOk result (new.calls ≡ old.calls ++ settled_both_calls at n text to m other)
  both_settled old mid filled new (Ok u) were then called =
      all_after old.calls mid.calls new.calls (writes at n (data_sector text)) (writes to m (data_sector other) ++ Sync ∷ []) were
      (all_made mid.calls filled.calls new.calls (writes to m (data_sector other)) Sync then called.made)
  both_settled old mid filled new (Err e) were then called = tt

-- ---- the whole

text_written : (gate : ℕ) (text : List ℕ) → text_calls gate text ≡ writes (gate + 1) (data_size text + 1) (data_sector text)
text_written gate text = one_write_more (gate + 1) (data_size text) (data_sector text) closed_gate (closed_gate_after text)

gate_written : (gate : ℕ) → Write gate open_gate ∷ [] ≡ writes gate 1 (data_sector (1 ∷ []))
unfolding writes
gate_written gate =
    let here : gate + 0 ≡ gate = omega arith in
    ap (λ (at : ℕ). Write at open_gate ∷ []) (sym here) ∙ ap (λ (bytes : List ℕ). Write (gate + 0) bytes ∷ []) open_gate_is

module _ (gate : ℕ) (text : List ℕ) (also : ℕ) (other : List ℕ) where
  abbrev texts : List Call
  texts = settled_both_calls (gate + 1) (data_size text + 1) text (also + 1) (data_size other + 1) other

  abbrev gates : List Call
  gates = settled_both_calls gate 1 (1 ∷ []) also 1 (1 ∷ [])

  gates_are : Write gate open_gate ∷ Write also open_gate ∷ Sync ∷ [] ≡ gates
  gates_are = ap (λ (some : List Call). some ++ Write also open_gate ∷ Sync ∷ []) (gate_written gate) ∙
      ap (λ (some : List Call). writes gate 1 (data_sector (1 ∷ [])) ++ (some ++ Sync ∷ [])) (gate_written also)

  whole : append_both_calls gate text also other ≡ texts ++ gates
  whole =
      ap (λ (some : List Call). some ++ (text_calls also other ++ Sync ∷ Write gate open_gate ∷ Write also open_gate ∷ Sync ∷ [])) (text_written gate text)
      ∙ ap (λ (some : List Call). writes (gate + 1) (data_size text + 1) (data_sector text) ++ (some ++ Sync ∷ Write gate open_gate ∷ Write also open_gate ∷ Sync ∷ [])) (text_written also other)
      ∙ ap (λ (some : List Call). writes (gate + 1) (data_size text + 1) (data_sector text) ++ (writes (also + 1) (data_size other + 1) (data_sector other) ++ Sync ∷ some)) gates_are
      ∙ ap (λ (some : List Call). writes (gate + 1) (data_size text + 1) (data_sector text) ++ some)
      (sym (append_assoc (writes (also + 1) (data_size other + 1) (data_sector other)) (Sync ∷ []) gates))
      ∙ sym (append_assoc (writes (gate + 1) (data_size text + 1) (data_sector text)) (writes (also + 1) (data_size other + 1) (data_sector other) ++ Sync ∷ []) gates)

  pub made_in_texts : (old new : View) → HasMade old new texts → HasMade old new (append_both_calls gate text also other)
  made_in_texts old new has = rw whole (made_of_more old new texts gates has)

  pub made_in_gates : (old mid new : View) → mid.calls ≡ old.calls ++ texts → HasMade mid new gates → HasMade old new (append_both_calls gate text also other)
  made_in_gates old mid new were has = rw whole (made_after old mid new texts gates were has)

  pub made_at_end : (old mid new : View) → mid.calls ≡ old.calls ++ texts → new.calls ≡ mid.calls ++ gates → new.calls ≡ old.calls ++ append_both_calls gate text also other
  made_at_end old mid new were is = rw whole (all_after old.calls mid.calls new.calls texts gates were is)
