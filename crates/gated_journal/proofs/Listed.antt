-- Commands one after the other, and records of them: what is written is read back, and only that.
use Rattle.std.proofs.Common.{◌≡◌, ℕ, zero, suc, ◌+◌, ◌*◌, ◌<◌, ◌≤◌, Bool, true, false, cond, List, [], ◌∷◌, ◌++◌, length, replicate, Option}
use Rattle.std.proofs.Common.{option_map, Some, None, Vec, refl, sym, ap, subst, ◌∙◌, arith}
use Rattle.std.specs.Prelude.{IfSome}
use Rattle.std.specs.Option.{is_some}
use Rattle.std.specs.List.{All, flat_map}
use Rattle.std.proofs.lemmas.List.{length-append}
use Rattle.std.proofs.lemmas.List.Concat.{flat_map-cons}
use Rattle.std.proofs.lemmas.List.Elements.{All-nil, All-cons, All-head, All-tail}
use Rattle.centre_core.specs.Asked.{Asked}
use Rattle.identity.specs.Packed.{AreBytes}
use Rattle.std.proofs.lemmas.Bool.{eqb-true}
use Rattle.centre_core.specs.State.{last_number}
use Rattle.command_bytes.specs.Fields.{◌>>=◌}
use Rattle.command_bytes.specs.Text.{IsCommand, command_text, longest}
use Rattle.command_bytes.specs.Reading.{first_command}
use Rattle.command_bytes.proofs.BodyLaws.{command_again, command_takes}
use Rattle.command_bytes.proofs.Sizes.{command_short}
use Rattle.gated_journal.specs.Record.{Packed, IsRecord, commands_in, first_of, follows, most_commands, pack, packed_of, packed_text, record_of, record_text, stated_of}
use Rattle.gated_journal.specs.declared.form.Form.{Form}
use Rattle.gated_journal.specs.declared.form.Form.TheVariants.{Numbered, Plain}
use Rattle.gated_journal.proofs.Packed.{IsFirst, IsPacked, first_is, it_follows, packed_again}
use Rattle.gated_journal.proofs.Taken.{bind_some, packed_taken}

first_of_follows : (form : Form) (before : ℕ) (first : Option ℕ) → IsFirst form first → follows before first ≡ true → first ≡ first_of form before
first_of_follows Plain before first is e = is
first_of_follows Numbered before first (n, is, small) e = is ∙ ap Some (eqb-true n (before + 1) (sym (ap (follows before) is) ∙ e))

module _ {A : Type 0} where
  short_texts : (cs : List (Asked A)) → All IsCommand cs → length (flat_map command_text cs) ≤ longest * length cs
  short_texts [] are = omega arith
  short_texts (c ∷ cs) are =
      let long : length (flat_map command_text (c ∷ cs)) ≡ length (command_text c) + length (flat_map command_text cs) =
      ap length (flat_map-cons command_text c cs) ∙ length-append (command_text c) (flat_map command_text cs) in
      omega (arith, long, command_short c (All-head IsCommand c cs are), short_texts cs (All-tail IsCommand c cs are))

  -- a record of commands is one of so many bytes
  pub fits : (form : Form) (before : ℕ) (cs : List (Asked A)) → IsRecord cs → IsPacked (pack form before cs)
  fits form before cs is = record { some = is.some; few = is.few; short = short_texts cs is.each }

  commands_again : (cs : List (Asked A)) → All IsCommand cs → commands_in (length cs) (flat_map command_text cs) ≡ Some cs
  unfolding commands_in
  commands_again [] are = refl
  commands_again (c ∷ cs) are =
      rw (flat_map-cons command_text c cs, command_again c (flat_map command_text cs) (All-head IsCommand c cs are), commands_again cs (All-tail IsCommand c cs are)) refl

  -- what so many commands are read from
  record AreIn (n : ℕ) (bytes : List ℕ) (cs : List (Asked A)) : Type 0 where
    count : length cs ≡ n
    each : All IsCommand cs
    spelt : bytes ≡ flat_map command_text cs

  commands_taken : (n : ℕ) (bytes : List ℕ) (cs : List (Asked A)) → AreBytes bytes → commands_in n bytes ≡ Some cs → AreIn n bytes cs
  unfolding commands_in
  commands_taken zero [] cs is e = let none : [] ≡ cs = cc in subst (λ (l : List (Asked A)). AreIn 0 [] l) none (record { count = refl; each = All-nil IsCommand; spelt = refl })
  commands_taken zero (b ∷ bytes) cs is e = absurd cc
  commands_taken (suc n) bytes cs is e =
      let a = bind_some (first_command bytes) (λ (first : Asked A × List ℕ). commands_in n first.1 >>= λ (others : List (Asked A)). Some (first.0 ∷ others)) cs e in
      let first : Asked A × List ℕ = a.0 in
      let b = bind_some (commands_in n first.1) (λ (others : List (Asked A)). Some (first.0 ∷ others)) cs a.2 in
      let others : List (Asked A) = b.0 in
      let all : first.0 ∷ others ≡ cs = cc in
      let one = command_takes bytes first.0 first.1 is a.1 in
      let more = commands_taken n first.1 others one.2 b.1 in
      subst (λ (l : List (Asked A)). AreIn (suc n) bytes l) all (record {
        count = omega (arith, more.count);
        each = All-cons IsCommand first.0 others one.0 more.each;
        spelt = one.1 ∙ ap (λ (l : List ℕ). command_text first.0 ++ l) more.spelt ∙ sym (flat_map-cons command_text first.0 others);
      })

  -- ---- what a record's bytes state

  abbrev if_follows : ℕ → Option ℕ × List (Asked A) → Option (List (Asked A))
  if_follows before stated = cond (follows before stated.0) (Some stated.1) None

  abbrev with_first : Option ℕ → List (Asked A) → Option (Option ℕ × List (Asked A))
  with_first first commands = Some (first, commands)

  pub record_again : (form : Form) (before : ℕ) (cs : List (Asked A)) (z : ℕ) → before < last_number → IsRecord cs → record_of form before (record_text form before cs ++ replicate z 0) ≡ Some cs
  record_again form before cs z small is =
      rw (packed_again form (pack form before cs) z (fits form before cs is) (first_is form before small), commands_again cs is.each, it_follows form before) refl

  -- what a record's bytes are
  pub record IsRead (form : Form) (before : ℕ) (bytes : List ℕ) (cs : List (Asked A)) : Type 0 where
    pub fit : IsRecord cs
    pub spelt : (z : ℕ) × (bytes ≡ record_text form before cs ++ replicate z 0)

  kept : (b : Bool) (x y : List (Asked A)) → cond b (Some x) None ≡ Some y → (b ≡ true) × (x ≡ y)
  kept true x y e = (refl, cc)
  kept false x y e = absurd cc

  pub record_taken : (form : Form) (before : ℕ) (bytes : List ℕ) (cs : List (Asked A)) → AreBytes bytes → record_of form before bytes ≡ Some cs → IsRead form before bytes cs
  record_taken form before bytes cs is e =
      let t = bind_some (stated_of {A = A} form bytes) (if_follows before) cs e in
      let stated : Option ℕ × List (Asked A) = t.0 in
      let k = kept (follows before stated.0) stated.1 cs t.2 in
      let a = bind_some (packed_of form bytes) (λ (packed : Packed). commands_in packed.count packed.bytes >>= with_first packed.first) stated t.1 in
      let packed : Packed = a.0 in
      let b = bind_some (commands_in packed.count packed.bytes) (with_first packed.first) stated a.2 in
      let pair : ◌≡◌ {A = Option ℕ × List (Asked A)} (packed.first, b.0) stated = cc in
      let these : b.0 ≡ cs = ap (λ (x : Option ℕ × List (Asked A)). x.1) pair ∙ k.1 in
      let number : packed.first ≡ stated.0 = ap (λ (x : Option ℕ × List (Asked A)). x.0) pair in
      let unpacked = packed_taken form bytes packed is a.1 in
      let are = commands_taken packed.count packed.bytes cs unpacked.are_bytes (b.1 ∙ ap Some these) in
      let first : packed.first ≡ first_of form before = first_of_follows form before packed.first unpacked.first (ap (follows before) number ∙ k.0) in
      let same : packed ≡ pack form before cs = λ i. record { count = sym are.count i; first = first i; bytes = are.spelt i } in
      record {
        fit = record { some = rw are.count unpacked.fit.some; few = rw are.count unpacked.fit.few; each = are.each };
        spelt = (unpacked.spelt.0, unpacked.spelt.1 ∙ ap (λ (p : Packed). packed_text p ++ replicate unpacked.spelt.0 0) same);
      }

  -- ---- how many there are

  pub counts_in : (n : ℕ) (bytes : List ℕ) (cs : List (Asked A)) → commands_in n bytes ≡ Some cs → length cs ≡ n
  unfolding commands_in
  counts_in zero [] cs e = let none : [] ≡ cs = cc in subst (λ (l : List (Asked A)). length l ≡ 0) none refl
  counts_in zero (b ∷ bytes) cs e = absurd cc
  counts_in (suc n) bytes cs e =
      let a = bind_some (first_command bytes) (λ (first : Asked A × List ℕ). commands_in n first.1 >>= λ (others : List (Asked A)). Some (first.0 ∷ others)) cs e in
      let first : Asked A × List ℕ = a.0 in
      let b = bind_some (commands_in n first.1) (λ (others : List (Asked A)). Some (first.0 ∷ others)) cs a.2 in
      let all : first.0 ∷ b.0 ≡ cs = cc in
      subst (λ (l : List (Asked A)). length l ≡ suc n) all (omega (arith, counts_in n first.1 b.0 b.1))

  -- commands that were read of so many
  pub few_in : (n : ℕ) (bytes : List ℕ) (found : Option (Vec (Asked A) A)) → n ≤ most_commands →
      option_map (λ commands. commands.items) found ≡ commands_in n bytes → IfSome found (λ commands. length commands.items ≤ most_commands)
  few_in n bytes None few e = tt
  few_in n bytes (Some commands) few e = omega (arith, few, counts_in n bytes commands.items (sym e))

-- there are so many where they are commands
pub counted_in : (A : Type 0) (n : ℕ) (bytes : List ℕ) → is_some (commands_in {A = A} n bytes) ≡ true → Some n ≡ option_map (λ commands. length commands) (commands_in {A = A} n bytes)
counted_in A n bytes is = by_cases (commands_in {A = A} n bytes) refl is
  where
    by_cases : (o : Option (List (Asked A))) → commands_in n bytes ≡ o → is_some o ≡ true → Some n ≡ option_map (λ commands. length commands) o
    by_cases None e some = absurd cc
    by_cases (Some cs) e some = ap Some (sym (counts_in n bytes cs e))

pub none_counted : (A : Type 0) (n : ℕ) (bytes : List ℕ) → is_some (commands_in {A = A} n bytes) ≡ false → None ≡ option_map (λ commands. length commands) (commands_in {A = A} n bytes)
none_counted A n bytes is = by_cases (commands_in {A = A} n bytes) is
  where
    by_cases : (o : Option (List (Asked A))) → is_some o ≡ false → None ≡ option_map (λ commands. length commands) o
    by_cases None none = refl
    by_cases (Some cs) none = absurd cc

pub few_counted : (A : Type 0) (n : ℕ) (bytes : List ℕ) (found : Option ℕ) → n ≤ most_commands →
    found ≡ option_map (λ commands. length commands) (commands_in {A = A} n bytes) → IfSome found (λ count. count ≤ most_commands)
few_counted A n bytes None few e = tt
few_counted A n bytes (Some count) few e = by_cases (commands_in {A = A} n bytes) refl e
  where
    by_cases : (o : Option (List (Asked A))) → commands_in n bytes ≡ o → Some count ≡ option_map (λ commands. length commands) o → count ≤ most_commands
    by_cases None is e = absurd cc
    by_cases (Some cs) is e = let same : count ≡ length cs = cc in omega (arith, few, same, counts_in n bytes cs is)
