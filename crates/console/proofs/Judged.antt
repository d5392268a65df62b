-- Which lines are bad.
use Rattle.std.proofs.Common.{◌≡◌, inl, inr, ℕ, ◌<◌, ◌≤◌, Bool, true, false, List, length, refl, sym, ◌∙◌, ap, subst, arith, Option, Some, None, nat_lt}
use Rattle.std.specs.Prelude.{if◌then◌else◌}
use Rattle.std.specs.Option.{is_some}
use Rattle.std.proofs.lemmas.Bool.{true≢false, false≢true}
use Rattle.centre_core.specs.declared.command.Command.{Command}
use Rattle.centre_core.specs.declared.query.Query.{Query}
use Rattle.listings.specs.declared.listing.Listing.{Listing}
use Rattle.console.specs.declared.form.Form.{Form}
use Rattle.console.specs.declared.form.Form.TheVariants as form
use Rattle.console.specs.declared.line.LineFault.TheVariants.{Syntax, Value, TooLong}
use Rattle.console.specs.declared.line.Line.{Line}
use Rattle.console.specs.declared.line.Line.TheVariants.{Silent, Bad, Apply, Ask, Print, Mark, OwnStation, Service, Forbidden}
use Rattle.console.specs.Forms.{word, form_of_words}
use Rattle.console.specs.Mark.{mark_in}
use Rattle.console.specs.Reading.{words, of_words, of_form, by_form, line_of, command_of, head_in, body_in, query_in, listing_in, is_silent, longest_line, reading}
use Rattle.console.specs.Spelling.{has_form, SpellsSome, BadLines}
use Rattle.console.proofs.Spelled.{only_commands, only_queries, only_listings, only_marks, only_own, only_service}
use Rattle.console.proofs.Taken.{all_commands, all_queries, all_listings}
use Rattle.console.proofs.OwnLines.{all_marks, all_own, all_service}

module _ (A : Type 0) where
  abbrev kind_of : Line A → ℕ
  kind_of Silent = 0
  kind_of (Bad TooLong) = 1
  kind_of (Bad Syntax) = 2
  kind_of (Bad Value) = 3
  kind_of (Apply c) = 4
  kind_of (Ask q) = 5
  kind_of (Print l) = 6
  kind_of (Mark word) = 7
  kind_of (OwnStation own) = 8
  kind_of Service = 9
  kind_of (Forbidden order) = 0

  -- words of a form are a command, a query, a listing, a mark, the question which station this is or for the service, or a bad value
  abbrev IsValued : Line A → Type 0
  IsValued l = 3 ≤ kind_of l

  valued_line : {V : Type 0} (says : V → Line A) (o : Option V) → ((v : V) → IsValued (says v)) → IsValued (line_of says o)
  valued_line says (Some v) valued = valued v
  valued_line says None valued = omega arith

  valued : (station : ℕ) (form : Form) (ws : List (List ℕ)) → IsValued (of_form station form ws)
  valued station (form.Apply body) ws = valued_line Apply (command_of station (head_in (word 0 ws) (word 1 ws)) (body_in body ws)) (λ c. omega arith)
  valued station (form.Ask query) ws = valued_line Ask (query_in query ws) (λ q. omega arith)
  valued station (form.Print listing) ws = valued_line Print (listing_in listing ws) (λ l. omega arith)
  valued station form.Mark ws = valued_line Mark (mark_in (word 1 ws)) (λ w. omega arith)
  valued station form.OwnStation ws = omega arith
  valued station form.Service ws = omega arith

  -- of a form, or of none
  formed : (station : ℕ) (form : Option Form) (ws : List (List ℕ)) → is_some form ≡ true → IsValued (by_form station form ws)
  formed station None ws e = absurd (false≢true e)
  formed station (Some form) ws e = valued station form ws

  formless : (station : ℕ) (form : Option Form) (ws : List (List ℕ)) → is_some form ≡ false → by_form {A = A} station form ws ≡ Bad Syntax
  formless station None ws e = refl
  formless station (Some form) ws e = absurd (true≢false e)

  -- ---- lines

  is_long : (n : ℕ) → longest_line < n → nat_lt longest_line n ≡ true
  is_long n long = grind (arith, long)

  is_short : (n : ℕ) → n ≤ longest_line → nat_lt longest_line n ≡ false
  is_short n short = grind (arith, short)

  long_flag : (n : ℕ) → nat_lt longest_line n ≡ true → longest_line < n
  long_flag n e = grind (arith, e)

  short_flag : (n : ℕ) → nat_lt longest_line n ≡ false → n ≤ longest_line
  short_flag n e = grind (arith, e)

  -- what is judged of a line
  abbrev judging : Bool → Bool → Line A → Line A
  judging long silent l = if long then Bad TooLong else (if silent then Silent else l)

  same_kind : (a b : Line A) → a ≡ b → kind_of a ≡ kind_of b
  same_kind a b e = ap (λ (l : Line A). kind_of l) e

  long_only : (long silent form : Bool) (l : Line A) → (form ≡ true → IsValued l) → (form ≡ false → l ≡ Bad Syntax) → judging long silent l ≡ Bad TooLong → long ≡ true
  long_only true silent form l some none e = refl
  long_only false true form l some none e = absurd (omega (arith, same_kind Silent (Bad TooLong) e))
  long_only false false true l some none e = absurd (omega (arith, some refl, same_kind l (Bad TooLong) e))
  long_only false false false l some none e = absurd (omega (arith, same_kind l (Bad Syntax) (none refl), same_kind l (Bad TooLong) e))

  syntax_only : (long silent form : Bool) (l : Line A) → (form ≡ true → IsValued l) → judging long silent l ≡ Bad Syntax → (long ≡ false) × (silent ≡ false) × (form ≡ false)
  syntax_only true silent form l some e = absurd (omega (arith, same_kind (Bad TooLong) (Bad Syntax) e))
  syntax_only false true form l some e = absurd (omega (arith, same_kind Silent (Bad Syntax) e))
  syntax_only false false true l some e = absurd (omega (arith, some refl, same_kind l (Bad Syntax) e))
  syntax_only false false false l some e = (refl, refl, refl)

  value_only : (long silent form : Bool) (l : Line A) → (form ≡ false → l ≡ Bad Syntax) → judging long silent l ≡ Bad Value → (long ≡ false) × (silent ≡ false) × (form ≡ true)
  value_only true silent form l none e = absurd (omega (arith, same_kind (Bad TooLong) (Bad Value) e))
  value_only false true form l none e = absurd (omega (arith, same_kind Silent (Bad Value) e))
  value_only false false true l none e = (refl, refl, refl)
  value_only false false false l none e = absurd (omega (arith, same_kind l (Bad Syntax) (none refl), same_kind l (Bad Value) e))

  judged_of : (long silent : Bool) (l : Line A) → long ≡ false → silent ≡ false → judging long silent l ≡ l
  judged_of long silent l short speaks = rw (short, speaks) refl

  value_left : (l : Line A) → IsValued l → ((c : Command A) → l ≡ Apply c → ⊥) → ((q : Query) → l ≡ Ask q → ⊥) → ((k : Listing) → l ≡ Print k → ⊥) →
      ((w : List ℕ) → l ≡ Mark w → ⊥) → ((n : ℕ) → l ≡ OwnStation n → ⊥) → (l ≡ Service → ⊥) → l ≡ Bad Value
  value_left Silent good no_command no_ask no_print no_mark no_own no_service = absurd (omega (arith, good))
  value_left (Bad TooLong) good no_command no_ask no_print no_mark no_own no_service = absurd (omega (arith, good))
  value_left (Bad Syntax) good no_command no_ask no_print no_mark no_own no_service = absurd (omega (arith, good))
  value_left (Bad Value) good no_command no_ask no_print no_mark no_own no_service = refl
  value_left (Apply c) good no_command no_ask no_print no_mark no_own no_service = absurd (no_command c refl)
  value_left (Ask q) good no_command no_ask no_print no_mark no_own no_service = absurd (no_ask q refl)
  value_left (Print k) good no_command no_ask no_print no_mark no_own no_service = absurd (no_print k refl)
  value_left (Mark w) good no_command no_ask no_print no_mark no_own no_service = absurd (no_mark w refl)
  value_left (OwnStation n) good no_command no_ask no_print no_mark no_own no_service = absurd (no_own n refl)
  value_left Service good no_command no_ask no_print no_mark no_own no_service = absurd (no_service refl)
  value_left (Forbidden order) good no_command no_ask no_print no_mark no_own no_service = absurd (omega (arith, good))

  -- what spells a command, a query, a listing or a mark, or asks which station this is, is no bad line
  spelt_is_taken : (station : ℕ) (line : List ℕ) → length line ≤ longest_line → SpellsSome A station line → reading {A = A} station line ≡ Bad Value → ⊥
  spelt_is_taken station line short spelt e = elim spelt [
    | inl command ↦ (let c = command.0 in let taken = subst (λ (n : ℕ). reading {A = A} n line ≡ Apply c) command.1 (all_commands line c command.2 command.3 short) in
        omega (arith, same_kind (Apply c) (Bad Value) (sym taken ∙ e)))
    | inr others ↦ elim others [
      | inl query ↦ (let q = query.0 in let same = query.2 in
          let taken = subst (λ (text : List ℕ). reading {A = A} station text ≡ Ask q) (sym same)
          (all_queries {A = A} station q query.1 (subst (λ (text : List ℕ). length text ≤ longest_line) same short)) in
          omega (arith, same_kind (Ask q) (Bad Value) (sym taken ∙ e)))
      | inr further ↦ elim further [
        | inl listing ↦ (let l = listing.0 in
            let taken = subst (λ (text : List ℕ). reading {A = A} station text ≡ Print l) (sym listing.2) (all_listings {A = A} station l listing.1) in
            omega (arith, same_kind (Print l) (Bad Value) (sym taken ∙ e)))
        | inr own ↦ elim own [
          | inl mark ↦ (let w = mark.0 in
              let taken = subst (λ (text : List ℕ). reading {A = A} station text ≡ Mark w) (sym mark.2) (all_marks A station w mark.1) in
              omega (arith, same_kind (Mark w) (Bad Value) (sym taken ∙ e)))
          | inr last ↦ elim last [
            | inl same ↦ (let taken = subst (λ (text : List ℕ). reading {A = A} station text ≡ OwnStation station) (sym same) (all_own A station) in
                omega (arith, same_kind (OwnStation station) (Bad Value) (sym taken ∙ e)))
            | inr same ↦ (let taken = subst (λ (text : List ℕ). reading {A = A} station text ≡ Service) (sym same) (all_service A station) in
                omega (arith, same_kind Service (Bad Value) (sym taken ∙ e)))
          ]
        ]
      ]
    ]
  ]

  pub bad_lines : BadLines A
  bad_lines station line =
      let long = nat_lt longest_line (length line) in let silent = is_silent line in let form = has_form (words line) in let l = of_words {A = A} station (words line) in
      let some = formed station (form_of_words (words line)) (words line) in let none = formless station (form_of_words (words line)) (words line) in record {
        too_long = (λ e. long_flag (length line) (long_only long silent form l some none e), λ many. rw (is_long (length line) many) refl);
        no_form = (
          λ e. (let f = syntax_only long silent form l some e in ((short_flag (length line) f.0, f.1), f.2)),
          λ f. judged_of long silent l (is_short (length line) f.0.0) f.0.1 ∙ none f.1,
        );
        no_value = (
          λ e. (let f = value_only long silent form l none e in let short = short_flag (length line) f.0 in ((short, f.1), f.2, λ spelt. spelt_is_taken station line short spelt e)),
          λ f. (let all = judged_of long silent l (is_short (length line) f.0.0) f.0.1 in all ∙ value_left l (some f.1)
              (λ c e. (let only = only_commands A station line c (all ∙ e) in f.2 (inl (c, only.of_station, only.in_range, only.spelt))))
              (λ q e. (let only = only_queries A station line q (all ∙ e) in f.2 (inr (inl (q, only.in_range, only.spelt)))))
              (λ k e. (let only = only_listings A station line k (all ∙ e) in f.2 (inr (inr (inl (k, only.in_range, only.spelt))))))
              (λ w e. (let only = only_marks A station line w (all ∙ e) in f.2 (inr (inr (inr (inl (w, only.in_range, only.spelt)))))))
              (λ n e. f.2 (inr (inr (inr (inr (inl (only_own A station n line (all ∙ e)).1))))))
              (λ e. f.2 (inr (inr (inr (inr (inr (only_service A station line (all ∙ e))))))))),
        );
      }
