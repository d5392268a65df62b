-- Dialogues with a register that is kept on a disk.
use Rattle.std.proofs.Common.{◌≡◌, ◌⊎◌, ℕ, ◌+◌, Bool, true, false, List, [], ◌∷◌, refl, sym, ap, subst, ◌∙◌, inl, inr, Err}
use Rattle.std.proofs.lemmas.Bool.{true≢false}
use Rattle.std.proofs.lemmas.List.Elements.{All-nil, All-cons}
use Rattle.std.specs.Prelude.{All}
use Rattle.std.specs.List.{list_any}
use Rattle.base.proofs.Bools.{first_false, second_false}
use Rattle.centre_core.specs.declared.command.Command.{Command}
use Rattle.centre_core.specs.declared.query.Query.{Query}
use Rattle.desk.specs.declared.outage.Outage.{Outage}
use Rattle.desk.specs.declared.outage.Outage.TheVariants.{Memory, Device, Broken, Epochs, Closed}
use Rattle.desk.specs.OfRegister.{of_register}
use Rattle.desk.specs.OfStore.{Stored, Refuses, StoreApplies, StoreAnswers, StoreReads, of_store}
use Rattle.listings.specs.declared.listing.Listing.{Listing}
use Rattle.console.specs.declared.line.Line.{Line}
use Rattle.console.specs.declared.line.Line.TheVariants.{Silent, Bad, Apply, Ask, Print, Mark, OwnStation, Service, Forbidden}
use Rattle.console.specs.declared.answer.Answer.{Answer}
use Rattle.console.specs.declared.answer.Answer.TheVariants as answer
use Rattle.console.specs.Answer.{is_outage}
use Rattle.console.specs.Reading.{Speaker, heard}
use Rattle.console.specs.Dialogue.{AnswersReading, AnswersCommand, AnswersQuery, AnswersListing, AnswersService, Dialogue, LacksPdu}
use Rattle.console.specs.Stored.{SaysBroken, BrokenAfterDevice, RegisterAtDevice, StoredAsRegister}

-- what is broken is not sound
not_both : {X : Type 0} (s : Stored) → s.broken ≡ true → s.broken ≡ false → X
not_both s broken sound = absurd (true≢false (sym broken ∙ sound))

-- the words device and memory are two
abbrev is_device : Outage → Bool
is_device Memory = false
is_device Device = true
is_device Broken = false
is_device Epochs = false
is_device Closed = false

device_no_memory : Device ≡ Memory → ⊥
device_no_memory same = true≢false (ap is_device same)

refused : {A : Type 0} (s t : Stored) (c : Command A) (word : Outage) → s.broken ≡ true → Refuses s c word t → (word ≡ Broken) × (t ≡ s)
refused s t c Memory broken says = not_both s broken says.0
refused s t c Device broken says = not_both s broken says.0
refused s t c Broken broken says = (refl, says.1)
refused s t c Epochs broken says = not_both s broken says.0
refused s t c Closed broken says = absurd says

query_outage : (B : Type 0) (s t : Stored) (q : Query) (word : Outage) → s.broken ≡ true → StoreAnswers {B = B} s q (Err word) t → (word ≡ Broken) × (t ≡ s)
query_outage B s t q Memory broken says = not_both s broken says.0
query_outage B s t q Device broken says = absurd says
query_outage B s t q Broken broken says = (refl, says.1)
query_outage B s t q Epochs broken says = absurd says
query_outage B s t q Closed broken says = absurd says

listing_outage : (s t : Stored) (word : Outage) → s.broken ≡ true → StoreReads s (Err word) t → (word ≡ Broken) × (t ≡ s)
listing_outage s t Memory broken says = absurd says
listing_outage s t Device broken says = absurd says
listing_outage s t Broken broken says = (refl, says.1)
listing_outage s t Epochs broken says = absurd says
listing_outage s t Closed broken says = absurd says

module _ {A : Type 0} where
  -- what a broken desk answers, and that it stays as it is
  abbrev pub Stays : Answer A → Stored → Stored → Type 0
  Stays a s t = SaysBroken a × (t ≡ s)

  command_outage : (s t : Stored) (c : Command A) (sequence : ℕ) (word : Outage) → s.broken ≡ true → StoreApplies {A = A} {B = A} s c (Err word) t ⊎
      LacksPdu s c word t → Stays (answer.CommandOutage sequence word) s t
  command_outage s t c sequence word broken why = elim why [
    | inl says ↦ let b = refused s t c word broken says in (inl b.0, b.1)
    | inr lacks ↦ (inr lacks.1, lacks.2)
  ]

  on_command : (s t : Stored) (c : Command A) (a : Answer A) → s.broken ≡ true → AnswersCommand of_store s c a t → Stays a s t
  on_command s t c (answer.Replied sequence reply) broken given = not_both s broken given.1.0
  on_command s t c (answer.CommandOutage sequence word) broken given = command_outage s t c sequence word broken given.1
  on_command s t c answer.Quiet broken given = absurd given
  on_command s t c (answer.Marked word) broken given = absurd given
  on_command s t c (answer.OwnStation own) broken given = absurd given
  on_command s t c (answer.Service lines) broken given = absurd given
  on_command s t c (answer.ServiceOutage line) broken given = absurd given
  on_command s t c (answer.Forbidden order) broken given = absurd given
  on_command s t c (answer.Bad line fault) broken given = absurd given
  on_command s t c (answer.Queried query_answer) broken given = absurd given
  on_command s t c (answer.Listed lines) broken given = absurd given
  on_command s t c (answer.QueryOutage line word) broken given = absurd given

  on_query : (n : ℕ) (s t : Stored) (q : Query) (a : Answer A) → s.broken ≡ true → AnswersQuery of_store n s q a t → Stays a s t
  on_query n s t q (answer.Queried query_answer) broken given = not_both s broken given.0
  on_query n s t q (answer.QueryOutage line word) broken given = elim given.1 [
    | inl says ↦ query_outage A s t q word broken says
    | inr lacks ↦ not_both s broken lacks.1.2.0
  ]
  on_query n s t q answer.Quiet broken given = absurd given
  on_query n s t q (answer.Marked word) broken given = absurd given
  on_query n s t q (answer.OwnStation own) broken given = absurd given
  on_query n s t q (answer.Service lines) broken given = absurd given
  on_query n s t q (answer.ServiceOutage line) broken given = absurd given
  on_query n s t q (answer.Forbidden order) broken given = absurd given
  on_query n s t q (answer.Bad line fault) broken given = absurd given
  on_query n s t q (answer.Replied sequence reply) broken given = absurd given
  on_query n s t q (answer.CommandOutage sequence word) broken given = absurd given
  on_query n s t q (answer.Listed lines) broken given = absurd given

  on_listing : (n : ℕ) (s t : Stored) (l : Listing) (a : Answer A) → s.broken ≡ true → AnswersListing of_store n s l a t → Stays a s t
  on_listing n s t l (answer.Listed lines) broken given = not_both s broken given.1.0
  on_listing n s t l (answer.QueryOutage line word) broken given = elim given.1 [
    | inl says ↦ listing_outage s t word broken says
    | inr lacks ↦ not_both s broken lacks.2.1.0
  ]
  on_listing n s t l answer.Quiet broken given = absurd given
  on_listing n s t l (answer.Marked word) broken given = absurd given
  on_listing n s t l (answer.OwnStation own) broken given = absurd given
  on_listing n s t l (answer.Service lines) broken given = absurd given
  on_listing n s t l (answer.ServiceOutage line) broken given = absurd given
  on_listing n s t l (answer.Forbidden order) broken given = absurd given
  on_listing n s t l (answer.Bad line fault) broken given = absurd given
  on_listing n s t l (answer.Replied sequence reply) broken given = absurd given
  on_listing n s t l (answer.CommandOutage sequence word) broken given = absurd given
  on_listing n s t l (answer.Queried query_answer) broken given = absurd given

  on_service : (n : ℕ) (a : Answer A) → AnswersService n a → SaysBroken a
  on_service n (answer.Service lines) given = tt
  on_service n (answer.ServiceOutage line) given = tt
  on_service n answer.Quiet given = absurd given
  on_service n (answer.Marked word) given = absurd given
  on_service n (answer.OwnStation own) given = absurd given
  on_service n (answer.Forbidden order) given = absurd given
  on_service n (answer.Bad line fault) given = absurd given
  on_service n (answer.Replied sequence reply) given = absurd given
  on_service n (answer.CommandOutage sequence word) given = absurd given
  on_service n (answer.Queried query_answer) given = absurd given
  on_service n (answer.Listed lines) given = absurd given
  on_service n (answer.QueryOutage line word) given = absurd given

  on_reading : (n : ℕ) (s t : Stored) (line : Line A) (a : Answer A) → s.broken ≡ true → AnswersReading of_store n s line a t → Stays a s t
  on_reading n s t Silent a broken given = (subst (λ (b : Answer A). SaysBroken b) (sym given.0) tt, given.1)
  on_reading n s t (Bad fault) a broken given = (subst (λ (b : Answer A). SaysBroken b) (sym given.0) tt, given.1)
  on_reading n s t (Mark word) a broken given = (subst (λ (b : Answer A). SaysBroken b) (sym given.0) tt, given.1)
  on_reading n s t (OwnStation own) a broken given = (subst (λ (b : Answer A). SaysBroken b) (sym given.0) tt, given.1)
  on_reading n s t Service a broken given = (on_service n a given.0, given.1)
  on_reading n s t (Forbidden order) a broken given = (subst (λ (b : Answer A). SaysBroken b) (sym given.0) tt, given.1)
  on_reading n s t (Apply c) a broken given = on_command s t c a broken given
  on_reading n s t (Ask q) a broken given = on_query n s t q a broken given
  on_reading n s t (Print l) a broken given = on_listing n s t l a broken given

  -- from a broken desk on
  stays_broken : (speaker : Speaker) (n : ℕ) (s t : Stored) (given : List (List ℕ)) (answers : List (Answer A)) → s.broken ≡ true →
      Dialogue of_store speaker n s given answers t → All SaysBroken answers
  stays_broken speaker n s t [] [] broken each = All-nil SaysBroken
  stays_broken speaker n s t [] (a ∷ answers) broken each = absurd each
  stays_broken speaker n s t (line ∷ given) [] broken each = absurd each
  stays_broken speaker n s t (line ∷ given) (a ∷ answers) broken each =
      let first : Stays a s each.0 = on_reading (n + 1) s each.0 (heard speaker line) a broken each.1 in
      All-cons SaysBroken a answers first.0 (stays_broken speaker (n + 1) each.0 t given answers (ap (λ (w : Stored). w.broken) first.1 ∙ broken) each.2)

  -- and it stays the same
  stays_same : (speaker : Speaker) (n : ℕ) (s t : Stored) (given : List (List ℕ)) (answers : List (Answer A)) → s.broken ≡ true → Dialogue of_store speaker n s given answers t → t ≡ s
  stays_same speaker n s t [] [] broken each = each
  stays_same speaker n s t [] (a ∷ answers) broken each = absurd each
  stays_same speaker n s t (line ∷ given) [] broken each = absurd each
  stays_same speaker n s t (line ∷ given) (a ∷ answers) broken each =
      let first : Stays a s each.0 = on_reading (n + 1) s each.0 (heard speaker line) a broken each.1 in
      stays_same speaker (n + 1) each.0 t given answers (ap (λ (w : Stored). w.broken) first.1 ∙ broken) each.2 ∙ first.1

  -- the word device leaves it broken, and its register as it is
  device_breaks : (n sequence : ℕ) (s t : Stored) (line : Line A) → AnswersReading of_store n s line (answer.CommandOutage sequence Device) t → (t.broken ≡ true) × (t.register ≡ s.register)
  device_breaks n sequence s t Silent given = absurd (true≢false (ap is_outage given.0))
  device_breaks n sequence s t (Bad fault) given = absurd (true≢false (ap is_outage given.0))
  device_breaks n sequence s t (Mark word) given = absurd (true≢false (ap is_outage given.0))
  device_breaks n sequence s t (OwnStation own) given = absurd (true≢false (ap is_outage given.0))
  device_breaks n sequence s t Service given = absurd given.0
  device_breaks n sequence s t (Forbidden order) given = absurd (true≢false (ap is_outage given.0))
  device_breaks n sequence s t (Apply c) given = elim given.1 [
    | inl says ↦ (says.1, says.2)
    | inr lacks ↦ absurd (device_no_memory lacks.1)
  ]
  device_breaks n sequence s t (Ask q) given = absurd given
  device_breaks n sequence s t (Print l) given = absurd given

  pub broken_after : BrokenAfterDevice A
  broken_after speaker n sequence s t [] [] following each = absurd each
  broken_after speaker n sequence s t [] (a ∷ before) following each = absurd each
  broken_after speaker n sequence s t (line ∷ given) [] following each =
      stays_broken speaker (n + 1) each.0 t given following (device_breaks (n + 1) sequence s each.0 (heard speaker line) each.1).0 each.2
  broken_after speaker n sequence s t (line ∷ given) (a ∷ before) following each = broken_after speaker (n + 1) sequence each.0 t given before following each.2

  pub at_device : RegisterAtDevice A
  at_device speaker n sequence s t [] [] following each = absurd each
  at_device speaker n sequence s t [] (a ∷ before) following each = absurd each
  at_device speaker n sequence s t (line ∷ given) [] following each =
      let broke = device_breaks (n + 1) sequence s each.0 (heard speaker line) each.1 in
      ([], line ∷ given, s, refl, refl, ap (λ (w : Stored). w.register) (stays_same speaker (n + 1) each.0 t given following broke.0 each.2) ∙ broke.1)
  at_device speaker n sequence s t (line ∷ given) (a ∷ before) following each =
      let rest = at_device speaker (n + 1) sequence each.0 t given before following each.2 in
      (line ∷ rest.0, rest.1, rest.2, ap (λ (lines : List (List ℕ)). line ∷ lines) rest.3, (each.0, each.1, rest.4), rest.5)

  -- a line that gets no outage word
  as_command : (s t : Stored) (c : Command A) (a : Answer A) → AnswersCommand of_store s c a t → is_outage a ≡ false → AnswersCommand of_register s.register c a t.register
  as_command s t c (answer.Replied sequence reply) given calm = (given.0, given.1.2)
  as_command s t c (answer.CommandOutage sequence word) given calm = absurd (true≢false calm)
  as_command s t c answer.Quiet given calm = absurd given
  as_command s t c (answer.Marked word) given calm = absurd given
  as_command s t c (answer.OwnStation own) given calm = absurd given
  as_command s t c (answer.Service lines) given calm = absurd given
  as_command s t c (answer.ServiceOutage line) given calm = absurd given
  as_command s t c (answer.Forbidden order) given calm = absurd given
  as_command s t c (answer.Bad line fault) given calm = absurd given
  as_command s t c (answer.Queried query_answer) given calm = absurd given
  as_command s t c (answer.Listed lines) given calm = absurd given
  as_command s t c (answer.QueryOutage line word) given calm = absurd given

  as_query : (n : ℕ) (s t : Stored) (q : Query) (a : Answer A) → AnswersQuery of_store n s q a t → is_outage a ≡ false → AnswersQuery of_register n s.register q a t.register
  as_query n s t q (answer.Queried query_answer) given calm = (ap (λ (w : Stored). w.register) given.1, given.2)
  as_query n s t q (answer.QueryOutage line word) given calm = absurd (true≢false calm)
  as_query n s t q answer.Quiet given calm = absurd given
  as_query n s t q (answer.Marked word) given calm = absurd given
  as_query n s t q (answer.OwnStation own) given calm = absurd given
  as_query n s t q (answer.Service lines) given calm = absurd given
  as_query n s t q (answer.ServiceOutage line) given calm = absurd given
  as_query n s t q (answer.Forbidden order) given calm = absurd given
  as_query n s t q (answer.Bad line fault) given calm = absurd given
  as_query n s t q (answer.Replied sequence reply) given calm = absurd given
  as_query n s t q (answer.Listed lines) given calm = absurd given
  as_query n s t q (answer.CommandOutage sequence word) given calm = absurd given

  as_listing : (n : ℕ) (s t : Stored) (l : Listing) (a : Answer A) → AnswersListing of_store n s l a t → is_outage a ≡ false → AnswersListing of_register n s.register l a t.register
  as_listing n s t l (answer.Listed lines) given calm = (given.0, (ap (λ (w : Stored). w.register) given.1.1, given.1.2), given.2)
  as_listing n s t l (answer.QueryOutage line word) given calm = absurd (true≢false calm)
  as_listing n s t l (answer.CommandOutage sequence word) given calm = absurd (true≢false calm)
  as_listing n s t l answer.Quiet given calm = absurd given
  as_listing n s t l (answer.Marked word) given calm = absurd given
  as_listing n s t l (answer.OwnStation own) given calm = absurd given
  as_listing n s t l (answer.Service lines) given calm = absurd given
  as_listing n s t l (answer.ServiceOutage line) given calm = absurd given
  as_listing n s t l (answer.Forbidden order) given calm = absurd given
  as_listing n s t l (answer.Bad line fault) given calm = absurd given
  as_listing n s t l (answer.Replied sequence reply) given calm = absurd given
  as_listing n s t l (answer.Queried query_answer) given calm = absurd given

  as_reading : (n : ℕ) (s t : Stored) (line : Line A) (a : Answer A) → AnswersReading of_store n s line a t → is_outage a ≡ false → AnswersReading of_register n s.register line a t.register
  as_reading n s t Silent a given calm = (given.0, ap (λ (w : Stored). w.register) given.1)
  as_reading n s t (Bad fault) a given calm = (given.0, ap (λ (w : Stored). w.register) given.1)
  as_reading n s t (Mark word) a given calm = (given.0, ap (λ (w : Stored). w.register) given.1)
  as_reading n s t (OwnStation own) a given calm = (given.0, ap (λ (w : Stored). w.register) given.1)
  as_reading n s t Service a given calm = (given.0, ap (λ (w : Stored). w.register) given.1)
  as_reading n s t (Forbidden order) a given calm = (given.0, ap (λ (w : Stored). w.register) given.1)
  as_reading n s t (Apply c) a given calm = as_command s t c a given calm
  as_reading n s t (Ask q) a given calm = as_query n s t q a given calm
  as_reading n s t (Print l) a given calm = as_listing n s t l a given calm

  pub as_register : StoredAsRegister A
  as_register speaker n s t [] [] each calm = ap (λ (w : Stored). w.register) each
  as_register speaker n s t [] (a ∷ answers) each calm = absurd each
  as_register speaker n s t (line ∷ given) [] each calm = absurd each
  as_register speaker n s t (line ∷ given) (a ∷ answers) each calm = (
    each.0.register,
    as_reading (n + 1) s each.0 (heard speaker line) a each.1 (first_false (is_outage a) (list_any is_outage answers) calm),
    as_register speaker (n + 1) each.0 t given answers each.2 (second_false (is_outage a) (list_any is_outage answers) calm),
  )
