-- Each line has an answer, and without outage words one answer.
use Rattle.std.proofs.Common.{◌≡◌, ℕ, ◌+◌, Bool, true, false, List, [], ◌∷◌, ◌++◌, length, map, refl, sym, ◌∙◌, ap, subst, arith, append_assoc, inl}
use Rattle.std.proofs.lemmas.Bool.{true≢false}
use Rattle.std.proofs.lemmas.List.Concat.{flat_map-append}
use Rattle.std.specs.List.{list_any}
use Rattle.base.proofs.Bools.{first_false, second_false}
use Rattle.centre_core.specs.State.{State}
use Rattle.centre_core.specs.Step.{step}
use Rattle.centre_core.specs.Queries.{answer_to}
use Rattle.centre_core.specs.declared.command.Command.{Command}
use Rattle.centre_core.specs.declared.query.Query.{Query}
use Rattle.centre_core.specs.declared.query.QueryAnswer.{QueryAnswer}
use Rattle.centre_core.specs.declared.reply.Reply.{Reply}
use Rattle.console.specs.declared.line.Line.{Line}
use Rattle.console.specs.declared.line.Line.TheVariants.{Silent, Bad, Apply, Ask, Print, Mark, OwnStation, Service, Forbidden}
use Rattle.console.specs.declared.answer.Answer.{Answer}
use Rattle.console.specs.declared.answer.Answer.TheVariants as answer
use Rattle.console.specs.Answer.{text, texts, is_trouble, is_outage, without_figures}
use Rattle.console.specs.Reading.{Speaker, heard}
use Rattle.listings.specs.Texts.{listing_text}
use Rattle.listings.specs.declared.listing.Listing.{Listing}
use Rattle.desk.specs.Rules.{Rules}
use Rattle.desk.specs.OfRegister.{of_register}
use Rattle.desk.specs.OfStore.{Stored, of_store}
use Rattle.desk.specs.declared.outage.Outage.TheVariants.{Broken}
use Rattle.console.specs.Dialogue.{AnswersReading, AnswersCommand, AnswersQuery, AnswersListing, AnswersService, Answers, Dialogue, CutOffIsPrefix, OneText}

module _ {A : Type 0} where
  -- a line has an answer
  abbrev pub HasAnswer : {W : Type 0} → Rules A W → ℕ → W → Line A → Type 0
  HasAnswer {W = W} rules n s line = (a : Answer A) × (t : W) × AnswersReading rules n s line a t

  -- at a desk in memory
  pub in_memory : (n : ℕ) (s : State) (line : Line A) → HasAnswer of_register n s line
  in_memory n s Silent = (answer.Quiet, s, (refl, refl))
  in_memory n s (Bad fault) = (answer.Bad n fault, s, (refl, refl))
  in_memory n s (Mark word) = (answer.Marked word, s, (refl, refl))
  in_memory n s (OwnStation own) = (answer.OwnStation own, s, (refl, refl))
  in_memory n s Service = (answer.ServiceOutage n, s, (refl, refl))
  in_memory n s (Forbidden order) = (answer.Forbidden order, s, (refl, refl))
  in_memory n s (Apply c) = (answer.Replied c.sequence (step s c).1, (step s c).0, (refl, refl))
  in_memory n s (Ask q) = (answer.Queried (answer_to s q), s, (refl, refl))
  in_memory n s (Print l) = (answer.Listed (listing_text s l), s, (s, (refl, refl), refl))

  -- at a desk over a disk, be it broken or not
  command_on_disk : (n : ℕ) (s : Stored) (c : Command A) (broken : Bool) → s.broken ≡ broken → HasAnswer of_store n s (Apply c)
  command_on_disk n s c true is = (answer.CommandOutage c.sequence Broken, s, (refl, inl (is, refl)))
  command_on_disk n s c false is = (answer.Replied c.sequence (step s.register c).1, record s { register = (step {B = A} s.register c).0 }, (refl, (is, is, refl)))

  query_on_disk : (n : ℕ) (s : Stored) (q : Query) (broken : Bool) → s.broken ≡ broken → HasAnswer of_store n s (Ask q)
  query_on_disk n s q true is = (answer.QueryOutage n Broken, s, (refl, inl (is, refl)))
  query_on_disk n s q false is = (answer.Queried (answer_to s.register q), s, (is, refl, refl))

  listing_on_disk : (n : ℕ) (s : Stored) (l : Listing) (broken : Bool) → s.broken ≡ broken → HasAnswer of_store n s (Print l)
  listing_on_disk n s l true is = (answer.QueryOutage n Broken, s, (refl, inl (is, refl)))
  listing_on_disk n s l false is = (answer.Listed (listing_text s.register l), s, (s.register, (is, refl, refl), refl))

  pub on_disk : (n : ℕ) (s : Stored) (line : Line A) → HasAnswer of_store n s line
  on_disk n s Silent = (answer.Quiet, s, (refl, refl))
  on_disk n s (Bad fault) = (answer.Bad n fault, s, (refl, refl))
  on_disk n s (Mark word) = (answer.Marked word, s, (refl, refl))
  on_disk n s (OwnStation own) = (answer.OwnStation own, s, (refl, refl))
  on_disk n s Service = (answer.ServiceOutage n, s, (refl, refl))
  on_disk n s (Forbidden order) = (answer.Forbidden order, s, (refl, refl))
  on_disk n s (Apply c) = command_on_disk n s c s.broken refl
  on_disk n s (Ask q) = query_on_disk n s q s.broken refl
  on_disk n s (Print l) = listing_on_disk n s l s.broken refl

  -- where each line has an answer at a desk of this kind
  module _ {W : Type 0} (rules : Rules A W) (has_answer : (n : ℕ) (s : W) (line : Line A) → HasAnswer rules n s line) where
    has_dialogue : (speaker : Speaker) (n : ℕ) (s : W) (given : List (List ℕ)) → (answers : List (Answer A)) × (t : W) × Dialogue rules speaker n s given answers t
    has_dialogue speaker n s [] = ([], s, refl)
    has_dialogue speaker n s (line ∷ given) =
        let first = has_answer (n + 1) s (heard speaker line) in
        let rest = has_dialogue speaker (n + 1) first.1 given in
        (first.0 ∷ rest.0, rest.1, (first.1, first.2, rest.2))

    dialogue_append : (speaker : Speaker) (n k : ℕ) (s mid t : W) (done left : List (List ℕ)) (xs ys : List (Answer A)) → k ≡ n + length done →
        Dialogue rules speaker n s done xs mid → Dialogue rules speaker k mid left ys t → Dialogue rules speaker n s (done ++ left) (xs ++ ys) t
    dialogue_append speaker n k s mid t [] left [] ys at prefix back =
        let here : k ≡ n = omega (arith, at) in
        subst (λ (m : W). Dialogue rules speaker n m left ys t) prefix (subst (λ (i : ℕ). Dialogue rules speaker i mid left ys t) here back)
    dialogue_append speaker n k s mid t [] left (x ∷ xs) ys at prefix back = absurd prefix
    dialogue_append speaker n k s mid t (line ∷ done) left [] ys at prefix back = absurd prefix
    dialogue_append speaker n k s mid t (line ∷ done) left (x ∷ xs) ys at prefix back =
        (prefix.0, prefix.1, dialogue_append speaker (n + 1) k prefix.0 mid t done left xs ys (omega (arith, at)) prefix.2 back)

    pub cut_off : CutOffIsPrefix A rules
    cut_off speaker s t given out cut =
        let rest = has_dialogue speaker (length cut.done) t cut.left in
        record {
          missing = cut.missing ++ texts rest.0;
          troubled = list_any is_trouble ((cut.answered ++ cut.last) ++ rest.0);
          after = rest.1;
          dialogue = record {
            answers = (cut.answered ++ cut.last) ++ rest.0;
            each = subst (λ (all : List (List ℕ)). Dialogue rules speaker 0 s all ((cut.answered ++ cut.last) ++ rest.0) rest.1) (sym cut.all)
                (dialogue_append speaker 0 (length cut.done) s t rest.1 cut.done cut.left (cut.answered ++ cut.last) rest.0 (omega arith) cut.each rest.2);
            written = ap (λ xs. xs ++ (cut.missing ++ texts rest.0)) cut.written
                ∙ append_assoc (texts cut.answered) cut.part (cut.missing ++ texts rest.0)
                ∙ ap (λ xs. texts cut.answered ++ xs) (sym (append_assoc cut.part cut.missing (texts rest.0)) ∙ ap (λ xs. xs ++ texts rest.0) (sym cut.prefix))
                ∙ sym (append_assoc (texts cut.answered) (texts cut.last) (texts rest.0))
                ∙ ap (λ xs. xs ++ texts rest.0) (sym (flat_map-append text cut.answered cut.last))
                ∙ sym (flat_map-append text (cut.answered ++ cut.last) rest.0);
            trouble = refl;
          };
        }

  abbrev pub Same : Answer A → Answer A → State → State → Type 0
  Same a b t u = (a ≡ b) × (t ≡ u)

  replied_same : (p q : ℕ) (x y : Reply A) → p ≡ q → x ≡ y → answer.Replied p x ≡ answer.Replied q y
  replied_same p q x y e f = ap (λ (n : ℕ). answer.Replied n x) e ∙ ap (λ (r : Reply A). answer.Replied q r) f

  one_command : (s : State) (c : Command A) (a b : Answer A) (t u : State) → AnswersCommand of_register s c a t → AnswersCommand of_register s c b u →
      is_outage a ≡ false → is_outage b ≡ false → Same a b t u
  one_command s c (answer.Replied p x) (answer.Replied q y) t u f h calm still =
      let both : (t, x) ≡ (u, y) = f.1 ∙ sym h.1 in
      (replied_same p q x y (f.0 ∙ sym h.0) (ap (λ (r : State × Reply A). r.1) both), ap (λ (r : State × Reply A). r.0) both)
  one_command s c (answer.Replied p x) (answer.CommandOutage q w) t u f h calm still = absurd (true≢false still)
  one_command s c (answer.Replied p x) answer.Quiet t u f h calm still = absurd h
  one_command s c (answer.Replied p x) (answer.Marked word) t u f h calm still = absurd h
  one_command s c (answer.Replied p x) (answer.OwnStation own) t u f h calm still = absurd h
  one_command s c (answer.Replied p x) (answer.Service y) t u f h calm still = absurd h
  one_command s c (answer.Replied p x) (answer.ServiceOutage m) t u f h calm still = absurd h
  one_command s c (answer.Replied p x) (answer.Forbidden order) t u f h calm still = absurd h
  one_command s c (answer.Replied p x) (answer.Bad n e) t u f h calm still = absurd h
  one_command s c (answer.Replied p x) (answer.Queried query_answer) t u f h calm still = absurd h
  one_command s c (answer.Replied p x) (answer.Listed lines) t u f h calm still = absurd h
  one_command s c (answer.Replied p x) (answer.QueryOutage n w) t u f h calm still = absurd h
  one_command s c (answer.CommandOutage q w) b t u f h calm still = absurd (true≢false calm)
  one_command s c answer.Quiet b t u f h calm still = absurd f
  one_command s c (answer.Marked word) b t u f h calm still = absurd f
  one_command s c (answer.OwnStation own) b t u f h calm still = absurd f
  one_command s c (answer.Service x) b t u f h calm still = absurd f
  one_command s c (answer.ServiceOutage m) b t u f h calm still = absurd f
  one_command s c (answer.Forbidden order) b t u f h calm still = absurd f
  one_command s c (answer.Bad n e) b t u f h calm still = absurd f
  one_command s c (answer.Queried query_answer) b t u f h calm still = absurd f
  one_command s c (answer.Listed lines) b t u f h calm still = absurd f
  one_command s c (answer.QueryOutage n w) b t u f h calm still = absurd f

  one_query : (n : ℕ) (s : State) (q : Query) (a b : Answer A) (t u : State) → AnswersQuery of_register n s q a t →
      AnswersQuery of_register n s q b u → is_outage a ≡ false → is_outage b ≡ false → Same a b t u
  one_query n s q (answer.Queried x) (answer.Queried y) t u f h calm still = (ap (λ (query_answer : QueryAnswer A). answer.Queried query_answer) (f.1 ∙ sym h.1), f.0 ∙ sym h.0)
  one_query n s q (answer.Queried x) (answer.QueryOutage m w) t u f h calm still = absurd (true≢false still)
  one_query n s q (answer.Queried x) answer.Quiet t u f h calm still = absurd h
  one_query n s q (answer.Queried x) (answer.Marked word) t u f h calm still = absurd h
  one_query n s q (answer.Queried x) (answer.OwnStation own) t u f h calm still = absurd h
  one_query n s q (answer.Queried x) (answer.Service y) t u f h calm still = absurd h
  one_query n s q (answer.Queried x) (answer.ServiceOutage m) t u f h calm still = absurd h
  one_query n s q (answer.Queried x) (answer.Forbidden order) t u f h calm still = absurd h
  one_query n s q (answer.Queried x) (answer.Bad m e) t u f h calm still = absurd h
  one_query n s q (answer.Queried x) (answer.Replied p y) t u f h calm still = absurd h
  one_query n s q (answer.Queried x) (answer.CommandOutage p w) t u f h calm still = absurd h
  one_query n s q (answer.Queried x) (answer.Listed lines) t u f h calm still = absurd h
  one_query n s q (answer.QueryOutage m w) b t u f h calm still = absurd (true≢false calm)
  one_query n s q answer.Quiet b t u f h calm still = absurd f
  one_query n s q (answer.Marked word) b t u f h calm still = absurd f
  one_query n s q (answer.OwnStation own) b t u f h calm still = absurd f
  one_query n s q (answer.Service x) b t u f h calm still = absurd f
  one_query n s q (answer.ServiceOutage m) b t u f h calm still = absurd f
  one_query n s q (answer.Forbidden order) b t u f h calm still = absurd f
  one_query n s q (answer.Bad m e) b t u f h calm still = absurd f
  one_query n s q (answer.Replied p y) b t u f h calm still = absurd f
  one_query n s q (answer.CommandOutage p w) b t u f h calm still = absurd f
  one_query n s q (answer.Listed lines) b t u f h calm still = absurd f

  one_listing : (n : ℕ) (s : State) (l : Listing) (a b : Answer A) (t u : State) → AnswersListing of_register n s l a t →
      AnswersListing of_register n s l b u → is_outage a ≡ false → is_outage b ≡ false → Same a b t u
  one_listing n s l (answer.Listed x) (answer.Listed y) t u f h calm still =
      let lines : x ≡ y = f.2 ∙ ap (λ (r : State). listing_text r l) (f.1.1 ∙ sym h.1.1) ∙ sym h.2 in
      (ap (λ (text : List ℕ). answer.Listed text) lines, f.1.0 ∙ sym h.1.0)
  one_listing n s l (answer.Listed x) (answer.QueryOutage m w) t u f h calm still = absurd (true≢false still)
  one_listing n s l (answer.Listed x) (answer.CommandOutage p w) t u f h calm still = absurd h
  one_listing n s l (answer.Listed x) answer.Quiet t u f h calm still = absurd h
  one_listing n s l (answer.Listed x) (answer.Marked word) t u f h calm still = absurd h
  one_listing n s l (answer.Listed x) (answer.OwnStation own) t u f h calm still = absurd h
  one_listing n s l (answer.Listed x) (answer.Service y) t u f h calm still = absurd h
  one_listing n s l (answer.Listed x) (answer.ServiceOutage m) t u f h calm still = absurd h
  one_listing n s l (answer.Listed x) (answer.Forbidden order) t u f h calm still = absurd h
  one_listing n s l (answer.Listed x) (answer.Bad m e) t u f h calm still = absurd h
  one_listing n s l (answer.Listed x) (answer.Replied p y) t u f h calm still = absurd h
  one_listing n s l (answer.Listed x) (answer.Queried y) t u f h calm still = absurd h
  one_listing n s l (answer.QueryOutage m w) b t u f h calm still = absurd (true≢false calm)
  one_listing n s l (answer.CommandOutage p w) b t u f h calm still = absurd f
  one_listing n s l answer.Quiet b t u f h calm still = absurd f
  one_listing n s l (answer.Marked word) b t u f h calm still = absurd f
  one_listing n s l (answer.OwnStation own) b t u f h calm still = absurd f
  one_listing n s l (answer.Service x) b t u f h calm still = absurd f
  one_listing n s l (answer.ServiceOutage m) b t u f h calm still = absurd f
  one_listing n s l (answer.Forbidden order) b t u f h calm still = absurd f
  one_listing n s l (answer.Bad m e) b t u f h calm still = absurd f
  one_listing n s l (answer.Replied p y) b t u f h calm still = absurd f
  one_listing n s l (answer.Queried y) b t u f h calm still = absurd f

  -- the same but for the figures of a service
  abbrev pub Alike : Answer A → Answer A → State → State → Type 0
  Alike a b t u = (without_figures a ≡ without_figures b) × (t ≡ u)

  alike : (a b : Answer A) (t u : State) → Same a b t u → Alike a b t u
  alike a b t u same = (ap without_figures same.0, same.1)

  one_service : (n : ℕ) (a b : Answer A) → AnswersService n a → AnswersService n b → is_outage a ≡ false → is_outage b ≡ false → without_figures a ≡ without_figures b
  one_service n (answer.Service x) (answer.Service y) f h calm still = refl
  one_service n (answer.Service x) (answer.ServiceOutage m) f h calm still = absurd (true≢false still)
  one_service n (answer.Service x) answer.Quiet f h calm still = absurd h
  one_service n (answer.Service x) (answer.Marked word) f h calm still = absurd h
  one_service n (answer.Service x) (answer.OwnStation own) f h calm still = absurd h
  one_service n (answer.Service x) (answer.Forbidden order) f h calm still = absurd h
  one_service n (answer.Service x) (answer.Bad line fault) f h calm still = absurd h
  one_service n (answer.Service x) (answer.Replied sequence reply) f h calm still = absurd h
  one_service n (answer.Service x) (answer.CommandOutage sequence word) f h calm still = absurd h
  one_service n (answer.Service x) (answer.Queried query_answer) f h calm still = absurd h
  one_service n (answer.Service x) (answer.Listed lines) f h calm still = absurd h
  one_service n (answer.Service x) (answer.QueryOutage line word) f h calm still = absurd h
  one_service n (answer.ServiceOutage m) b f h calm still = absurd (true≢false calm)
  one_service n answer.Quiet b f h calm still = absurd f
  one_service n (answer.Marked word) b f h calm still = absurd f
  one_service n (answer.OwnStation own) b f h calm still = absurd f
  one_service n (answer.Forbidden order) b f h calm still = absurd f
  one_service n (answer.Bad line fault) b f h calm still = absurd f
  one_service n (answer.Replied sequence reply) b f h calm still = absurd f
  one_service n (answer.CommandOutage sequence word) b f h calm still = absurd f
  one_service n (answer.Queried query_answer) b f h calm still = absurd f
  one_service n (answer.Listed lines) b f h calm still = absurd f
  one_service n (answer.QueryOutage line word) b f h calm still = absurd f

  one_reading : (n : ℕ) (s : State) (line : Line A) (a b : Answer A) (t u : State) → AnswersReading of_register n s line a t →
      AnswersReading of_register n s line b u → is_outage a ≡ false → is_outage b ≡ false → Alike a b t u
  one_reading n s Silent a b t u f h calm still = alike a b t u (f.0 ∙ sym h.0, f.1 ∙ sym h.1)
  one_reading n s (Bad e) a b t u f h calm still = alike a b t u (f.0 ∙ sym h.0, f.1 ∙ sym h.1)
  one_reading n s (Mark word) a b t u f h calm still = alike a b t u (f.0 ∙ sym h.0, f.1 ∙ sym h.1)
  one_reading n s (OwnStation own) a b t u f h calm still = alike a b t u (f.0 ∙ sym h.0, f.1 ∙ sym h.1)
  one_reading n s Service a b t u f h calm still = (one_service n a b f.0 h.0 calm still, f.1 ∙ sym h.1)
  one_reading n s (Forbidden order) a b t u f h calm still = alike a b t u (f.0 ∙ sym h.0, f.1 ∙ sym h.1)
  one_reading n s (Apply c) a b t u f h calm still = alike a b t u (one_command s c a b t u f h calm still)
  one_reading n s (Ask q) a b t u f h calm still = alike a b t u (one_query n s q a b t u f h calm still)
  one_reading n s (Print l) a b t u f h calm still = alike a b t u (one_listing n s l a b t u f h calm still)

  pub one_answer : (speaker : Speaker) (n : ℕ) (s : State) (line : List ℕ) (a b : Answer A) (t u : State) → Answers of_register speaker n s line a t →
      Answers of_register speaker n s line b u → is_outage a ≡ false → is_outage b ≡ false → Alike a b t u
  one_answer speaker n s line a b t u f h calm still = one_reading n s (heard speaker line) a b t u f h calm still

  pub one : OneText A
  one speaker n s t u [] [] [] f h calm still = (refl, f ∙ sym h)
  one speaker n s t u [] [] (y ∷ ys) f h calm still = absurd h
  one speaker n s t u [] (x ∷ xs) ys f h calm still = absurd f
  one speaker n s t u (line ∷ given) [] ys f h calm still = absurd f
  one speaker n s t u (line ∷ given) (x ∷ xs) [] f h calm still = absurd h
  one speaker n s t u (line ∷ given) (x ∷ xs) (y ∷ ys) f h calm still =
      let first = one_answer speaker (n + 1) s line x y f.0 h.0 f.1 h.1 (first_false (is_outage x) (list_any is_outage xs) calm) (first_false (is_outage y) (list_any is_outage ys) still) in
      let rest = one speaker (n + 1) f.0 t u given xs ys f.2 (subst (λ (m : State). Dialogue of_register speaker (n + 1) m given ys u) (sym first.1) h.2)
      (second_false (is_outage x) (list_any is_outage xs) calm) (second_false (is_outage y) (list_any is_outage ys) still) in
      (ap (λ (a : Answer A). a ∷ map without_figures xs) first.0 ∙ ap (λ (more : List (Answer A)). without_figures y ∷ more) rest.0, rest.1)
