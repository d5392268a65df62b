-- Dialogues, a line at a time.
use Rattle.std.proofs.Common.{◌≡◌, ℕ, ◌+◌, List, [], ◌∷◌, ◌++◌, ◌||◌, length, refl, ◌∙◌, ap, subst, arith}
use Rattle.std.proofs.lemmas.List.{append-nil}
use Rattle.std.proofs.lemmas.List.Concat.{flat_map-append}
use Rattle.std.proofs.lemmas.List.Folds.{list_any-append}
use Rattle.std.specs.List.{list_any}
use Rattle.base.proofs.Bools.{or_false}
use Rattle.console.specs.declared.answer.Answer.{Answer}
use Rattle.console.specs.Answer.{text, texts, is_trouble}
use Rattle.desk.specs.Rules.{Rules}
use Rattle.console.specs.Dialogue.{Answers, Dialogue}
use Rattle.console.specs.Reading.{Speaker}

pub texts_more : {A : Type 0} (answers : List (Answer A)) (a : Answer A) → texts (answers ++ a ∷ []) ≡ texts answers ++ text a
texts_more answers a = flat_map-append text answers (a ∷ []) ∙ ap (λ t. texts answers ++ t) (append-nil (text a))

pub trouble_more : {A : Type 0} (answers : List (Answer A)) (a : Answer A) → list_any is_trouble (answers ++ a ∷ []) ≡ (list_any is_trouble answers || is_trouble a)
trouble_more answers a = list_any-append is_trouble answers (a ∷ []) ∙ ap (λ b. list_any is_trouble answers || b) (or_false (is_trouble a))

-- one more line at the end, the k-th
pub dialogue_more : {A W : Type 0} (rules : Rules A W) (speaker : Speaker) (n k : ℕ) (s : W) (done : List (List ℕ)) (answers : List (Answer A)) (mid : W) (line : List ℕ) (a : Answer A) (t : W) →
    k ≡ n + length done + 1 → Dialogue rules speaker n s done answers mid → Answers rules speaker k mid line a t → Dialogue rules speaker n s (done ++ line ∷ []) (answers ++ a ∷ []) t
dialogue_more {W = W} rules speaker n k s [] [] mid line a t at so_far more =
    let here : k ≡ n + 1 = omega (arith, at) in
    let first : Answers rules speaker (n + 1) s line a t = subst (λ (m : W). Answers rules speaker (n + 1) m line a t) so_far (subst (λ (i : ℕ). Answers rules speaker i mid line a t) here more) in
    (t, first, refl)
dialogue_more rules speaker n k s [] (b ∷ answers) mid line a t at so_far more = absurd so_far
dialogue_more rules speaker n k s (l ∷ done) [] mid line a t at so_far more = absurd so_far
dialogue_more rules speaker n k s (l ∷ done) (b ∷ answers) mid line a t at so_far more =
    let next : k ≡ n + 1 + length done + 1 = omega (arith, at) in
    (so_far.0, so_far.1, dialogue_more rules speaker (n + 1) k so_far.0 done answers mid line a t next so_far.2 more)
