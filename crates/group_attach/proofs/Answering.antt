-- One more answer.
use Rattle.std.proofs.Common.{◌≡◌, ℕ, ◌+◌, ◌<◌, List, [], ◌∷◌, ◌++◌, length, take, get_or, Option, ap, sym, ◌∙◌}
use Rattle.std.specs.List.{filter_map, cons_option}
use Rattle.std.proofs.lemmas.List.{take_more}
use Rattle.std.proofs.lemmas.List.Elements.{filter_map-append}

pub answers_more : {X Y : Type 0} (h : X → Option Y) (xs : List X) (i : ℕ) (x : X) (y : Option Y) (old new : List Y)
    → i < length xs → x ≡ get_or xs i x → old ≡ filter_map h (take i xs) → y ≡ h x → new ≡ old ++ cons_option y [] → new ≡ filter_map h (take (i + 1) xs)
answers_more h xs i x y old new lt read so_far is added =
    added
    ∙ (λ j. so_far j ++ cons_option ((is ∙ ap h read) j) [])
    ∙ sym (filter_map-append h (take i xs) (get_or xs i x ∷ []))
    ∙ ap (filter_map h) (sym (take_more xs i x lt))
