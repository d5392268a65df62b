-- The bytes of a mark.
use Rattle.std.proofs.Common.{◌≡◌, ℕ, List, ◌++◌, length, take, drop, replicate, sym, ◌∙◌, ap}
use Rattle.std.proofs.Math.Seq.{take-append_seam}
use Rattle.std.proofs.lemmas.List.{drop-replicate}
use Rattle.console.specs.Inside.MarkFields.{padded}

-- zeros from a place on
abbrev pub zeros_from : ℕ → List ℕ
zeros_from n = drop n (replicate 32 0)

-- bytes that begin with a word hold it
pub holds_copied : (word copied : List ℕ) → copied ≡ word →
    let bytes = copied ++ zeros_from (length word) in
    (length (take (length word) bytes) ≡ length word) × (padded (take (length word) bytes) ≡ bytes)
holds_copied word copied e =
    let taken : take (length word) (copied ++ zeros_from (length word)) ≡ word =
    ap (λ w. take (length word) (w ++ zeros_from (length word))) e ∙ take-append_seam word (zeros_from (length word)) in (
      ap length taken,
      ap padded taken ∙ ap (λ zeros. word ++ zeros) (sym (drop-replicate (length word) 32 0)) ∙ sym (ap (λ w. w ++ zeros_from (length word)) e),
    )
