-- The line of an item, in parts.
use Rattle.std.proofs.Common.{◌≡◌, ℕ, ◌+◌, ◌<◌, ◌≤◌, List, ◌++◌, length, codes, ap, ◌∙◌, arith, append_assoc, length-append}
use Rattle.identity.specs.NumberText.{IsPrefixOf}
use Rattle.listings.proofs.Listed.{prefix_with_more}

module _ (old now : List ℕ) (number key deadline pdu end : List ℕ) where
  -- there was no room for the second part, and so none for all
  pub item_room : (text : List ℕ) (had has room rooms : ℕ) → text ≡ codes "item " ++ number ++ codes " " ++ key ++ codes " " ++ deadline ++ codes " " ++ pdu ++ end →
      had ≡ length old → has ≡ length now → now ≡ old ++ codes "item " ++ number ++ codes " " ++ key → room ≤ rooms →
      rooms < has + length (codes " " ++ deadline ++ codes " " ++ pdu) → room < had + length text
  item_room text had has room rooms spelt length_old length_now put grown full =
      let one : length now ≡ length old + 5 + length number + 1 + length key = ap length put ∙ grind (arith, length-append) in
      let two : length (codes " " ++ deadline ++ codes " " ++ pdu) ≡ 1 + length deadline + 1 + length pdu = grind (arith, length-append) in
      let all : length text ≡ 5 + length number + 1 + length key + 1 + length deadline + 1 + length pdu + length end = ap length spelt ∙ grind (arith, length-append) in
      omega (arith, one, two, all, length_old, length_now, grown, full)

  -- what was there before two parts were put is there still
  pub item_prefix : (next new : List ℕ) → now ≡ old ++ codes "item " ++ number ++ codes " " ++ key → next ≡ now ++ codes " " ++ deadline ++ codes " " ++ pdu → IsPrefixOf next new → IsPrefixOf old new
  item_prefix next new first second prefix =
      prefix_with_more old (codes "item " ++ number ++ codes " " ++ key) now new (first ∙ simp append_assoc)
      (prefix_with_more now (codes " " ++ deadline ++ codes " " ++ pdu) next new (second ∙ simp append_assoc) prefix)
