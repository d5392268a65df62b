-- The text of a rule's line, part by part.
use Rattle.std.proofs.Common.{◌≡◌, ℕ, List, [], ◌++◌, ◌∙◌, append_assoc}
use Rattle.std.specs.Prelude.{codes, decimal}
use Rattle.std.proofs.lemmas.List.{append-nil}
use Rattle.identity.specs.Numbers.{Byte}
use Rattle.identity.specs.IdentityText.{prefix_text}
use Rattle.identity.specs.Path.{Path}
use Rattle.mm_pdus.specs.Values.{lifetime_number}
use Rattle.registration.specs.declared.rule.Rule.{Rule}
use Rattle.listings.specs.Entries.{RuleEntry}
use Rattle.listings.specs.Lines.{entry_line}

-- the parts, one after another
abbrev parts : Path → (low high lifetime keep : ℕ) → List Byte
parts prefix low high lifetime keep =
    codes "rule " ++ (prefix_text prefix ++ (codes " " ++ (decimal low ++ (codes " " ++ (decimal high ++ (codes " " ++ (decimal lifetime ++ (codes " " ++ (decimal keep ++ (codes "\n" ++ []))))))))))

abbrev whole : Path → (low high lifetime keep : ℕ) → List Byte
whole prefix low high lifetime keep =
    codes "rule " ++ (prefix_text prefix ++ codes " " ++ decimal low ++ codes " " ++ decimal high ++ codes " " ++ decimal lifetime ++ codes " " ++ decimal keep) ++ codes "\n"

parts_are_whole : (prefix : Path) (low high lifetime keep : ℕ) → parts prefix low high lifetime keep ≡ whole prefix low high lifetime keep
parts_are_whole prefix low high lifetime keep = simp (append_assoc, append-nil)

pub rule_parts : (prefix : Path) (rule : Rule) (low high lifetime keep : ℕ) → low ≡ rule.low → high ≡ rule.high → lifetime ≡ lifetime_number rule.lifetime → keep ≡ rule.keep
    → parts prefix low high lifetime keep ≡ entry_line (RuleEntry prefix rule)
rule_parts prefix rule low high lifetime keep el eh et ek = parts_are_whole prefix low high lifetime keep ∙ (λ i. whole prefix (el i) (eh i) (et i) (ek i))
