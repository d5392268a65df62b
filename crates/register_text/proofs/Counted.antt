-- A line that states how many lines follow.
use Rattle.std.proofs.Common.{◌≡◌, ℕ, ◌-◌, ◌<◌, Bool, true, false, cond, List, ◌++◌, length, take, drop, Option, Some, None, refl, sym, ap, ◌∙◌, arith, length-take, length-drop, take_all}
use Rattle.std.proofs.lemmas.List.{take-append-drop}
use Rattle.std.specs.Prelude.{codes, decimal}
use Rattle.std.specs.Str.{bytes_eq}
use Rattle.std.proofs.lemmas.Slice.Eq.{bytes_eq-Decides}
use Rattle.base.proofs.Results.{ok_of_some}
use Rattle.identity.proofs.Texts.{reading_number_only}
use Rattle.register_text.specs.Reading.{most_8, number_in}
use Rattle.register_text.specs.Text.{count_in, count_of}

word_of_five : (word : List ℕ) (b : Bool) → bytes_eq word (codes "dump ") ≡ b → length word < 5 → b ≡ false
word_of_five word true e short =
    let five : length word ≡ 5 = ap length ((bytes_eq-Decides word (codes "dump ")).0 e) in
    absurd (omega (arith, five, short))
word_of_five word false e short = refl

-- it has more than four bytes
pub none_short : (line : List ℕ) (n : ℕ) → n ≡ length line → n < 5 → None ≡ count_in line
none_short line n is short =
    let few = length-take 5 line in
    ap (λ (b : Bool). cond b (number_in most_8 (drop 5 line)) None) (sym (word_of_five (take 5 line) (bytes_eq (take 5 line) (codes "dump ")) refl (omega (arith, few, is, short))))

-- what follows the word is all that is left
pub count_read : (line : List ℕ) (count : Option ℕ) → count ≡ count_of (take 5 line) (take (length line - 5) (drop 5 line)) → count ≡ count_in line
count_read line count e =
    let left = length-drop 5 line in
    e ∙ ap (count_of (take 5 line)) (take_all (length line - 5) (drop 5 line) (omega (arith, left)))

-- ---- which lines state a number

by_word : (line : List ℕ) (n : ℕ) (b : Bool) → bytes_eq (take 5 line) (codes "dump ") ≡ b → cond b (number_in most_8 (drop 5 line)) None ≡ Some n → line ≡ codes "dump " ++ decimal n
by_word line n true is e =
    let word : take 5 line ≡ codes "dump " = (bytes_eq-Decides (take 5 line) (codes "dump ")).0 is in
    let only = reading_number_only most_8 n (drop 5 line) (omega arith) (ok_of_some _ n e) in
    sym (take-append-drop 5 line) ∙ (λ i. word i ++ only.1 i)
by_word line n false is e = absurd cc

pub count_only : (line : List ℕ) (n : ℕ) → count_in line ≡ Some n → line ≡ codes "dump " ++ decimal n
count_only line n e = by_word line n (bytes_eq (take 5 line) (codes "dump ")) refl e
