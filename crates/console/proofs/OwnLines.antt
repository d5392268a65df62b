-- Marks, and the lines that ask which station this is and for the figures of the service, are taken for that.
use Rattle.std.proofs.Common.{◌≡◌, ℕ, ◌≤◌, true, false, List, [], ◌∷◌, length, refl, ◌∙◌, ap, arith}
use Rattle.std.specs.Prelude.{◌==◌, codes}
use Rattle.std.specs.Char.{is_ascii_graphic}
use Rattle.std.specs.List.{list_all}
use Rattle.base.proofs.Bools.{first_true, second_true}
use Rattle.console.specs.declared.line.Line.TheVariants.{Mark, OwnStation, Service}
use Rattle.console.specs.Mark.{has_mark_length}
use Rattle.console.specs.Reading.{Lacks, of_words, longest_line}
use Rattle.console.specs.Spelling.{mark_line, station_line, service_line, AllMarks, AllOwnStation, AllService}
use Rattle.console.proofs.Taken.{all_lack, letters_lack, passes, words_back}

-- a word without spaces, and the line of a mark
graphic_is_no_space : (c : ℕ) → is_ascii_graphic c ≡ true → (c == 32) ≡ false
graphic_is_no_space c e = grind (arith, e)

graphic_lack : (word : List ℕ) → list_all is_ascii_graphic word ≡ true → Lacks 32 word
graphic_lack word e = all_lack is_ascii_graphic 32 graphic_is_no_space word e

mark_fits : (word : List ℕ) → has_mark_length word ≡ true → length (mark_line word) ≤ longest_line
mark_fits word e = grind (arith, e)

module _ (A : Type 0) where
  pub all_marks : AllMarks A
  all_marks station word is =
      let size = first_true (has_mark_length word) (list_all is_ascii_graphic word) is in
      let lacks = graphic_lack word (second_true (has_mark_length word) (list_all is_ascii_graphic word) is) in
      let said : of_words {A = A} station (codes "mark" ∷ word ∷ []) ≡ Mark word = rw is refl in
      passes station (mark_line word) (Mark word) (mark_fits word size) refl
      (ap (λ ws. of_words station ws) (words_back (codes "mark") (word ∷ []) (letters_lack (codes "mark") refl, (lacks, tt))) ∙ said)

  pub all_own : AllOwnStation A
  all_own station = passes station station_line (OwnStation station) (omega arith) refl
      (ap (λ ws. of_words station ws) (words_back (codes "station") [] (letters_lack (codes "station") refl, tt)))

  pub all_service : AllService A
  all_service station = passes station service_line Service (omega arith) refl
      (ap (λ ws. of_words station ws) (words_back (codes "service") [] (letters_lack (codes "service") refl, tt)))
