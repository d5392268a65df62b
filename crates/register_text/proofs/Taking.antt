-- What a line of a row makes.
use Rattle.std.proofs.Common.{◌≡◌, ℕ, Bool, true, false, cond, List, Option, Some, None, Err, ap, ◌∙◌, sym, refl}
use Rattle.std.specs.Prelude.{IfSome}
use Rattle.std.specs.Option.{is_some}
use Rattle.image_rows.specs.Rows.{Row}
use Rattle.image_rows.specs.RowReading.{row_in}
use Rattle.image_rows.specs.Loading.{◌>>=◌, Loading, row_taken}
use Rattle.image_rows.specs.Held.{taken_from}
use Rattle.register_text.specs.Reading.{line_row}
use Rattle.register_text.specs.Text.{is_as_stated, or_place, or_spelling, stated_taken, with_rows}
use Rattle.register_text.specs.Inside.Going.{stated_from}
use Rattle.register_text.specs.declared.cause.Cause.TheVariants as cause

-- ---- the sector of a row

made_by_sector : (stated : Option ℕ) (l n : Loading) (o : Option Row) (b : Bool) → b ≡ true → IfSome o (λ row. b ≡ is_as_stated stated row) →
    (o >>= row_taken l) ≡ Some n → (o >>= stated_taken stated l) ≡ Some n
made_by_sector stated l n None b is fits e = e
made_by_sector stated l n (Some row) b is fits e = ap (λ (c : Bool). cond c (row_taken l row) None) (sym fits ∙ is) ∙ e

pub stated_made : (stated : Option ℕ) (l n : Loading) (sector : List ℕ) (b : Bool) → b ≡ true →
    IfSome (row_in sector) (λ row. b ≡ is_as_stated stated row) → taken_from l sector ≡ Some n → stated_from stated l sector ≡ Some n
stated_made stated l n sector b is fits e = made_by_sector stated l n (row_in sector) b is fits e

refused_by_sector : (stated : Option ℕ) (l : Loading) (o : Option Row) → (o >>= row_taken l) ≡ None → (o >>= stated_taken stated l) ≡ None
refused_by_sector stated l None e = refl
refused_by_sector stated l (Some row) e = by (is_as_stated stated row)
  where
    by : (b : Bool) → cond b (row_taken l row) None ≡ None
    by true = e
    by false = refl

pub stated_refused : (stated : Option ℕ) (l : Loading) (sector : List ℕ) → taken_from l sector ≡ None → stated_from stated l sector ≡ None
stated_refused stated l sector e = refused_by_sector stated l (row_in sector) e

unlike_by_sector : (stated : Option ℕ) (l : Loading) (o : Option Row) (b : Bool) → b ≡ false → IfSome o (λ row. b ≡ is_as_stated stated row) → (o >>= stated_taken stated l) ≡ None
unlike_by_sector stated l None b is fits = refl
unlike_by_sector stated l (Some row) b is fits = ap (λ (c : Bool). cond c (row_taken l row) None) (sym fits ∙ is)

pub stated_unlike : (stated : Option ℕ) (l : Loading) (sector : List ℕ) (b : Bool) → b ≡ false → IfSome (row_in sector) (λ row. b ≡ is_as_stated stated row) → stated_from stated l sector ≡ None
stated_unlike stated l sector b is fits = unlike_by_sector stated l (row_in sector) b is fits

-- ---- the line of a row

made_by : (stated : Option ℕ) (l n : Loading) (o : Option Row) → (o >>= stated_taken stated l) ≡ Some n → or_spelling stated l o ≡ with_rows n
made_by stated l n None e = absurd cc
made_by stated l n (Some row) e = ap or_place e

refused_by : (stated : Option ℕ) (l : Loading) (o : Option Row) → true ≡ is_some o → (o >>= stated_taken stated l) ≡ None → or_spelling stated l o ≡ Err cause.Place
refused_by stated l None some e = absurd cc
refused_by stated l (Some row) some e = ap or_place e

none_by : (stated : Option ℕ) (l : Loading) (o : Option Row) → false ≡ is_some o → or_spelling stated l o ≡ Err cause.Spelling
none_by stated l None e = refl
none_by stated l (Some row) e = absurd cc

-- the row of the sector was taken, or can't be, or there is none
pub row_made : (stated : Option ℕ) (l n : Loading) (sector line : List ℕ) → row_in sector ≡ line_row line → stated_from stated l sector ≡ Some n → or_spelling stated l (line_row line) ≡ with_rows n
row_made stated l n sector line said e = made_by stated l n (line_row line) (ap (λ o. o >>= stated_taken stated l) (sym said) ∙ e)

pub row_refused : (stated : Option ℕ) (l : Loading) (sector line : List ℕ) → row_in sector ≡ line_row line → true ≡ is_some (line_row line) →
    stated_from stated l sector ≡ None → or_spelling stated l (line_row line) ≡ Err cause.Place
row_refused stated l sector line said some e = refused_by stated l (line_row line) some (ap (λ o. o >>= stated_taken stated l) (sym said) ∙ e)

pub no_row : (stated : Option ℕ) (l : Loading) (line : List ℕ) → false ≡ is_some (line_row line) → or_spelling stated l (line_row line) ≡ Err cause.Spelling
no_row stated l line none = none_by stated l (line_row line) none
