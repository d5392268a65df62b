-- A code of what is loaded of a text, for proofs.
use Rattle.std.specs.Prelude.{ℕ, Bool, Option, refl}
use Rattle.std.specs.Coded.{Coded, code_by, coded×, coded_ℕ, coded_bool, coded_option}
use Rattle.image_rows.specs.Loading.{Loading}
use Rattle.image_rows.specs.Inside.Codes.{coded_loading}
use Rattle.register_text.specs.Text.{TextLoading}

-- the number that was stated, whether the first line was taken, and the rows so far
abbrev pub coded_text_loading : Coded TextLoading
coded_text_loading =
    code_by (Option ℕ × (Bool × Loading)) (coded× (coded_option coded_ℕ) (coded× coded_bool coded_loading))
    (λ t. (t.stated, (t.headed, t.rows))) (λ p. record { stated = p.0; headed = p.1.0; rows = p.1.1 }) (λ _. refl)
