-- Codes of a header and of a loading, for proofs.
use Rattle.std.specs.Prelude.{ℕ, Option, refl}
use Rattle.std.specs.Coded.{Coded, code_by, coded×, coded_ℕ, coded_option}
use Rattle.centre_core.specs.State.{State, coded_state}
use Rattle.image_rows.specs.Rows.{Header}
use Rattle.image_rows.specs.Loading.{Loading}

-- a header: its six numbers, one after another
abbrev pub coded_header : Coded Header
coded_header =
    code_by (ℕ × (ℕ × (ℕ × (ℕ × (ℕ × ℕ))))) (coded× coded_ℕ (coded× coded_ℕ (coded× coded_ℕ (coded× coded_ℕ (coded× coded_ℕ coded_ℕ)))))
    (λ h. (h.epoch, (h.count, (h.rules, (h.radios, (h.mail, h.served))))))
    (λ p. record { epoch = p.0; count = p.1.0; rules = p.1.1.0; radios = p.1.1.1.0; mail = p.1.1.1.1.0; served = p.1.1.1.1.1 }) (λ _. refl)

-- a loading: its header, if that came, and its state
abbrev pub coded_loading : Coded Loading
coded_loading =
    code_by (Option Header × State) (coded× (coded_option coded_header) coded_state)
    (λ l. (l.header, l.state)) (λ p. record { header = p.0; state = p.1 }) (λ _. refl)
