-- The lines of stations, one after another.
use Rattle.std.proofs.Common.{◌≡◌, ℕ, ◌+◌, List, [], ◌∷◌, ◌++◌, length, sym, ap, ◌∙◌, arith, append_assoc, length-append}
use Rattle.std.proofs.lemmas.List.{append-nil}
use Rattle.console.specs.declared.figures.StationFigures.{StationFigures}
use Rattle.console.specs.Service.{station_line, station_lines}

-- the line of one more station
pub stations_more : (number : ℕ) (each : List StationFigures) (one : StationFigures) → station_lines number (each ++ one ∷ []) ≡ station_lines number each ++ station_line (number + length each) one
stations_more number [] one = let same : number ≡ number + 0 = omega arith in append-nil (station_line number one) ∙ ap (λ n. station_line n one) same
stations_more number (first ∷ each) one =
    let next : number + 1 + length each ≡ number + length (first ∷ each) = omega arith in
    ap (λ text. station_line number first ++ text) (stations_more (number + 1) each one ∙ ap (λ n. station_lines (number + 1) each ++ station_line n one) next)
    ∙ sym (append_assoc (station_line number first) (station_lines (number + 1) each) (station_line (number + length (first ∷ each)) one))

-- there is one more station, and its line was put
pub count_more : (each : List StationFigures) (one : StationFigures) (place : ℕ) → length each ≡ place → length (each ++ one ∷ []) ≡ place + 1
count_more each one place count = length-append each (one ∷ []) ∙ omega (arith, count)

pub put_more : (old now new : List ℕ) (each : List StationFigures) (one : StationFigures) (place : ℕ) → length each ≡ place → now ≡ old ++ station_lines 1 each →
    new ≡ now ++ station_line (place + 1) one → new ≡ old ++ station_lines 1 (each ++ one ∷ [])
put_more old now new each one place count put more =
    let next : place + 1 ≡ 1 + length each = omega (arith, count) in
    more ∙ ap (λ text. text ++ station_line (place + 1) one) put ∙ append_assoc old (station_lines 1 each) (station_line (place + 1) one)
    ∙ ap (λ text. old ++ text) (ap (λ n. station_lines 1 each ++ station_line n one) next ∙ sym (stations_more 1 each one))
