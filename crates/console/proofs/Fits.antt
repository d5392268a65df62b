-- How long answers of one line are at most.
use Rattle.std.proofs.Common.{◌≡◌, ℕ, ◌+◌, ◌^◌, ◌<◌, ◌≤◌, Bool, true, false, List, ◌++◌, length, Option, Some, None, decimal, codes, arith, length-append}
use Rattle.identity.proofs.Lengths.{decimal_fits, identity_fits, bits_fit}
use Rattle.identity.specs.IdentityText.{identity_text}
use Rattle.registration.specs.declared.radio.Radio.{Radio}
use Rattle.centre_core.specs.Ranges.{IsShort}
use Rattle.listings.specs.Lines.{radio_words}
use Rattle.listings.specs.Parts.{answer_room}
use Rattle.listings.specs.Words.{pdu_text, presence_text}

pub refused_fits : (sequence : ℕ) (word : List ℕ) → sequence < 2 ^ 64 → length word ≤ 32 → length (decimal sequence ++ (codes " no " ++ word) ++ codes "\n") ≤ answer_room
refused_fits sequence word small short =
    let digits = decimal_fits sequence small in
    let whole : length (decimal sequence ++ (codes " no " ++ word) ++ codes "\n") ≡ length (decimal sequence) + (4 + length word) + 1 = grind (arith, length-append) in
    omega (arith, digits, whole)

pdu_fits : (pdu : Option (List Bool)) → IsShort pdu → length (pdu_text pdu) ≤ 533
pdu_fits None short = omega arith
pdu_fits (Some bits) short = let most = bits_fit bits (omega (arith, short)) in omega (arith, most, short)

pub done_fits : (sequence number : ℕ) (word : List ℕ) (pdu : Option (List Bool)) → sequence < 2 ^ 64 → number < 2 ^ 64 → length word ≤ 6 → IsShort pdu →
    length (decimal sequence ++ (word ++ decimal number ++ codes " " ++ pdu_text pdu) ++ codes "\n") ≤ answer_room
done_fits sequence number word pdu small low short few =
    let first = decimal_fits sequence small in
    let second = decimal_fits number low in
    let most = pdu_fits pdu few in
    let whole : length (decimal sequence ++ (word ++ decimal number ++ codes " " ++ pdu_text pdu) ++ codes "\n") ≡ length (decimal sequence) +
    (length word + length (decimal number) + 1 + length (pdu_text pdu)) + 1 = grind (arith, length-append) in
    omega (arith, first, second, most, whole)

pub unknown_fits : (itsi : ℕ) → itsi < 2 ^ 48 → length (codes "where " ++ identity_text itsi ++ codes " unknown\n") ≤ answer_room
unknown_fits itsi small =
    let most = identity_fits itsi small in
    let whole : length (codes "where " ++ identity_text itsi ++ codes " unknown\n") ≡ 6 + length (identity_text itsi) + 9 = grind (arith, length-append) in
    omega (arith, most, whole)

presence_fits : (present : Bool) → length (presence_text present) ≤ 8
presence_fits true = omega arith
presence_fits false = omega arith

pub known_fits : (itsi : ℕ) (radio : Radio) → itsi < 2 ^ 48 → radio.station < 2 ^ 64 → radio.area < 2 ^ 64 →
    length (codes "where " ++ identity_text itsi ++ codes " " ++ radio_words radio ++ codes "\n") ≤ answer_room
known_fits itsi radio small station area =
    let most = identity_fits itsi small in
    let first = decimal_fits radio.station station in
    let second = decimal_fits radio.area area in
    let word = presence_fits radio.present in
    let whole : length (codes "where " ++ identity_text itsi ++ codes " " ++ radio_words radio ++ codes "\n")
    ≡ 6 + length (identity_text itsi) + 1 + (8 + length (decimal radio.station) + 4 + length (decimal radio.area) + length (presence_text radio.present)) + 1 = grind (arith, length-append) in
    omega (arith, most, first, second, word, whole)

pub mark_fits : (word : List ℕ) → length word ≤ 32 → length (codes "mark " ++ word ++ codes "\n") ≤ answer_room
mark_fits word short =
    let whole : length (codes "mark " ++ word ++ codes "\n") ≡ 5 + length word + 1 = grind (arith, length-append) in
    omega (arith, whole, short)
