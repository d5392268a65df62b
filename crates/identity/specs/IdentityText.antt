-- Identities as text, `mcc-mnc-ssi`, and prefixes, an identity, `/` and how many of its bits they have.
use Rattle.std.specs.Prelude.{◌≡◌, ℕ, true, ◌&&◌, ◌==◌, List, ◌∷◌, ◌++◌, length, take, drop, Option}
use Rattle.std.specs.Prelude.{Some, None, Result, Ok, Err, nat_le, decimal, if◌then◌else◌}
use Rattle.std.specs.Option.{option_and_then}
use Rattle.identity.specs.Numbers.{Identity, Byte}
use Rattle.identity.specs.Number.{number}
use Rattle.identity.specs.Path.{Path, id_path, left_aligned}
use Rattle.identity.specs.Identity.{identity_number, most_mcc, most_mnc, most_ssi, mcc_of, mnc_of, ssi_of}
use Rattle.identity.specs.NumberText.{is_number, value, cut, judged}
use Rattle.identity.specs.declared.fault.Fault.{Fault}
use Rattle.identity.specs.declared.fault.Fault.TheVariants.{OutOfRange}

-- ---- texts

-- the text of an identity
unfoldable pub identity_text : Identity → List Byte
identity_text number = decimal (mcc_of number) ++ 45 ∷ decimal (mnc_of number) ++ 45 ∷ decimal (ssi_of number)

-- the text of a prefix
unfoldable pub prefix_text : Path → List Byte
prefix_text p = identity_text (left_aligned p) ++ 47 ∷ decimal (length p)

-- ---- forms, whatever the size of the numbers

-- three numbers with `-` between them
pub record IsIdentityForm (text : List Byte) : Type 0 where
  pub mcc : List Byte
  pub mnc : List Byte
  pub ssi : List Byte
  pub spelt : text ≡ mcc ++ 45 ∷ mnc ++ 45 ∷ ssi
  pub numbers : (is_number mcc ≡ true) × (is_number mnc ≡ true) × (is_number ssi ≡ true)

-- such three numbers, `/` and a number
pub record IsPrefixForm (text : List Byte) : Type 0 where
  pub identity : List Byte
  pub len : List Byte
  pub spelt : text ≡ identity ++ 47 ∷ len
  pub form : IsIdentityForm identity
  pub number : is_number len ≡ true

-- ---- the reading of texts: the form is judged before any range

-- the digits of three numbers, of any size
unfoldable pub three_numbers : List Byte → Option (List Byte × List Byte × List Byte)
three_numbers text = option_and_then (λ p. option_and_then (λ q. if_numbers p.0 q.0 q.1) (cut 45 p.1)) (cut 45 text)
  where
    if_numbers : List Byte → List Byte → List Byte → Option (List Byte × List Byte × List Byte)
    if_numbers mcc mnc ssi = if is_number mcc && is_number mnc && is_number ssi then Some (mcc, mnc, ssi) else None

-- the identity of three numbers, where each is in its range
unfoldable pub identity_of : List Byte → List Byte → List Byte → Result Identity Fault
identity_of mcc mnc ssi =
    if nat_le (value mcc) most_mcc && nat_le (value mnc) most_mnc && nat_le (value ssi) most_ssi
    then Ok (identity_number (value mcc) (value mnc) (value ssi)) else Err OutOfRange

-- the identity that is read from a text, or the fault
unfoldable pub reading_identity : List Byte → Result Identity Fault
reading_identity text = judged (λ numbers. identity_of numbers.0 numbers.1 numbers.2) (three_numbers text)

-- the first `len` bits of an identity, where `len` is at most 48 and the bits past them are 0
unfoldable pub prefix_of : Identity → ℕ → Result Path Fault
prefix_of identity len =
    if nat_le len 48 && (number (drop len (id_path identity)) == 0) then Ok (take len (id_path identity)) else Err OutOfRange

-- the digits of the three numbers of an identity and of a length
unfoldable pub prefix_form : List Byte → Option ((List Byte × List Byte × List Byte) × List Byte)
prefix_form text = option_and_then (λ p. option_and_then (λ numbers. if is_number p.1 then Some (numbers, p.1) else None) (three_numbers p.0)) (cut 47 text)

-- the first `len` bits of an identity that was read, or the fault of its reading
abbrev pub prefix_within : ℕ → Result Identity Fault → Result Path Fault
prefix_within len (Err fault) = Err fault
prefix_within len (Ok identity) = prefix_of identity len

-- the prefix that is read from a text, or the fault
unfoldable pub reading_prefix : List Byte → Result Path Fault
reading_prefix text = judged (λ form. prefix_within (value form.1) (identity_of form.0.0 form.0.1 form.0.2)) (prefix_form text)
