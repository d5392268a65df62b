-- An identity as one number of 48 bits (ETSI EN 300 392-1, clause 7): 10 bits of country code, 14 of network code and 24 of subscriber.
use Rattle.std.specs.Prelude.{◌+◌, ◌*◌, ◌/◌, ◌%◌, ◌^◌, ◌≤◌}
use Rattle.identity.specs.Numbers.{Mcc, Mnc, Ssi, Identity}

-- the number of an identity, from its country code, network code and subscriber number
abbrev pub identity_number : Mcc → Mnc → Ssi → Identity
identity_number mcc mnc ssi = mcc * 2 ^ 38 + mnc * 2 ^ 24 + ssi

-- the greatest country code, network code and subscriber number
abbrev pub most_mcc : Mcc
most_mcc = 1023

-- the greatest network code
abbrev pub most_mnc : Mnc
most_mnc = 16383

-- the greatest subscriber number
abbrev pub most_ssi : Ssi
most_ssi = 16777215

-- the three numbers are in their ranges
abbrev pub AreFields : Mcc → Mnc → Ssi → Type 0
AreFields mcc mnc ssi = (mcc ≤ most_mcc) × (mnc ≤ most_mnc) × (ssi ≤ most_ssi)

-- the country code of an identity
abbrev pub mcc_of : Identity → Mcc
mcc_of number = number / 2 ^ 38

-- its network code
abbrev pub mnc_of : Identity → Mnc
mnc_of number = number / 2 ^ 24 % 2 ^ 14

-- its subscriber number
abbrev pub ssi_of : Identity → Ssi
ssi_of number = number % 2 ^ 24
