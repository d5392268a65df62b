-- The numbers of identities and of texts.
use Rattle.std.specs.Prelude.{ℕ}

-- a country code (MCC) of 10 bits: 0 to 1,023
abbrev pub Mcc : Type 0
Mcc = ℕ

-- a network code (MNC) of 14 bits: 0 to 16,383
abbrev pub Mnc : Type 0
Mnc = ℕ

-- a subscriber number (SSI) of 24 bits: 0 to 16,777,215
abbrev pub Ssi : Type 0
Ssi = ℕ

-- the identity of a radio or a group, where it may be either: 48 bits as one number, below 2 to the 48th
abbrev pub Identity : Type 0
Identity = ℕ

-- the identity of a radio (ITSI): 48 bits as one number, below 2 to the 48th
abbrev pub Itsi : Type 0
Itsi = ℕ

-- the identity of a group (GTSI): 48 bits as one number, below 2 to the 48th
abbrev pub Gtsi : Type 0
Gtsi = ℕ

-- a byte: 0 to 255
abbrev pub Byte : Type 0
Byte = ℕ
