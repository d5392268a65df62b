-- The group that an address names.
use Rattle.identity.specs.Numbers.{Itsi, Gtsi}
use Rattle.identity.specs.Identity.{identity_number, mcc_of, mnc_of}
use Rattle.mm_pdus.specs.declared.address.GroupAddress.{GroupAddress}
use Rattle.mm_pdus.specs.declared.address.GroupAddress.TheVariants.{Short, Full}

-- The group that an address names for a radio: a short address is completed by the radio's country code and network code.
abbrev pub gtsi_of : GroupAddress → Itsi → Gtsi
gtsi_of (Short gssi) itsi = identity_number (mcc_of itsi) (mnc_of itsi) gssi
gtsi_of (Full gtsi) itsi = gtsi
