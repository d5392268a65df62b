-- No fault of bits, and none of a PDU that is written, is out of memory.
use Rattle.std.proofs.Common.{ℕ, Bool, true, false, cond, List, Option, Some, None, Ok, Err}
use Rattle.std.specs.Prelude.{◌≢◌, ◌==◌, nat_lt, length}
use Rattle.sds_tl.specs.declared.fault.SdsFault.{SdsFault}
use Rattle.sds_tl.specs.declared.fault.SdsFault.TheVariants.{Short, Trailing, NotSdsTl, UnknownType, StorageControl, TooLong, NoMemory}
use Rattle.sds_tl.specs.declared.pdu.Sds.{Sds}
use Rattle.sds_tl.specs.Syntax.{most_bits}
use Rattle.sds_tl.specs.Reading.{field, type_of, data_fault, ack_fault, fault, value, head_value, cleared, unless, reading, heading, clearing, writing}

abbrev IsOfBits : Option SdsFault → Type 0
IsOfBits f = f ≢ Some NoMemory

either : (b : Bool) (x y : Option SdsFault) → IsOfBits x → IsOfBits y → IsOfBits (cond b x y)
either true x y one other = one
either false x y one other = other

none : IsOfBits None
none e = cc

short : IsOfBits (Some Short)
short e = cc

trailing : IsOfBits (Some Trailing)
trailing e = cc

layer : IsOfBits (Some NotSdsTl)
layer e = cc

kind : IsOfBits (Some UnknownType)
kind e = cc

storage : IsOfBits (Some StorageControl)
storage e = cc

long : IsOfBits (Some TooLong)
long e = cc

data_of_bits : (begin : ℕ) (bits : List Bool) → IsOfBits (data_fault begin bits)
unfolding data_fault
data_of_bits begin bits = either _ _ _ storage (either _ _ _ short none)

ack_of_bits : (bits : List Bool) → IsOfBits (ack_fault bits)
unfolding ack_fault
ack_of_bits bits = either _ _ _ short (either _ _ _ trailing none)

pub fault_of_bits : (bits : List Bool) → IsOfBits (fault bits)
unfolding fault
fault_of_bits bits =
    either (nat_lt most_bits (length bits)) _ _ long (either (nat_lt (length bits) 8) _ _ short (either (nat_lt (field 0 8 bits) 128) _ _ layer
    (either (nat_lt (length bits) 12) _ _ short (either (nat_lt 2 (type_of bits)) _ _ kind (either (nat_lt (length bits) 16) _ _ short
    (either (type_of bits == 0) _ _ (data_of_bits 24 bits) (either (type_of bits == 1) _ _ (data_of_bits 32 bits) (ack_of_bits bits))))))))

unless_of_bits : {X : Type 0} (f : Option SdsFault) (x : X) → IsOfBits f → unless f x ≢ Err NoMemory
unless_of_bits None x of_bits e = cc
unless_of_bits (Some f) x of_bits e = of_bits cc

pub heading_of_bits : (bits : List Bool) → heading bits ≢ Err NoMemory
heading_of_bits bits = unless_of_bits (fault bits) (head_value bits) (fault_of_bits bits)

pub clearing_of_bits : (bits : List Bool) → clearing bits ≢ Err NoMemory
clearing_of_bits bits = unless_of_bits (fault bits) (cleared bits) (fault_of_bits bits)

long_or_ok : (b : Bool) (bits : List Bool) → cond b (Err TooLong) (Ok bits) ≢ Err NoMemory
long_or_ok true bits e = cc
long_or_ok false bits e = cc

module _ (A : Type 0) where
  pub reading_of_bits : (bits : List Bool) → reading {A = A} bits ≢ Err NoMemory
  reading_of_bits bits = unless_of_bits (fault bits) (value bits) (fault_of_bits bits)

  pub writing_of_length : (sds : Sds A) → writing sds ≢ Err NoMemory
  writing_of_length sds = long_or_ok _ _
