-- Reading the parts of a PDU from left to right: the value, or the first fault that is met.
use Rattle.std.specs.Prelude.{◌≡◌, ℕ, zero, suc, Bool, true, false, List, [], ◌∷◌, length, take, drop}
use Rattle.std.specs.Prelude.{Option, Some, None, Result, Ok, Err, nat_lt, ◌==◌, if◌then◌else◌}
use Rattle.identity.specs.Number.{number}
use Rattle.mm_pdus.specs.declared.fault.MmFault.{MmFault}
use Rattle.mm_pdus.specs.declared.fault.MmFault.TheVariants.{Short, Trailing, BadElement, NoMemory}
use Rattle.mm_pdus.specs.Syntax.{Element}

-- the result of reading a part of the bits: its value and the bits after it, or the fault
abbrev pub Part : Type 0 → Type 0
Part T = Result (T × List Bool) MmFault

infixl 10 ◌>>=◌
-- a reading, and the next one with its value, up to the first fault
abbrev pub ◌>>=◌ : {A B : Type 0} → Result A MmFault → (A → Result B MmFault) → Result B MmFault
(Ok x) >>= f = f x
(Err e) >>= f = Err e

-- a function's result, with the bits that are left
abbrev pub with_rest : {A : Type 0} → Result A MmFault → List Bool → Part A
with_rest (Ok x) rest = Ok (x, rest)
with_rest (Err f) rest = Err f

-- the value `x` in place of a function's empty `Ok`
abbrev pub giving : {A : Type 0} → Result (Unit {0}) MmFault → A → Result A MmFault
giving (Ok u) x = Ok x
giving (Err f) x = Err f

-- the value of a field's number, where there is one
abbrev pub known : {X : Type 0} → Option X → Result X MmFault
known (Some x) = Ok x
known None = Err BadElement

-- a condition on the bits
abbrev pub needs : Bool → Result (Unit {0}) MmFault
needs true = Ok tt
needs false = Err BadElement

-- one bit
abbrev pub bit_at : List Bool → Part Bool
bit_at [] = Err Short
bit_at (b ∷ rest) = Ok (b, rest)

-- one bit that must be 0
abbrev pub clear_at : List Bool → Result (List Bool) MmFault
clear_at [] = Err Short
clear_at (true ∷ rest) = Err BadElement
clear_at (false ∷ rest) = Ok rest

-- a number of w bits
abbrev pub field_at : ℕ → List Bool → Part ℕ
field_at w bits = if nat_lt (length bits) w then Err Short else Ok (number (take w bits), drop w bits)

-- w bits
abbrev pub piece_at : ℕ → List Bool → Part (List Bool)
piece_at w bits = if nat_lt (length bits) w then Err Short else Ok (take w bits, drop w bits)

-- an optional part, which is skipped
unfoldable pub optional_at : ℕ → List Bool → Result (List Bool) MmFault
optional_at w bits = do
  there ← bit_at bits
  if there.0 then (piece_at w there.1 >>= λ part. Ok part.1) else Ok there.1

-- optional parts of these widths, one after another
unfoldable pub optionals_at : List ℕ → List Bool → Result (List Bool) MmFault
optionals_at [] bits = Ok bits
optionals_at (w ∷ ws) bits = do
  rest ← optional_at w bits
  optionals_at ws rest

-- an element after the bit that announces it: its identifier, its length, and so many bits
abbrev pub element_after : List Bool → Part (Option Element)
element_after bits = do
  identifier ← field_at 4 bits
  len ← field_at 11 identifier.1
  body ← piece_at len.0 len.1
  Ok (Some (record { identifier = identifier.0; body = body.0 }), body.1)

-- the next element, or none after the last
unfoldable pub element_at : List Bool → Part (Option Element)
element_at bits = do
  more ← bit_at bits
  if more.0 then element_after more.1 else Ok (None, more.1)

-- the element with this identifier and these bits
abbrev pub made_element : ℕ → List Bool → Element
made_element identifier body = record { identifier = identifier; body = body }

-- the result of a function that reads an element, with the pair as an `Element`
abbrev pub seen : Result (Option (ℕ × List Bool)) MmFault → Result (Option Element) MmFault
seen (Ok None) = Ok None
seen (Ok (Some e)) = Ok (Some (made_element e.0 e.1))
seen (Err f) = Err f

-- A fold over the elements: `into` takes each into the value `s`. There are no more elements than bits.
unfoldable pub elements_at : {S : Type 0} → (S → Element → Result S MmFault) → ℕ → S → List Bool → Part S
elements_at into zero s bits = Err Short
elements_at into (suc n) s bits = do
  next ← element_at bits
  elim next.0 [ Some e ↦ into s e >>= λ t. elements_at into n t next.1 | None ↦ Ok (s, next.1) ]

-- an element is skipped
abbrev pub ignore : Unit {0} → Element → Result (Unit {0}) MmFault
ignore s e = Ok s

-- optional parts of these widths and the elements after them, all skipped
abbrev pub skipped_at : List ℕ → List Bool → Result (List Bool) MmFault
skipped_at widths bits = do
  rest ← optionals_at widths bits
  ended ← elements_at ignore (length rest) tt rest
  Ok ended.1

-- what follows the fixed fields, which is skipped
unfoldable pub extension_at : List ℕ → List Bool → Result (List Bool) MmFault
extension_at widths bits = do
  more ← bit_at bits
  if more.0 then skipped_at widths more.1 else Ok more.1

-- a PDU without bits after it
abbrev pub whole : {A : Type 0} → Part A → Result A MmFault
whole read = read >>= λ p. if length p.1 == 0 then Ok p.0 else Err Trailing

-- The result is that of `read`, unless memory ran out.
abbrev pub Gives : {A : Type 0} → Result A MmFault → Result A MmFault → Type 0
Gives (Ok x) read = read ≡ Ok x
Gives (Err f) read = (f ≡ NoMemory → ⊥) → read ≡ Err f

-- Memory runs out only where it does so too with no memory at all: `without` is that result.
abbrev pub WantsMemory : {A B : Type 0} → Result A MmFault → Result B MmFault → Type 0
WantsMemory (Ok x) without = Unit {0}
WantsMemory (Err f) without = f ≡ NoMemory → without ≡ Err f
