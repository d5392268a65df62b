-- The protocol identifiers of this layer.
use Rattle.std.specs.Prelude.{ℕ}

-- The first one: PDUs with it or a greater one have the transport layer SDS-TL (clause 29.4.3.9).
abbrev pub first_identifier : ℕ
first_identifier = 128
