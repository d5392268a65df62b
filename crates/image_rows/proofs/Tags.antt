-- The first byte of a header.
use Rattle.std.proofs.Common.{◌≡◌, ◌⊎◌, ℕ, ◌^◌, ◌<◌, List, ◌∷◌, ◌++◌, slice_index, Option, Some, refl, sym, ap, ◌∙◌, arith, inl, inr}
use Rattle.identity.specs.Packed.{AreBytes}
use Rattle.command_bytes.specs.Fields.{◌>>=◌, big}
use Rattle.command_bytes.proofs.Numbers.{number_again}
use Rattle.image_rows.specs.Rows.{Row, HeaderRow, RuleRow, RadioRow, MailRow, ServedRow, Header}
use Rattle.image_rows.specs.RowText.{header_tag, plain_header_tag, tag_of, fields_of, row_bytes, sector_of}
use Rattle.image_rows.specs.RowReading.{IsTagOf, Spells, fields_at, fields_in, row_in, written}
use Rattle.image_rows.proofs.Settled.{row_is_spelt}

pub header_is_tagged : (h : Header) → slice_index (sector_of (HeaderRow h)) 0 ≡ header_tag
unfolding sector_of row_bytes big
header_is_tagged h = refl

-- what is written as a header is one
seen_header : (seen : Row) (h : Header) → written seen ≡ HeaderRow h → seen ≡ HeaderRow h
seen_header (HeaderRow g) h e = e
seen_header (RuleRow prefix rule) h e = absurd cc
seen_header (RadioRow itsi radio groups) h e = absurd cc
seen_header (MailRow w) h e = absurd cc
seen_header (ServedRow station last) h e = absurd cc

tag_of_header : (seen : Row) (h : Header) (tag : ℕ) → seen ≡ HeaderRow h → IsTagOf seen tag → (tag ≡ header_tag) ⊎ (tag ≡ plain_header_tag)
tag_of_header seen h tag is (inl own) = inl (own ∙ ap tag_of is)
tag_of_header seen h tag is (inr (g, same, plain)) = inr plain

first_byte : (bytes fields rest : List ℕ) (tag : ℕ) → bytes ≡ big 1 tag ++ fields ++ rest → (tag ≡ header_tag) ⊎ (tag ≡ plain_header_tag) →
    (slice_index bytes 0 ≡ header_tag) ⊎ (slice_index bytes 0 ≡ plain_header_tag)
unfolding big
first_byte bytes fields rest tag is (inl e) = inl (ap (λ (l : List ℕ). slice_index l 0) (is ∙ ap (λ (n : ℕ). big 1 n ++ fields ++ rest) e))
first_byte bytes fields rest tag is (inr e) = inr (ap (λ (l : List ℕ). slice_index l 0) (is ∙ ap (λ (n : ℕ). big 1 n ++ fields ++ rest) e))

pub header_has_tag : (h : Header) (bytes : List ℕ) → AreBytes bytes → row_in bytes ≡ Some (HeaderRow h) → (slice_index bytes 0 ≡ header_tag) ⊎ (slice_index bytes 0 ≡ plain_header_tag)
header_has_tag h bytes are e =
    let spells : Spells (HeaderRow h) bytes = (row_is_spelt (HeaderRow h) bytes are e).1 in
    first_byte bytes (fields_of spells.seen) spells.rest spells.tag spells.is
    (tag_of_header spells.seen h spells.tag (seen_header spells.seen h spells.same) spells.tagged)

after_tag : ℕ × List ℕ → Option Row
after_tag tag = fields_in tag.0 tag.1

tag_read : (tag : ℕ) (fields : List ℕ) → tag < 256 ^ 1 → row_in (big 1 tag ++ fields) ≡ fields_in tag fields
unfolding row_in after_tag
tag_read tag fields lt = ap (λ (read : Option (ℕ × List ℕ)). read >>= after_tag) (number_again 1 tag fields lt)

pub either_tag : (fields : List ℕ) → row_in (plain_header_tag ∷ fields) ≡ row_in (header_tag ∷ fields)
unfolding fields_in fields_at big
either_tag fields = tag_read plain_header_tag fields (omega arith) ∙ sym (tag_read header_tag fields (omega arith))
