-- A row that was read, with its bits and groups still in the bytes, as a row.
use Rattle.image_rows.specs.Rows.{Row, HeaderRow, RuleRow, RadioRow, MailRow, ServedRow}
use Rattle.image_rows.specs.declared.reading.ReadRow.{ReadRow}
use Rattle.image_rows.specs.declared.reading.ReadRow.TheVariants as read

-- the row that was read
abbrev pub row_view : ReadRow → Row
row_view (read.Header header) = HeaderRow header
row_view (read.Rule prefix rule) = RuleRow prefix rule
row_view (read.Radio itsi radio groups) = RadioRow itsi radio groups
row_view (read.Mail item) = MailRow item
row_view (read.Served station sequence number pdu) = ServedRow station (record { sequence = sequence; number = number; pdu = pdu })
