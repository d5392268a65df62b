-- The numbers of values.
use Rattle.std.specs.Prelude.{ℕ, Bool, true, false}
use Rattle.sds_tl.specs.declared.pdu.DeliveryReportRequest.{DeliveryReportRequest}
use Rattle.sds_tl.specs.declared.pdu.DeliveryReportRequest.TheVariants as requests

-- the number of a request, in two bits
abbrev pub code_of : DeliveryReportRequest → ℕ
code_of requests.None = 0
code_of requests.Received = 1
code_of requests.Consumed = 2
code_of requests.Both = 3

-- the request of two bits
abbrev pub request_of : Bool → Bool → DeliveryReportRequest
request_of false false = requests.None
request_of false true = requests.Received
request_of true false = requests.Consumed
request_of true true = requests.Both
