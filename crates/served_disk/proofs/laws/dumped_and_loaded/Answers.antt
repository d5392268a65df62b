use Rattle.served_disk.proofs.RoundTrips.{known_of, made_of, no_place}
use Rattle.served_disk.proofs.laws.dumped_and_loaded.Goals as goal

pub returns-clause-known : goal.returns-clause-known
returns-clause-known g c copy reader back =
    let said = c.register_bytes.ensures in
    made_of copy said.again said.under (known_of copy (g.R.Read.remaining reader) back)

pub returns-clause-same_text : goal.returns-clause-same_text
returns-clause-same_text g c copy same =
    let said = c.register_bytes.ensures in
    made_of copy said.again said.under same

pub returns-clause-refused : goal.returns-clause-refused
returns-clause-refused g c limits s fault is =
    let said = c.register_bytes.ensures in
    no_place limits s fault (said.made limits s is.state is.ranges) (λ f. said.refused limits s f is.state is.ranges) is.refused
