-- What is known of a call however it ends.
use Rattle.std.specs.Prelude.{Result, Ok, Err, OnOk}

pub known_ok : {T E P : Type 0} (r : Result T E) → P → OnOk r P
known_ok (Ok x) p = p
known_ok (Err e) p = tt
