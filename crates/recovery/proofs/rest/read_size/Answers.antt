use Rattle.recovery.proofs.rest.read_size.Goals as goal

pub returns-in-Some-clause-size : goal.returns-in-Some-clause-size
returns-in-Some-clause-size g c honest =
    let left = rw c.in-Some.is at (c.in_ok-found.ensures.left honest) in
    (c.in-Some.rest.left_out, c.in-Some.rest.register, c.in-Some.rest.stop, left.1, c.count.ensures)
