use Rattle.tetra_switch.proofs.serve_ports.Goals as goal

pub returns-in-Ok-clause-ends : goal.returns-in-Ok-clause-ends
returns-in-Ok-clause-ends g c = c.in-Ok.ensures.served.runs.ends
