use Rattle.stations.proofs.many_stations.store_of.Goals as goal

pub returns-in-Err-clause-closed : goal.returns-in-Err-clause-closed
returns-in-Err-clause-closed g c = absurd (c.in-Err.ensures.refused.2 c.requires.ended)
