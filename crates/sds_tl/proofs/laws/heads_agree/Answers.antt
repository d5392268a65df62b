use Rattle.sds_tl.proofs.Heads as heads
use Rattle.sds_tl.proofs.Transfers as transfers
use Rattle.sds_tl.proofs.laws.heads_agree.Goals as goal

pub returns-clause-heads : goal.returns-clause-heads
returns-clause-heads g c = heads.heads_agree g.row.A.Denot

pub returns-clause-transfers : goal.returns-clause-transfers
returns-clause-transfers g c = transfers.references_agree g.row.A.Denot
