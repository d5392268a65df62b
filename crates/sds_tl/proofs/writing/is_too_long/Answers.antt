use Rattle.std.proofs.Common.{sym, ap, ◌∙◌, ltb}
use Rattle.sds_tl.specs.Syntax.{most_bits}
use Rattle.sds_tl.proofs.Written.{above_after, length-canon_transfer, length-canon_report, length-canon_ack}
use Rattle.sds_tl.proofs.writing.is_too_long.Goals as goal

pub returns-in-Transfer : goal.returns-in-Transfer
returns-in-Transfer g c =
    rw (c.in-Transfer.is, c.len.ensures) (above_after 24 2023 _ ∙ ap (ltb most_bits) (sym (length-canon_transfer g.row.A.Denot _ _ _ _ _)))

pub returns-in-Report : goal.returns-in-Report
returns-in-Report g c =
    rw (c.in-Report.is, c.len-in-Report.ensures) (above_after 32 2015 _ ∙ ap (ltb most_bits) (sym (length-canon_report g.row.A.Denot _ _ _ _ _)))

pub returns-in-Ack : goal.returns-in-Ack
returns-in-Ack g c = rw c.in-Ack.is (ap (ltb most_bits) (sym (length-canon_ack g.row.A.Denot _ _ _)))
