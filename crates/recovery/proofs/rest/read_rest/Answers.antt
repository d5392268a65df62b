use Rattle.std.proofs.Common.{Err, ap, inr}
use Rattle.base.proofs.Results.{if_err_then, if_ok_then}
use Rattle.recovery.specs.Inside.Opened.{opened_view}
use Rattle.recovery.specs.Rests.{IsLeft, whole}
use Rattle.recovery.proofs.Later.{later_of_greater}
use Rattle.sector_disk.specs.Disk.{View}
use Rattle.recovery.proofs.Remains.{of_greater, unlabelled}
use Rattle.recovery.proofs.rest.read_rest.Goals as goal

pub returns-in-Ok-clause-exact : goal.returns-in-Ok-clause-exact
returns-in-Ok-clause-exact g c honest =
    rw (c.rest_of_opened.ensures.side, c.rest_of_opened.ensures.epoch, c.rest_of_opened.ensures.none, c.rest_of_opened.ensures.register, c.rest_of_opened.ensures.stop) (whole (opened_view c.in-Ok.opened) (c.in-Ok.ensures.exact honest))

pub returns-in-Err-Damaged-clause-exact : goal.returns-in-Err-Damaged-clause-exact
returns-in-Err-Damaged-clause-exact g c =
    let old : View = g.D.Disk.view c.args.disk.now in
    if_ok_then c.read_greater_rest.result c.read_greater_rest.ensures.left (λ found says honest.
    let read = c.in-Err-Damaged.ensures.reads.only_read honest in
    let is = rw read.reads at (says read.honest) in
    of_greater g.row.A.Denot old.reads _ (rw c.in-Err-Damaged.field-0-is at (c.in-Err-Damaged.ensures.exact honest)) is.0 is.1 is.2 is.3 found
    (λ rest. rest.side) (λ rest. rest.epoch) (λ rest. rest.left_out) (λ rest. rest.register) (λ rest. rest.stop) (λ rest. rest.later) is.4)

pub returns-in-Err-Damaged-clause-faults : goal.returns-in-Err-Damaged-clause-faults
returns-in-Err-Damaged-clause-faults g c =
    if_err_then c.read_greater_rest.result c.read_greater_rest.ensures.faults c.read_greater_rest.ensures.reads.kinds (λ fault says kind honest.
    let read = c.in-Err-Damaged.ensures.reads.only_read honest in
    unlabelled g.row.A.Denot (g.D.Disk.view c.args.disk.now).reads fault kind (rw read.reads at (says read.honest)))

pub returns-in-Ok-clause-after : goal.returns-in-Ok-clause-after
returns-in-Ok-clause-after g c honest = rw c.rest_of_opened.ensures.stop c.rest_of_opened.ensures.later

pub returns-in-Err-Damaged-clause-after : goal.returns-in-Err-Damaged-clause-after
returns-in-Err-Damaged-clause-after g c =
    let old : View = g.D.Disk.view c.args.disk.now in
    if_ok_then c.read_greater_rest.result c.read_greater_rest.ensures.left (λ found says honest.
    let read = c.in-Err-Damaged.ensures.reads.only_read honest in
    let is = rw read.reads at (says read.honest) in
    later_of_greater g.row.A.Denot old.reads is.0 is.2 is.1 found (λ rest. rest.side) (λ rest. rest.stop) (λ rest. rest.later)
    (λ rest. IsLeft g.row.A.Denot is.0 is.1 old.reads rest.epoch rest.left_out rest.register rest.stop) is.4)

pub returns-in-Err-Damaged-clause-memory : goal.returns-in-Err-Damaged-clause-memory
returns-in-Err-Damaged-clause-memory g c is honest =
    let read = c.in-Err-Damaged.ensures.reads.only_read honest in
    inr (_, rw c.in-Err-Damaged.field-0-is at (c.in-Err-Damaged.ensures.exact honest), rw read.reads at (c.read_greater_rest.ensures.memory is read.honest))
