use Rattle.std.proofs.Common.{◌≡◌, ◌∙◌, ap, subst}
use Rattle.register_text.specs.Dump.{IsAll, register_bytes, text_read}
use Rattle.served_disk.proofs.loading.load_register.Goals as goal

pub returns-in-Ok-clause-under : goal.returns-in-Ok-clause-under
returns-in-Ok-clause-under g c =
    let is = c.in-Ok.ensures.ok in
    (c.register_bytes.ensures.only c.args.limits is.0 c.in-Ok.register is.2).1

pub returns-in-Ok-clause-dumped : goal.returns-in-Ok-clause-dumped
returns-in-Ok-clause-dumped g c s is =
    let read = c.in-Ok.ensures.ok in
    let all : register_bytes s ≡ read.0 = subst (λ left. IsAll left read.0) is.text read.1 in
    c.register_bytes.ensures.under c.args.limits s c.in-Ok.register is.state is.ranges (ap (text_read c.args.limits) all ∙ read.2)
