use Rattle.std.proofs.Common.{◌≡◌, ◌+◌, ◌<◌, ◌++◌, OnOk, OnErr, length, vec_len, vec_capacity, rules, subst}
use Rattle.listings.proofs.Dumping.{first_is}
use Rattle.listings.proofs.dump.put_first_line.Goals as goal

pub returns-clause-ok : goal.returns-clause-ok
returns-clause-ok g c = subst (λ t. OnOk c.put_parts.result (c.put_parts.new.out.items ≡ c.args.out.now.items ++ t))
    (first_is c.args.limits.now c.from.result c.from-2.result c.from-3.result c.from-4.result (search rules) (search rules) (search rules) (search rules)) c.put_parts.ensures.ok

pub returns-clause-full : goal.returns-clause-full
returns-clause-full g c = subst (λ t. OnErr c.put_parts.result (vec_capacity c.args.out.now < vec_len c.args.out.now + length t))
    (first_is c.args.limits.now c.from.result c.from-2.result c.from-3.result c.from-4.result (search rules) (search rules) (search rules) (search rules)) c.put_parts.ensures.full
