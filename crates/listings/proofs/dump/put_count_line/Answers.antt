use Rattle.std.proofs.Common.{◌≡◌, ◌+◌, ◌<◌, ◌++◌, OnOk, OnErr, length, vec_len, vec_capacity, rules, subst}
use Rattle.listings.proofs.Dumping.{count_is}
use Rattle.listings.proofs.dump.put_count_line.Goals as goal

pub returns-clause-ok : goal.returns-clause-ok
returns-clause-ok g c = subst (λ t. OnOk c.put_parts.result (c.put_parts.new.out.items ≡ c.args.out.now.items ++ t))
    (count_is c.args.register.now c.count.result c.from.result c.from-2.result c.len.result c.used_stations.result
    (search rules) (search rules) (search rules) (search rules) (search rules)) c.put_parts.ensures.ok

pub returns-clause-full : goal.returns-clause-full
returns-clause-full g c = subst (λ t. OnErr c.put_parts.result (vec_capacity c.args.out.now < vec_len c.args.out.now + length t))
    (count_is c.args.register.now c.count.result c.from.result c.from-2.result c.len.result c.used_stations.result
    (search rules) (search rules) (search rules) (search rules) (search rules)) c.put_parts.ensures.full
