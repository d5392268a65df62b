use Rattle.std.proofs.Common.{◌≡◌, ◌+◌, ◌<◌, ◌++◌, OnOk, OnErr, length, vec_len, vec_capacity, rules, arith, subst, ap, ◌∙◌, length-append}
use Rattle.base.proofs.Results.{then_on_ok}
use Rattle.listings.proofs.Used.{used_parts, parts_fit}
use Rattle.listings.proofs.room.put_used.Goals as goal

pub returns-clause-ok : goal.returns-clause-ok
returns-clause-ok g c = subst (λ t. OnOk c.put_parts.result (c.put_parts.new.out.items ≡ c.args.out.now.items ++ t))
    (used_parts c.args.register.now c.from.result c.from-2.result c.from-3.result c.from-4.result c.len.result c.from-5.result c.used_stations.result c.from-6.result
    (search rules) (search rules) (search rules) (search rules) (search rules) (search rules) (search rules) (search rules)) c.put_parts.ensures.ok

pub returns-clause-full : goal.returns-clause-full
returns-clause-full g c = subst (λ t. OnErr c.put_parts.result (vec_capacity c.args.out.now < vec_len c.args.out.now + length t))
    (used_parts c.args.register.now c.from.result c.from-2.result c.from-3.result c.from-4.result c.len.result c.from-5.result c.used_stations.result c.from-6.result
    (search rules) (search rules) (search rules) (search rules) (search rules) (search rules) (search rules) (search rules)) c.put_parts.ensures.full

pub returns-clause-fits : goal.returns-clause-fits
returns-clause-fits g c = then_on_ok c.put_parts.result c.put_parts.ensures.ok (λ put.
    let short = parts_fit c.from.result c.from-2.result c.from-3.result c.from-4.result c.len.result c.from-5.result c.used_stations.result c.from-6.result
    c.from.type_inv c.from-2.type_inv c.from-3.type_inv c.from-4.type_inv c.len.type_inv c.from-5.type_inv c.used_stations.type_inv c.from-6.type_inv in
    let grown = ap length put ∙ length-append c.args.out.now.items _ in
    omega (arith, grown, short, c.put_parts.new.out.ok.0, c.args.out.now.ok.0))
