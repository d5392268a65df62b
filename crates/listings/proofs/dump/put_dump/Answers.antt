use Rattle.std.proofs.Common.{◌≡◌, ◌+◌, ◌<◌, ◌++◌, OnOk, OnErr, length, vec_len, vec_capacity, subst}
use Rattle.listings.proofs.Dumping.{text_is}
use Rattle.listings.proofs.dump.put_dump.Goals as goal

pub returns-clause-ok : goal.returns-clause-ok
returns-clause-ok g c = subst (λ t. OnOk c.put_parts_of_dump.result (c.put_parts_of_dump.new.out.items ≡ c.args.out.now.items ++ t)) (text_is c.args.register.now) c.put_parts_of_dump.ensures.ok

pub returns-clause-full : goal.returns-clause-full
returns-clause-full g c = subst (λ t. OnErr c.put_parts_of_dump.result (vec_capacity c.args.out.now < vec_len c.args.out.now + length t)) (text_is c.args.register.now) c.put_parts_of_dump.ensures.full
