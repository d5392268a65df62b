use Rattle.std.proofs.Common.{◌≡◌, length, arith, ap, ◌∙◌}
use Rattle.std.specs.Prelude.{count_by}
use Rattle.std.specs.Option.{is_some}
use Rattle.std.specs.FinMap as map
use Rattle.listings.proofs.Dumping.{few_lines, lines_counted}
use Rattle.listings.proofs.dump.line_count.Goals as goal

pub overflow_add-result : goal.overflow_add-result
overflow_add-result g c = omega (arith, c.from-rules.ensures, c.rule_count.type_inv)

pub overflow_add-result-2 : goal.overflow_add-result-2
overflow_add-result-2 g c = omega (arith, c.from-rules.ensures, c.rule_count.type_inv, c.from-radios.ensures, c.radio_count.type_inv)

pub overflow_add-result-3 : goal.overflow_add-result-3
overflow_add-result-3 g c =
    let items : c.len-items.result ≡ length c.args.register.now.mail.items = c.len-items.ensures ∙ ap (λ m. length m.items) c.mail.ensures in
    let few = few_lines c.args.register.now c.registers.ensures.state c.registers.ensures.ranges in
    omega (arith, c.from-rules.ensures, c.rule_count.type_inv, c.from-radios.ensures, c.radio_count.type_inv, items, few)

pub overflow_add-result-4 : goal.overflow_add-result-4
overflow_add-result-4 g c =
    let items : c.len-items.result ≡ length c.args.register.now.mail.items = c.len-items.ensures ∙ ap (λ m. length m.items) c.mail.ensures in
    let stations : c.used_stations-stations.result ≡ count_by is_some c.args.register.now.served = c.used_stations-stations.ensures ∙ ap (count_by is_some) c.served.ensures in
    let few = few_lines c.args.register.now c.registers.ensures.state c.registers.ensures.ranges in
    omega (arith, c.from-rules.ensures, c.rule_count.type_inv, c.from-radios.ensures, c.radio_count.type_inv, items, stations, few)

pub returns : goal.returns
returns g c =
    let rules : c.from-rules.result ≡ map.len c.args.register.now.registered.rules = c.from-rules.ensures ∙ c.rule_count.ensures ∙ ap (λ r. map.len r.rules) c.registry-registry.ensures in
    let radios : c.from-radios.result ≡ map.len c.args.register.now.registered.radios = c.from-radios.ensures ∙ c.radio_count.ensures ∙ ap (λ r. map.len r.radios) c.registry-registry.ensures in
    let items : c.len-items.result ≡ length c.args.register.now.mail.items = c.len-items.ensures ∙ ap (λ m. length m.items) c.mail.ensures in
    let stations : c.used_stations-stations.result ≡ count_by is_some c.args.register.now.served = c.used_stations-stations.ensures ∙ ap (count_by is_some) c.served.ensures in
    let all = lines_counted c.args.register.now in
    omega (arith, all, rules, radios, items, stations)
