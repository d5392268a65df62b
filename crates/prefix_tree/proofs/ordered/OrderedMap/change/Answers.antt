use Rattle.std.proofs.Common.{Some, None, refl, sym, ap, ◌∙◌}
use Rattle.prefix_tree.specs.Inside.Ordered.{map_held}
use Rattle.prefix_tree.proofs.OrderedLaws.{found_in, written_in, none_left, absent}
use Rattle.prefix_tree.proofs.ordered.OrderedMap.change.Goals as goal

pub returns-in_err-held : goal.returns-in_err-held
returns-in_err-held g c =
    let none = sym (found_in c.self.inside.by_prefix.entries c.args.self.now c.new-key.result c.args.prefix.now c.self.view_is c.new-key.ensures None c.in_err-held.ensures.value) in
    (None, ap (λ m. map_held m.entries) c.get_mut.follows.holds-at-none ∙ c.self.view_is ∙ absent c.args.self.now c.args.prefix.now none, rw none (c.from_residual.ensures, refl))

pub returns-in_err-value : goal.returns-in_err-value
returns-in_err-value g c =
    let none = sym (c.in_err-value.ensures.value ∙ found_in c.self.inside.by_prefix.entries c.args.self.now c.new-key.result c.args.prefix.now
    c.self.view_is c.new-key.ensures (Some c.in_ok-held.held.now) c.in_ok-held.ensures.value) in (
      c.take.new.self,
      written_in c.self.inside.by_prefix.entries c.args.self.now c.new-key.result c.args.prefix.now c.self.view_is c.new-key.ensures
          c.self.inside.by_prefix (c.get_mut.follows.lender (record { value = c.take.new.self })) c.in_ok-held.held.now
          (record { value = c.take.new.self }) refl c.in_ok-held.ensures.value (c.get_mut.follows.holds (record { value = c.take.new.self })),
      rw none (c.from_residual-in_err-value.ensures, c.take.ensures.after),
    )

pub sweep-requires : goal.sweep-requires
sweep-requires g c gone =
    none_left c.self.inside.by_prefix.entries c.args.self.now c.new-key.result c.args.prefix.now c.self.view_is c.new-key.ensures _
    c.change-answer.result.1
    (written_in c.self.inside.by_prefix.entries c.args.self.now c.new-key.result c.args.prefix.now c.self.view_is c.new-key.ensures
    c.self.inside.by_prefix (c.get_mut.follows.lender (record { value = c.change-answer.result.1 })) c.in_ok-held.held.now
    (record { value = c.change-answer.result.1 }) refl c.in_ok-held.ensures.value
    (c.get_mut.follows.holds (record { value = c.change-answer.result.1 }))) (sym c.is_some-stays.ensures ∙ gone)

pub returns : goal.returns
returns g c =
    let there = sym (c.in_ok-value.ensures.value ∙ found_in c.self.inside.by_prefix.entries c.args.self.now c.new-key.result c.args.prefix.now
    c.self.view_is c.new-key.ensures (Some c.in_ok-held.held.now) c.in_ok-held.ensures.value) in (
      c.change-answer.result.1,
      c.sweep.ensures ∙ written_in c.self.inside.by_prefix.entries c.args.self.now c.new-key.result c.args.prefix.now
          c.self.view_is c.new-key.ensures c.self.inside.by_prefix (c.get_mut.follows.lender (record { value = c.change-answer.result.1 }))
          c.in_ok-held.held.now (record { value = c.change-answer.result.1 }) refl c.in_ok-held.ensures.value
          (c.get_mut.follows.holds (record { value = c.change-answer.result.1 })),
      rw there (c.change-answer.result.0, refl, c.change-answer.ensures),
    )
