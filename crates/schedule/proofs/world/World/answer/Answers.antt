use Rattle.std.proofs.Common.{◌≡◌, true, ap, sym, subst, ◌∙◌}
use Rattle.base.proofs.Bools.{both_true}
use Rattle.schedule.specs.declared.event.Event.TheVariants.{Answer}
use Rattle.schedule.specs.World.{ground}
use Rattle.schedule.specs.Next.{effect, is_place}
use Rattle.schedule.proofs.Running.{answers_one}
use Rattle.schedule.proofs.world.World.answer.Goals as goal

pub take_answer-requires : goal.take_answer-requires
take_answer-requires g c =
    let ok = rw (← c.self.view_is) at c.requires in
    subst (λ n. is_place c.self.inside.seats n ≡ true) (sym c.number.ensures.value) (both_true _ _ ok).0

pub returns-clause-ok : goal.returns-clause-ok
returns-clause-ok g c =
    let i = c.self.inside in
    let answer_taken = rw (c.number.ensures.value) at c.take_answer.ensures in
    answers_one i.seats c.take_answer.new.self i.batch.items i.accepted.items i.durable i.published i.in_flight i.owed c.take_first-command.new.self
    i.answers.items c.push_reserved.new.self.items i.checking i.down c.args.station c.take_first-command.result c.answer_from-answer.result
    c.is_acceptance-accepted.result c.take_first-command.ensures.first c.take_first-command.ensures.rest c.answer_from-answer.ensures
    c.is_acceptance-accepted.ensures answer_taken (cc (c.push_reserved.ensures.items, c.in_ok-reserve.ensures.items)) ∙
    ap (λ w. effect ground w (Answer c.args.station)) c.self.view_is
