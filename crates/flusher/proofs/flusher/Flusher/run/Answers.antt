use Rattle.std.proofs.Common.{inl, inr, true≢false, refl, sym, ◌∙◌, arith}
use Rattle.flusher.specs.View.{view_of_flusher}
use Rattle.flusher.specs.Lasting.{AreLasting, no_more}
use Rattle.flusher.specs.Runs.{none}
use Rattle.flusher.proofs.Between.{none_between, one_more_between, one_more_failed}
use Rattle.flusher.proofs.Lasting.{one_more_lasting}
use Rattle.flusher.proofs.Since.{run_durable}
use Rattle.flusher.proofs.Runs.{counted_on, ends_are_taken, ends_still, flags_are_set, one_more_round, same_ends}
use Rattle.flusher.proofs.flusher.Flusher.run.Goals as goal

pub loop-init : goal.loop-init
loop-init g c =
    let f = view_of_flusher c.args.self.now in
    record {
      settled = c.requires.settled;
      rounds = none f;
      stored = λ s. record {
        lasting = no_more f;
        stored = s;
        any_moment = λ up. none_between g.D.Disk.view g.J.Centre.base f (g.met.D.Disk.sound f.store.disk) (c.requires.settled.made up) s up;
        durable = λ each. each;
      };
      breaks = record { later = omega arith; failed = λ was down. absurd (true≢false (sym down ∙ was)) };
      same = same_ends f;
      counted = omega arith;
      at_once = inl refl;
    }

pub loop-preserved : goal.loop-preserved
loop-preserved g c =
    let i = c.loop.invariant in
    let e = c.round.ensures in
    let view = g.D.Disk.view in
    let base = g.J.Centre.base in
    let f = view_of_flusher c.args.self.now in
    let m = view_of_flusher c.loop.self in
    let n = view_of_flusher c.round.new.self in
    let was = i.breaks.later in
    let more = e.breaks.later in
    record {
      settled = e.settled;
      rounds = one_more_round _ _ _ _ i.rounds e.round;
      stored = λ s.
          let before = i.stored s in
          let next = e.stored before.stored in
          let lasting : AreLasting view base f n =
          one_more_lasting view base f m n e.round before.lasting i.settled e.settled next.any_moment (g.met.D.Disk.sound n.store.disk) next.stored in
          record {
            lasting = lasting;
            stored = next.stored;
            any_moment = λ up. one_more_between view base f m n e.round i.rounds m.store.broken refl i.settled.made i.settled.order e.settled.made next.any_moment (before.any_moment up);
            durable = run_durable view base f n lasting;
          };
      breaks = record {
        later = omega (arith, was, more);
        failed = λ up. one_more_failed view base f m n e.round i.rounds m.store.broken refl was e.breaks.failed (i.breaks.failed up);
      };
      same = ends_still _ _ _ _ i.same e.round;
      counted = counted_on _ _ _ i.counted e.counted;
      at_once = inr (m, i.rounds, (λ has. true≢false (sym (c.has_ended.ensures.1 (flags_are_set m c.loop.self.stations c.loop.self.flags i.settled.ended has)) ∙ c.if-has_ended.false)), e.round);
    }

pub round-requires : goal.round-requires
round-requires g c = record { settled = c.loop.invariant.settled }

pub returns-then-has_ended-clause-settled : goal.returns-then-has_ended-clause-settled
returns-then-has_ended-clause-settled g c = c.loop.invariant.settled

pub returns-then-has_ended-clause-rounds : goal.returns-then-has_ended-clause-rounds
returns-then-has_ended-clause-rounds g c = c.loop.invariant.rounds

pub returns-then-has_ended-clause-stored : goal.returns-then-has_ended-clause-stored
returns-then-has_ended-clause-stored g c = c.loop.invariant.stored

pub returns-then-has_ended-clause-breaks : goal.returns-then-has_ended-clause-breaks
returns-then-has_ended-clause-breaks g c = c.loop.invariant.breaks

pub returns-then-has_ended-clause-ended : goal.returns-then-has_ended-clause-ended
returns-then-has_ended-clause-ended g c = ends_are_taken (view_of_flusher c.loop.self) c.loop.self.stations c.loop.self.flags c.loop.invariant.settled.ended (c.has_ended.ensures.0 c.if-has_ended.true)

pub returns-then-has_ended-clause-same : goal.returns-then-has_ended-clause-same
returns-then-has_ended-clause-same g c = c.loop.invariant.same

pub returns-then-has_ended-clause-counted : goal.returns-then-has_ended-clause-counted
returns-then-has_ended-clause-counted g c = c.loop.invariant.counted

pub returns-then-has_ended-clause-at_once : goal.returns-then-has_ended-clause-at_once
returns-then-has_ended-clause-at_once g c = c.loop.invariant.at_once
