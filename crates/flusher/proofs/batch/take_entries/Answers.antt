use Rattle.std.proofs.Common.{◌≡◌, [], ◌∷◌, ◌++◌, ◌≤◌, length, inl, inr, rules, ap, sym, ◌∙◌, subst, arith, append_assoc, length-append}
use Rattle.base.proofs.Lists.{all_append}
use Rattle.station_queue.specs.Entries.{station_of}
use Rattle.flusher.specs.Shared.{commands_among, commands_in}
use Rattle.flusher.specs.Batches.{AreWithin, ended_by}
use Rattle.flusher.proofs.Batched.{commands_among-append, ended_by-append, length-ended, one_within}
use Rattle.flusher.proofs.batch.take_entries.Goals as goal

pub loop-preserved : goal.loop-preserved
loop-preserved g c =
    let i = c.loop.invariant in
    let e = c.in-Some.entry in
    let one = commands_among (e ∷ []) in
    let popped = i.0.0 in
    let made = c.args.taker.now.made in
    let t = c.in-Some.ensures in
    let p = c.put.ensures in
    let few = p.few in
    let a = i.4 in
    let n = i.0.3 in
    let within = one_within made e t.station.0 (subst (λ m. station_of e ≤ m) i.2 t.station.1) in (
      (
        popped ++ e ∷ [],
        t.taken.0 ∙ ap (λ l. l ++ e ∷ []) i.0.1 ∙ append_assoc c.args.taker.now.taken popped (e ∷ []),
        commands_among-append popped (e ∷ []) ∙ ap (λ l. l ++ one) i.0.2 ∙ sym p.batch,
        omega (arith, length-append popped (e ∷ []), n),
        p.ended ∙ ap (ended_by (e ∷ [])) i.0.4 ∙ sym (ended_by-append popped (e ∷ []) c.args.ended.now.items),
        all_append _ popped (e ∷ []) i.0.5 ((t.station.0, subst (λ m. station_of e ≤ m) i.2 t.station.1), tt),
      ),
      t.same.0 ∙ i.1,
      t.same.1 ∙ i.2,
      t.same.2 ∙ i.3,
      omega (arith, few, a),
      subst (AreWithin made) (sym p.batch) (all_append _ (commands_in c.loop.room.batch.items) one i.5 within),
      ap length p.ended ∙ length-ended (e ∷ []) c.loop.ended.items ∙ i.6,
    )

pub returns-in_default-clause-taken : goal.returns-in_default-clause-taken
returns-in_default-clause-taken g c =
    let i = c.loop.invariant in
    let e = c.in_default.ensures in
    let n = i.0.3 in
    let few : c.loop.counter ≤ 64 = search rules in
    record {
      popped = i.0.0;
      taken = record {
        taken = e.taken.0 ∙ i.0.1;
        most = omega (arith, n, few);
        all = inr e.taken.1;
        queue = e.same.0 ∙ i.1;
        made = e.same.1 ∙ i.2;
        settled = e.same.2 ∙ i.3;
        stations = i.0.5;
      };
      these = i.0.2;
      ended = i.0.4;
    }

pub returns-clause-taken : goal.returns-clause-taken
returns-clause-taken g c =
    let i = c.loop.invariant in
    let n = i.0.3 in
    let all : c.loop.counter ≡ 64 = search rules in
    record {
      popped = i.0.0;
      taken = record {
        taken = i.0.1;
        most = omega (arith, n, all);
        all = inl (n ∙ all);
        queue = i.1;
        made = i.2;
        settled = i.3;
        stations = i.0.5;
      };
      these = i.0.2;
      ended = i.0.4;
    }
