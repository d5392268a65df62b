use Rattle.std.proofs.Common.{◌≡◌, List, [], ◌∷◌, ◌++◌, length, ap, sym, ◌∙◌, subst, rules, arith, append_assoc}
use Rattle.std.specs.Prelude.{map}
use Rattle.std.proofs.lemmas.List.{map-append}
use Rattle.base.proofs.Lists.{fewer_before}
use Rattle.flusher.specs.declared.session.Ended.{Ended}
use Rattle.stations.specs.declared.job.Done.{Done}
use Rattle.stations.specs.declared.station_run.StationRun.{StationRun}
use Rattle.stations.proofs.Places.{map_length}
use Rattle.stations.proofs.Zipped.{whole}
use Rattle.stations.proofs.many_stations.split_done.Goals as goal

pub loop-one-init : goal.loop-one-init
loop-one-init g c =
    let items : c.into_iter-one-iterator.result.rest.items ≡ c.args.done.items = search rules in
    record {
      in_turn = items;
      rest = search rules;
      ended = c.requires.new.0;
      runs = c.requires.new.1;
      ended_room = (let r = c.requires.room.0 in let n = c.args.done.ok.0 in omega arith);
      runs_room = (let r = c.requires.room.1 in let n = c.args.done.ok.0 in omega arith);
    }

pub push_reserved-requires : goal.push_reserved-requires
push_reserved-requires g c =
    let i = c.loop-one.invariant in
    let step : c.loop-one.one-iterator.rest.items ≡ c.in-Some.one ∷ c.next.new.self.rest.items = search rules in
    let split = subst (λ (l : List (Done g.row.J.Denot g.row.I.Denot g.row.O.Denot)). c.loop-one.yielded ++ l ≡ c.args.done.items) step i.in_turn in
    let few = fewer_before c.loop-one.yielded c.in-Some.one c.next.new.self.rest.items c.args.done.items split in
    let count = ap length i.ended ∙ map_length (λ (d : Done g.row.J.Denot g.row.I.Denot g.row.O.Denot). d.ended) c.loop-one.yielded in
    omega (arith, few, count, i.ended_room, c.loop-one.ended.ok.0)

pub push_reserved-requires-in-loop-one : goal.push_reserved-requires-in-loop-one
push_reserved-requires-in-loop-one g c =
    let i = c.loop-one.invariant in
    let step : c.loop-one.one-iterator.rest.items ≡ c.in-Some.one ∷ c.next.new.self.rest.items = search rules in
    let split = subst (λ (l : List (Done g.row.J.Denot g.row.I.Denot g.row.O.Denot)). c.loop-one.yielded ++ l ≡ c.args.done.items) step i.in_turn in
    let few = fewer_before c.loop-one.yielded c.in-Some.one c.next.new.self.rest.items c.args.done.items split in
    let given : Done g.row.J.Denot g.row.I.Denot g.row.O.Denot → StationRun g.row.I.Denot g.row.O.Denot = λ d. d.run in
    let count = ap length i.runs ∙ map_length given c.loop-one.yielded in
    omega (arith, few, count, i.runs_room, c.loop-one.runs.ok.0)

pub loop-one-preserved : goal.loop-one-preserved
loop-one-preserved g c =
    let i = c.loop-one.invariant in
    let done = c.loop-one.yielded in
    let one = c.in-Some.one in
    let rest = c.next.new.self.rest.items in
    let step : c.loop-one.one-iterator.rest.items ≡ one ∷ rest = search rules in
    let split = subst (λ (l : List (Done g.row.J.Denot g.row.I.Denot g.row.O.Denot)). done ++ l ≡ c.args.done.items) step i.in_turn in
    let end : Done g.row.J.Denot g.row.I.Denot g.row.O.Denot → Ended g.row.J.Denot = λ d. d.ended in
    let given : Done g.row.J.Denot g.row.I.Denot g.row.O.Denot → StationRun g.row.I.Denot g.row.O.Denot = λ d. d.run in
    record {
      in_turn = append_assoc done (one ∷ []) rest ∙ split;
      rest = search rules;
      ended = c.push_reserved.ensures.items ∙ ap (λ l. l ++ one.ended ∷ []) i.ended ∙ sym (map-append end done (one ∷ []));
      runs = c.push_reserved-in-loop-one.ensures.items ∙ ap (λ l. l ++ given one ∷ []) i.runs ∙ sym (map-append given done (one ∷ []));
      ended_room = omega (arith, c.push_reserved.ensures.capacity, i.ended_room);
      runs_room = omega (arith, c.push_reserved-in-loop-one.ensures.capacity, i.runs_room);
    }

pub returns : goal.returns
returns g c =
    let i = c.loop-one.invariant in
    let len : c.loop-one.one-iterator.rest.len ≡ 0 = search rules in
    let all = whole c.loop-one.yielded c.loop-one.one-iterator.rest.items c.args.done.items i.in_turn (i.rest ∙ len) in
    record {
      ended = i.ended ∙ ap (λ (l : List (Done g.row.J.Denot g.row.I.Denot g.row.O.Denot)). map (λ (d : Done g.row.J.Denot g.row.I.Denot g.row.O.Denot). d.ended) l) all;
      runs = i.runs ∙ ap (λ (l : List (Done g.row.J.Denot g.row.I.Denot g.row.O.Denot)). map (λ (d : Done g.row.J.Denot g.row.I.Denot g.row.O.Denot). d.run) l) all;
    }
