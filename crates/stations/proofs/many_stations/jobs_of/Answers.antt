use Rattle.std.proofs.Common.{◌≡◌, List, [], ◌∷◌, ◌++◌, length, refl, ap, sym, ◌∙◌, subst, rules, arith, append_assoc, length-append}
use Rattle.std.specs.Prelude.{All, map}
use Rattle.std.proofs.lemmas.List.{append-nil, map-append}
use Rattle.std.proofs.lemmas.List.Elements.{All-nil, All-push}
use Rattle.base.proofs.Lists.{fewer_before, nil_of_length}
use Rattle.flusher.specs.declared.session.Session.{Session}
use Rattle.stations.specs.declared.job.Job.{Job}
use Rattle.stations.specs.declared.port.Port.{Port}
use Rattle.stations.specs.Orders.{may}
use Rattle.stations.proofs.Places.{map_length}
use Rattle.stations.proofs.Zipped.{whole}
use Rattle.stations.proofs.many_stations.jobs_of.Goals as goal

pub loop-session-init : goal.loop-session-init
loop-session-init g c =
    let none = c.requires.new in
    let items : c.into_iter-session-iterator.result.rest.items ≡ c.args.sessions.items = search rules in
    let ports : c.into_iter-ports.result.rest.items ≡ c.args.ports.items = search rules in
    record {
      in_turn = items;
      rest = search rules;
      ports = rw none ports;
      ports_rest = search rules;
      sessions = rw none refl;
      orders = rw none (All-nil (λ (j : Job g.row.J.Denot g.row.I.Denot g.row.O.Denot). j.orders ≡ may c.args.terms.orders j.session.sender.station));
      turns = rw none (All-nil (λ (j : Job g.row.J.Denot g.row.I.Denot g.row.O.Denot). j.turns ≡ c.args.terms.turns));
      room = (let r = c.requires.room in let n = c.args.sessions.ok.0 in omega arith);
    }

pub push_reserved-requires : goal.push_reserved-requires
push_reserved-requires g c =
    let i = c.loop-session.invariant in
    let step : c.loop-session.session-iterator.rest.items ≡ c.in-Some.session ∷ c.next.new.self.rest.items = search rules in
    let split = subst (λ (l : List (Session g.row.J.Denot)). c.loop-session.yielded ++ l ≡ c.args.sessions.items) step i.in_turn in
    let few = fewer_before c.loop-session.yielded c.in-Some.session c.next.new.self.rest.items c.args.sessions.items split in
    let count = sym (map_length (λ (j : Job g.row.J.Denot g.row.I.Denot g.row.O.Denot). j.session) c.loop-session.jobs.items) ∙ ap length i.sessions in
    omega (arith, few, count, i.room, c.loop-session.jobs.ok.0)

pub unreachable-requires : goal.unreachable-requires
unreachable-requires g c =
    let i = c.loop-session.invariant in
    let step : c.loop-session.session-iterator.rest.items ≡ c.in-Some.session ∷ c.next.new.self.rest.items = search rules in
    let split = subst (λ (l : List (Session g.row.J.Denot)). c.loop-session.yielded ++ l ≡ c.args.sessions.items) step i.in_turn in
    let few = fewer_before c.loop-session.yielded c.in-Some.session c.next.new.self.rest.items c.args.sessions.items split in
    let count = sym (map_length (λ (j : Job g.row.J.Denot g.row.I.Denot g.row.O.Denot). j.session) c.loop-session.jobs.items) ∙ ap length i.sessions in
    let also = map_length (λ (j : Job g.row.J.Denot g.row.I.Denot g.row.O.Denot). j.port) c.loop-session.jobs.items in
    let all = sym (length-append (map (λ (j : Job g.row.J.Denot g.row.I.Denot g.row.O.Denot). j.port) c.loop-session.jobs.items) c.loop-session.ports.rest.items) ∙ ap length i.ports in
    let len : c.loop-session.ports.rest.len ≡ 0 = search rules in
    omega (arith, few, count, also, all, i.ports_rest, len, c.requires.count)

pub loop-session-preserved : goal.loop-session-preserved
loop-session-preserved g c =
    let i = c.loop-session.invariant in
    let done = c.loop-session.yielded in
    let session = c.in-Some.session in
    let rest = c.next.new.self.rest.items in
    let port = c.in-Some-next.port in
    let jobs = c.loop-session.jobs.items in
    let step : c.loop-session.session-iterator.rest.items ≡ session ∷ rest = search rules in
    let next : c.loop-session.ports.rest.items ≡ port ∷ c.next-in-loop-session.new.self.rest.items = c.in-Some-next.ensures.items in
    let split = subst (λ (l : List (Session g.row.J.Denot)). done ++ l ≡ c.args.sessions.items) step i.in_turn in
    let more = c.push_reserved.ensures.items in
    let of_session : Job g.row.J.Denot g.row.I.Denot g.row.O.Denot → Session g.row.J.Denot = λ j. j.session in
    let May : Job g.row.J.Denot g.row.I.Denot g.row.O.Denot → Type 0 = λ j. j.orders ≡ may c.args.terms.orders j.session.sender.station in
    let new : Job g.row.J.Denot g.row.I.Denot g.row.O.Denot = record { session = session; orders = c.may-may_order.result; turns = c.args.terms.turns; port = port } in
    let may_new : May new = search rules in
    let Turns : Job g.row.J.Denot g.row.I.Denot g.row.O.Denot → Type 0 = λ j. j.turns ≡ c.args.terms.turns in
    let of_port : Job g.row.J.Denot g.row.I.Denot g.row.O.Denot → Port g.row.I.Denot g.row.O.Denot = λ j. j.port in
    record {
      in_turn = append_assoc done (session ∷ []) rest ∙ split;
      rest = search rules;
      ports = ap (λ (l : List (Job g.row.J.Denot g.row.I.Denot g.row.O.Denot)). map of_port l ++ c.next-in-loop-session.new.self.rest.items) more
          ∙ ap (λ l. l ++ c.next-in-loop-session.new.self.rest.items) (map-append of_port jobs (new ∷ []))
          ∙ append_assoc (map of_port jobs) (port ∷ []) c.next-in-loop-session.new.self.rest.items ∙ ap (λ l. map of_port jobs ++ l) (sym next) ∙ i.ports;
      ports_rest = (let old = i.ports_rest in let long = ap length next in let less = c.in-Some-next.ensures.len in omega arith);
      sessions = ap (λ (l : List (Job g.row.J.Denot g.row.I.Denot g.row.O.Denot)). map of_session l) more ∙ map-append of_session jobs (new ∷ []) ∙ ap (λ l. l ++ session ∷ []) i.sessions;
      orders = subst (All May) (sym more) (All-push May jobs new i.orders may_new);
      turns = subst (All Turns) (sym more) (All-push Turns jobs new i.turns refl);
      room = omega (arith, c.push_reserved.ensures.capacity, i.room);
    }

pub returns : goal.returns
returns g c =
    let i = c.loop-session.invariant in
    let len : c.loop-session.session-iterator.rest.len ≡ 0 = search rules in
    let all = whole c.loop-session.yielded c.loop-session.session-iterator.rest.items c.args.sessions.items i.in_turn (i.rest ∙ len) in
    let count = sym (map_length (λ (j : Job g.row.J.Denot g.row.I.Denot g.row.O.Denot). j.session) c.loop-session.jobs.items) ∙ ap length (i.sessions ∙ all) in
    let also = map_length (λ (j : Job g.row.J.Denot g.row.I.Denot g.row.O.Denot). j.port) c.loop-session.jobs.items in
    let sum = sym (length-append (map (λ (j : Job g.row.J.Denot g.row.I.Denot g.row.O.Denot). j.port) c.loop-session.jobs.items) c.loop-session.ports.rest.items) ∙ ap length i.ports in
    let none : c.loop-session.ports.rest.items ≡ [] = nil_of_length c.loop-session.ports.rest.items (omega (arith, count, also, sum, c.requires.count)) in
    record {
      sessions = i.sessions ∙ all;
      ports = sym (append-nil (map (λ (j : Job g.row.J.Denot g.row.I.Denot g.row.O.Denot). j.port) c.loop-session.jobs.items)) ∙
          ap (λ l. map (λ (j : Job g.row.J.Denot g.row.I.Denot g.row.O.Denot). j.port) c.loop-session.jobs.items ++ l) (sym none) ∙ i.ports;
      orders = i.orders;
      turns = i.turns;
      count = omega (arith, count, c.loop-session.jobs.ok.0, c.args.sessions.ok.0);
    }
