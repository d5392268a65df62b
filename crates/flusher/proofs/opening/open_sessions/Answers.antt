use Rattle.std.proofs.Common.{◌≡◌, ◌+◌, List, [], ◌∷◌, ◌++◌, length, ap, sym, ◌∙◌, subst, arith, append_assoc, length-append}
use Rattle.std.specs.declared.alloc.Global.{Global}
use Rattle.centre_core.specs.Asked.{Asked}
use Rattle.std.specs.Prelude.{All, vec_len}
use Rattle.std.proofs.lemmas.List.Elements.{All-nil, All-push, All-same}
use Rattle.base.proofs.Lists.{fewer_before}
use Rattle.station_queue.specs.Ends.{Sending}
use Rattle.station_queue.specs.Entries.{share_of}
use Rattle.flusher.specs.declared.session.Session.{Session}
use Rattle.flusher.specs.Opened.{IsNewSession}
use Rattle.flusher.proofs.Beginning.{all_but_last, no_sessions, one_more_session, this_station}
use Rattle.flusher.proofs.opening.open_sessions.Goals as goal

pub loop-sender-init : goal.loop-sender-init
loop-sender-init g c =
    let none = c.in_ok-senders.ensures.items in
    let also_none = c.in_ok-sessions.ensures.items in
    let count = c.args.stations.ok.0 in
    record {
      in_turn = c.into_iter-sender-iterator.ensures.into_iter_gives.0;
      rest = omega (arith, ap length c.into_iter-sender-iterator.ensures.into_iter_gives.0, c.into_iter-sender-iterator.ensures.into_iter_gives.1, count);
      count = ap length none;
      viewers = omega (arith, c.requires.viewers);
      none_seen = c.requires.none_seen;
      room = omega (arith, c.in_ok-senders.ensures.exact, c.len-count.ensures, count);
      also_room = omega (arith, c.in_ok-sessions.ensures.exact, c.len-count.ensures, count);
      shares = All-same (λ (s : Session g.row.J.Denot). s.share ≡ c.share_of-share.result) _ _ also_none (All-nil (λ (s : Session g.row.J.Denot). s.share ≡ c.share_of-share.result));
      made = no_sessions c.args.taker.queue c.in_ok-senders.senders.items c.in_ok-sessions.sessions.items none also_none;
    }

pub unreachable-requires : goal.unreachable-requires
unreachable-requires g c =
    let i = c.loop-sender.invariant in
    let split = subst (λ l. c.loop-sender.yielded ++ l ≡ c.args.stations.items) c.in-Some.ensures.steps.0 i.in_turn in
    let few = fewer_before c.loop-sender.yielded c.in-Some.sender c.next.new.self.rest.items c.args.stations.items split in
    omega (arith, few, i.viewers, c.in_default.ensures.cases.0, c.loop-sender.viewers.ok.0)

pub open_session-requires-clause-none_sent : goal.open_session-requires-clause-none_sent
open_session-requires-clause-none_sent g c =
    let i = c.loop-sender.invariant in
    let split = subst (λ l. c.loop-sender.yielded ++ l ≡ c.args.stations.items) c.in-Some.ensures.steps.0 i.in_turn in
    ap (λ (s : Sending). s.sent) (this_station c.args.taker.queue c.loop-sender.yielded c.in-Some.sender c.next.new.self.rest.items c.args.stations.items split c.requires.stations)

pub open_session-requires-clause-none_seen : goal.open_session-requires-clause-none_seen
open_session-requires-clause-none_seen g c =
    (all_but_last (λ (v : List (Asked Global)). v ≡ []) c.loop-sender.viewers.items c.pop.new.self.items c.in-Some-pop.viewer c.in-Some-pop.ensures.items c.loop-sender.invariant.none_seen).1

pub push_reserved-requires : goal.push_reserved-requires
push_reserved-requires g c =
    let i = c.loop-sender.invariant in
    let split = subst (λ l. c.loop-sender.yielded ++ l ≡ c.args.stations.items) c.in-Some.ensures.steps.0 i.in_turn in
    let few = fewer_before c.loop-sender.yielded c.in-Some.sender c.next.new.self.rest.items c.args.stations.items split in
    omega (arith, few, i.count, i.room, c.loop-sender.senders.ok.0)

pub push_reserved-requires-in-loop-sender : goal.push_reserved-requires-in-loop-sender
push_reserved-requires-in-loop-sender g c =
    let i = c.loop-sender.invariant in
    let split = subst (λ l. c.loop-sender.yielded ++ l ≡ c.args.stations.items) c.in-Some.ensures.steps.0 i.in_turn in
    let few = fewer_before c.loop-sender.yielded c.in-Some.sender c.next.new.self.rest.items c.args.stations.items split in
    omega (arith, few, i.count, i.made.count, i.also_room, c.loop-sender.sessions.ok.0)

pub loop-sender-preserved : goal.loop-sender-preserved
loop-sender-preserved g c =
    let i = c.loop-sender.invariant in
    let q = c.args.taker.queue in
    let done = c.loop-sender.yielded in
    let sender = c.in-Some.sender in
    let rest = c.next.new.self.rest.items in
    let step = c.in-Some.ensures.steps in
    let split = subst (λ l. done ++ l ≡ c.args.stations.items) step.0 i.in_turn in
    let this = this_station q done sender rest c.args.stations.items split c.requires.stations in
    let answers = c.in_ok-answers.answers in
    let session = c.in_ok-answers.session in
    let senders = c.loop-sender.senders.items in
    let sessions = c.loop-sender.sessions.items in
    let more = c.push_reserved.ensures.items in
    let also_more = c.push_reserved-in-loop-sender.ensures.items in
    let viewers = all_but_last (λ (v : List (Asked Global)). v ≡ []) c.loop-sender.viewers.items c.pop.new.self.items c.in-Some-pop.viewer c.in-Some-pop.ensures.items i.none_seen in
    let mine : IsNewSession q (length done + 1) answers session = subst (λ (s : Sending). IsNewSession s.queue s.station answers session) this c.in_ok-answers.ensures.new in
    let new : IsNewSession q (length senders + 1) answers session = subst (λ n. IsNewSession q (n + 1) answers session) (sym i.count) mine in
    record {
      in_turn = append_assoc done (sender ∷ []) rest ∙ split;
      rest = omega (arith, ap length step.0, step.1, i.rest);
      count = omega (arith, ap length more, length-append senders (answers ∷ []), length-append done (sender ∷ []), i.count);
      viewers = omega (arith, ap length c.in-Some-pop.ensures.items, length-append c.pop.new.self.items (c.in-Some-pop.viewer ∷ []), length-append done (sender ∷ []), i.viewers);
      none_seen = viewers.0;
      room = c.push_reserved.ensures.capacity ∙ i.room;
      also_room = c.push_reserved-in-loop-sender.ensures.capacity ∙ i.also_room;
      shares = All-same (λ (s : Session g.row.J.Denot). s.share ≡ c.share_of-share.result) _ _ also_more
          (All-push (λ (s : Session g.row.J.Denot). s.share ≡ c.share_of-share.result) sessions session i.shares c.in_ok-answers.ensures.share);
      made = one_more_session q senders c.push_reserved.new.self.items sessions c.push_reserved-in-loop-sender.new.self.items answers session more also_more i.made new;
    }

pub returns : goal.returns
returns g c =
    let i = c.loop-sender.invariant in
    let count : vec_len c.args.stations ≡ length c.args.stations.items = omega (arith, c.args.stations.ok.0) in
    record {
      queue = c.requires.queue;
      count = omega (arith, i.count, ap length i.in_turn, length-append c.loop-sender.yielded c.loop-sender.sender-iterator.rest.items, i.rest, c.in-None.ensures.steps.0);
      each = i.made;
      shares = subst (λ n. All (λ (s : Session g.row.J.Denot). s.share ≡ n) c.loop-sender.sessions.items) (c.share_of-share.ensures.share ∙ ap share_of (c.len-count.ensures ∙ count)) i.shares;
    }
