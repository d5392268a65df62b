use Rattle.std.proofs.Common.{List, [], Err, refl, rules, subst, sym, ap}
use Rattle.std.proofs.lemmas.List.{append-nil}
use Rattle.console.specs.declared.running.RunFault.TheVariants.{NoMemory}
use Rattle.console.specs.Events.{Event}
use Rattle.console.specs.Runs.{Start, speaker_of}
use Rattle.console.specs.Told.{EndsSince, all_read, calls_of, events_of, streams_of}
use Rattle.console.specs.Inside.Passing.{sent_by}
use Rattle.console.proofs.Going.{short_at_once}
use Rattle.console.proofs.Runs.{run_left, told_left, whole_left}
use Rattle.console.proofs.Told.{ends_at_once, has_run, still_passes, told_of}
use Rattle.console.proofs.running.run_counted.Goals as goal

pub returns-in_default-clause-answers : goal.returns-in_default-clause-answers
returns-in_default-clause-answers g c = λ input before known held.
    let start : Start g.D.Desk.World =
    record {
      speaker = speaker_of c.args.terms;
      world = g.D.Desk.world c.args.desk.now;
      unread = g.R.Read.remaining c.args.input.now.reader.now;
      written = g.W.Write.contents c.args.output.now.writer.now;
    } in
    let begun = sent_by g.W.Write.contents c.args.output.now in
    has_run g.D.Desk.rules start begun input before begun start.world (Err NoMemory) held
    (short_at_once g.D.Desk.rules start begun input NoMemory begun (still_passes begun []))

pub returns-in_default-clause-told : goal.returns-in_default-clause-told
returns-in_default-clause-told g c =
    let start : Start g.D.Desk.World =
    record {
      speaker = speaker_of c.args.terms;
      world = g.D.Desk.world c.args.desk.now;
      unread = g.R.Read.remaining c.args.input.now.reader.now;
      written = g.W.Write.contents c.args.output.now.writer.now;
    } in
    let begun = sent_by g.W.Write.contents c.args.output.now in
    let read = all_read c.args.input.now in
    told_of g.D.Desk.rules start begun begun start.world (Err NoMemory) read [] read start.unread (sym (append-nil read)) (λ input known. (input, refl))
    (short_at_once g.D.Desk.rules start begun [] NoMemory begun (still_passes begun []))

pub returns-clause-answers : goal.returns-clause-answers
returns-clause-answers g c =
    run_left g.row.A.Denot g.D.Desk.rules (speaker_of c.args.terms) (g.D.Desk.world c.args.desk.now) c.take_all.result
    (g.D.Desk.world c.take_all.new.self.desk.now) (g.W.Write.contents c.take_all.new.self.output.now.writer.now)
    (ap g.D.Desk.world (search rules)) (ap g.W.Write.contents (search rules)) c.take_all.ensures.answers

pub returns-clause-told : goal.returns-clause-told
returns-clause-told g c =
    told_left g.row.A.Denot g.D.Desk.rules (speaker_of c.args.terms) (g.D.Desk.world c.args.desk.now) c.take_all.result
    (streams_of g.R.Read.remaining g.W.Write.contents c.args.input.now c.args.output.now) (all_read c.take_all.new.input) (g.R.Read.remaining c.take_all.new.input.reader.now)
    (g.D.Desk.world c.take_all.new.self.desk.now) (events_of c.take_all.new.self.output.now) (g.W.Write.contents c.take_all.new.self.output.now.writer.now)
    (ap g.D.Desk.world (search rules)) (search rules) (ap g.W.Write.contents (search rules)) c.take_all.ensures.told

pub returns-in_default-clause-whole : goal.returns-in_default-clause-whole
returns-in_default-clause-whole g c = λ failed. absurd cc

pub returns-clause-whole : goal.returns-clause-whole
returns-clause-whole g c = λ failed.
    whole_left g.row.A.Denot g.D.Desk.rules (speaker_of c.args.terms) (g.D.Desk.world c.args.desk.now)
    (streams_of g.R.Read.remaining g.W.Write.contents c.args.input.now c.args.output.now) (all_read c.take_all.new.input) (g.R.Read.remaining c.take_all.new.input.reader.now)
    (g.W.Write.contents c.take_all.new.self.output.now.writer.now) (g.D.Desk.world c.take_all.new.self.desk.now) (events_of c.take_all.new.self.output.now)
    (ap g.D.Desk.world (search rules)) (search rules) (c.take_all.ensures.whole failed)

pub returns-in_default-clause-ends : goal.returns-in_default-clause-ends
returns-in_default-clause-ends g c = ends_at_once c.args.terms.turns (calls_of c.args.input.now) (events_of c.args.output.now)

pub returns-clause-ends : goal.returns-clause-ends
returns-clause-ends g c =
    subst (λ (l : List Event). EndsSince c.args.terms.turns (calls_of c.args.input.now) (calls_of c.take_all.new.input) (events_of c.args.output.now)
    l c.take_all.result) (search rules) c.take_all.ensures.ends
