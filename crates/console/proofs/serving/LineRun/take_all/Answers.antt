use Rattle.std.proofs.Common.{◌++◌, ◌≤◌, [], ◌∷◌, Err, Result, length, take, sym, subst, refl, ap, ◌∙◌, arith}
use Rattle.std.specs.Prelude.{IsErrOf}
use Rattle.std.proofs.lemmas.Grind.{common_steps}
use Rattle.std.proofs.lemmas.List.{append-nil}
use Rattle.std.proofs.lemmas.Result.{err_from_is_err_and}
use Rattle.console.specs.declared.running.Piece.{Piece}
use Rattle.console.specs.declared.running.Ran.{Ran}
use Rattle.console.specs.declared.running.RunFault.{RunFault}
use Rattle.console.specs.declared.running.RunFault.TheVariants.{Read}
use Rattle.console.specs.Events as event
use Rattle.console.specs.Told.{all_read, calls_of}
use Rattle.console.specs.Inside.Feed.{IsPiece, FitsPiece, read_in, reached_by, start_at}
use Rattle.console.specs.Inside.Passing.{sent_by}
use Rattle.console.proofs.Answering.{never_read, never_memory}
use Rattle.console.proofs.Writing.{at_the_end, passed_on}
use Rattle.console.proofs.Going.{going_start, short_between, still_same}
use Rattle.mailbox.proofs.Results.{known_ok}
use Rattle.console.proofs.Told.{ends_failed, ends_out, ends_read, has_called, has_run, read_failed, read_more, still_passes, told_by, told_of, told_whole}
use Rattle.console.proofs.serving.LineRun.take_all.Goals as goal

pub loop-init : goal.loop-init
loop-init g c =
    let start = start_at (reached_by g.D.Desk.world g.W.Write.contents c.args.self.now) (g.R.Read.remaining c.args.input.now.reader.now) in
    let begun = sent_by g.W.Write.contents c.args.self.now.output.now in (
      omega (arith, c.begin.ensures.lines),
      omega arith,
      omega arith,
      (
        [],
        sym (append-nil (all_read c.args.input.now)),
        λ input known. (input, known, refl),
        going_start g.D.Desk.rules start begun _ refl refl (still_passes begun []) c.begin.ensures.troubled c.begin.ensures.lines c.begin.ensures.current,
      ),
      refl,
      refl,
      refl,
      refl,
      record { terms = refl; progress = refl; output = refl; desk = refl; writer = refl; failures = refl },
      record { calls = []; follows = sym (append-nil (calls_of c.args.input.now)); counted = refl; sound = refl },
    )

pub returns-in_err-read-clause-answers : goal.returns-in_err-read-clause-answers
returns-in_err-read-clause-answers g c = λ input before known held.
    let start = start_at (reached_by g.D.Desk.world g.W.Write.contents c.args.self.now) (g.R.Read.remaining c.args.input.now.reader.now) in
    let begun = sent_by g.W.Write.contents c.args.self.now.output.now in
    let now = sent_by g.W.Write.contents c.loop.self.output.now in
    let t = g.D.Desk.world c.loop.self.desk.now in
    let so = c.loop.invariant.3 in
    let left = so.2 input known in
    let p = err_from_is_err_and c.from_residual.result c.from_residual.ensures.1 in
    has_run g.D.Desk.rules start begun input before now t c.from_residual.result held
    (told_by g.D.Desk.rules start begun (so.0 ++ left.0) input now t (Err p.0) c.from_residual.result (sym left.2) (sym p.1)
    (short_between g.D.Desk.rules start begun so.0 left.0 _ p.0 so.3))

pub returns-in_err-read-clause-told : goal.returns-in_err-read-clause-told
returns-in_err-read-clause-told g c =
    let start = start_at (reached_by g.D.Desk.world g.W.Write.contents c.args.self.now) (g.R.Read.remaining c.args.input.now.reader.now) in
    let begun = sent_by g.W.Write.contents c.args.self.now.output.now in
    let now = sent_by g.W.Write.contents c.loop.self.output.now in
    let t = g.D.Desk.world c.loop.self.desk.now in
    let so = c.loop.invariant.3 in
    let p = err_from_is_err_and c.from_residual.result c.from_residual.ensures.1 in
    told_of g.D.Desk.rules start begun now t c.from_residual.result (all_read c.args.input.now) so.0 (all_read c.read.new.self) (g.R.Read.remaining c.read.new.self.reader.now)
    (read_failed c.loop.input.events.list c.read.new.self.events.list c.in_err-read.ensures.noted ∙ so.1) (λ input known. let left = so.2 input known in (left.0, left.2))
    (told_by g.D.Desk.rules start begun (so.0 ++ []) so.0 now t (Err p.0) c.from_residual.result (append-nil so.0) (sym p.1)
    (short_between g.D.Desk.rules start begun so.0 [] _ p.0 so.3))

pub returns-in-End-clause-answers : goal.returns-in-End-clause-answers
returns-in-End-clause-answers g c = λ input before known held.
    let start = start_at (reached_by g.D.Desk.world g.W.Write.contents c.args.self.now) (g.R.Read.remaining c.args.input.now.reader.now) in
    let begun = sent_by g.W.Write.contents c.args.self.now.output.now in
    let now = sent_by g.W.Write.contents c.finish.new.self.output.now in
    let t = g.D.Desk.world c.finish.new.self.desk.now in
    let so = c.loop.invariant.3 in
    let left = so.2 input known in
    let piece = subst (λ (p : Piece). IsPiece p c.read.new.buffer left.0 (g.R.Read.remaining c.read.new.self.reader.now)) c.in-End.is (c.in_ok-read.ensures.ok left.0 left.1) in
    has_run g.D.Desk.rules start begun input before now t c.finish.result held
    (told_by g.D.Desk.rules start begun so.0 input now t c.finish.result c.finish.result (sym (at_the_end input so.0 left.0 left.2 piece.0)) refl (c.finish.ensures.ends start begun so.0 so.3))

pub returns-in-End-clause-told : goal.returns-in-End-clause-told
returns-in-End-clause-told g c =
    let start = start_at (reached_by g.D.Desk.world g.W.Write.contents c.args.self.now) (g.R.Read.remaining c.args.input.now.reader.now) in
    let begun = sent_by g.W.Write.contents c.args.self.now.output.now in
    let now = sent_by g.W.Write.contents c.finish.new.self.output.now in
    let so = c.loop.invariant.3 in
    let base = all_read c.args.input.now in
    let given = c.in_ok-read.ensures.events ∙ ap (λ (p : Piece). c.loop.input.events.list ++ event.Read (read_in p c.read.new.buffer) ∷ []) c.in-End.is in
    told_of g.D.Desk.rules start begun now (g.D.Desk.world c.finish.new.self.desk.now) c.finish.result base so.0 (all_read c.read.new.self) (g.R.Read.remaining c.read.new.self.reader.now)
    (read_more c.loop.input.events.list c.read.new.self.events.list base so.0 [] given so.1 ∙ ap (λ l. base ++ l) (append-nil so.0))
    (λ input known. let left = so.2 input known in (left.0, left.2)) (c.finish.ensures.ends start begun so.0 so.3)

pub returns-in_err-take_piece-in-Bytes-clause-answers : goal.returns-in_err-take_piece-in-Bytes-clause-answers
returns-in_err-take_piece-in-Bytes-clause-answers g c = λ input before known held.
    let start = start_at (reached_by g.D.Desk.world g.W.Write.contents c.args.self.now) (g.R.Read.remaining c.args.input.now.reader.now) in
    let begun = sent_by g.W.Write.contents c.args.self.now.output.now in
    let now = sent_by g.W.Write.contents c.take_piece.new.self.output.now in
    let t = g.D.Desk.world c.take_piece.new.self.desk.now in
    let so = c.loop.invariant.3 in
    let left = so.2 input known in
    let bytes = take c.in-Bytes.n c.read.new.buffer in
    let piece = subst (λ (p : Piece). IsPiece p c.read.new.buffer left.0 (g.R.Read.remaining c.read.new.self.reader.now)) c.in-Bytes.is (c.in_ok-read.ensures.ok left.0 left.1) in
    let p = err_from_is_err_and c.from_residual-in_err-take_piece-in-Bytes.result c.from_residual-in_err-take_piece-in-Bytes.ensures.1 in
    has_run g.D.Desk.rules start begun input before now t c.from_residual-in_err-take_piece-in-Bytes.result held
    (told_by g.D.Desk.rules start begun ((so.0 ++ bytes) ++ piece.0) input now t (Err p.0) c.from_residual-in_err-take_piece-in-Bytes.result
    (sym (passed_on input so.0 left.0 bytes piece.0 left.2 piece.2)) (sym p.1)
    (c.in_err-take_piece-in-Bytes.ensures.err start begun so.0 piece.0 so.3))

pub returns-in_err-take_piece-in-Bytes-clause-told : goal.returns-in_err-take_piece-in-Bytes-clause-told
returns-in_err-take_piece-in-Bytes-clause-told g c =
    let start = start_at (reached_by g.D.Desk.world g.W.Write.contents c.args.self.now) (g.R.Read.remaining c.args.input.now.reader.now) in
    let begun = sent_by g.W.Write.contents c.args.self.now.output.now in
    let now = sent_by g.W.Write.contents c.take_piece.new.self.output.now in
    let t = g.D.Desk.world c.take_piece.new.self.desk.now in
    let so = c.loop.invariant.3 in
    let base = all_read c.args.input.now in
    let bytes = take c.in-Bytes.n c.read.new.buffer in
    let given = c.in_ok-read.ensures.events ∙ ap (λ (p : Piece). c.loop.input.events.list ++ event.Read (read_in p c.read.new.buffer) ∷ []) c.in-Bytes.is in
    let p = err_from_is_err_and c.from_residual-in_err-take_piece-in-Bytes.result c.from_residual-in_err-take_piece-in-Bytes.ensures.1 in
    told_of g.D.Desk.rules start begun now t c.from_residual-in_err-take_piece-in-Bytes.result base (so.0 ++ bytes) (all_read c.read.new.self) (g.R.Read.remaining c.read.new.self.reader.now)
    (read_more c.loop.input.events.list c.read.new.self.events.list base so.0 bytes given so.1)
    (λ input known.
    let left = so.2 input known in
    let piece = subst (λ (p : Piece). IsPiece p c.read.new.buffer left.0 (g.R.Read.remaining c.read.new.self.reader.now)) c.in-Bytes.is (c.in_ok-read.ensures.ok left.0 left.1) in
    (piece.0, passed_on input so.0 left.0 bytes piece.0 left.2 piece.2))
    (told_by g.D.Desk.rules start begun ((so.0 ++ bytes) ++ []) (so.0 ++ bytes) now t (Err p.0) c.from_residual-in_err-take_piece-in-Bytes.result (append-nil (so.0 ++ bytes)) (sym p.1)
    (c.in_err-take_piece-in-Bytes.ensures.err start begun so.0 [] so.3))

pub loop-preserved : goal.loop-preserved
loop-preserved g c = let kept = c.take_piece.ensures in let was = c.loop.invariant in (
  (let bound : c.in-Bytes.n ≤ length c.read.new.buffer = subst (λ (p : Piece). FitsPiece p (length c.read.new.buffer)) c.in-Bytes.is c.in_ok-read.ensures.bound in
      let taken : length (take c.in-Bytes.n c.read.new.buffer) ≤ c.in-Bytes.n = grind (arith, common_steps) in
      omega (arith, bound, taken, c.take_piece.ensures.lines, c.loop.invariant.0, c.read.auto.buffer)),
  omega (arith, c.loop.invariant.1, c.read.ensures.calls),
  omega (arith, c.loop.invariant.2, c.read.ensures.ledger),
  (let start = start_at (reached_by g.D.Desk.world g.W.Write.contents c.args.self.now) (g.R.Read.remaining c.args.input.now.reader.now) in
      let begun = sent_by g.W.Write.contents c.args.self.now.output.now in
      let so = was.3 in
      let bytes = take c.in-Bytes.n c.read.new.buffer in
      let given = c.in_ok-read.ensures.events ∙ ap (λ (p : Piece). c.loop.input.events.list ++ event.Read (read_in p c.read.new.buffer) ∷ []) c.in-Bytes.is in (
        so.0 ++ bytes,
        read_more c.loop.input.events.list c.read.new.self.events.list (all_read c.args.input.now) so.0 bytes given so.1,
        λ input known.
            let left = so.2 input known in
            let piece = subst (λ (p : Piece). IsPiece p c.read.new.buffer left.0 (g.R.Read.remaining c.read.new.self.reader.now)) c.in-Bytes.is (c.in_ok-read.ensures.ok left.0 left.1) in
            (piece.0, piece.1, passed_on input so.0 left.0 bytes piece.0 left.2 piece.2),
        c.in_ok-take_piece-in-Bytes.ensures.ok start begun so.0 so.3,
      )),
  c.read.ensures.input.reader ∙ was.4,
  c.read.ensures.input.steps ∙ was.5,
  c.read.ensures.input.faults ∙ was.6,
  omega (arith, c.in_ok-take_piece-in-Bytes.ensures.runs.ledger, c.loop.invariant.7),
  still_same c.args.self.now c.loop.self c.take_piece.new.self was.8 kept.runs.same,
  has_called (calls_of c.args.input.now) (calls_of c.loop.input) (calls_of c.read.new.self) (take c.in-Bytes.n c.read.new.buffer) c.loop.counter _
      (c.in_ok-read.ensures.events ∙ ap (λ (p : Piece). c.loop.input.events.list ++ event.Read (read_in p c.read.new.buffer) ∷ []) c.in-Bytes.is) (omega arith) was.9,
)

pub returns-clause-answers : goal.returns-clause-answers
returns-clause-answers g c = λ input before known held.
    let start = start_at (reached_by g.D.Desk.world g.W.Write.contents c.args.self.now) (g.R.Read.remaining c.args.input.now.reader.now) in
    let begun = sent_by g.W.Write.contents c.args.self.now.output.now in
    let now = sent_by g.W.Write.contents c.loop.self.output.now in
    let t = g.D.Desk.world c.loop.self.desk.now in
    let so = c.loop.invariant.3 in
    let left = so.2 input known in
    has_run g.D.Desk.rules start begun input before now t (Err Read) held
    (told_by g.D.Desk.rules start begun (so.0 ++ left.0) input now t (Err Read) (Err Read) (sym left.2) refl
    (short_between g.D.Desk.rules start begun so.0 left.0 _ Read so.3))

pub returns-clause-told : goal.returns-clause-told
returns-clause-told g c =
    let start = start_at (reached_by g.D.Desk.world g.W.Write.contents c.args.self.now) (g.R.Read.remaining c.args.input.now.reader.now) in
    let begun = sent_by g.W.Write.contents c.args.self.now.output.now in
    let now = sent_by g.W.Write.contents c.loop.self.output.now in
    let t = g.D.Desk.world c.loop.self.desk.now in
    let so = c.loop.invariant.3 in
    told_of g.D.Desk.rules start begun now t (Err Read) (all_read c.args.input.now) so.0 (all_read c.loop.input) (g.R.Read.remaining c.loop.input.reader.now) so.1
    (λ input known. let left = so.2 input known in (left.0, left.2))
    (told_by g.D.Desk.rules start begun (so.0 ++ []) so.0 now t (Err Read) (Err Read) (append-nil so.0) refl
    (short_between g.D.Desk.rules start begun so.0 [] _ Read so.3))

pub returns-in_err-read-clause-whole : goal.returns-in_err-read-clause-whole
returns-in_err-read-clause-whole g c = λ failed.
    let start = start_at (reached_by g.D.Desk.world g.W.Write.contents c.args.self.now) (g.R.Read.remaining c.args.input.now.reader.now) in
    let begun = sent_by g.W.Write.contents c.args.self.now.output.now in
    let so = c.loop.invariant.3 in
    told_whole g.D.Desk.rules start begun so.0 (reached_by g.D.Desk.world g.W.Write.contents c.loop.self) (all_read c.args.input.now) (all_read c.read.new.self)
    (g.R.Read.remaining c.read.new.self.reader.now) (read_failed c.loop.input.events.list c.read.new.self.events.list c.in_err-read.ensures.noted ∙ so.1) so.3

pub returns-clause-whole : goal.returns-clause-whole
returns-clause-whole g c = λ failed.
    let start = start_at (reached_by g.D.Desk.world g.W.Write.contents c.args.self.now) (g.R.Read.remaining c.args.input.now.reader.now) in
    let begun = sent_by g.W.Write.contents c.args.self.now.output.now in
    let so = c.loop.invariant.3 in
    told_whole g.D.Desk.rules start begun so.0 (reached_by g.D.Desk.world g.W.Write.contents c.loop.self) (all_read c.args.input.now) (all_read c.loop.input)
    (g.R.Read.remaining c.loop.input.reader.now) so.1 so.3

pub returns-in-End-clause-whole : goal.returns-in-End-clause-whole
returns-in-End-clause-whole g c = λ failed. absurd (never_read c.finish.result c.finish.ensures.runs.stops failed)

pub returns-in_err-take_piece-in-Bytes-clause-whole : goal.returns-in_err-take_piece-in-Bytes-clause-whole
returns-in_err-take_piece-in-Bytes-clause-whole g c = λ failed.
    let p = err_from_is_err_and c.from_residual-in_err-take_piece-in-Bytes.result c.from_residual-in_err-take_piece-in-Bytes.ensures.1 in
    absurd (never_read {T = Ran} (Err c.in_err-take_piece-in-Bytes.field-0.0) c.in_err-take_piece-in-Bytes.ensures.runs.stops
    (subst (λ (r : Result Ran RunFault). IsErrOf r Read) (p.1 ∙ ap Err p.2) failed))

pub returns-in-End-clause-read : goal.returns-in-End-clause-read
returns-in-End-clause-read g c = λ failed. absurd (never_read c.finish.result c.finish.ensures.runs.stops failed)

pub returns-in-End-clause-memory : goal.returns-in-End-clause-memory
returns-in-End-clause-memory g c = never_memory c.finish.result c.finish.ensures.runs.stops

pub returns-in_err-read-clause-ends : goal.returns-in_err-read-clause-ends
returns-in_err-read-clause-ends g c =
    let begun = sent_by g.W.Write.contents c.args.self.now.output.now in
    let now = sent_by g.W.Write.contents c.loop.self.output.now in
    let passed = c.loop.invariant.3.3.passed in
    let p = err_from_is_err_and c.from_residual.result c.from_residual.ensures.1 in
    rw p.1 (ends_failed c.args.self.now.terms.now.turns (calls_of c.args.input.now) (calls_of c.loop.input) c.loop.counter c.loop.invariant.9 begun now passed.events passed.follows
    (calls_of c.read.new.self) p.0 c.in_err-read.ensures.noted c.loop-test.true (p.2 ∙ c.in_err-read.ensures.plain) c.loop.invariant.7)

pub returns-in-End-clause-ends : goal.returns-in-End-clause-ends
returns-in-End-clause-ends g c =
    let start = start_at (reached_by g.D.Desk.world g.W.Write.contents c.args.self.now) (g.R.Read.remaining c.args.input.now.reader.now) in
    let begun = sent_by g.W.Write.contents c.args.self.now.output.now in
    let now = sent_by g.W.Write.contents c.finish.new.self.output.now in
    let so = c.loop.invariant.3 in
    let ended = c.finish.ensures.ends start begun so.0 so.3 in
    ends_read c.args.self.now.terms.now.turns (calls_of c.args.input.now) (calls_of c.loop.input) c.loop.counter c.loop.invariant.9 begun now ended.0 ended.1
    (calls_of c.read.new.self) [] c.finish.result (c.in_ok-read.ensures.events ∙ ap (λ (p : Piece). c.loop.input.events.list ++ event.Read (read_in p c.read.new.buffer) ∷ []) c.in-End.is)
    c.loop-test.true (known_ok c.finish.result refl) c.finish.ensures.runs.stops (omega (arith, c.finish.ensures.runs.ledger, c.loop.invariant.7))

pub returns-in_err-take_piece-in-Bytes-clause-ends : goal.returns-in_err-take_piece-in-Bytes-clause-ends
returns-in_err-take_piece-in-Bytes-clause-ends g c =
    let start = start_at (reached_by g.D.Desk.world g.W.Write.contents c.args.self.now) (g.R.Read.remaining c.args.input.now.reader.now) in
    let begun = sent_by g.W.Write.contents c.args.self.now.output.now in
    let now = sent_by g.W.Write.contents c.take_piece.new.self.output.now in
    let so = c.loop.invariant.3 in
    let ended = c.in_err-take_piece-in-Bytes.ensures.err start begun so.0 [] so.3 in
    let p = err_from_is_err_and c.from_residual-in_err-take_piece-in-Bytes.result c.from_residual-in_err-take_piece-in-Bytes.ensures.1 in
    rw (p.1 ∙ ap Err p.2) (ends_read c.args.self.now.terms.now.turns (calls_of c.args.input.now) (calls_of c.loop.input) c.loop.counter c.loop.invariant.9 begun now ended.0 ended.1
    (calls_of c.read.new.self) (take c.in-Bytes.n c.read.new.buffer) (Err c.in_err-take_piece-in-Bytes.field-0.0)
    (c.in_ok-read.ensures.events ∙ ap (λ (q : Piece). c.loop.input.events.list ++ event.Read (read_in q c.read.new.buffer) ∷ []) c.in-Bytes.is)
    c.loop-test.true tt c.in_err-take_piece-in-Bytes.ensures.runs.stops (omega (arith, c.in_err-take_piece-in-Bytes.ensures.runs.ledger, c.loop.invariant.7)))

pub returns-clause-ends : goal.returns-clause-ends
returns-clause-ends g c =
    let begun = sent_by g.W.Write.contents c.args.self.now.output.now in
    let now = sent_by g.W.Write.contents c.loop.self.output.now in
    let passed = c.loop.invariant.3.3.passed in
    ends_out c.args.self.now.terms.now.turns (calls_of c.args.input.now) (calls_of c.loop.input) c.loop.counter c.loop.invariant.9 begun now
    passed.events passed.follows (omega (arith, c.loop-test.false, c.loop.auto.counter-end)) c.loop.invariant.7
