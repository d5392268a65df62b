use Rattle.std.proofs.Common.{◌≡◌, ◌++◌, ◌≤◌, List, ℕ, Option, None, Some, [], length, take, refl, sym, ap, inl, inr, subst, ◌∙◌, arith, append_assoc}
use Rattle.std.proofs.lemmas.List.{append-nil}
use Rattle.std.proofs.lemmas.Grind.{common_steps}
use Rattle.std.proofs.lemmas.Result.{err_from_is_err_and}
use Rattle.register_text.specs.Dump.{IsAll}
use Rattle.register_text.specs.Inside.Going.{outcome}
use Rattle.register_text.specs.Passing.{FitsPiece, HasCome, IsPiece}
use Rattle.register_text.proofs.Parts.{fault_from}
use Rattle.register_text.proofs.Passing.{kept_good, none_passed, one_more, piece_unread, reader_failed}
use Rattle.register_text.proofs.loading.Reading.take_all.Goals as goal

-- a reader that gave all that it had has nothing left
all_given : (known : Option (List ℕ)) (given : List ℕ) → ((text : List ℕ) → known ≡ Some text → text ≡ given) → IsAll known given
all_given None given all = tt
all_given (Some text) given all = all text refl

pub loop-init : goal.loop-init
loop-init g c = (omega (arith, c.requires.first), c.requires.kept, ([], none_passed g.R.TextSource.gave c.args.reader.now, λ left. refl, λ text known. (text, known, refl)))

pub returns-in-None-clause-ok : goal.returns-in-None-clause-ok
returns-in-None-clause-ok g c =
    let so = c.loop.invariant.2 in (
      so.0,
      all_given (g.R.Read.remaining c.args.reader.now) so.0 (λ text known.
          let left = so.3 text known in
          let piece = subst (λ (p : Option ℕ). IsPiece p c.next_piece.new.buffer left.0 (g.R.Read.remaining c.next_piece.new.self)) c.in-None.is (c.in-Ok.ensures.known left.0 left.1) in
          left.2 ∙ ap (λ (l : List ℕ). so.0 ++ l) piece.0 ∙ append-nil so.0),
      ap (outcome c.args.self.now) (sym (append-nil so.0)) ∙ so.2 [],
    )

pub returns-in-None-clause-whole : goal.returns-in-None-clause-whole
returns-in-None-clause-whole g c =
    let so = c.loop.invariant.2 in (
      so.0,
      (
        c.loop.counter,
        c.loop.reader,
        so.1,
        subst (λ (p : Option ℕ). HasCome g.R.TextSource.gave g.R.TextSource.ended c.loop.reader p c.next_piece.new.buffer c.next_piece.new.self) c.in-None.is c.in-Ok.ensures.came,
      ),
      ap (outcome c.args.self.now) (sym (append-nil so.0)) ∙ so.2 [],
    )

pub returns-in_default-clause-unread : goal.returns-in_default-clause-unread
returns-in_default-clause-unread g c =
    let so = c.loop.invariant.2 in
    reader_failed g.R.TextSource.gave g.R.TextSource.ended g.R.TextSource.failed (outcome c.args.self.now) (outcome c.loop.self) c.args.reader.now c.next_piece.new.self so.0
    (inl (c.loop.counter, c.loop.reader, so.1, c.in_default.ensures.refused)) (kept_good c.loop.self.number c.loop.self.loader c.loop.self.line.items c.loop.invariant.1) so.2

pub returns-clause-unread : goal.returns-clause-unread
returns-clause-unread g c =
    let so = c.loop.invariant.2 in
    reader_failed g.R.TextSource.gave g.R.TextSource.ended g.R.TextSource.failed (outcome c.args.self.now) (outcome c.loop.self) c.args.reader.now c.loop.reader so.0
    (inr (c.loop.counter, so.1, c.loop-test.false)) (kept_good c.loop.self.number c.loop.self.loader c.loop.self.line.items c.loop.invariant.1) so.2

pub returns-in_err-take_piece-in-Some-clause-fault : goal.returns-in_err-take_piece-in-Some-clause-fault
returns-in_err-take_piece-in-Some-clause-fault g c =
    let p = err_from_is_err_and c.from_residual.result c.from_residual.ensures.1 in
    rw (p.1, p.2) (λ text known.
    let so = c.loop.invariant.2 in
    let left = so.3 text known in
    let piece = subst (λ (p : Option ℕ). IsPiece p c.next_piece.new.buffer left.0 (g.R.Read.remaining c.next_piece.new.self)) c.in-Some.is (c.in-Ok.ensures.known left.0 left.1) in
    fault_from _ _ _ (ap (outcome c.args.self.now) left.2 ∙ so.2 left.0 ∙ ap (outcome c.loop.self) piece.2) (c.in_err-take_piece-in-Some.ensures.fault piece.0))

pub returns-in_err-take_piece-in-Some-clause-unread : goal.returns-in_err-take_piece-in-Some-clause-unread
returns-in_err-take_piece-in-Some-clause-unread g c =
    let p = err_from_is_err_and c.from_residual.result c.from_residual.ensures.1 in
    let so = c.loop.invariant.2 in
    let n = c.in-Some.n in
    let buffer = c.next_piece.new.buffer in
    let bound : n ≤ length buffer = subst (λ (p : Option ℕ). FitsPiece p (length buffer)) c.in-Some.is c.in-Ok.ensures.bound in
    let taken : length (take n buffer) ≤ n = grind (arith, common_steps) in
    rw (p.1, p.2) (piece_unread g.R.TextSource.gave g.R.TextSource.ended g.R.TextSource.failed (outcome c.args.self.now) (outcome c.loop.self)
    c.loop.counter c.args.reader.now c.loop.reader c.next_piece.new.self
    so.0 (take n buffer) _ so.1
    (subst (λ (p : Option ℕ). HasCome g.R.TextSource.gave g.R.TextSource.ended c.loop.reader p buffer c.next_piece.new.self) c.in-Some.is c.in-Ok.ensures.came)
    (omega (arith, bound, taken, c.next_piece.auto.buffer)) (kept_good c.loop.self.number c.loop.self.loader c.loop.self.line.items c.loop.invariant.1) so.2
    c.in_err-take_piece-in-Some.ensures.kinds c.in_err-take_piece-in-Some.ensures.fault)

pub loop-preserved : goal.loop-preserved
loop-preserved g c =
    let so = c.loop.invariant.2 in
    let n = c.in-Some.n in
    let buffer = c.next_piece.new.buffer in (
      (let bound : n ≤ length buffer = subst (λ (p : Option ℕ). FitsPiece p (length buffer)) c.in-Some.is c.in-Ok.ensures.bound in
          let taken : length (take n buffer) ≤ n = grind (arith, common_steps) in
          omega (arith, bound, taken, c.in_ok-take_piece-in-Some.ensures.number, c.loop.invariant.0, c.next_piece.auto.buffer)),
      c.in_ok-take_piece-in-Some.ensures.kept,
      (
        so.0 ++ take n buffer,
        one_more g.R.TextSource.gave c.loop.counter c.args.reader.now c.loop.reader c.next_piece.new.self so.0 (take n buffer) so.1
            (subst (λ (p : Option ℕ). HasCome g.R.TextSource.gave g.R.TextSource.ended c.loop.reader p buffer c.next_piece.new.self) c.in-Some.is c.in-Ok.ensures.came),
        λ left. ap (outcome c.args.self.now) (append_assoc so.0 (take n buffer) left) ∙ so.2 (take n buffer ++ left) ∙ c.in_ok-take_piece-in-Some.ensures.ok left,
        λ text known.
            let rest = so.3 text known in
            let piece = subst (λ (p : Option ℕ). IsPiece p buffer rest.0 (g.R.Read.remaining c.next_piece.new.self)) c.in-Some.is (c.in-Ok.ensures.known rest.0 rest.1) in
            (piece.0, piece.1, rest.2 ∙ ap (λ (l : List ℕ). so.0 ++ l) piece.2 ∙ sym (append_assoc so.0 (take n buffer) piece.0)),
      ),
    )
