use Rattle.std.proofs.Common.{◌-◌, ◌++◌, List, ℕ, [], refl, sym, ap, subst, ◌∙◌, append_assoc}
use Rattle.std.specs.Prelude.{map as each}
use Rattle.std.proofs.lemmas.List.{append-nil}
use Rattle.std.proofs.lemmas.Result.{err_from_is_err_and}
use Rattle.std.specs.Io.KnownBytes.{Appends, append_known}
use Rattle.std.proofs.KnownBytes.{Appends-kept, Appends-nil, Appends-trans}
use Rattle.image_rows.specs.Rows.{rows_of}
use Rattle.image_rows.specs.Walking.{row_after}
use Rattle.register_text.specs.Dump.{ended}
use Rattle.register_text.specs.Inside.Going.{IsHeld}
use Rattle.register_text.specs.Lines.{row_line}
use Rattle.register_text.specs.Text.{row_ended}
use Rattle.register_text.proofs.Passing.{held_on, not_called, out_of_memory, unwritten_after}
use Rattle.register_text.proofs.Written.{all_rows, begun, grown, lines_after, no_more, one_more, out_of_turns, turns}
use Rattle.register_text.proofs.dumping.write_rows.Goals as goal

pub loop-init : goal.loop-init
loop-init g c = (
  [],
  Appends-nil _,
  begun c.args.register.now _ _ refl refl,
  not_called g.W.TextSink.took c.args.out.now c.args.text.now.items c.args.text.now.items [] (sym (append-nil c.args.text.now.items)),
)

pub returns-in-None-clause-known : goal.returns-in-None-clause-known
returns-in-None-clause-known g c =
    let s = c.args.register.now in
    let so = c.loop.invariant in
    let row = row_after 1 s c.loop.after in
    let last = no_more s c.loop.counter c.loop.after c.loop-test.true (sym c.in-None.is ∙ c.in-Ok.ensures.place) in
    subst (λ (l : List ℕ). Appends (append_known (g.W.Write.contents c.args.out.now) c.args.text.now.items) (append_known (g.W.Write.contents c.loop.out) c.line_after.new.out.items) l)
    (ap (λ (l : List ℕ). so.0 ++ l) (sym last) ∙ so.2 ∙ all_rows s c.registers.ensures.state c.registers.ensures.ranges)
    (Appends-trans _ _ _ so.0 (row_ended row) so.1 (grown _ _ _ _ c.in-Ok.ensures.ok))

pub returns-in-None-clause-held : goal.returns-in-None-clause-held
returns-in-None-clause-held g c =
    let s = c.args.register.now in
    let so = c.loop.invariant in
    let row = row_after 1 s c.loop.after in
    let last = no_more s c.loop.counter c.loop.after c.loop-test.true (sym c.in-None.is ∙ c.in-Ok.ensures.place) in
    let took = g.W.TextSink.took in
    subst (λ (l : List ℕ). IsHeld took c.args.out.now c.args.text.now.items c.loop.out c.line_after.new.out.items l)
    (ap (λ (l : List ℕ). so.0 ++ l) (sym last) ∙ so.2 ∙ all_rows s c.registers.ensures.state c.registers.ensures.ranges)
    (held_on took c.args.out.now c.loop.out c.loop.out c.args.text.now.items c.loop.text.items c.line_after.new.out.items so.0 (row_ended row) so.3
    (not_called took c.loop.out c.loop.text.items c.line_after.new.out.items (row_ended row) c.in-Ok.ensures.ok))

pub returns-in_default-clause-unwritten : goal.returns-in_default-clause-unwritten
returns-in_default-clause-unwritten g c =
    let s = c.args.register.now in
    let so = c.loop.invariant in
    let held = c.args.text.now.items in
    out_of_memory g.W.TextSink.took g.W.TextSink.failed c.args.out.now c.loop.out held c.loop.text.items so.0 (lines_after s (turns - c.loop.counter) c.loop.after)
    (held ++ ended (each row_line (rows_of 1 s))) so.3
    (ap (λ (l : List ℕ). held ++ l) (sym (so.2 ∙ all_rows s c.registers.ensures.state c.registers.ensures.ranges)) ∙ sym (append_assoc held so.0 _))

pub returns-in_err-pass_on-in-Some-clause-unwritten : goal.returns-in_err-pass_on-in-Some-clause-unwritten
returns-in_err-pass_on-in-Some-clause-unwritten g c =
    let p = err_from_is_err_and c.from_residual.result c.from_residual.ensures.1 in
    let s = c.args.register.now in
    let so = c.loop.invariant in
    let row = row_after 1 s c.loop.after in
    let next = one_more s c.loop.counter c.loop.after c.in-Some.place c.loop-test.true (sym c.in-Some.is ∙ c.in-Ok.ensures.place) in
    let held = c.args.text.now.items in
    let took = g.W.TextSink.took in
    let now = held_on took c.args.out.now c.loop.out c.loop.out held c.loop.text.items c.line_after.new.out.items so.0 (row_ended row) so.3
    (not_called took c.loop.out c.loop.text.items c.line_after.new.out.items (row_ended row) c.in-Ok.ensures.ok) in
    rw (p.1, p.2) (unwritten_after took g.W.TextSink.failed _ c.args.out.now c.loop.out c.pass_on.new.out held c.line_after.new.out.items (so.0 ++ row_ended row) _
    (held ++ ended (each row_line (rows_of 1 s))) now
    (ap (λ (l : List ℕ). held ++ l)
    (sym (append_assoc so.0 (row_ended row) _ ∙ ap (λ (l : List ℕ). so.0 ++ l) (sym next) ∙ so.2 ∙
    all_rows s c.registers.ensures.state c.registers.ensures.ranges)) ∙ sym (append_assoc held (so.0 ++ row_ended row) _))
    c.in_err-pass_on-in-Some.ensures.refused)

pub loop-preserved : goal.loop-preserved
loop-preserved g c =
    let s = c.args.register.now in
    let so = c.loop.invariant in
    let row = row_after 1 s c.loop.after in
    let next = one_more s c.loop.counter c.loop.after c.in-Some.place c.loop-test.true (sym c.in-Some.is ∙ c.in-Ok.ensures.place) in
    let took = g.W.TextSink.took in
    let held = c.args.text.now.items in
    let new = c.pass_on.new in (
      so.0 ++ row_ended row,
      Appends-trans _ _ _ so.0 (row_ended row) so.1 (Appends-kept _ _ _ _ (grown _ _ _ _ c.in-Ok.ensures.ok) c.in_ok-pass_on-in-Some.ensures.known),
      append_assoc so.0 (row_ended row) _ ∙ ap (λ (l : List ℕ). so.0 ++ l) (sym next) ∙ so.2,
      subst (λ (l : List ℕ). IsHeld took c.args.out.now held new.out new.text.items l) (append-nil (so.0 ++ row_ended row))
          (held_on took c.args.out.now c.loop.out new.out held c.line_after.new.out.items new.text.items (so.0 ++ row_ended row) []
          (held_on took c.args.out.now c.loop.out c.loop.out held c.loop.text.items c.line_after.new.out.items so.0 (row_ended row) so.3
          (not_called took c.loop.out c.loop.text.items c.line_after.new.out.items (row_ended row) c.in-Ok.ensures.ok))
          c.in_ok-pass_on-in-Some.ensures.held),
    )

pub returns-clause-known : goal.returns-clause-known
returns-clause-known g c =
    let s = c.args.register.now in
    let so = c.loop.invariant in
    let none = out_of_turns s c.loop.counter c.loop.after c.loop-test.false in
    subst (λ (l : List ℕ). Appends (append_known (g.W.Write.contents c.args.out.now) c.args.text.now.items) (append_known (g.W.Write.contents c.loop.out) c.loop.text.items) l)
    (sym (append-nil so.0) ∙ ap (λ (l : List ℕ). so.0 ++ l) (sym none) ∙ so.2 ∙ all_rows s c.registers.ensures.state c.registers.ensures.ranges) so.1

pub returns-clause-held : goal.returns-clause-held
returns-clause-held g c =
    let s = c.args.register.now in
    let so = c.loop.invariant in
    let none = out_of_turns s c.loop.counter c.loop.after c.loop-test.false in
    subst (λ (l : List ℕ). IsHeld g.W.TextSink.took c.args.out.now c.args.text.now.items c.loop.out c.loop.text.items l)
    (sym (append-nil so.0) ∙ ap (λ (l : List ℕ). so.0 ++ l) (sym none) ∙ so.2 ∙ all_rows s c.registers.ensures.state c.registers.ensures.ranges) so.3
