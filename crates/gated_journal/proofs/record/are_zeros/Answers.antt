use Rattle.std.proofs.Common.{◌≡◌, ℕ, eqb, List, ◌∷◌, length, take, sym, ap, subst, ◌∙◌}
use Rattle.std.specs.Cmp.Lexicographic.{pointwise}
use Rattle.std.specs.List.{list_all}
use Rattle.gated_journal.specs.Record.{is_zero}
use Rattle.gated_journal.proofs.Zeros.{shifted}
use Rattle.gated_journal.proofs.record.are_zeros.Goals as goal

pub returns-then-first-eq0 : goal.returns-then-first-eq0
returns-then-first-eq0 c =
    let rest = c.in-Some.rest.now in
    let whole : c.args.bytes.now ≡ 0 ∷ rest = c.in-Some.ensures.cases.0 ∙ ap (λ b. b ∷ rest) c.if-first-eq0.true in
    c.eq.ensures ∙ subst (λ (bytes : List ℕ). pointwise eqb rest (take (length rest) bytes) ≡ list_all is_zero bytes) (sym whole) (shifted 0 rest)
