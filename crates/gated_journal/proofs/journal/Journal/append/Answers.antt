use Rattle.std.proofs.Common.{rules, ◌≡◌, ◌∙◌, List, ℕ, length, take, ap, sym, arith}
use Rattle.std.proofs.lemmas.Result.{err_from_is_err_and}
use Rattle.gated_journal.specs.Record.{given}
use Rattle.gated_journal.proofs.Given.{given_count}
use Rattle.gated_journal.proofs.Written.{next_short}
use Rattle.gated_journal.proofs.journal.Journal.append.Goals as goal

pub append_text-requires-clause-some : goal.append_text-requires-clause-some
append_text-requires-clause-some g c = let short = next_short _ (given g.row.A.Denot c.args.commands.now) _ c.put_padded-len.ensures.next in
    omega (arith, ap (λ (bytes : List ℕ). length (take c.put_padded-len.result bytes)) c.as_slice-bytes.ensures, short.0)

pub append_text-requires-clause-small : goal.append_text-requires-clause-small
append_text-requires-clause-small g c = let short = next_short _ (given g.row.A.Denot c.args.commands.now) _ c.put_padded-len.ensures.next in
    omega (arith, ap (λ (bytes : List ℕ). length (take c.put_padded-len.result bytes)) c.as_slice-bytes.ensures, short.1)

pub invariant_of-data : goal.invariant_of-data
invariant_of-data g c = rw c.as_slice-bytes.ensures (record { same = c.put_padded-len.ensures.padded })

pub put_padded-len-requires-clause-next : goal.put_padded-len-requires-clause-next
put_padded-len-requires-clause-next g c = record {
  some = c.requires.some;
  few = c.requires.few;
  number = rw c.self.view_is (omega (arith, c.requires.some, c.requires.counts));
}

pub returns-in_err-append_text-clause-adds : goal.returns-in_err-append_text-clause-adds
returns-in_err-append_text-clause-adds g c =
    let p = err_from_is_err_and c.from_residual.result c.from_residual.ensures.1 in
    let adds = c.in_err-append_text.ensures.adds in
    let text = ap (λ (bytes : List ℕ). take c.put_padded-len.result bytes) c.as_slice-bytes.ensures ∙ c.put_padded-len.ensures.items in
    rw (← c.self.view_is, p.1) (record {
      any_moment = λ before entries honest settled. adds.any_moment before entries (given g.row.A.Denot c.args.commands.now) (rw c.as_slice-bytes.ensures c.put_padded-len.ensures.next) honest settled;
      acknowledged = tt;
      durable = λ honest. tt;
      elsewhere = λ honest. tt;
      next = tt;
      calls = tt;
      some_calls = rw text at adds.some_calls;
    })

pub returns-clause-adds : goal.returns-clause-adds
returns-clause-adds g c =
    let count : length c.args.commands.now ≡ length (given g.row.A.Denot c.args.commands.now) = sym (given_count g.row.A.Denot c.args.commands.now) in
    let adds = c.in_ok-append_text.ensures.adds in
    let text = ap (λ (bytes : List ℕ). take c.put_padded-len.result bytes) c.as_slice-bytes.ensures ∙ c.put_padded-len.ensures.items in
    rw (← c.self.view_is) (record {
      any_moment = λ before entries honest settled. adds.any_moment before entries (given g.row.A.Denot c.args.commands.now) (rw c.as_slice-bytes.ensures c.put_padded-len.ensures.next) honest settled;
      acknowledged = rw count (λ before entries honest settled. adds.acknowledged before entries (given g.row.A.Denot c.args.commands.now)
          (rw c.as_slice-bytes.ensures c.put_padded-len.ensures.next) honest settled);
      durable = adds.durable;
      elsewhere = adds.elsewhere;
      next = search rules;
      calls = rw text at adds.calls;
      some_calls = rw text at adds.some_calls;
    })
