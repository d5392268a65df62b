use Rattle.std.proofs.Common.{rules, ◌≡◌, ◌≤◌, List, ℕ, length, take, ap, sym, ◌∙◌, arith}
use Rattle.std.proofs.lemmas.Result.{err_from_is_err_and}
use Rattle.gated_journal.specs.Record.{data_size, given}
use Rattle.gated_journal.specs.Settled.{room_of, text_at}
use Rattle.gated_journal.proofs.Given.{given_count}
use Rattle.gated_journal.proofs.Written.{next_short}
use Rattle.gated_journal.proofs.journal.Journal.append_both.Goals as goal

pub append_texts-requires-clause-small : goal.append_texts-requires-clause-small
append_texts-requires-clause-small g c = let short = next_short _ (given g.row.A.Denot c.args.commands.now) _ c.put_padded-len.ensures.next in
    omega (arith, ap (λ (bytes : List ℕ). length (take c.put_padded-len.result bytes)) c.as_slice-bytes.ensures, short.1)

pub append_texts-requires-clause-other_small : goal.append_texts-requires-clause-other_small
append_texts-requires-clause-other_small g c = let short = next_short _ (given g.row.A.Denot c.args.commands.now) _ c.put_padded-other_len.ensures.next in
    omega (arith, ap (λ (bytes : List ℕ). length (take c.put_padded-other_len.result bytes)) c.as_slice-other_bytes.ensures, short.1)

pub append_texts-requires-clause-fits : goal.append_texts-requires-clause-fits
append_texts-requires-clause-fits g c =
    let short = next_short _ (given g.row.A.Denot c.args.commands.now) _ c.put_padded-len.ensures.next in
    let is : take c.put_padded-len.result c.as_slice-bytes.result.now ≡ text_at g.row.A.Denot c.args.self.now c.args.commands.now = rw (← c.self.view_is) (ap (λ (bytes : List ℕ). take c.put_padded-len.result bytes) c.as_slice-bytes.ensures ∙ c.put_padded-len.ensures.items) in
    let fit : data_size (take c.put_padded-len.result c.as_slice-bytes.result.now) ≤ room_of c.args.self.now = rw is c.requires.fits in
    rw c.self.view_is (omega (arith, ap (λ (bytes : List ℕ). length (take c.put_padded-len.result bytes)) c.as_slice-bytes.ensures, short.0, fit))

pub append_texts-requires-clause-other_fits : goal.append_texts-requires-clause-other_fits
append_texts-requires-clause-other_fits g c =
    let short = next_short _ (given g.row.A.Denot c.args.commands.now) _ c.put_padded-other_len.ensures.next in
    let is : take c.put_padded-other_len.result c.as_slice-other_bytes.result.now ≡ text_at g.row.A.Denot c.args.other.now c.args.commands.now = rw (← c.other.view_is) (ap (λ (bytes : List ℕ). take c.put_padded-other_len.result bytes) c.as_slice-other_bytes.ensures ∙ c.put_padded-other_len.ensures.items) in
    let fit : data_size (take c.put_padded-other_len.result c.as_slice-other_bytes.result.now) ≤ room_of c.args.other.now = rw is c.requires.other_fits in
    rw c.other.view_is (omega (arith, ap (λ (bytes : List ℕ). length (take c.put_padded-other_len.result bytes)) c.as_slice-other_bytes.ensures, short.0, fit))

pub invariant_of-data : goal.invariant_of-data
invariant_of-data g c = rw c.as_slice-bytes.ensures (record { same = c.put_padded-len.ensures.padded })

pub invariant_of-other_data : goal.invariant_of-other_data
invariant_of-other_data g c = rw c.as_slice-other_bytes.ensures (record { same = c.put_padded-other_len.ensures.padded })

pub put_padded-len-requires-clause-next : goal.put_padded-len-requires-clause-next
put_padded-len-requires-clause-next g c = record {
  some = c.requires.some;
  few = c.requires.few;
  number = rw c.self.view_is (omega (arith, c.requires.some, c.requires.counts));
}

pub put_padded-other_len-requires-clause-next : goal.put_padded-other_len-requires-clause-next
put_padded-other_len-requires-clause-next g c = record {
  some = c.requires.some;
  few = c.requires.few;
  number = rw c.other.view_is (omega (arith, c.requires.some, c.requires.other_counts));
}

pub returns-in_err-append_texts-clause-adds : goal.returns-in_err-append_texts-clause-adds
returns-in_err-append_texts-clause-adds g c =
    let p = err_from_is_err_and c.from_residual.result c.from_residual.ensures.1 in
    let adds = c.in_err-append_texts.ensures.adds in
    let text = ap (λ (bytes : List ℕ). take c.put_padded-len.result bytes) c.as_slice-bytes.ensures ∙ c.put_padded-len.ensures.items in
    let other_text = ap (λ (bytes : List ℕ). take c.put_padded-other_len.result bytes) c.as_slice-other_bytes.ensures ∙ c.put_padded-other_len.ensures.items in
    rw (← c.self.view_is, ← c.other.view_is, p.1) (record {
      any_moment = λ before start entries others honest settled also. adds.any_moment before start entries others (given g.row.A.Denot c.args.commands.now)
          (rw c.as_slice-bytes.ensures c.put_padded-len.ensures.next) (rw c.as_slice-other_bytes.ensures c.put_padded-other_len.ensures.next) honest settled also;
      acknowledged = tt;
      durable = λ honest. tt;
      elsewhere = λ honest. tt;
      next = tt;
      other_next = tt;
      calls = tt;
      some_calls = rw (text, other_text) at adds.some_calls;
    })

pub returns-clause-adds : goal.returns-clause-adds
returns-clause-adds g c =
    let count : length c.args.commands.now ≡ length (given g.row.A.Denot c.args.commands.now) = sym (given_count g.row.A.Denot c.args.commands.now) in
    let adds = c.in_ok-append_texts.ensures.adds in
    let text = ap (λ (bytes : List ℕ). take c.put_padded-len.result bytes) c.as_slice-bytes.ensures ∙ c.put_padded-len.ensures.items in
    let other_text = ap (λ (bytes : List ℕ). take c.put_padded-other_len.result bytes) c.as_slice-other_bytes.ensures ∙ c.put_padded-other_len.ensures.items in
    rw (← c.self.view_is, ← c.other.view_is) (record {
      any_moment = λ before start entries others honest settled also. adds.any_moment before start entries others (given g.row.A.Denot c.args.commands.now)
          (rw c.as_slice-bytes.ensures c.put_padded-len.ensures.next) (rw c.as_slice-other_bytes.ensures c.put_padded-other_len.ensures.next) honest settled also;
      acknowledged = rw count (λ before start entries others honest settled also. adds.acknowledged before start entries others (given g.row.A.Denot c.args.commands.now)
          (rw c.as_slice-bytes.ensures c.put_padded-len.ensures.next) (rw c.as_slice-other_bytes.ensures c.put_padded-other_len.ensures.next) honest settled also);
      durable = adds.durable;
      elsewhere = adds.elsewhere;
      next = search rules;
      other_next = search rules;
      calls = rw (text, other_text) at adds.calls;
      some_calls = rw (text, other_text) at adds.some_calls;
    })
