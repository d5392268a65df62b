use Rattle.std.proofs.Common.{◌≡◌, ◌++◌, true, false, Result, Ok, Err, OnOk, OnErr, refl, ◌∙◌, ap, inr, arith, is_ok}
use Rattle.console.specs.declared.answer.Answer.{Answer}
use Rattle.console.specs.declared.answer.Answer.TheVariants as answer
use Rattle.desk.specs.declared.outage.Outage.TheVariants.{Memory}
use Rattle.console.specs.Answer.{text, is_list_answer}
use Rattle.console.proofs.Answering.{only_lists_are_long}
use Rattle.console.proofs.progress.AnswerText.print.Goals as goal

-- what holds of a call that failed, and of one that did not
failed : {T E P : Type 0} (r : Result T E) → is_ok r ≡ false → OnErr r P → P
failed (Ok x) lost says = cc
failed (Err e) lost says = says

went_well : {T E P : Type 0} (r : Result T E) → is_ok r ≡ true → OnOk r P → P
went_well (Ok x) well says = says
went_well (Err e) well says = cc

pub returns : goal.returns
returns g c =
    let lost : is_ok c.print_answer.result ≡ false = cc (c.is_ok.ensures.value, c.if-is_ok.false) in
    let list : is_list_answer c.args.answer.now ≡ true = only_lists_are_long c.args.answer.now c.requires (λ line.
    let few = failed c.print_answer.result lost (c.print_answer.ensures.line line) in
    omega (arith, few, c.clear.ensures.len, c.clear.ensures.capacity, c.args.self.now.room)) in
    let outage : Answer g.row.B.Denot = answer.QueryOutage c.args.number Memory in
    let empty = failed c.print_answer.result lost c.print_answer.ensures.err ∙ c.clear.ensures.items in
    let put = went_well c.print_answer-2.result (ap is_ok c.unwrap.ensures) c.print_answer-2.ensures.ok in
    (outage, inr (list, refl), put ∙ ap (λ bytes. bytes ++ text outage) empty, refl)
