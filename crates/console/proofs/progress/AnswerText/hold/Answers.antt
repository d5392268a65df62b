use Rattle.std.proofs.Common.{refl, sym, ap, inl}
use Rattle.console.specs.declared.answer.Answer.TheVariants as answer
use Rattle.console.specs.declared.progress.Given.{Given}
use Rattle.console.specs.Inside.Given.{answer_of}
use Rattle.console.proofs.progress.AnswerText.hold.Goals as goal

pub returns-in-Listed : goal.returns-in-Listed
returns-in-Listed g c =
    let bytes = c.args.self.now.bytes.items in
    (answer.Listed bytes, inl (sym (ap (λ (given : Given g.row.B.Denot). answer_of bytes given) c.in-Listed.is)), refl, refl)

pub returns-in-Service : goal.returns-in-Service
returns-in-Service g c =
    let bytes = c.args.self.now.bytes.items in
    (answer.Service bytes, inl (sym (ap (λ (given : Given g.row.B.Denot). answer_of bytes given) c.in-Service.is)), refl, refl)
