use Rattle.std.proofs.Common.{◌≡◌, sym, ap, subst, ◌∙◌}
use Rattle.std.specs.List.{find, list_any}
use Rattle.std.specs.Option.{option_map}
use Rattle.base.proofs.Results.{on_err}
use Rattle.mailbox.specs.declared.key.Key.{Key}
use Rattle.mailbox.specs.declared.key.Kind.TheVariants.{Message, Report}
use Rattle.mailbox.specs.declared.opening.ReportOpening.{ReportOpening}
use Rattle.mailbox.specs.Values.{Item, Mailed}
use Rattle.mailbox.specs.Item.{key_of, answered, is_at, is_reported}
use Rattle.mailbox.specs.Order.{ComesLast, place_of}
use Rattle.mailbox.specs.Mail.{holds, without, reported}
use Rattle.mailbox.specs.Judged.{none_waits, waits_alone}
use Rattle.mailbox.proofs.Effects.{reported_then, still_ends, still_alone}
use Rattle.mailbox.proofs.mail.Mail.report_judged.Goals as goal

pub put-requires-clause-last : goal.put-requires-clause-last
put-requires-clause-last g c =
    let at = ap (λ (o : ReportOpening). o.opening.key) c.requires.found in
    subst (λ (w : Item). ComesLast c.args.self.now w.number w.key) (sym c.item_in.ensures) (subst (λ (k : Key). ComesLast c.args.self.now c.args.stamp.number k) (sym at) c.requires.last)

pub put-requires-clause-earlier : goal.put-requires-clause-earlier
put-requires-clause-earlier g c =
    let at : c.item_in.result.key ≡ key_of c.args.envelope.now Report = ap (λ (w : Item). w.key) c.item_in.ensures ∙ ap (λ (o : ReportOpening). o.opening.key) c.requires.found in
    ap (λ (o : ReportOpening). o.earlier) c.requires.found ∙ sym (ap (λ (k : Key). option_map place_of (find (is_at k) c.args.self.now.items)) at)

pub put-requires-clause-first : goal.put-requires-clause-first
put-requires-clause-first g c =
    let at : c.item_in.result.key ≡ key_of c.args.envelope.now Report = ap (λ (w : Item). w.key) c.item_in.ensures ∙ ap (λ (o : ReportOpening). o.opening.key) c.requires.found in
    ap (λ (o : ReportOpening). o.opening.is_first) c.requires.found ∙ sym (ap (λ (k : Key). none_waits c.args.self.now k.destination) at)

pub returns-in_err-put-clause-memory : goal.returns-in_err-put-clause-memory
returns-in_err-put-clause-memory g c =
    let at : c.item_in.result.key ≡ key_of c.args.envelope.now Report = ap (λ (w : Item). w.key) c.item_in.ensures ∙ ap (λ (o : ReportOpening). o.opening.key) c.requires.found in
    on_err c.from_residual.result (ap (holds c.args.self.now) (sym at) ∙ c.in_err-put.ensures.memory)

pub remove_reported-requires-clause-ends : goal.remove_reported-requires-clause-ends
remove_reported-requires-clause-ends g c =
    let at : c.item_in.result.key ≡ key_of c.args.envelope.now Report = ap (λ (w : Item). w.key) c.item_in.ensures ∙ ap (λ (o : ReportOpening). o.opening.key) c.requires.found in
    ap (λ (o : ReportOpening). o.ends) c.requires.found
    ∙ sym (ap (λ (m : Mailed). list_any (is_reported c.args.envelope.now c.args.status) m.items) c.in_ok-put.ensures.ok ∙
    still_ends c.args.self.now c.args.envelope.now c.args.status c.item_in.result at)

pub remove_reported-requires-clause-alone : goal.remove_reported-requires-clause-alone
remove_reported-requires-clause-alone g c alone =
    let at : c.item_in.result.key ≡ key_of c.args.envelope.now Report = ap (λ (w : Item). w.key) c.item_in.ensures ∙ ap (λ (o : ReportOpening). o.opening.key) c.requires.found in
    ap (λ (m : Mailed). waits_alone m (answered c.args.envelope.now Message)) c.in_ok-put.ensures.ok
    ∙ still_alone c.args.self.now c.args.envelope.now c.item_in.result at (sym (ap (λ (o : ReportOpening). o.is_alone) c.requires.found) ∙ alone)

pub returns-clause-ok : goal.returns-clause-ok
returns-clause-ok g c =
    let at : c.item_in.result.key ≡ key_of c.args.envelope.now Report = ap (λ (w : Item). w.key) c.item_in.ensures ∙ ap (λ (o : ReportOpening). o.opening.key) c.requires.found in
    c.remove_reported.ensures ∙ ap (without (is_reported c.args.envelope.now c.args.status)) c.in_ok-put.ensures.ok
    ∙ reported_then c.args.self.now c.args.envelope.now c.args.status c.item_in.result at ∙ ap (reported c.args.self.now c.args.envelope.now c.args.status) c.item_in.ensures
