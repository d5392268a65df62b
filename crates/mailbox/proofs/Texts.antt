-- An item's PDU is a text of its layer.
use Rattle.std.proofs.Common.{◌≡◌, ℕ, true, refl, sym, ◌∙◌, Option, Some, None}
use mathlib.Core.Bool.{false≢true}
use Rattle.base.proofs.Bools.{second_true}
use Rattle.sds_tl.specs.declared.fault.SdsFault.{SdsFault}
use Rattle.sds_tl.specs.declared.pdu.Head.{Head}
use Rattle.sds_tl.specs.Syntax.{Spells}
use Rattle.sds_tl.specs.Reading.{fault, value, unless, head_value}
use Rattle.sds_tl.proofs.Spelling.{value_takes}
use Rattle.sds_tl.proofs.Cleared.{cleared_is_canon}
use Rattle.mailbox.specs.declared.key.Kind.{Kind}
use Rattle.mailbox.specs.declared.key.Kind.TheVariants.{Message, Report}
use Rattle.mailbox.specs.Sound.{is_head_of, may_have_group}
use Rattle.mailbox.specs.Laws.{ItemsAreTexts}

headed : (kind : Kind) (reference : ℕ) (none : Option SdsFault) (head : Head) → is_head_of kind reference (unless none head) ≡ true → none ≡ None
headed kind reference None head h = refl
headed Message reference (Some fault) head h = absurd (false≢true h)
headed Report reference (Some fault) head h = absurd (false≢true h)

pub items_are_texts : (A : Type 0) → ItemsAreTexts A
items_are_texts A w spelt =
    let spells : Spells {A = A} (value w.pdu) w.pdu =
    value_takes A w.pdu (headed w.key.kind w.key.reference (fault w.pdu) (head_value w.pdu)
    (second_true (may_have_group w.key.kind w.group) _ spelt.head)) in
    (spells, sym spelt.written ∙ cleared_is_canon A (value w.pdu) w.pdu spells)
