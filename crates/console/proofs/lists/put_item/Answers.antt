use Rattle.std.proofs.Common.{◌≡◌, ◌++◌, codes, decimal}
use Rattle.console.specs.Answer.{item_text}
use Rattle.identity.specs.BitsText.{bits_text}
use Rattle.listings.specs.Lines.{item_end, key_text}
use Rattle.std.proofs.lemmas.Result.{on_err_weaker}
use Rattle.base.proofs.Results.{on_err}
use Rattle.console.proofs.Items.{item_room, item_prefix}
use Rattle.console.proofs.lists.put_item.Goals as goal

pub returns-in_err-put_content-clause-full : goal.returns-in_err-put_content-clause-full
returns-in_err-put_content-clause-full g c =
    let spelt : item_text c.args.item.now ≡ codes "item " ++ decimal c.number.result ++ codes " " ++ key_text c.key.result ++ codes " " ++ decimal
    c.deadline.result ++ codes " " ++ bits_text c.pdu.result.now ++ item_end c.args.item.now.group =
    cc (c.number.ensures, c.key.ensures, c.deadline.ensures.value, c.pdu.ensures) in
    on_err c.from_residual-in_err-put_content.result
    (item_room c.args.out.now.items c.put_named_item.new.out.items (decimal c.number.result) (key_text c.key.result) (decimal c.deadline.result)
    (bits_text c.pdu.result.now) (item_end c.args.item.now.group)
    (item_text c.args.item.now) _ _ _ _ spelt c.args.out.now.ok.0 c.put_named_item.new.out.ok.0 c.in_ok-put_named_item.ensures.ok c.put_named_item.ensures.capacity c.in_err-put_content.ensures.full)

pub returns-clause-err : goal.returns-clause-err
returns-clause-err g c = on_err_weaker c.put_end.result
    (item_prefix c.args.out.now.items c.put_named_item.new.out.items (decimal c.number.result) (key_text c.key.result) (decimal c.deadline.result)
    (bits_text c.pdu.result.now) (item_end c.args.item.now.group) c.put_content.new.out.items c.put_end.new.out.items
    c.in_ok-put_named_item.ensures.ok c.in_ok-put_content.ensures.ok)
    c.put_end.ensures.err
