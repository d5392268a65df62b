use Rattle.console.specs.Answer.{member_text}
use Rattle.base.proofs.Results.{on_err}
use Rattle.listings.proofs.Listed.{no_room, prefix_with_more}
use Rattle.console.proofs.lists.put_members.Goals as goal

pub returns-in_err-put_member-clause-full : goal.returns-in_err-put_member-clause-full
returns-in_err-put_member-clause-full g c =
    on_err c.from_residual.result
    (no_room member_text c.args.members.now c.loop-member.member-index c.member-item.result c.loop-member-test.true c.member-item.is
    c.args.out.now.items c.loop-member.out.items _ _ _ _ c.args.out.now.ok.0 c.loop-member.out.ok.0 c.loop-member.invariant.0 c.loop-member.invariant.1 c.in_err-put_member.ensures.full)

pub returns-in_err-put_member-clause-err : goal.returns-in_err-put_member-clause-err
returns-in_err-put_member-clause-err g c =
    on_err c.from_residual.result
    (prefix_with_more c.args.out.now.items _ c.loop-member.out.items c.put_member.new.out.items c.loop-member.invariant.0
    c.in_err-put_member.ensures.err)
