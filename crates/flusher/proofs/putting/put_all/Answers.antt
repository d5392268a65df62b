use Rattle.std.proofs.Common.{take, ◌∙◌, sym, subst}
use Rattle.base.proofs.Lists.{take_one}
use Rattle.flusher.specs.Heard.{ArePut}
use Rattle.flusher.proofs.Together.{put_more}
use Rattle.flusher.proofs.putting.put_all.Goals as goal

pub loop-k-preserved : goal.loop-k-preserved
loop-k-preserved g c =
    let i = c.loop-k.invariant in
    let k = c.loop-k.k in
    let command = c.index-commands-k.result in
    let one = take_one c.args.commands.now k command c.loop-k-test.true c.index-commands-k.is in
    record {
      put = subst (λ l. ArePut l c.args.sender.now.sent c.send.new.self.sent) (sym one)
          (put_more (take k c.args.commands.now) command c.args.sender.now.sent c.loop-k.sender.sent c.send.new.self.sent i.put (c.in-Some.request, c.in-Some.ensures, c.send.ensures.sent));
      queue = c.send.ensures.same.0 ∙ i.queue;
      station = c.send.ensures.same.1 ∙ i.station;
    }
