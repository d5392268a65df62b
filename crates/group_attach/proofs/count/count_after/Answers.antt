use Rattle.std.proofs.Common.{rules, arith, ◌∙◌, ap}
use Rattle.group_attach.specs.Applied.{at_start}
use Rattle.group_attach.specs.Inside.ListedMap.{map_of}
use Rattle.group_attach.specs.Inside.Counted.{counted}
use Rattle.group_attach.proofs.Steps.{counted_more}
use Rattle.group_attach.proofs.count.count_after.Goals as goal

pub loop-i-preserved : goal.loop-i-preserved
loop-i-preserved g c = (
  c.counted-count.ensures
      ∙ ap (counted c.loop-i.count c.is_attached_after-before.result) c.attached_after.ensures
      ∙ counted_more c.args.registry.now c.args.itsi (at_start (map_of c.args.entries.now) c.args.itsi c.args.mode) c.args.items.now c.loop-i.i
      c.index-items-i.result c.loop-i.count c.is_attached_after-before.result (omega arith) c.index-items-i.is c.loop-i.invariant.0
      (search (rules, c.is_attached_after-before.ensures, c.group_of-gtsi.ensures)),
  search rules,
)
