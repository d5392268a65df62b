use Rattle.std.proofs.Common.{rules, refl, inl, inr}
use Rattle.centre_core.specs.History.{after}
use Rattle.stations.proofs.OnlyRead.{only_reads}
use Rattle.stations.proofs.listing.read.Goals as goal

pub returns-in-Ok : goal.returns-in-Ok
returns-in-Ok g c =
    let base = g.J.Centre.base in
    let reads = c.list.ensures.reads in
    record {
      listed = (after base c.list.new.self.viewer, (only_reads base c.args.session.now c.list.new.self reads, (refl, reads.seen)), search rules);
      unlisted = tt;
      kept = tt;
      capacity = c.list.ensures.capacity;
      session = reads;
    }

pub returns-in-Err-NoMemory : goal.returns-in-Err-NoMemory
returns-in-Err-NoMemory g c =
    let base = g.J.Centre.base in
    let reads = c.list.ensures.reads in
    record {
      listed = tt;
      unlisted = inr (
        refl,
        (after base c.list.new.self.viewer, (only_reads base c.args.session.now c.list.new.self reads, (refl, reads.seen)), search rules),
      );
      kept = search rules;
      capacity = c.list.ensures.capacity;
      session = reads;
    }

pub returns-in-Err-Closed : goal.returns-in-Err-Closed
returns-in-Err-Closed g c = record {
  listed = tt;
  unlisted = inl (only_reads g.J.Centre.base c.args.session.now c.list.new.self c.list.ensures.reads, search rules);
  kept = search rules;
  capacity = c.list.ensures.capacity;
  session = c.list.ensures.reads;
}
