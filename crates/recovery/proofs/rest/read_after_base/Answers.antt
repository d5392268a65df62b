use Rattle.std.proofs.Common.{◌≡◌, Err, ap}
use Rattle.recovery.specs.declared.fault.StoreFault.TheVariants.{DiskFault}
use Rattle.recovery.proofs.rest.read_after_base.Goals as goal

pub returns-in-Err-clause-reads : goal.returns-in-Err-clause-reads
returns-in-Err-clause-reads g c = record {
  kinds = c.in-Err.ensures.reads.kinds;
  disk = record {
    only_read = c.in-Err.ensures.reads.disk.only_read;
    only_reads = c.in-Err.ensures.reads.disk.only_reads;
    fault = λ e. let is : c.in-Err.fault ≡ DiskFault = cc in c.in-Err.ensures.reads.disk.fault (ap Err is);
    sectors = c.in-Err.ensures.reads.disk.sectors;
    later = c.in-Err.ensures.reads.disk.later;
  };
}
