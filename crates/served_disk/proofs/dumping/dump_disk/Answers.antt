use Rattle.std.proofs.Common.{rules, inl, inr}
use Rattle.file_disk.specs.Disk.{calls_of}
use Rattle.served_disk.specs.Dumping.{IsOfDiskDump}
use Rattle.served_disk.proofs.Reasons.{passed}
use Rattle.served_disk.proofs.Returned.{dump_back, is_back, none_back}
use Rattle.served_disk.proofs.dumping.dump_disk.Goals as goal

pub returns-in-Ok-clause-dumped : goal.returns-in-Ok-clause-dumped
returns-in-Ok-clause-dumped g c = record {
  disk = c.in_ok-disk.disk;
  gives = c.in_ok-disk.ensures.gives;
  begins = c.in_ok-disk.ensures.new;
  done = c.in-Ok.ensures.dumped;
}

pub returns-in-Err-clause-refused : goal.returns-in-Err-clause-refused
returns-in-Err-clause-refused g c = inr (record {
  old = c.in_ok-disk.disk;
  new = c.in-Err.disk;
  gives = c.in_ok-disk.ensures.gives;
  begins = c.in_ok-disk.ensures.new;
  refused = (c.in-Err.fault, c.in-Err.ensures.refused, c.of_dump.ensures.fault);
  returned = c.of_dump.ensures.disk;
})

pub returns-in_err-disk-clause-reading : goal.returns-in_err-disk-clause-reading
returns-in_err-disk-clause-reading g c =
    let why = c.in_err-disk.ensures in
    passed _ c.from_residual.result c.in_err-disk.field-0.0 (search rules) (none_back IsOfDiskDump c.args.name.now c.in_err-disk.field-0.0 (inl why.kinds) why.of_file why.none)

pub returns-in-Err-clause-reading : goal.returns-in-Err-clause-reading
returns-in-Err-clause-reading g c =
    let why = c.in-Err.ensures in
    dump_back c.args.name.now c.of_dump.result c.in-Err.fault c.in-Err.disk (calls_of c.in_ok-disk.disk) c.in_ok-disk.ensures.new.calls
    c.of_dump.ensures.fault c.of_dump.ensures.disk why.kinds why.some_calls

pub returns-in-Err-clause-untouched : goal.returns-in-Err-clause-untouched
returns-in-Err-clause-untouched g c none = is_back _ _ _ c.of_dump.ensures.disk none
