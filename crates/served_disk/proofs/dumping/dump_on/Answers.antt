use Rattle.std.proofs.Common.{◌≡◌, refl}
use Rattle.recovery.specs.Opens.{opening}
use Rattle.served_disk.proofs.Borrowed.{borrowed}
use Rattle.served_disk.proofs.dumping.dump_on.Goals as goal

pub returns-in-Ok-dumped-clause-dumped : goal.returns-in-Ok-dumped-clause-dumped
returns-in-Ok-dumped-clause-dumped g c =
    let s = c.in-Ok.store in
    let is : c.unwrap.result.now ≡ s.register = borrowed c.register.result c.unwrap.result s.register (c.register.ensures.sound c.in-Ok.ensures.opened.sound) c.unwrap.ensures in
    record {
      register = s.register;
      kept = λ honest. record { opening = opening s.layout s.side s.epoch s.journal.next s.register; opens = (c.in-Ok.ensures.opened.opened honest).opened; same = refl };
      dumped = rw (← is) c.in-Ok-dumped.ensures.dumped;
      written = rw (← is) c.in-Ok-dumped.ensures.written;
    }

pub returns-in-Err-dumped-clause-refused : goal.returns-in-Err-dumped-clause-refused
returns-in-Err-dumped-clause-refused g c =
    let s = c.in-Ok.store in
    let is : c.unwrap.result.now ≡ s.register = borrowed c.register.result c.unwrap.result s.register (c.register.ensures.sound c.in-Ok.ensures.opened.sound) c.unwrap.ensures in
    record {
      register = s.register;
      kept = λ honest. record { opening = opening s.layout s.side s.epoch s.journal.next s.register; opens = (c.in-Ok.ensures.opened.opened honest).opened; same = refl };
      unwritten = rw (← is) c.in-Err-dumped.ensures.unwritten;
    }

pub returns-in-Err-clause-refused : goal.returns-in-Err-clause-refused
returns-in-Err-clause-refused g c =
    let why = c.in-Err.ensures.refused in
    (record { kind = why.kinds; there = why.refused; device = why.fault; memory = why.memory }, refl)
