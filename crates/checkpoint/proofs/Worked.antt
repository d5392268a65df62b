-- The worked disk, and how the parts of every disk lie.
use Rattle.std.proofs.Common.{refl, arith}
use Rattle.checkpoint.specs.declared.layout.Layout.{Layout}
use Rattle.checkpoint.specs.Label.{label_text}
use Rattle.checkpoint.specs.Worked.{AreSideBySide, HasWorkedLimits, IsWorkedDisk}
use Rattle.command_bytes.specs.Fields.{big}

pub worked : (layout : Layout) → HasWorkedLimits layout → IsWorkedDisk layout
unfolding label_text big
worked layout is =
    let rules = is.rules in
    let radios = is.radios in
    let mail = is.mail in
    let stations = is.stations in
    let journal = is.journal in
    record {
      slot = omega (arith, rules, radios, mail, stations);
      slot_a = refl;
      slot_b = omega (arith, rules, radios, mail, stations);
      half_a = omega (arith, rules, radios, mail, stations);
      half_b = omega (arith, rules, radios, mail, stations, journal);
      all = omega (arith, rules, radios, mail, stations, journal);
      label = rw (rules, radios, mail, stations, journal) refl;
    }

pub side_by_side : (layout : Layout) → AreSideBySide layout
side_by_side layout = record {
  label = refl;
  root_a = refl;
  root_b = refl;
  slot_a = refl;
  slot_b = omega arith;
  half_a = omega arith;
  half_b = refl;
  all = omega arith;
}
