use Rattle.std.proofs.Common.{◌≡◌, ◌+◌, ◌-◌, ◌*◌, ◌/◌, ◌≤◌, ◌∙◌, Ok, subst, arith}
use Rattle.sector_disk.specs.Disk.{View}
use Rattle.sector_disk.specs.Filling.{HasFilled}
use Rattle.sector_disk.proofs.Filled.{fill_wider}
use Rattle.file_disk.proofs.Blank.{zeros, zeros_on}
use Rattle.file_disk.proofs.GivenUp.{given_up_last, given_up_within}
use Rattle.file_disk.proofs.zeros.fill_with_zeros.Goals as goal

pub returns-in_err-fill_piece-clause-effect : goal.returns-in_err-fill_piece-clause-effect
returns-in_err-fill_piece-clause-effect g c within honest =
    let old : View = g.F.SectorFile.view c.args.file.now in
    let mid : View = g.F.SectorFile.view c.loop-k.file in
    let new : View = g.F.SectorFile.view c.fill_piece.new.file in
    let was = c.loop-k.invariant.filled within honest in
    let room : 128 * c.loop-k.k + 128 ≤ c.args.count = omega (arith, c.loop-k-test.true) in
    let inside : 128 * c.loop-k.k + 128 ≤ mid.sectors = omega (arith, room, within, c.loop-k.invariant.sectors) in
    fill_wider old new 0 (128 * c.loop-k.k + 128) c.args.count zeros c.fill_piece.result c.from_residual.result c.from_residual.ensures.0 room
    (zeros_on old mid new 0 (128 * c.loop-k.k) (128 * c.loop-k.k) 128 c.fill_piece.result (omega arith) was (c.fill_piece.ensures.effect inside was.honest))

pub loop-k-preserved : goal.loop-k-preserved
loop-k-preserved g c =
    let old : View = g.F.SectorFile.view c.args.file.now in
    let mid : View = g.F.SectorFile.view c.loop-k.file in
    let new : View = g.F.SectorFile.view c.fill_piece.new.file in
    record {
      sectors = c.fill_piece.ensures.sectors ∙ c.loop-k.invariant.sectors;
      later = omega (arith, c.loop-k.invariant.later, c.fill_piece.ensures.later);
      filled = λ within honest.
          let was = c.loop-k.invariant.filled within honest in
          let inside : 128 * c.loop-k.k + 128 ≤ mid.sectors = omega (arith, within, c.loop-k-test.true, c.loop-k.invariant.sectors) in
          let next : 128 * c.loop-k.k + 128 ≡ 128 * (c.loop-k.k + 1) = omega arith in
          subst (λ n. HasFilled old new 0 n zeros (Ok tt)) next
          (zeros_on old mid new 0 (128 * c.loop-k.k) (128 * c.loop-k.k) 128 (Ok tt) (omega arith) was
          (c.in_ok-fill_piece.ensures.effect inside was.honest));
    }

pub returns-clause-effect : goal.returns-clause-effect
returns-clause-effect g c within honest =
    let old : View = g.F.SectorFile.view c.args.file.now in
    let mid : View = g.F.SectorFile.view c.loop-k.file in
    let new : View = g.F.SectorFile.view c.fill_each.new.file in
    let pieces = c.args.count / 128 in
    let last : c.loop-k.k ≡ pieces = omega (arith, c.loop-k-test.false, c.loop-k.auto.k-end) in
    let was = c.loop-k.invariant.filled within honest in
    let inside : 128 * pieces + (c.args.count - 128 * pieces) ≤ mid.sectors = omega (arith, within, c.loop-k.invariant.sectors) in
    let all : 128 * pieces + (c.args.count - 128 * pieces) ≡ c.args.count = omega arith in
    let before : HasFilled old mid 0 (128 * pieces) zeros (Ok tt) = rw (← last) was in
    subst (λ n. HasFilled old new 0 n zeros c.fill_each.result) all
    (zeros_on old mid new 0 (128 * pieces) (128 * pieces) (c.args.count - 128 * pieces) c.fill_each.result (omega arith) before
    (c.fill_each.ensures.effect inside was.honest))

pub returns-in_err-fill_piece-clause-later : goal.returns-in_err-fill_piece-clause-later
returns-in_err-fill_piece-clause-later g c = omega (arith, c.loop-k.invariant.later, c.fill_piece.ensures.later)

pub returns-in_err-fill_piece-clause-given_up : goal.returns-in_err-fill_piece-clause-given_up
returns-in_err-fill_piece-clause-given_up g c =
    given_up_within g.F.SectorFile.view g.F.SectorFile.turns c.args.file.now c.loop-k.file c.fill_piece.new.file c.from_residual.result
    c.loop-k.invariant.later c.in_err-fill_piece.ensures.given_up

pub returns-clause-later : goal.returns-clause-later
returns-clause-later g c = omega (arith, c.loop-k.invariant.later, c.fill_each.ensures.later)

pub returns-clause-given_up : goal.returns-clause-given_up
returns-clause-given_up g c =
    given_up_last g.F.SectorFile.view g.F.SectorFile.turns c.args.file.now c.loop-k.file c.fill_each.new.file c.fill_each.result
    c.loop-k.invariant.later c.fill_each.ensures.given_up
