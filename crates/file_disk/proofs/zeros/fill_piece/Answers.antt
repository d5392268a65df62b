use Rattle.std.proofs.Common.{◌≡◌, ℕ, ◌+◌, ◌*◌, ◌≤◌, ◌∙◌, ap, length, refl, sym, arith}
use Rattle.std.proofs.lemmas.List.{length-replicate}
use Rattle.sector_disk.specs.Disk.{View}
use Rattle.file_disk.proofs.Blank.{piece_done, piece_failed}
use Rattle.file_disk.proofs.Runs.{again}
use Rattle.file_disk.proofs.zeros.fill_piece.Goals as goal

pub returns-in_err-written-clause-effect : goal.returns-in_err-written-clause-effect
returns-in_err-written-clause-effect g c within honest =
    let long : length c.args.zeros.now ≡ 512 * 128 = ap length c.requires.zeros ∙ length-replicate {A = ℕ} 65536 0 in
    piece_failed (g.F.SectorFile.view c.args.file.now) (g.F.SectorFile.view c.write_at.new.self) c.args.at c.args.zeros.now _ c.from_residual.result c.requires.zeros c.from_residual.ensures.0
    (c.write_at.ensures.sectors c.args.at 128 refl (omega arith) long within honest)

pub returns-then-written-zeros-clause-effect : goal.returns-then-written-zeros-clause-effect
returns-then-written-zeros-clause-effect g c within honest =
    let long : length c.args.zeros.now ≡ 512 * 128 = ap length c.requires.zeros ∙ length-replicate {A = ℕ} 65536 0 in
    piece_done (g.F.SectorFile.view c.args.file.now) (g.F.SectorFile.view c.write_at.new.self) c.args.at c.args.zeros.now _ c.in_ok-written.written c.requires.zeros
    (c.write_at.ensures.sectors c.args.at 128 refl (omega arith) long within honest) (sym c.bytes_moved.ensures ∙ c.in_ok-written.was) (c.if-written-zeros.true ∙ long)

pub returns-clause-effect : goal.returns-clause-effect
returns-clause-effect g c within honest =
    let old : View = g.F.SectorFile.view c.args.file.now in
    let mid : View = g.F.SectorFile.view c.write_at.new.self in
    let long : length c.args.zeros.now ≡ 512 * 128 = ap length c.requires.zeros ∙ length-replicate {A = ℕ} 65536 0 in
    let left = c.write_at.ensures.sectors c.args.at 128 refl (omega arith) long within honest in
    let still : c.args.at + 128 ≤ mid.sectors = omega (arith, within, c.write_at.ensures.cause.sectors) in
    again old mid (g.F.SectorFile.view c.fill_each.new.file) c.args.at 128 _ _ _ c.fill_each.result left (c.fill_each.ensures.effect still left.honest)
