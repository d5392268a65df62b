use Rattle.std.proofs.Common.{List, Bool, ◌+◌, ◌*◌, ◌≤◌, ◌∙◌, ap, sym, subst, take, drop}
use Rattle.command_bytes.proofs.Packed.{octet_in, so_many}
use Rattle.command_bytes.proofs.bits.PackedBits.octet.Goals as goal

pub returns : goal.returns
returns c =
    let bytes = c.self.inside.bytes.now in
    let len = c.self.inside.len in
    let room : 8 * c.args.k + 8 ≤ len = subst (λ n. 8 * c.args.k + 8 ≤ n) (sym (so_many bytes len c.args.self.now c.self.view_is c.self.invariant.1.room)) c.requires in
    ap (λ (l : List Bool). take 8 (drop (8 * c.args.k) l)) (sym c.self.view_is) ∙ octet_in bytes len c.args.k room c.self.invariant.1.room
