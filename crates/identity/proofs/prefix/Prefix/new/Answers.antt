use Rattle.std.proofs.Common.{◌≡◌, ◌≤◌, ℕ, refl, ◌-◌, ◌*◌, ◌%◌, ◌^◌, ap, sym, ◌∙◌, arith}
use Rattle.std.proofs.lemmas.Bool.Decides.{nat_tests}
use Rattle.std.proofs.lemmas.Nat.{one_shl}
use mathlib.Core.Bool.{false≢true}
use Rattle.identity.proofs.Prefixes.{rest_if, rest_then}
use Rattle.identity.proofs.prefix.Prefix.new.Goals.{else-len-le48-via-then-len-le48+then-bits-lt-IDENTITIES+else-bits-len-eq0}
use Rattle.identity.proofs.prefix.Prefix.new.Goals.{else-len-le48-via-then-len-le48+else-bits-lt-IDENTITIES, else-len-le48-via-else-len-le48}
use Rattle.identity.proofs.prefix.Prefix.new.Goals as goal

pub returns-then-bits-len-eq0-clause-fits : goal.returns-then-bits-len-eq0-clause-fits
returns-then-bits-len-eq0-clause-fits c =
    let short : c.args.len ≤ 48 = grind (arith, nat_tests) in
    let unit : 1 * 2 ^ (48 - c.args.len) % 2 ^ 64 ≡ 2 ^ (48 - c.args.len) = one_shl (48 - c.args.len) 64 (omega arith) in
    let rest : c.args.bits % 2 ^ (48 - c.args.len) ≡ 0 = ap (λ (n : ℕ). c.args.bits % n) (sym unit) ∙ grind (arith, nat_tests) in
    (λ t. (short, grind (arith, nat_tests), rest_if c.args.len c.args.bits short rest), λ h. refl)

pub returns-else-len-le48-clause-fits : goal.returns-else-len-le48-clause-fits
returns-else-len-le48-clause-fits c = (
  λ t. absurd (false≢true t),
  λ h.
      elim c.else-len-le48.branch [
        | else-len-le48-via-then-len-le48+then-bits-lt-IDENTITIES+else-bits-len-eq0 w ↦
            let unit : 1 * 2 ^ (48 - c.args.len) % 2 ^ 64 ≡ 2 ^ (48 - c.args.len) = one_shl (48 - c.args.len) 64 (omega arith) in
            let rest : c.args.bits % (1 * 2 ^ (48 - c.args.len) % 2 ^ 64) ≡ 0 = ap (λ (n : ℕ). c.args.bits % n) unit ∙ rest_then c.args.len c.args.bits h.0 h.2 in
            grind (arith, nat_tests, w.if-bits-len-eq0.false)
        | else-len-le48-via-then-len-le48+else-bits-lt-IDENTITIES w ↦ grind (arith, nat_tests, h.1, w.if-bits-lt-IDENTITIES.false)
        | else-len-le48-via-else-len-le48 w ↦ grind (arith, nat_tests, h.0, w.if-len-le48.false)
      ],
)
