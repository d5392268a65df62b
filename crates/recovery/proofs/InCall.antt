-- A store that is in a call states nothing of its disk.
use Rattle.std.proofs.Common.{◌≡◌, Bool, true, false, sym, ◌∙◌}
use Rattle.std.proofs.lemmas.Bool.{true≢false}

pub in_call : {P : Type 0} (broken : Bool) → broken ≡ true → ∥ (broken ≡ false → P) ∥₁
in_call broken is = ∣ (λ whole. absurd (true≢false (sym is ∙ whole))) ∣₁
