-- What opening a channel and one send do.
use Rattle.std.specs.Prelude.{◌≡◌, ◌⊎◌, Bool, true, false, List, [], ◌∷◌, ◌++◌}

-- the two ends are of one channel, and nothing was sent yet
abbrev pub AreEnds : {C T : Type 0} → C → C → List T → List T → Bool → Type 0
AreEnds sending receiving sent received gone = (receiving ≡ sending) × (sent ≡ []) × (received ≡ []) × (gone ≡ false)

-- the answer was sent after all earlier ones; or the session's end is gone, and it was not sent
abbrev pub HasSent : {T : Type 0} → List T → Bool → T → List T → Bool → Type 0
HasSent old was x new gone = ((was ≡ false) × (gone ≡ false) × (new ≡ old ++ x ∷ [])) ⊎ ((gone ≡ true) × (new ≡ old))
