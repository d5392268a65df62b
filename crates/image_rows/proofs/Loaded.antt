-- What holds of a loading that rows make.
use Rattle.std.proofs.Common.{◌≡◌, ℕ, ◌≤◌, List, [], ◌∷◌, ◌++◌, Some, None, refl, sym, ap, subst, ◌∙◌}
use Rattle.std.specs.Prelude.{◌&&◌, nat_le}
use Rattle.std.specs.List.{All}
use Rattle.std.proofs.lemmas.Bool.{leb-true}
use Rattle.std.proofs.lemmas.List.Elements.{All-nil, All-push, All-tail}
use Rattle.base.proofs.Bools.{first_true, second_true}
use Rattle.base.proofs.Options.{some_where, some_is}
use Rattle.registration.specs.declared.limits.Limits.{Limits}
use Rattle.centre_core.specs.State.{State, IsState, last_number}
use Rattle.centre_core.specs.StateRanges.{StateInRange}
use Rattle.image_rows.specs.Rows.{Row, RowInRange, HeaderRow, RuleRow, RadioRow, MailRow, ServedRow, Header}
use Rattle.image_rows.specs.Loading.{◌>>=◌, Loading, row_taken, all_taken, begun, finished, header_may}
use Rattle.image_rows.specs.Held.{IsLoaded, IsHeld}
use Rattle.image_rows.proofs.Rules.{at, all_taken-append}
use Rattle.image_rows.proofs.Exactly.{bind_some, with_header, header_sound, all_only, only_these_rows}

pub begun_is_loaded : (limits : Limits) → IsLoaded (begun limits)
begun_is_loaded limits = record { limits = limits; rows = []; in_range = All-nil RowInRange; taken = refl }

-- one row more
pub one_more : (l n : Loading) (row : Row) → IsLoaded l → RowInRange row → row_taken l row ≡ Some n → IsLoaded n
one_more l n row loaded range is = record {
  limits = loaded.limits;
  rows = loaded.rows ++ row ∷ [];
  in_range = All-push RowInRange loaded.rows row loaded.in_range range;
  taken = all_taken-append (begun loaded.limits) loaded.rows (row ∷ []) ∙ ap (λ r. r >>= λ m. all_taken m (row ∷ [])) loaded.taken ∙ ap (λ r. r >>= λ m. all_taken m []) is;
}

-- with all rows it is a state, in its ranges
pub is_state : (l : Loading) (epoch : ℕ) (s : State) → IsLoaded l → finished l ≡ Some (epoch, s) → IsState s × StateInRange s
is_state l epoch s loaded is =
    let only = only_these_rows loaded.limits loaded.rows epoch s loaded.in_range (ap (λ r. r >>= finished) loaded.taken ∙ is) in
    (only.1, only.2)

same_header : (h k : Header) (s n : State) → at h n ≡ record { header = Some k; state = s } → (h ≡ k) × (n ≡ s)
same_header h k s n e = (some_is h k (ap (λ (l : Loading). l.header) e), ap (λ (l : Loading). l.state) e)

no_header : (limits : Limits) (h : Header) (s : State) → begun limits ≡ at h s → ⊥
no_header limits h s e = let none : None ≡ Some h = ap (λ (l : Loading). l.header) e in absurd cc

held_after : (limits : Limits) (rows : List Row) (h : Header) (s : State) → All RowInRange rows → all_taken (begun limits) rows ≡ Some (at h s) → IsHeld h s
unfolding row_taken
held_after limits [] h s ranges e = absurd (no_header limits h s (some_is (begun limits) (at h s) e))
held_after limits (RuleRow prefix rule ∷ rest) h s ranges e = absurd cc
held_after limits (RadioRow itsi radio gs ∷ rest) h s ranges e = absurd cc
held_after limits (MailRow w ∷ rest) h s ranges e = absurd cc
held_after limits (ServedRow station x ∷ rest) h s ranges e = absurd cc
held_after limits (HeaderRow k ∷ rest) h s ranges e =
    let s0 : State = with_header limits k.count in
    let a = bind_some (row_taken (begun limits) (HeaderRow k)) (λ n. all_taken n rest) (at h s) e in
    let c = some_where (header_may limits k) (at k s0) a.0 a.1 in
    let four = first_true _ _ c.0 in
    let three = first_true _ _ four in
    let two = first_true _ _ three in
    let rules : k.rules ≤ limits.rules = leb-true _ _ (second_true (nat_le k.count last_number) _ two) in
    let radios : k.radios ≤ limits.radios = leb-true _ _ (second_true (nat_le k.count last_number && nat_le k.rules limits.rules) _ three) in
    let mail : k.mail ≤ limits.mail = leb-true _ _ (second_true (nat_le k.count last_number && nat_le k.rules limits.rules && nat_le k.radios limits.radios) _ four) in
    let d = all_only k rest s0 (at h s) (header_sound k limits mail) (All-tail RowInRange (HeaderRow k) rest ranges) (ap (λ m. all_taken m rest) c.1 ∙ a.2) in
    let n : State = d.0 in
    let same = same_header k h s n d.1 in
    let lim = d.2.limits in
    let held : IsHeld k n = record {
      rules = subst (λ (l : Limits). k.rules ≤ l.rules) (sym lim) rules;
      radios = subst (λ (l : Limits). k.radios ≤ l.radios) (sym lim) radios;
      mail = d.2.sound.room;
      known = d.2.sound.allowed.1;
    } in
    subst (λ (g : Header). IsHeld g s) same.0 (subst (λ (m : State). IsHeld k m) same.1 held)

pub is_held : (h : Header) (s : State) → IsLoaded (at h s) → IsHeld h s
is_held h s loaded = held_after loaded.limits loaded.rows h s loaded.in_range loaded.taken
