-- Rows stand for a state only if they are the rows of that state.
use Rattle.std.proofs.Common.{◌≡◌, ℕ, ◌≤◌, true, List, [], ◌∷◌, ◌++◌, length, Option, Some, None, refl, sym, ap, subst, ◌∙◌, append_assoc, arith}
use Rattle.std.specs.Prelude.{◌&&◌, nat_le, map as each}
use Rattle.std.specs.List.{All}
use Rattle.std.specs.FinMap as map
use Rattle.std.proofs.lemmas.Bool.{eqb-true, leb-true}
use Rattle.std.proofs.lemmas.List.{append-nil, length-replicate}
use Rattle.std.proofs.lemmas.List.Elements.{All-head, All-tail, All-replicate}
use Rattle.base.proofs.Bools.{first_true, second_true}
use Rattle.base.proofs.Options.{some_is, some_where}
use Rattle.identity.specs.Path.{Path, path_cmp}
use Rattle.registration.specs.declared.limits.Limits.{Limits}
use Rattle.registration.specs.declared.rule.Rule.{Rule}
use Rattle.registration.specs.declared.radio.Radio.{Radio}
use Rattle.registration.specs.Registered.{empty_registered}
use Rattle.group_attach.specs.Attached.{no_groups}
use Rattle.group_attach.proofs.AllowedLaws.{no_groups_fit, no_groups_known}
use Rattle.mailbox.proofs.Sound.{empty_is_mail}
use Rattle.centre_core.specs.State.{State, IsState, IsOfAccepted, empty, last_number}
use Rattle.centre_core.specs.StateRanges.{StateInRange}
use Rattle.centre_core.proofs.RangeLaws.{empty_is_in_range}
use Rattle.image_rows.specs.Rows.{Row, RowInRange, HeaderRow, RuleRow, RadioRow, MailRow, ServedRow, Header, rule_row, radio_row, served_rows, rows_of, header_of, how_many}
use Rattle.image_rows.specs.Loading.{◌>>=◌, Loading, row_taken, all_taken, begun, state_of_rows, finished, header_may, rules_done, radios_done, mail_done, all_done, put}
use Rattle.image_rows.proofs.Order.{entries-empty}
use Rattle.image_rows.proofs.Rules.{at}
use Rattle.image_rows.proofs.Stations.{blanks, free_blanks}
use Rattle.image_rows.proofs.Only.{IsSound, Comes, so_far, no_rows, put_only}

pub bind_some : {A B : Type 0} (r : Option A) (f : A → Option B) (y : B) → (r >>= f) ≡ Some y → (x : A) × (r ≡ Some x) × (f x ≡ Some y)
bind_some (Some x) f y e = (x, refl, e)
bind_some None f y e = absurd cc

-- the rows after the header
pub all_only : (h : Header) (rows : List Row) (s : State) (l : Loading) → IsSound h s → All RowInRange rows → all_taken (at h s) rows ≡ Some l → (n : State) × (at h n ≡ l) × Comes h s n rows
unfolding row_taken
all_only h [] s l sound ranges e = (s, some_is (at h s) l e, record { sound = sound; stations = refl; count = refl; limits = refl; room = refl; rows_are = sym (append-nil (so_far h s)) })
all_only h (row ∷ rows) s l sound ranges e =
    let a = bind_some (row_taken (at h s) row) (λ n. all_taken n rows) l e in
    let b = bind_some (put h s row) (λ n. Some (at h n)) a.0 a.1 in
    let one : Comes h s b.0 (row ∷ []) = put_only h s b.0 row sound (All-head RowInRange row rows ranges) b.1 in
    let is : at h b.0 ≡ a.0 = some_is (at h b.0) a.0 b.2 in
    let rest = all_only h rows b.0 l one.sound (All-tail RowInRange row rows ranges) (ap (λ m. all_taken m rows) is ∙ a.2) in (
      rest.0,
      rest.1,
      record {
        sound = rest.2.sound;
        stations = rest.2.stations ∙ one.stations;
        count = rest.2.count ∙ one.count;
        limits = rest.2.limits ∙ one.limits;
        room = rest.2.room ∙ one.room;
        rows_are = rest.2.rows_are ∙ ap (λ (l : List Row). l ++ rows) one.rows_are ∙ append_assoc (so_far h s) (row ∷ []) rows;
      },
    )

-- with the header alone
abbrev pub with_header : Limits → ℕ → State
with_header limits count = record (empty limits) { count = count }

pub header_sound : (h : Header) (limits : Limits) → h.mail ≤ limits.mail → IsSound h (with_header limits h.count)
header_sound h limits room =
    let ranges = empty_is_in_range limits in
    record {
      no_radios = λ _. entries-empty path_cmp;
      no_mail = λ _. refl;
      no_served = λ _. free_blanks limits.stations;
      room = room;
      allowed = (no_groups_fit, no_groups_known (empty_registered limits));
      mail = empty_is_mail limits h.count;
      numbered = All-replicate (IsOfAccepted h.count) limits.stations None tt;
      ranges = record { limits = ranges.limits; rules = ranges.rules; radios = ranges.radios; attachments = ranges.attachments; mail = ranges.mail; served = ranges.served };
    }

header_rows : (h : Header) (limits : Limits) → so_far h (with_header limits h.count) ≡ HeaderRow h ∷ []
header_rows h limits =
    ap (λ (l : List (Path × Rule)).
    HeaderRow h ∷ (each rule_row l ++
    (each (radio_row no_groups) (map.entries (map.empty {X = Radio} {R = path_cmp})) ++ served_rows 1 (blanks limits.stations))))
    (entries-empty path_cmp)
    ∙ ap (λ (l : List (Path × Radio)). HeaderRow h ∷ (each (radio_row no_groups) l ++ served_rows 1 (blanks limits.stations))) (entries-empty path_cmp)
    ∙ ap (λ (l : List Row). HeaderRow h ∷ l) (no_rows 1 (blanks limits.stations) (free_blanks limits.stations))

same_header : (h : Header) (n : State) → n.count ≡ h.count → all_done h n ≡ true → h ≡ header_of h.epoch n
same_header h n count whole =
    let rules : map.len n.registered.rules ≡ h.rules = eqb-true _ _ (first_true _ _ (first_true _ _ (first_true _ _ whole))) in
    let radios : map.len n.registered.radios ≡ h.radios = eqb-true _ _ (second_true (rules_done h n) _ (first_true _ _ (first_true _ _ whole))) in
    let mail : length n.mail.items ≡ h.mail = eqb-true _ _ (second_true (radios_done h n) _ (first_true _ _ whole)) in
    let served : how_many n.served ≡ h.served = eqb-true _ _ (second_true (mail_done h n) _ whole) in
    λ i. record { epoch = h.epoch; count = sym count i; rules = sym rules i; radios = sym radios i; mail = sym mail i; served = sym served i }

pub only_these_rows : (limits : Limits) (rows : List Row) (epoch : ℕ) (s : State) → All RowInRange rows →
    state_of_rows limits rows ≡ Some (epoch, s) → (rows ≡ rows_of epoch s) × IsState s × StateInRange s × (s.registered.limits ≡ limits)
unfolding row_taken finished
only_these_rows limits [] epoch s ranges e = absurd cc
only_these_rows limits (RuleRow prefix rule ∷ rest) epoch s ranges e = absurd cc
only_these_rows limits (RadioRow itsi radio gs ∷ rest) epoch s ranges e = absurd cc
only_these_rows limits (MailRow w ∷ rest) epoch s ranges e = absurd cc
only_these_rows limits (ServedRow station x ∷ rest) epoch s ranges e = absurd cc
only_these_rows limits (HeaderRow h ∷ rest) epoch s ranges e =
    let s0 : State = with_header limits h.count in
    let a = bind_some (all_taken (begun limits) (HeaderRow h ∷ rest)) finished (epoch, s) e in
    let b = bind_some (row_taken (begun limits) (HeaderRow h)) (λ n. all_taken n rest) a.0 a.1 in
    let c = some_where (header_may limits h) (at h s0) b.0 b.1 in
    let may : header_may limits h ≡ true = c.0 in
    let four = first_true _ _ may in
    let three = first_true _ _ four in
    let two = first_true _ _ three in
    let count : h.count ≤ last_number = leb-true _ _ (first_true _ _ two) in
    let rules : h.rules ≤ limits.rules = leb-true _ _ (second_true (nat_le h.count last_number) _ two) in
    let radios : h.radios ≤ limits.radios = leb-true _ _ (second_true (nat_le h.count last_number && nat_le h.rules limits.rules) _ three) in
    let mail : h.mail ≤ limits.mail = leb-true _ _ (second_true (nat_le h.count last_number && nat_le h.rules limits.rules && nat_le h.radios limits.radios) _ four) in
    let d = all_only h rest s0 a.0 (header_sound h limits mail) (All-tail RowInRange (HeaderRow h) rest ranges) (ap (λ m. all_taken m rest) c.1 ∙ b.2) in
    let n : State = d.0 in
    let g = some_where (all_done h n) (h.epoch, n) (epoch, s) (ap finished d.1 ∙ a.2) in
    let whole : all_done h n ≡ true = g.0 in
    let stated : HeaderRow h ∷ rest ≡ so_far h n = sym (d.2.rows_are ∙ ap (λ (l : List Row). l ++ rest) (header_rows h limits)) in
    let same : so_far h n ≡ rows_of h.epoch n = ap (λ (k : Header). so_far k n) (same_header h n d.2.count whole) in
    let lim = d.2.limits in
    let all_rules : map.len n.registered.rules ≡ h.rules = eqb-true _ _ (first_true _ _ (first_true _ _ (first_true _ _ whole))) in
    let all_radios : map.len n.registered.radios ≡ h.radios = eqb-true _ _ (second_true (rules_done h n) _ (first_true _ _ (first_true _ _ whole))) in
    let sound = d.2.sound in
    let state : IsState n = record {
      within = record {
        rules = subst (λ (l : Limits). map.len n.registered.rules ≤ l.rules) (sym lim) (omega (arith, all_rules, rules));
        radios = subst (λ (l : Limits). map.len n.registered.radios ≤ l.radios) (sym lim) (omega (arith, all_radios, radios));
      };
      attachments = sound.allowed;
      mail = record { in_order = sound.mail; room = d.2.room ∙ ap (λ (l : Limits). l.mail) (sym lim) };
      stations = d.2.stations ∙ length-replicate limits.stations None ∙ ap (λ (l : Limits). l.stations) (sym lim);
      count = subst (λ k. k ≤ last_number) (sym d.2.count) count;
      last = sound.numbered;
    } in
    subst (λ (p : ℕ × State). (HeaderRow h ∷ rest ≡ rows_of p.0 p.1) × IsState p.1 × StateInRange p.1 × (p.1.registered.limits ≡ limits)) g.1 (stated ∙ same, state, sound.ranges, lim)
