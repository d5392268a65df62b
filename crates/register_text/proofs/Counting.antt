-- Each row that is taken is one more of those that the header states.
use Rattle.std.proofs.Common.{◌≡◌, ℕ, zero, suc, ◌+◌, ◌-◌, ◌<◌, ◌≤◌, Bool, true, false, List, [], ◌∷◌, ◌++◌, length, drop, Some, None, sym, ap, subst, ◌∙◌, arith}
use Rattle.std.specs.Prelude.{◌&&◌, not, nat_lt, nat_le, slice_set}
use Rattle.std.specs.declared.cmp.Ordering.{Ordering}
use Rattle.std.specs.Cmp.{IsTotalOrder}
use Rattle.std.specs.FinMap as map
use Rattle.std.proofs.lemmas.Bool.{ltb-true, leb-true, eqb-true, lt-ltb}
use Rattle.std.proofs.lemmas.List.{length-append}
use Rattle.base.proofs.Bools.{first_true, second_true, and_is_true}
use Rattle.base.proofs.Numbers.{test_by_same}
use Rattle.base.proofs.Options.{some_where}
use Rattle.identity.specs.Path.{Path, id_path, path_cmp}
use Rattle.identity.specs.Inside.PathLaws.{paths_total}
use Rattle.registration.specs.declared.limits.Limits.{Limits}
use Rattle.registration.specs.declared.rule.Rule.{Rule}
use Rattle.registration.specs.declared.radio.Radio.{Radio}
use Rattle.mailbox.specs.Values.{Item}
use Rattle.centre_core.specs.State.{State, LastAccepted, empty}
use Rattle.image_rows.specs.Rows.{Row, HeaderRow, RuleRow, RadioRow, MailRow, ServedRow, Header, Group, how_many, row_count}
use Rattle.image_rows.specs.Loading.{all_done, are_free, is_next, mail_may, mail_done, put, radio_may, radios_done, rule_may, rules_done, served_may, taken_mail, taken_radio, taken_rule, taken_served}
use Rattle.image_rows.proofs.Order.{entries_next}
use Rattle.image_rows.proofs.Stations.{Entries, how_many-cons, none_in_blanks}

-- how many rows of a state there are without its header
abbrev pub filled : State → ℕ
filled s = map.len s.registered.rules + map.len s.registered.radios + length s.mail.items + how_many s.served

-- no more rows of a kind than the header states
pub record IsWithin (h : Header) (s : State) : Type 0 where
  pub rules : map.len s.registered.rules ≤ h.rules
  pub radios : map.len s.registered.radios ≤ h.radios
  pub mail : length s.mail.items ≤ h.mail
  pub served : how_many s.served ≤ h.served

pub opposite : {A : Type 0} (b : Bool) → b ≡ true → b ≡ false → A
opposite true is e = absurd cc
opposite false is e = absurd cc

len_more : {K X : Type 0} {R : K → K → Ordering} (o : IsTotalOrder R) (m : map.FinMap R X) (k : K) (v : X) → is_next m k ≡ true → map.len (map.insert m k v) ≡ map.len m + 1
len_more o m k v h = map.len-entries _ ∙ ap length (entries_next o m k v h) ∙ length-append (map.entries m) ((k, v) ∷ []) ∙ ap (λ n. n + 1) (sym (map.len-entries m))

one_served : (xs : Entries) (place : ℕ) (x : LastAccepted) → place < length xs → are_free (drop place xs) ≡ true → how_many (slice_set xs place (Some x)) ≡ how_many xs + 1
one_served [] place x lt free = absurd (omega (arith, lt))
one_served (None ∷ xs) zero x lt free = let a = how_many-cons (Some x) xs in let b = how_many-cons None xs in omega (arith, a, b)
one_served (Some y ∷ xs) zero x lt free = absurd cc
one_served (o ∷ xs) (suc place) x lt free =
    let rest = one_served xs place x (omega (arith, lt)) free in
    let a = how_many-cons o (slice_set xs place (Some x)) in let b = how_many-cons o xs in omega (arith, a, b, rest)

-- one more row came
abbrev pub IsOneMore : Header → State → State → Type 0
IsOneMore h s n = IsWithin h n × (filled n ≡ filled s + 1)

rule_counted : (h : Header) (s : State) (prefix : Path) (rule : Rule) → IsWithin h s → rule_may h s prefix ≡ true → IsOneMore h s (taken_rule s prefix rule)
rule_counted h s prefix rule is may =
    let old = s.registered.rules in
    let less : map.len old < h.rules = ltb-true _ _ (first_true _ _ may) in
    let more : map.len (map.insert old prefix rule) ≡ map.len old + 1 = len_more paths_total old prefix rule (second_true (nat_lt (map.len old) h.rules) _ may) in
    (record { rules = omega (arith, less, more); radios = is.radios; mail = is.mail; served = is.served }, omega (arith, more))

radio_counted : (h : Header) (s : State) (itsi : ℕ) (radio : Radio) (gs : List Group) → IsWithin h s → radio_may h s itsi radio gs ≡ true → IsOneMore h s (taken_radio s itsi radio gs)
radio_counted h s itsi radio gs is may =
    let old = s.registered.radios in
    let three = first_true _ _ (first_true _ _ (first_true _ _ (first_true _ _ may))) in
    let less : map.len old < h.radios = ltb-true _ _ (second_true (rules_done h s) _ (first_true _ _ three)) in
    let more : map.len (map.insert old (id_path itsi) radio) ≡ map.len old + 1 =
    len_more paths_total old (id_path itsi) radio (second_true (rules_done h s && nat_lt (map.len old) h.radios) _ three) in
    (record { rules = is.rules; radios = omega (arith, less, more); mail = is.mail; served = is.served }, omega (arith, more))

mail_counted : (h : Header) (s : State) (w : Item) → IsWithin h s → mail_may h s w ≡ true → IsOneMore h s (taken_mail s w)
mail_counted h s w is may =
    let old = s.mail.items in
    let two = first_true _ _ (first_true _ _ (first_true _ _ (first_true _ _ (first_true _ _ may)))) in
    let less : length old < h.mail = ltb-true _ _ (second_true (radios_done h s) _ two) in
    let more : length (old ++ w ∷ []) ≡ length old + 1 = length-append old (w ∷ []) in
    (record { rules = is.rules; radios = is.radios; mail = omega (arith, less, more); served = is.served }, omega (arith, more))

served_counted : (h : Header) (s : State) (station : ℕ) (x : LastAccepted) → IsWithin h s → served_may h s station x ≡ true → IsOneMore h s (taken_served s station x)
served_counted h s station x is may =
    let five = first_true _ _ may in
    let four = first_true _ _ five in
    let three = first_true _ _ four in
    let two = first_true _ _ three in
    let free : are_free (drop (station - 1) s.served) ≡ true = second_true (mail_done h s && nat_lt (how_many s.served) h.served && nat_lt 0 station && nat_le station (length s.served)) _ five in
    let within : station ≤ length s.served = leb-true _ _ (second_true (mail_done h s && nat_lt (how_many s.served) h.served && nat_lt 0 station) _ four) in
    let some : 0 < station = ltb-true _ _ (second_true (mail_done h s && nat_lt (how_many s.served) h.served) _ three) in
    let less : how_many s.served < h.served = ltb-true _ _ (second_true (mail_done h s) _ two) in
    let more : how_many (slice_set s.served (station - 1) (Some x)) ≡ how_many s.served + 1 = one_served s.served (station - 1) x (omega (arith, some, within)) free in
    (record { rules = is.rules; radios = is.radios; mail = is.mail; served = omega (arith, less, more) }, omega (arith, more))

pub put_counted : (h : Header) (s n : State) (row : Row) → IsWithin h s → put h s row ≡ Some n → IsOneMore h s n
put_counted h s n (HeaderRow again) is e = absurd cc
put_counted h s n (RuleRow prefix rule) is e =
    let c = some_where (rule_may h s prefix) (taken_rule s prefix rule) n e in
    subst (IsOneMore h s) c.1 (rule_counted h s prefix rule is c.0)
put_counted h s n (RadioRow itsi radio gs) is e =
    let c = some_where (radio_may h s itsi radio gs) (taken_radio s itsi radio gs) n e in
    subst (IsOneMore h s) c.1 (radio_counted h s itsi radio gs is c.0)
put_counted h s n (MailRow w) is e =
    let c = some_where (mail_may h s w) (taken_mail s w) n e in
    subst (IsOneMore h s) c.1 (mail_counted h s w is c.0)
put_counted h s n (ServedRow station x) is e =
    let c = some_where (served_may h s station x) (taken_served s station x) n e in
    subst (IsOneMore h s) c.1 (served_counted h s station x is c.0)

-- ---- before all rows, and after them

pub none_filled : (limits : Limits) → filled (empty limits) ≡ 0
none_filled limits =
    let a = map.len-empty path_cmp Rule in
    let b = map.len-empty path_cmp Radio in
    let c = none_in_blanks limits.stations in
    omega (arith, a, b, c)

all_equal : (h : Header) (s : State) → map.len s.registered.rules ≡ h.rules → map.len s.registered.radios ≡ h.radios → length s.mail.items ≡ h.mail → how_many s.served ≡ h.served → all_done h s ≡ true
all_equal h s a b c d = and_is_true _ _ (and_is_true _ _ (and_is_true _ _ (test_by_same _ _ a) (test_by_same _ _ b)) (test_by_same _ _ c)) (test_by_same _ _ d)

-- all rows have come exactly if none is due
pub done_is : (h : Header) (s : State) (due : ℕ) (b : Bool) → IsWithin h s → due + filled s ≡ row_count h - 1 → all_done h s ≡ b → nat_lt 0 due ≡ not b
done_is h s due true is sum e =
    let rules : map.len s.registered.rules ≡ h.rules = eqb-true _ _ (first_true _ _ (first_true _ _ (first_true _ _ e))) in
    let radios : map.len s.registered.radios ≡ h.radios = eqb-true _ _ (second_true (rules_done h s) _ (first_true _ _ (first_true _ _ e))) in
    let mail : length s.mail.items ≡ h.mail = eqb-true _ _ (second_true (radios_done h s) _ (first_true _ _ e)) in
    let served : how_many s.served ≡ h.served = eqb-true _ _ (second_true (mail_done h s) _ e) in
    let none : due ≡ 0 = omega (arith, rules, radios, mail, served, sum) in
    ap (λ (n : ℕ). nat_lt 0 n) none
done_is h s zero false is sum e =
    let p = is.rules in let q = is.radios in let r = is.mail in let t = is.served in
    opposite (all_done h s) (all_equal h s (omega (arith, p, q, r, t, sum)) (omega (arith, p, q, r, t, sum)) (omega (arith, p, q, r, t, sum)) (omega (arith, p, q, r, t, sum))) e
done_is h s (suc due) false is sum e = lt-ltb 0 (suc due) (omega arith)
