-- Rows that are taken are the rows of the state that they make.
use Rattle.std.proofs.Common.{◌≡◌, ℕ, zero, suc, ◌+◌, ◌-◌, ◌<◌, ◌≤◌, Bool, true, false, cond, List, [], ◌∷◌, ◌++◌, length, drop, Option, Some, None, refl, sym, ap, subst, ◌∙◌, append_assoc, arith}
use Rattle.std.specs.Prelude.{◌&&◌, ◌==◌, not, nat_lt, nat_le, count_by, IsSome, IfSome, map as each, slice_set}
use Rattle.std.specs.List.{All, list_all}
use Rattle.std.specs.Ordering.{nat_cmp, is_lt}
use Rattle.std.specs.FinMap as map
use Rattle.std.proofs.lemmas.Bool.{ltb-true, leb-true, eqb-true}
use Rattle.std.proofs.lemmas.List.{append-nil, length-append, length-set}
use Rattle.std.proofs.lemmas.List.Elements.{All-push, All-set, All-weaker, All-get_or}
use Rattle.std.proofs.lemmas.List.Quantifiers.{all_pairs_push}
use Rattle.std.proofs.lemmas.List.Sums.{AllPass-from_list_all, sum_by_push}
use Rattle.base.proofs.Bools.{not_true, first_true, second_true, is_less}
use Rattle.base.proofs.Numbers.{less_not_same}
use Rattle.base.proofs.Options.{some_where}
use Rattle.identity.specs.Path.{Path, id_path}
use Rattle.identity.specs.Inside.PathLaws.{paths_total, paths_exact, length-id_path, number-id_path}
use Rattle.registration.specs.declared.rule.Rule.{Rule}
use Rattle.registration.specs.declared.radio.Radio.{Radio}
use Rattle.group_attach.specs.Attached.{Pair}
use Rattle.group_attach.specs.Applied.{most_of_radio}
use Rattle.group_attach.specs.Allowed.{AreAllowed}
use Rattle.mailbox.specs.Values.{Item}
use Rattle.mailbox.specs.Sound.{IsMail, IsSpelt, is_as_named, IsNumbered as IsNumberedItem}
use Rattle.mailbox.specs.Mail.{holds}
use Rattle.mailbox.specs.Order.{IsBefore, named, named_cmp}
use Rattle.mailbox.specs.Refusals.{most_for_one}
use Rattle.mailbox.specs.Item.{same_key, is_to, is_at}
use Rattle.mailbox.proofs.Lists.{none_passes}
use Rattle.centre_core.specs.State.{State, LastAccepted, IsOfAccepted}
use Rattle.centre_core.specs.StateRanges.{StateInRange, RuleEntryInRange, RadioInRange, ItemInRange, LastAcceptedInRange}
use Rattle.centre_core.proofs.EntriesLaws.{insert_all}
use Rattle.image_rows.specs.Rows.{Row, HeaderRow, RuleRow, RadioRow, MailRow, ServedRow, Header, Group, RadioRowInRange, MailRowInRange}
use Rattle.image_rows.specs.Rows.{ServedRowInRange, RowInRange, rule_row, radio_row, served_rows, groups_of, how_many}
use Rattle.image_rows.specs.Loading.{is_next, is_numbered, rules_done, radios_done, mail_done, rule_may, taken_rule, radio_may, taken_radio}
use Rattle.image_rows.specs.Loading.{with_attachments, mail_may, taken_mail, are_free, served_may, taken_served, put}
use Rattle.image_rows.proofs.Order.{entries_next, get_next}
use Rattle.image_rows.proofs.WithAttachments.{own_on, few_on, known_on, rows_before, ranges_on}
use Rattle.image_rows.proofs.Stations.{Entries}

-- what holds of a state between two rows: no row of a part came before the last one of the part before it
pub record IsSound (h : Header) (s : State) : Type 0 where
  pub no_radios : rules_done h s ≡ false → map.entries s.registered.radios ≡ []
  pub no_mail : radios_done h s ≡ false → s.mail.items ≡ []
  pub no_served : mail_done h s ≡ false → are_free s.served ≡ true
  pub room : h.mail ≤ s.mail.room
  pub allowed : AreAllowed s.registered s.groups
  pub mail : IsMail s.count s.mail
  pub numbered : All (IsOfAccepted s.count) s.served
  pub ranges : StateInRange s

-- the rows so far
abbrev pub so_far : Header → State → List Row
so_far h s = HeaderRow h ∷ (each rule_row (map.entries s.registered.rules) ++ (each (radio_row s.groups) (map.entries s.registered.radios) ++ (each MailRow s.mail.items ++ served_rows 1 s.served)))

-- n comes from s by these rows
pub record Comes (h : Header) (s n : State) (rows : List Row) : Type 0 where
  pub sound : IsSound h n
  pub stations : length n.served ≡ length s.served
  pub count : n.count ≡ s.count
  pub limits : n.registered.limits ≡ s.registered.limits
  pub room : n.mail.room ≡ s.mail.room
  pub rows_are : so_far h n ≡ so_far h s ++ rows

pub each_push : {A B : Type 0} (f : A → B) (xs : List A) (y : A) → each f (xs ++ y ∷ []) ≡ each f xs ++ f y ∷ []
each_push f [] y = refl
each_push {A} {B} f (x ∷ xs) y = ap (λ (l : List B). f x ∷ l) (each_push f xs y)

pub no_rows : (k : ℕ) (os : Entries) → are_free os ≡ true → served_rows k os ≡ []
no_rows k [] e = refl
no_rows k (None ∷ os) e = no_rows (k + 1) os e
no_rows k (Some x ∷ os) e = absurd cc

-- a row after a part with nothing after it
at_end : (a rest : List Row) (row : Row) → rest ≡ [] → (a ++ row ∷ []) ++ rest ≡ (a ++ rest) ++ row ∷ []
at_end a rest row none = ap (λ (l : List Row). (a ++ row ∷ []) ++ l) none ∙ append-nil (a ++ row ∷ []) ∙
    sym (ap (λ (l : List Row). (a ++ l) ++ row ∷ []) none ∙ ap (λ (l : List Row). l ++ row ∷ []) (append-nil a))

nothing_after : (a b : List Row) → a ≡ [] → b ≡ [] → a ++ b ≡ []
nothing_after a b e f = ap (λ (l : List Row). l ++ b) e ∙ f

opposite : {A : Type 0} (b : Bool) → b ≡ true → b ≡ false → A
opposite true e f = absurd cc
opposite false e f = absurd cc

-- ---- a rule's row

pub rule_only : (h : Header) (s : State) (prefix : Path) (rule : Rule) → IsSound h s → RuleEntryInRange prefix rule → rule_may h s prefix ≡ true →
    Comes h s (taken_rule s prefix rule) (RuleRow prefix rule ∷ [])
rule_only h s prefix rule sound range may =
    let old = s.registered.rules in
    let next : is_next old prefix ≡ true = second_true (nat_lt (map.len old) h.rules) _ may in
    let undone : rules_done h s ≡ false = less_not_same (map.len old) h.rules (ltb-true _ _ (first_true _ _ may)) in
    let without_radios : radios_done h s ≡ false = ap (λ b. b && (map.len s.registered.radios == h.radios)) undone in
    let without_mail : mail_done h s ≡ false = ap (λ b. b && (length s.mail.items == h.mail)) without_radios in
    let radios = sound.no_radios undone in
    let items = sound.no_mail without_radios in
    let free = sound.no_served without_mail in
    let a = each rule_row (map.entries old) in
    let rest = each (radio_row s.groups) (map.entries s.registered.radios) ++ (each MailRow s.mail.items ++ served_rows 1 s.served) in
    let none : rest ≡ [] = nothing_after _ _ (ap (each (radio_row s.groups)) radios) (nothing_after _ _ (ap (each MailRow) items) (no_rows 1 s.served free)) in
    let ranges = sound.ranges in
    record {
      sound = record {
        no_radios = λ _. radios;
        no_mail = λ _. items;
        no_served = λ _. free;
        room = sound.room;
        allowed = sound.allowed;
        mail = sound.mail;
        numbered = sound.numbered;
        ranges = record {
          limits = ranges.limits;
          rules = insert_all paths_total paths_exact RuleEntryInRange old prefix rule range ranges.rules;
          radios = ranges.radios;
          attachments = ranges.attachments;
          mail = ranges.mail;
          served = ranges.served;
        };
      };
      stations = refl;
      count = refl;
      limits = refl;
      room = refl;
      rows_are =
          ap (λ (l : List Row). HeaderRow h ∷ l)
          (ap (λ (l : List Row). l ++ rest) (ap (each rule_row) (entries_next paths_total old prefix rule next) ∙
          each_push rule_row (map.entries old) (prefix, rule)) ∙ at_end a rest (RuleRow prefix rule) none);
    }

-- ---- a radio's row

pub no_attachment : {A : Type 0} (o : Option A) (r : Option Radio) → (IsSome o → IsSome r) → r ≡ None → o ≡ None
no_attachment None r known none = refl
no_attachment (Some x) None known none = let e : false ≡ true = known refl in absurd cc
no_attachment (Some x) (Some y) known none = absurd cc

pub radio_only : (h : Header) (s : State) (itsi : ℕ) (radio : Radio) (gs : List Group) → IsSound h s → RadioRowInRange itsi radio gs →
    radio_may h s itsi radio gs ≡ true → Comes h s (taken_radio s itsi radio gs) (RadioRow itsi radio gs ∷ [])
unfolding is_next
radio_only h s itsi radio gs sound range may =
    let old = s.registered.radios in
    let limits = s.registered.limits in
    let six = first_true _ _ may in
    let five = first_true _ _ six in
    let four = first_true _ _ five in
    let three = first_true _ _ four in
    let two = first_true _ _ three in
    let order : map.is_sorted nat_cmp gs ≡ true =
    second_true (rules_done h s && nat_lt (map.len old) h.radios && is_next old (id_path itsi) && nat_lt 0 radio.station && nat_le radio.station
    limits.stations && nat_le (length gs) most_of_radio) _ may in
    let short : length gs ≤ most_of_radio =
    leb-true _ _ (second_true
    (rules_done h s && nat_lt (map.len old) h.radios && is_next old (id_path itsi) && nat_lt 0 radio.station && nat_le radio.station
    limits.stations) _ six) in
    let within : radio.station ≤ limits.stations = leb-true _ _ (second_true (rules_done h s && nat_lt (map.len old) h.radios && is_next old (id_path itsi) && nat_lt 0 radio.station) _ five) in
    let some : 0 < radio.station = ltb-true _ _ (second_true (rules_done h s && nat_lt (map.len old) h.radios && is_next old (id_path itsi)) _ four) in
    let next : is_next old (id_path itsi) ≡ true = second_true (rules_done h s && nat_lt (map.len old) h.radios) _ three in
    let ruled : rules_done h s ≡ true = first_true _ _ two in
    let undone : radios_done h s ≡ false = ap (λ b. b && (map.len old == h.radios)) ruled ∙ less_not_same (map.len old) h.radios (ltb-true _ _ (second_true (rules_done h s) _ two)) in
    let without_mail : mail_done h s ≡ false = ap (λ b. b && (length s.mail.items == h.mail)) undone in
    let items = sound.no_mail undone in
    let free = sound.no_served without_mail in
    let none : (q : Pair) → q.0 ≡ itsi → map.get s.groups q ≡ None = λ q is.
    no_attachment (map.get s.groups q) (map.get old (id_path q.0)) (sound.allowed.1 q.0 q.1) (ap (λ k. map.get old (id_path k)) is ∙ get_next paths_total old (id_path itsi) next) in
    let ranges = sound.ranges in
    let whole : All (λ e. length e.0 ≡ 48) (map.entries old) = All-weaker (λ e. RadioInRange limits.stations e.0 e.1) (λ e. length e.0 ≡ 48)
    (λ e in_range. in_range.0) (map.entries old) ranges.radios in
    let a = each rule_row (map.entries s.registered.rules) in
    let b = each (radio_row s.groups) (map.entries old) in
    let rest = each MailRow s.mail.items ++ served_rows 1 s.served in
    let groups = with_attachments s.groups itsi gs in
    let row = RadioRow itsi radio gs in
    let last : radio_row groups (id_path itsi, radio) ≡ row =
    (λ i. RadioRow (number-id_path itsi range.number i) radio (groups_of groups (number-id_path itsi range.number i))) ∙
    ap (RadioRow itsi radio) (own_on s.groups itsi gs order none) in
    let grown : each (radio_row groups) (map.entries (map.insert old (id_path itsi) radio)) ≡ b ++ row ∷ [] =
    ap (each (radio_row groups)) (entries_next paths_total old (id_path itsi) radio next) ∙ each_push (radio_row groups) (map.entries old) (id_path itsi, radio)
    ∙ (λ i. rows_before s.groups itsi gs order (map.entries old) whole next i ++ last i ∷ []) in
    let ended : (b ++ row ∷ []) ++ rest ≡ (b ++ rest) ++ row ∷ [] = at_end b rest row (nothing_after _ _ (ap (each MailRow) items) (no_rows 1 s.served free)) in
    record {
      sound = record {
        no_radios = opposite (rules_done h s) ruled;
        no_mail = λ _. items;
        no_served = λ _. free;
        room = sound.room;
        allowed = (few_on s.groups itsi gs order none short sound.allowed.0, known_on s.groups itsi gs order old radio sound.allowed.1);
        mail = sound.mail;
        numbered = sound.numbered;
        ranges = record {
          limits = ranges.limits;
          rules = ranges.rules;
          radios = insert_all paths_total paths_exact (RadioInRange limits.stations) old (id_path itsi) radio (length-id_path itsi, some, within, range.area) ranges.radios;
          attachments = ranges_on s.groups itsi gs range.number range.each_group ranges.attachments;
          mail = ranges.mail;
          served = ranges.served;
        };
      };
      stations = refl;
      count = refl;
      limits = refl;
      room = refl;
      rows_are =
          ap (λ (l : List Row). HeaderRow h ∷ (a ++ (l ++ rest))) grown ∙ ap (λ (l : List Row). HeaderRow h ∷ (a ++ l)) ended ∙
          ap (λ (l : List Row). HeaderRow h ∷ l) (sym (append_assoc a (b ++ rest) (row ∷ [])));
    }

-- ---- a row of the mail

abbrev weight : ℕ → Item → ℕ
weight destination w = cond (is_to destination w) 1 0

each_fits : (w : Item) (ws : List Item) (destination : ℕ) → count_by (is_to w.key.destination) ws < most_for_one →
    count_by (is_to destination) ws ≤ most_for_one → count_by (is_to destination) (ws ++ w ∷ []) ≤ most_for_one
each_fits w ws destination here all =
    let sum : count_by (is_to destination) (ws ++ w ∷ []) ≡ count_by (is_to destination) ws + weight destination w = sum_by_push (weight destination) ws w in
    elim (is_to destination w) as (λ b. is_to destination w ≡ b → count_by (is_to destination) (ws ++ w ∷ []) ≤ most_for_one) [
      | true ↦ λ same.
          let one : weight destination w ≡ 1 = ap (λ b. cond b 1 0) same in
          let less_here : count_by (is_to destination) ws < most_for_one = subst (λ d. count_by (is_to d) ws < most_for_one) (eqb-true w.key.destination destination same) here in
          omega (arith, sum, one, less_here)
      | false ↦ λ other. let nothing : weight destination w ≡ 0 = ap (λ b. cond b 1 0) other in omega (arith, sum, nothing, all)
    ] refl

pub mail_only : (h : Header) (s : State) (w : Item) → IsSound h s → MailRowInRange w → mail_may h s w ≡ true → Comes h s (taken_mail s w) (MailRow w ∷ [])
mail_only h s w sound range may =
    let old = s.mail.items in
    let comes_last = list_all (λ o. is_lt (named_cmp (named o) (named w))) old in
    let six = first_true _ _ may in
    let five = first_true _ _ six in
    let four = first_true _ _ five in
    let three = first_true _ _ four in
    let two = first_true _ _ three in
    let head : is_as_named w ≡ true =
    second_true (radios_done h s && nat_lt (length old) h.mail && is_numbered s.count w.number && comes_last && not (holds s.mail w.key) && nat_lt
    (count_by (is_to w.key.destination) old) most_for_one) _ may in
    let few : count_by (is_to w.key.destination) old < most_for_one =
    ltb-true _ _ (second_true
    (radios_done h s && nat_lt (length old) h.mail && is_numbered s.count w.number && comes_last && not (holds s.mail w.key)) _ six) in
    let free : holds s.mail w.key ≡ false = not_true (holds s.mail w.key) (second_true (radios_done h s && nat_lt (length old) h.mail && is_numbered s.count w.number && comes_last) _ five) in
    let last : comes_last ≡ true = second_true (radios_done h s && nat_lt (length old) h.mail && is_numbered s.count w.number) _ four in
    let numbered : is_numbered s.count w.number ≡ true = second_true (radios_done h s && nat_lt (length old) h.mail) _ three in
    let number : IsNumberedItem s.count w = (ltb-true _ _ (first_true _ _ numbered), leb-true _ _ (second_true (nat_lt 0 w.number) _ numbered)) in
    let placed : radios_done h s ≡ true = first_true _ _ two in
    let fewer : length old < h.mail = ltb-true _ _ (second_true (radios_done h s) _ two) in
    let undone : mail_done h s ≡ false = ap (λ b. b && (length old == h.mail)) placed ∙ less_not_same (length old) h.mail fewer in
    let stations_free = sound.no_served undone in
    let mail = sound.mail in
    let ranges = sound.ranges in
    let longer = length-append old (w ∷ []) in
    let room = sound.room in
    let a = each rule_row (map.entries s.registered.rules) in
    let b = each (radio_row s.groups) (map.entries s.registered.radios) in
    let c = each MailRow old in
    let d = served_rows 1 s.served in
    let row = MailRow w in
    let grown : each MailRow (old ++ w ∷ []) ++ d ≡ (c ++ d) ++ row ∷ [] = ap (λ (l : List Row). l ++ d) (each_push MailRow old w) ∙ at_end c d row (no_rows 1 s.served stations_free) in
    record {
      sound = record {
        no_radios = sound.no_radios;
        no_mail = opposite (radios_done h s) placed;
        no_served = λ _. stations_free;
        room = room;
        allowed = sound.allowed;
        mail = record {
          numbered = All-push (IsNumberedItem s.count) old w mail.numbered number;
          ordered = all_pairs_push IsBefore old w mail.ordered
              (λ k x below. is_less _
              (All-get_or (λ o. is_lt (named_cmp (named o) (named w)) ≡ true) old k x below
              (AllPass-from_list_all (λ o. is_lt (named_cmp (named o) (named w))) old last)));
          apart = all_pairs_push (λ x y. same_key y.key x.key ≡ false) old w mail.apart
              (λ k x below. All-get_or (λ o. same_key w.key o.key ≡ false) old k x below (none_passes (is_at w.key) old free));
          fits = omega (arith, longer, fewer, room);
          fits_each = λ destination. each_fits w old destination few (mail.fits_each destination);
          spelt = All-push IsSpelt old w mail.spelt (record { head = head; written = range.written });
        };
        numbered = sound.numbered;
        ranges = record {
          limits = ranges.limits;
          rules = ranges.rules;
          radios = ranges.radios;
          attachments = ranges.attachments;
          mail =
              All-push ItemInRange old w ranges.mail range.item;
          served = ranges.served;
        };
      };
      stations = refl;
      count = refl;
      limits = refl;
      room = refl;
      rows_are =
          ap (λ (l : List Row). HeaderRow h ∷ (a ++ (b ++ l))) grown ∙
          ap (λ (l : List Row). HeaderRow h ∷ (a ++ l)) (sym (append_assoc b (c ++ d) (row ∷ []))) ∙
          ap (λ (l : List Row). HeaderRow h ∷ l) (sym (append_assoc a (b ++ (c ++ d)) (row ∷ [])));
    }

-- ---- a station's row

set_rows : (k : ℕ) (xs : Entries) (place : ℕ) (x : LastAccepted) → place < length xs → are_free (drop place xs) ≡ true →
    served_rows k (slice_set xs place (Some x)) ≡ served_rows k xs ++ ServedRow (k + place) x ∷ []
set_rows k [] place x lt free = absurd (omega (arith, lt))
set_rows k (None ∷ xs) zero x lt free = let e : k ≡ k + 0 = omega arith in ap (λ (l : List Row). ServedRow k x ∷ l) (no_rows (k + 1) xs free) ∙
    ap (λ n. ServedRow n x ∷ []) e ∙ ap (λ (l : List Row). l ++ ServedRow (k + 0) x ∷ []) (sym (no_rows (k + 1) xs free))
set_rows k (Some y ∷ xs) zero x lt free = absurd cc
set_rows k (None ∷ xs) (suc place) x lt free = let e : (k + 1) + place ≡ k + suc place = omega arith in
    set_rows (k + 1) xs place x (omega (arith, lt)) free ∙ ap (λ n. served_rows (k + 1) xs ++ ServedRow n x ∷ []) e
set_rows k (Some y ∷ xs) (suc place) x lt free = let e : (k + 1) + place ≡ k + suc place = omega arith in
    ap (λ (l : List Row). ServedRow k y ∷ l) (set_rows (k + 1) xs place x (omega (arith, lt)) free ∙
    ap (λ n. served_rows (k + 1) xs ++ ServedRow n x ∷ []) e)

pub served_only : (h : Header) (s : State) (station : ℕ) (x : LastAccepted) → IsSound h s → ServedRowInRange station x →
    served_may h s station x ≡ true → Comes h s (taken_served s station x) (ServedRow station x ∷ [])
served_only h s station x sound range may =
    let five = first_true _ _ may in
    let four = first_true _ _ five in
    let three = first_true _ _ four in
    let two = first_true _ _ three in
    let numbered : is_numbered s.count x.number ≡ true =
    second_true (mail_done h s && nat_lt (how_many s.served) h.served && nat_lt 0 station && nat_le station (length s.served) && are_free
    (drop (station - 1) s.served)) _ may in
    let number : IsOfAccepted s.count (Some x) = (ltb-true _ _ (first_true _ _ numbered), leb-true _ _ (second_true (nat_lt 0 x.number) _ numbered)) in
    let free : are_free (drop (station - 1) s.served) ≡ true = second_true (mail_done h s && nat_lt (how_many s.served) h.served && nat_lt 0 station && nat_le station (length s.served)) _ five in
    let within : station ≤ length s.served = leb-true _ _ (second_true (mail_done h s && nat_lt (how_many s.served) h.served && nat_lt 0 station) _ four) in
    let some : 0 < station = ltb-true _ _ (second_true (mail_done h s && nat_lt (how_many s.served) h.served) _ three) in
    let posted : mail_done h s ≡ true = first_true _ _ two in
    let e : 1 + (station - 1) ≡ station = omega (arith, some) in
    let ranges = sound.ranges in
    let a = each rule_row (map.entries s.registered.rules) in
    let b = each (radio_row s.groups) (map.entries s.registered.radios) in
    let c = each MailRow s.mail.items in
    let d = served_rows 1 s.served in
    let row = ServedRow station x in
    record {
      sound = record {
        no_radios = sound.no_radios;
        no_mail = sound.no_mail;
        no_served = opposite (mail_done h s) posted;
        room = sound.room;
        allowed = sound.allowed;
        mail = sound.mail;
        numbered = All-set (IsOfAccepted s.count) s.served (station - 1) (Some x) number sound.numbered;
        ranges = record {
          limits = ranges.limits;
          rules = ranges.rules;
          radios = ranges.radios;
          attachments = ranges.attachments;
          mail = ranges.mail;
          served = All-set (λ (last : Option LastAccepted). IfSome last LastAcceptedInRange) s.served (station - 1) (Some x) range.kept
              ranges.served;
        };
      };
      stations = length-set s.served (station - 1) (Some x);
      count = refl;
      limits = refl;
      room = refl;
      rows_are =
          ap (λ (l : List Row). HeaderRow h ∷ (a ++ (b ++ (c ++ l)))) (set_rows 1 s.served (station - 1) x (omega (arith, some, within)) free ∙ ap (λ n. d ++ ServedRow n x ∷ []) e)
          ∙ ap (λ (l : List Row). HeaderRow h ∷ (a ++ (b ++ l))) (sym (append_assoc c d (row ∷ []))) ∙
          ap (λ (l : List Row). HeaderRow h ∷ (a ++ l)) (sym (append_assoc b (c ++ d) (row ∷ []))) ∙
          ap (λ (l : List Row). HeaderRow h ∷ l) (sym (append_assoc a (b ++ (c ++ d)) (row ∷ [])));
    }

-- ---- any row after the header

pub put_only : (h : Header) (s n : State) (row : Row) → IsSound h s → RowInRange row → put h s row ≡ Some n → Comes h s n (row ∷ [])
put_only h s n (HeaderRow again) sound range e = absurd cc
put_only h s n (RuleRow prefix rule) sound range e =
    let c = some_where (rule_may h s prefix) (taken_rule s prefix rule) n e in
    subst (λ (m : State). Comes h s m (RuleRow prefix rule ∷ [])) c.1 (rule_only h s prefix rule sound range c.0)
put_only h s n (RadioRow itsi radio gs) sound range e =
    let c = some_where (radio_may h s itsi radio gs) (taken_radio s itsi radio gs) n e in
    subst (λ (m : State). Comes h s m (RadioRow itsi radio gs ∷ [])) c.1 (radio_only h s itsi radio gs sound range c.0)
put_only h s n (MailRow w) sound range e =
    let c = some_where (mail_may h s w) (taken_mail s w) n e in
    subst (λ (m : State). Comes h s m (MailRow w ∷ [])) c.1 (mail_only h s w sound range c.0)
put_only h s n (ServedRow station x) sound range e =
    let c = some_where (served_may h s station x) (taken_served s station x) n e in
    subst (λ (m : State). Comes h s m (ServedRow station x ∷ [])) c.1 (served_only h s station x sound range c.0)
