-- The entries found one after another are the entries of a table.
use Rattle.std.proofs.Common.{◌≡◌, ℕ, zero, suc, ◌+◌, ◌-◌, ◌<◌, ◌≤◌, List, [], ◌∷◌, length, Option, Some, None, refl, sym, ap, ◌∙◌, subst, arith}
use Rattle.std.specs.Prelude.{IfSome, map as each, option_map}
use Rattle.std.specs.List.{All, filter}
use Rattle.std.specs.Cmp.{IsTotalOrder}
use Rattle.std.specs.FinMap as map
use Rattle.std.specs.declared.cmp.Ordering.{Ordering}
use Rattle.std.specs.declared.cmp.Ordering.TheVariants.{Less}
use Rattle.std.proofs.lemmas.List.{length-map}
use Rattle.std.proofs.lemmas.List.Elements.{All-filter}
use Rattle.std.proofs.lemmas.List.Kept.{AllPairs-filter}
use Rattle.std.proofs.lemmas.List.Sums.{length-filter, count_by-le-length}
use Rattle.base.proofs.Lists.{found_all}
use Rattle.identity.specs.Path.{Path, path_cmp}
use Rattle.identity.specs.Inside.PathLaws.{id_path-number, paths_total}
use Rattle.prefix_tree.specs.Following.{next_of, is_after, AreRising, then_on, one_by_one}
use Rattle.prefix_tree.proofs.Following.{all_one_by_one, sorted_rise}
use Rattle.registration.specs.declared.radio.Radio.{Radio}
use Rattle.mailbox.specs.Item.{is_expired}
use Rattle.mailbox.specs.Order.{IsBefore, named_cmp, named}
use Rattle.mailbox.proofs.Keys.{named_total}
use Rattle.centre_core.specs.State.{State, IsState}
use Rattle.centre_core.specs.StateRanges.{StateInRange}
use Rattle.listings.specs.declared.listing.Table.{Table}
use Rattle.listings.specs.declared.listing.Table.TheVariants as table
use Rattle.listings.specs.declared.walk.TablePlace.{TablePlace}
use Rattle.listings.specs.Entries.{Entry, ItemEntry, is_under, rule_entry, radio_entry, waits_at, entries_of}
use Rattle.listings.specs.Inside.Walking.{entry_after, place_of}
use Rattle.listings.proofs.Under.{all_under}

-- a walk over the items of a list, each of which is shown by f and found again by its place
module _ {K X P Y : Type 0} (cmp : K → K → Ordering) (key : X → K) (xs : List X) (Is : X → Type 0) (f : X → Y) (place : Y → P) (next : Option P → Option Y) where
  module _ (each_is : All Is xs) (on : (x : X) → Is x → next (Some (place (f x))) ≡ option_map f (next_of cmp key xs (Some (key x)))) where
    shown : (n : ℕ) (at : Option P) (after : Option K) → next at ≡ option_map f (next_of cmp key xs after)
        → one_by_one next place n at ≡ each f (one_by_one (next_of cmp key xs) key n after)
    shown zero at after same = refl
    shown (suc n) at after same =
        ap (then_on (λ y. one_by_one next place n (Some (place y)))) same
        ∙ by (λ x here. shown n (Some (place (f x))) (Some (key x)) (on x here)) (next_of cmp key xs after) (found_all Is (is_after cmp key after) xs each_is)
      where
        by : ((x : X) → Is x → one_by_one next place n (Some (place (f x))) ≡ each f (one_by_one (next_of cmp key xs) key n (Some (key x)))) → (o : Option X) → IfSome o Is
            → then_on (λ y. one_by_one next place n (Some (place y))) (option_map f o) ≡ each f (then_on (λ x. one_by_one (next_of cmp key xs) key n (Some (key x))) o)
        by rest None here = refl
        by rest (Some x) here = ap (λ (ys : List Y). f x ∷ ys) (rest x here)

    pub all_shown : IsTotalOrder cmp → AreRising cmp key xs → next None ≡ option_map f (next_of cmp key xs None) → (n : ℕ) → length (each f xs) ≤ n
        → one_by_one next place n None ≡ each f xs
    all_shown total rise first n le =
        shown n None None first ∙ ap (each f) (all_one_by_one cmp total key xs n rise (subst (λ l. l ≤ n) (length-map xs f) le))

abbrev Any : {X : Type 0} → X → Type 0
Any x = Unit {0}

any_each : {X : Type 0} (xs : List X) → All Any xs
any_each xs = λ i d below. tt

module _ (s : State) (state : IsState s) (ranges : StateInRange s) where
  pub radios_whole : All (λ (e : Path × Radio). length e.0 ≡ 48) (map.entries s.registered.radios)
  radios_whole i d below = (ranges.radios i d below).0

  by_place : (prefix : Option Path) (e : Path × Radio) → length e.0 ≡ 48
      → entry_after s (table.Radios prefix) (Some (place_of (radio_entry e)))
      ≡ option_map radio_entry (next_of path_cmp (λ e. e.0) (filter (λ e. is_under prefix e.0) (map.entries s.registered.radios)) (Some e.0))
  by_place prefix e whole =
      ap (λ p. option_map radio_entry (next_of path_cmp (λ e. e.0) (filter (λ e. is_under prefix e.0) (map.entries s.registered.radios)) (Some p))) (id_path-number e.0 whole)

  pub entries_walk : (table : Table) (n : ℕ) → length (entries_of s table) ≤ n → one_by_one (entry_after s table) place_of n None ≡ entries_of s table
  entries_walk table.Rules n le =
      let es = map.entries s.registered.rules in
      all_shown path_cmp (λ e. e.0) es Any rule_entry place_of (entry_after s table.Rules) (any_each es) (λ e any. refl) paths_total
      (sorted_rise path_cmp es (map.entries_sorted s.registered.rules)) refl n le
  entries_walk (table.Radios prefix) n le =
      let all = map.entries s.registered.radios in
      let es = filter (λ e. is_under prefix e.0) all in
      all_shown path_cmp (λ e. e.0) es (λ e. length e.0 ≡ 48) radio_entry place_of (entry_after s (table.Radios prefix)) (All-filter (λ e. is_under prefix e.0) (λ e. length e.0 ≡ 48) all radios_whole)
      (by_place prefix) paths_total (AllPairs-filter (λ e f. path_cmp e.0 f.0 ≡ Less) (λ e. is_under prefix e.0) all (sorted_rise path_cmp all (map.entries_sorted s.registered.radios))) refl n le
  entries_walk table.Items n le =
      all_shown named_cmp named s.mail.items Any ItemEntry place_of (entry_after s table.Items) (any_each s.mail.items) (λ w any. refl) named_total state.mail.in_order.ordered refl n le
  entries_walk (table.Due moment) n le =
      let ws = filter (is_expired moment) s.mail.items in
      all_shown named_cmp named ws Any ItemEntry place_of (entry_after s (table.Due moment)) (any_each ws) (λ w any. refl) named_total
      (AllPairs-filter IsBefore (is_expired moment) s.mail.items state.mail.in_order.ordered) refl n le
  entries_walk (table.WaitingAt station) n le =
      let waits = waits_at s.registered station in
      let ws = filter waits s.mail.items in
      all_shown named_cmp named ws Any ItemEntry place_of (entry_after s (table.WaitingAt station)) (any_each ws) (λ w any. refl) named_total
      (AllPairs-filter IsBefore waits s.mail.items state.mail.in_order.ordered) refl n le

-- ---- how many entries there are in all

pub rules_counted : (s : State) → length (entries_of s table.Rules) ≡ map.len s.registered.rules
rules_counted s = length-map (map.entries s.registered.rules) rule_entry ∙ sym (map.len-entries s.registered.rules)

pub radios_counted : (s : State) → length (entries_of s (table.Radios None)) ≡ map.len s.registered.radios
radios_counted s =
    length-map (filter (λ e. is_under None e.0) (map.entries s.registered.radios)) radio_entry ∙ ap length (all_under (map.entries s.registered.radios)) ∙ sym (map.len-entries s.registered.radios)

-- ---- what is left of a walk of so many turns

abbrev pub turns : ℕ
turns = 18446744073709551615

-- a table has fewer entries
entries_fit : (s : State) → IsState s → StateInRange s → (table : Table) → length (entries_of s table) ≤ turns
entries_fit s state ranges table.Rules =
    let es = map.entries s.registered.rules in
    omega (arith, length-map es rule_entry, map.len-entries s.registered.rules, state.within.rules, ranges.limits.most_rules)
entries_fit s state ranges (table.Radios prefix) =
    let es = map.entries s.registered.radios in
    let some : length (filter (λ e. is_under prefix e.0) es) ≤ length es = omega (arith, length-filter (λ e. is_under prefix e.0) es, count_by-le-length (λ e. is_under prefix e.0) es) in
    omega (arith, some, length-map (filter (λ e. is_under prefix e.0) es) radio_entry, map.len-entries s.registered.radios, state.within.radios, ranges.limits.most_radios)
entries_fit s state ranges table.Items =
    omega (arith, length-map s.mail.items ItemEntry, state.mail.in_order.fits, state.mail.room, ranges.limits.most_mail)
entries_fit s state ranges (table.Due moment) =
    let ws = s.mail.items in
    let some : length (filter (is_expired moment) ws) ≤ length ws = omega (arith, length-filter (is_expired moment) ws, count_by-le-length (is_expired moment) ws) in
    omega (arith, some, length-map (filter (is_expired moment) ws) ItemEntry, state.mail.in_order.fits, state.mail.room, ranges.limits.most_mail)
entries_fit s state ranges (table.WaitingAt station) =
    let ws = s.mail.items in
    let waits = waits_at s.registered station in
    let some : length (filter waits ws) ≤ length ws = omega (arith, length-filter waits ws, count_by-le-length waits ws) in
    omega (arith, some, length-map (filter waits ws) ItemEntry, state.mail.in_order.fits, state.mail.room, ranges.limits.most_mail)

module _ (s : State) (table : Table) where
  -- the entries after a place, of which so many turns have passed
  unfoldable pub left : ℕ → Option TablePlace → List Entry
  left k after = one_by_one (entry_after s table) place_of (turns - k) after

  pub all_left : IsState s → StateInRange s → left 0 None ≡ entries_of s table
  unfolding left
  all_left state ranges = entries_walk s state ranges table turns (entries_fit s state ranges table)

  pub one_left : (k : ℕ) (after : Option TablePlace) (e : Entry) (place : TablePlace) → k < turns → Some e ≡ entry_after s table after → place ≡ place_of e
      → left k after ≡ e ∷ left (k + 1) (Some place)
  unfolding left
  one_left k after e place more is at =
      let n : turns - k ≡ suc (turns - (k + 1)) = omega (arith, more) in
      ap (λ (m : ℕ). one_by_one (entry_after s table) place_of m after) n
      ∙ ap (then_on (λ x. one_by_one (entry_after s table) place_of (turns - (k + 1)) (Some (place_of x)))) (sym is)
      ∙ ap (λ p. e ∷ one_by_one (entry_after s table) place_of (turns - (k + 1)) (Some p)) (sym at)

  pub none_left : (k : ℕ) (after : Option TablePlace) → None ≡ entry_after s table after → left k after ≡ []
  unfolding left
  none_left k after is = by (turns - k)
    where
      by : (n : ℕ) → one_by_one (entry_after s table) place_of n after ≡ []
      by zero = refl
      by (suc n) = ap (then_on (λ x. one_by_one (entry_after s table) place_of n (Some (place_of x)))) (sym is)

  pub out_of_turns : (k : ℕ) (after : Option TablePlace) → turns ≤ k → left k after ≡ []
  unfolding left
  out_of_turns k after done = let n : turns - k ≡ 0 = omega (arith, done) in ap (λ (m : ℕ). one_by_one (entry_after s table) place_of m after) n
