-- The rows of the radios, taken one after another, give the radios and their groups.
use Rattle.std.proofs.Common.{◌≡◌, ℕ, ◌<◌, ◌^◌, Bool, true, false, cond, List, [], ◌∷◌, ◌++◌, Option, Some, None, refl, sym, ap, subst, ◌∙◌, append_assoc}
use Rattle.std.specs.Prelude.{◌==◌, map as each, IsSome}
use Rattle.std.specs.List.{All}
use Rattle.std.specs.Option.{option_or, is_some}
use Rattle.std.specs.Ordering.{eq_by_cmp}
use Rattle.std.specs.FinMap as map
use Rattle.std.proofs.lemmas.Bool.{lt-ltb, le-leb, eqb-true, eq-eqb}
use Rattle.std.proofs.lemmas.List.{append-nil}
use Rattle.std.proofs.lemmas.List.Elements.{All-head, All-tail}
use Rattle.base.proofs.Bools.{and_is_true}
use Rattle.identity.specs.Number.{number}
use Rattle.identity.specs.Inside.NumberLaws.{number-lt}
use Rattle.identity.specs.Path.{Path, path_cmp, id_path}
use Rattle.identity.specs.Inside.PathLaws.{paths_total, id_path-number, id_path-injective, same_test}
use Rattle.prefix_tree.specs.Table.{PathMap}
use Rattle.registration.specs.declared.radio.Radio.{Radio}
use Rattle.group_attach.specs.Attached.{Attached, Pair, Usage, pair_cmp}
use Rattle.group_attach.specs.Allowed.{AllGroupsFit}
use Rattle.group_attach.proofs.Pairs.{pairs_total, pairs_exact, alike}
use Rattle.centre_core.specs.State.{State}
use Rattle.centre_core.specs.StateRanges.{AllEntries, RadioInRange, AttachmentInRange}
use Rattle.centre_core.proofs.EntriesLaws.{found_in}
use Rattle.image_rows.specs.Rows.{Header, radio_row, groups_of}
use Rattle.image_rows.specs.Loading.{◌>>=◌, Loading, row_taken, all_taken, is_next, rules_done, radio_may, taken_radio, with_attachments}
use Rattle.image_rows.proofs.Order.{entries_next, next_of, fewer}
use Rattle.image_rows.proofs.Groups.{groups_sorted, length_groups, get_with_attachments}
use Rattle.image_rows.proofs.Rules.{at}

-- the attachments of the radios that are there
abbrev pub is_known : PathMap Radio → Pair → Bool
is_known radios p = is_some (map.get radios (id_path p.0))

abbrev pub known_of : Attached → PathMap Radio → Attached
known_of full radios = map.retain_keys full (is_known radios)

pub get_known : (full : Attached) (radios : PathMap Radio) (q : Pair) → map.get (known_of full radios) q ≡ cond (is_known radios q) (map.get full q) None
get_known full radios q = map.get-retain_keys full (is_known radios) q (alike (is_known radios) q)

-- two identities of 48 bits are one where their bits are
pub same_bits : (a b : ℕ) → a < 2 ^ 48 → b < 2 ^ 48 → (a == b) ≡ eq_by_cmp path_cmp (id_path a) (id_path b)
same_bits a b fits fits_too = same_test (a == b) (id_path a) (id_path b) (λ same. ap id_path (eqb-true _ _ same)) (λ same. eq-eqb _ _ (id_path-injective a b fits fits_too same))

or_less : {A : Type 0} (b : Bool) (o : Option A) → option_or o (cond b o None) ≡ o
or_less true None = refl
or_less false None = refl
or_less b (Some x) = refl

nothing : {A : Type 0} (b c d : Bool) → option_or (cond b (let o : Option A = None in o) None) (cond c None None) ≡ cond d None None
nothing true true true = refl
nothing true true false = refl
nothing true false true = refl
nothing true false false = refl
nothing false true true = refl
nothing false true false = refl
nothing false false true = refl
nothing false false false = refl

by_radio : {A : Type 0} (radio : Radio) (b : Bool) (o : Option A) (r : Option Radio) → option_or (cond b o None) (cond (is_some r) o None) ≡ cond (is_some (cond b (Some radio) r)) o None
by_radio radio true o r = or_less (is_some r) o
by_radio radio false o r = refl

-- a radio's row adds its attachments to those of the radios before
one_more : (full : Attached) (radios : PathMap Radio) (itsi : ℕ) (radio : Radio) → AllEntries AttachmentInRange full → itsi < 2 ^ 48 →
    with_attachments (known_of full radios) itsi (groups_of full itsi) ≡ known_of full (map.insert radios (id_path itsi) radio)
one_more full radios itsi radio ranges fits =
    map.same_map pairs_total pairs_exact _ _ (λ q.
    get_with_attachments (known_of full radios) full itsi q
    ∙ ap (option_or (cond (q.0 == itsi) (map.get full q) None)) (get_known full radios q)
    ∙ at_pair q (map.get full q) refl
    ∙ sym (get_known full (map.insert radios (id_path itsi) radio) q))
  where
    at_pair : (q : Pair) (o : Option Usage) → map.get full q ≡ o → option_or (cond (q.0 == itsi) o None) (cond (is_known radios q) o None) ≡ cond
        (is_known (map.insert radios (id_path itsi) radio) q) o None
    at_pair q None e = nothing (q.0 == itsi) (is_known radios q) (is_known (map.insert radios (id_path itsi) radio) q)
    at_pair q (Some usage) e =
        let range = found_in pairs_total pairs_exact AttachmentInRange full q usage ranges e in
        ap (λ b. option_or (cond b (Some usage) None) (cond (is_known radios q) (Some usage) None)) (same_bits q.0 itsi range.0 fits)
        ∙ by_radio radio (eq_by_cmp path_cmp (id_path q.0) (id_path itsi)) (Some usage) (map.get radios (id_path q.0))
        ∙ ap (λ o. cond (is_some o) (Some usage) None) (sym (map.get-insert paths_total radios (id_path itsi) radio (id_path q.0)))

pub all_known : (full : Attached) (radios : PathMap Radio) → ((itsi gtsi : ℕ) → IsSome (map.get full (itsi, gtsi)) → IsSome (map.get radios (id_path itsi))) → known_of full radios ≡ full
all_known full radios known = map.same_map pairs_total pairs_exact _ _ (λ q. get_known full radios q ∙ there (map.get full q) (map.get radios (id_path q.0)) (known q.0 q.1))
  where
    there : (o : Option Usage) (r : Option Radio) → (IsSome o → IsSome r) → cond (is_some r) o None ≡ o
    there None None k = refl
    there None (Some x) k = refl
    there (Some x) None k = let e : false ≡ true = k refl in absurd cc
    there (Some x) (Some y) k = refl

pub none_known : (full : Attached) → known_of full map.empty ≡ map.empty
none_known full =
    map.same_map pairs_total pairs_exact _ _ (λ q. get_known full map.empty q
    ∙ ap (λ o. cond (is_some o) (map.get full q) None) (map.get-empty {X = Radio} path_cmp (id_path q.0)) ∙ sym (map.get-empty pair_cmp q))

abbrev pub with_radios : State → PathMap Radio → Attached → State
with_radios s radios groups = record s { registered = record s.registered { radios = radios }; groups = groups }

abbrev of_stations : ℕ → Path × Radio → Type 0
of_stations stations e = RadioInRange stations e.0 e.1

-- the radios that are left
pub radios_taken : (h : Header) (s : State) (full : PathMap Radio) (groups : Attached) (es : List (Path × Radio)) → rules_done h s ≡ true →
    h.radios ≡ map.len full → AllGroupsFit groups → AllEntries AttachmentInRange groups → All (of_stations s.registered.limits.stations) es
    → map.entries s.registered.radios ++ es ≡ map.entries full → s.groups ≡ known_of groups s.registered.radios
    → all_taken (at h s) (each (radio_row groups) es) ≡ Some (at h (with_radios s full (known_of groups full)))
unfolding row_taken
radios_taken h s full groups [] ruled stated few ranges all is so =
    let same : s.registered.radios ≡ full = map.same_entries_map s.registered.radios full (sym (append-nil (map.entries s.registered.radios)) ∙ is) in
    ap (λ (g : Attached). Some (at h (record s { groups = g }))) so ∙ ap (λ (r : PathMap Radio). Some (at h (with_radios s r (known_of groups r)))) same
radios_taken h s full groups (e ∷ es) ruled stated few ranges all is so =
    let itsi = number e.0 in
    let gs = groups_of groups itsi in
    let old = s.registered.radios in
    let here_in = All-head (of_stations s.registered.limits.stations) e es all in
    let bits : id_path itsi ≡ e.0 = id_path-number e.0 here_in.0 in
    let fits : itsi < 2 ^ 48 = subst (λ n. itsi < 2 ^ n) here_in.0 (number-lt e.0) in
    let ordered : is_next old (id_path itsi) ≡ true = ap (is_next old) bits ∙ next_of path_cmp old full e es is in
    let may : radio_may h s itsi e.1 gs ≡ true =
    and_is_true _ _ (and_is_true _ _
    (and_is_true _ _ (and_is_true _ _
    (and_is_true _ _ (and_is_true _ _ ruled (lt-ltb (map.len old) h.radios (rw stated (fewer path_cmp old full e es is)))) ordered)
    (lt-ltb 0 e.1.station here_in.1)) (le-leb _ _ here_in.2)) (le-leb _ _ (rw (length_groups groups itsi) (few itsi)))) (groups_sorted groups itsi)
    in
    let n : State = taken_radio s itsi e.1 gs in
    let here : row_taken (at h s) (radio_row groups e) ≡ Some (at h n) = rw may refl in
    let more : map.entries n.registered.radios ++ es ≡ map.entries full =
    ap (λ (l : List (Path × Radio)). l ++ es) (entries_next paths_total old (id_path itsi) e.1 ordered) ∙ append_assoc (map.entries old) ((id_path itsi, e.1) ∷ []) es
    ∙ ap (λ (p : Path). map.entries old ++ (p, e.1) ∷ es) bits ∙ is in
    ap (λ (r : Option Loading). r >>= λ n. all_taken n (each (radio_row groups) es)) here
    ∙ radios_taken h n full groups es ruled stated few ranges (All-tail (of_stations s.registered.limits.stations) e es all) more
    (ap (λ (g : Attached). with_attachments g itsi gs) so ∙ one_more groups old itsi e.1 ranges fits)
