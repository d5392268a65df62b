-- What a new radio's groups leave as it was, and what they add.
use Rattle.std.proofs.Common.{◌≡◌, ℕ, ◌<◌, ◌≤◌, ◌^◌, Bool, true, false, cond, List, [], ◌∷◌, length, Option, Some, None, refl, sym, ap, subst, ◌∙◌, arith}
use Rattle.std.specs.Prelude.{◌&&◌, ◌==◌, map as each, IsSome}
use Rattle.std.specs.List.{All, list_all}
use Rattle.std.specs.Option.{option_or}
use Rattle.std.specs.declared.cmp.Ordering.{Ordering}
use Rattle.std.specs.declared.cmp.Ordering.TheVariants.{Less, Equal, Greater}
use Rattle.std.specs.Ordering.{nat_cmp, is_lt, is_eq, eq_by_cmp}
use Rattle.std.specs.FinMap as map
use Rattle.std.specs.FinMap.Entries.{below_all, find, is_sorted}
use Rattle.std.proofs.lemmas.Bool.{eqb-true, ne_eqb}
use Rattle.std.proofs.lemmas.List.Elements.{All-head, All-tail}
use Rattle.base.proofs.Bools.{first_true, second_true, and_is_true}
use Rattle.identity.specs.Number.{number}
use Rattle.identity.specs.Path.{Path, path_cmp, id_path}
use Rattle.identity.specs.Inside.PathLaws.{paths_total, id_path-number, tied}
use Rattle.prefix_tree.specs.Table.{PathMap}
use Rattle.registration.specs.declared.radio.Radio.{Radio}
use Rattle.group_attach.specs.declared.attachment.Attachment.{Attachment}
use Rattle.group_attach.specs.Attached.{Attached, Pair, Usage, pair_cmp, entry_of, of_radio, all_attached}
use Rattle.group_attach.specs.Applied.{most_of_radio}
use Rattle.group_attach.specs.InOrder.{IsInOrder}
use Rattle.group_attach.specs.Inside.ListedMap.{map_of}
use Rattle.group_attach.specs.Allowed.{AllGroupsFit}
use Rattle.group_attach.proofs.Pairs.{pairs_total, pairs_exact, pairs_tied, alike}
use Rattle.group_attach.proofs.Filtered.{entries_of, listed_map}
use Rattle.group_attach.proofs.Moves.{get_added}
use Rattle.centre_core.specs.StateRanges.{AllEntries, AttachmentInRange}
use Rattle.centre_core.proofs.EntriesLaws.{insert_all}
use Rattle.image_rows.specs.Rows.{Group, GroupInRange, RadioRow, group_of, groups_of, radio_row}
use Rattle.image_rows.specs.Loading.{with_attachments, attachment_in}
use Rattle.image_rows.proofs.Groups.{within_one, length_groups}

-- the radio's groups as attachments
abbrev own : ℕ → List Group → List Attachment
own itsi gs = each (attachment_in itsi) gs

below_pairs : (itsi a : ℕ) (gs : List Group) → below_all nat_cmp a gs ≡ true → below_all pair_cmp (itsi, a) (each entry_of (own itsi gs)) ≡ true
below_pairs itsi a [] h = refl
below_pairs itsi a (g ∷ gs) h = and_is_true _ _ (ap is_lt (within_one itsi a g.0) ∙ first_true _ _ h) (below_pairs itsi a gs (second_true (is_lt (nat_cmp a g.0)) _ h))

pub in_order : (itsi : ℕ) (gs : List Group) → is_sorted nat_cmp gs ≡ true → IsInOrder (own itsi gs)
in_order itsi [] h = refl
in_order itsi (g ∷ gs) h = and_is_true _ _ (below_pairs itsi g.0 gs (first_true _ _ h)) (in_order itsi gs (second_true (below_all nat_cmp g.0 gs) _ h))

find_other : (itsi : ℕ) (gs : List Group) (q : Pair) → (q.0 == itsi) ≡ false → find pair_cmp q (each entry_of (own itsi gs)) ≡ None
find_other itsi [] q other = refl
find_other itsi (g ∷ gs) q other =
    ap (λ b. cond b (Some g.1) (find pair_cmp q (each entry_of (own itsi gs)))) (pairs_tied q (itsi, g.0) ∙ ap (λ b. b && (q.1 == g.0)) other)
    ∙ find_other itsi gs q other

module _ (m : Attached) (itsi : ℕ) (gs : List Group) (order : is_sorted nat_cmp gs ≡ true) where
  get_all : (q : Pair) → map.get (with_attachments m itsi gs) q ≡ option_or (map.get (map_of (own itsi gs)) q) (map.get m q)
  get_all q = ap (λ l. map.get (all_attached m l) q) (sym (listed_map (own itsi gs) (in_order itsi gs order))) ∙ get_added m (map_of (own itsi gs)) q

  get_none : (q : Pair) → (q.0 == itsi) ≡ false → map.get (map_of (own itsi gs)) q ≡ None
  get_none q other = map.get-entries (map_of (own itsi gs)) q ∙ ap (find pair_cmp q) (entries_of (own itsi gs) (in_order itsi gs order)) ∙ find_other itsi gs q other

  get_other : (q : Pair) → (q.0 == itsi) ≡ false → map.get (with_attachments m itsi gs) q ≡ map.get m q
  get_other q other = get_all q ∙ ap (λ o. option_or o (map.get m q)) (get_none q other)

  -- the other radios keep their groups
  others_on : (k : ℕ) → (k == itsi) ≡ false → of_radio (with_attachments m itsi gs) k ≡ of_radio m k
  others_on k other =
      map.same_map pairs_total pairs_exact _ _ (λ q. map.get-retain_keys (with_attachments m itsi gs) (λ p. p.0 == k) q (alike (λ p. p.0 == k) q)
      ∙ (elim (q.0 == k) as (λ b. (q.0 == k) ≡ b → cond b (map.get (with_attachments m itsi gs) q) None ≡ cond b (map.get m q) None) [
        | true ↦ λ same. get_other q (ap (λ n. n == itsi) (eqb-true q.0 k same) ∙ other)
        | false ↦ λ apart. refl
      ] refl)
      ∙ sym (map.get-retain_keys m (λ p. p.0 == k) q (alike (λ p. p.0 == k) q)))

  -- a radio that had none has these
  pub own_on : ((q : Pair) → q.0 ≡ itsi → map.get m q ≡ None) → groups_of (with_attachments m itsi gs) itsi ≡ gs
  own_on none =
      let same : of_radio (with_attachments m itsi gs) itsi ≡ map_of (own itsi gs) =
      map.same_map pairs_total pairs_exact _ _ (λ q. map.get-retain_keys (with_attachments m itsi gs) (λ p. p.0 == itsi) q (alike (λ p. p.0 == itsi) q)
      ∙ (elim (q.0 == itsi) as (λ b. (q.0 == itsi) ≡ b → cond b (map.get (with_attachments m itsi gs) q) None ≡ map.get (map_of (own itsi gs)) q) [
        | true ↦ λ is. get_all q ∙ ap (option_or (map.get (map_of (own itsi gs)) q)) (none q (eqb-true q.0 itsi is)) ∙ or_none (map.get (map_of (own itsi gs)) q)
        | false ↦ λ other. sym (get_none q other)
      ] refl)) in
      ap (λ (n : Attached). each group_of (map.entries n)) same ∙ ap (each group_of) (entries_of (own itsi gs) (in_order itsi gs order)) ∙ there_and_back gs
    where
      or_none : (o : Option Usage) → option_or o None ≡ o
      or_none None = refl
      or_none (Some x) = refl

      there_and_back : (l : List Group) → each group_of (each entry_of (own itsi l)) ≡ l
      there_and_back [] = refl
      there_and_back (g ∷ l) = ap (λ (rest : List Group). g ∷ rest) (there_and_back l)

  -- no radio has more groups than it may
  pub few_on : ((q : Pair) → q.0 ≡ itsi → map.get m q ≡ None) → length gs ≤ most_of_radio → AllGroupsFit m → AllGroupsFit (with_attachments m itsi gs)
  few_on none short few k =
      let own_len : map.len (of_radio (with_attachments m itsi gs) itsi) ≡ length gs = sym (length_groups (with_attachments m itsi gs) itsi) ∙ ap length (own_on none) in
      elim (k == itsi) as (λ b. (k == itsi) ≡ b → map.len (of_radio (with_attachments m itsi gs) k) ≤ most_of_radio) [
        | true ↦ λ same. subst (λ n. map.len (of_radio (with_attachments m itsi gs) n) ≤ most_of_radio) (sym (eqb-true k itsi same)) (omega (arith, own_len, short))
        | false ↦ λ other. subst (λ (n : Attached). map.len n ≤ most_of_radio) (sym (others_on k other)) (few k)
      ] refl

  -- the radio of each attachment is there, with the new one
  pub known_on : (radios : PathMap Radio) (radio : Radio) → ((k gtsi : ℕ) → IsSome (map.get m (k, gtsi)) → IsSome (map.get radios (id_path k))) →
      (k gtsi : ℕ) → IsSome (map.get (with_attachments m itsi gs) (k, gtsi)) → IsSome (map.get (map.insert radios (id_path itsi) radio) (id_path k))
  known_on radios radio known k gtsi there =
      subst (λ (o : Option Radio). IsSome o) (sym (map.get-insert paths_total radios (id_path itsi) radio (id_path k)))
      (elim (k == itsi) as (λ b. (k == itsi) ≡ b → IsSome (cond (eq_by_cmp path_cmp (id_path k) (id_path itsi)) (Some radio) (map.get radios (id_path k)))) [
        | true ↦ λ same. subst (λ b. IsSome (cond b (Some radio) (map.get radios (id_path k))))
            (sym (ap (λ n. eq_by_cmp path_cmp (id_path n) (id_path itsi)) (eqb-true k itsi same) ∙ tied (id_path itsi))) refl
        | false ↦ λ other. some_anyway (eq_by_cmp path_cmp (id_path k) (id_path itsi)) (map.get radios (id_path k))
            (known k gtsi (subst (λ (o : Option Usage). IsSome o) (get_other (k, gtsi) other) there))
      ] refl)
    where
      some_anyway : (b : Bool) (o : Option Radio) → IsSome o → IsSome (cond b (Some radio) o)
      some_anyway true o some = refl
      some_anyway false o some = some

  -- the rows of the radios before it are the same
  pub rows_before : (es : List (Path × Radio)) → All (λ e. length e.0 ≡ 48) es → list_all (λ e. is_lt (path_cmp e.0 (id_path itsi))) es ≡ true →
      each (radio_row (with_attachments m itsi gs)) es ≡ each (radio_row m) es
  rows_before [] whole below = refl
  rows_before (e ∷ es) whole below =
      let bits : id_path (number e.0) ≡ e.0 = id_path-number e.0 (All-head (λ e. length e.0 ≡ 48) e es whole) in
      let other : (number e.0 == itsi) ≡ false =
      ne_eqb (number e.0) itsi
      (λ same. not_both (path_cmp (id_path itsi) (id_path itsi)) (ap (λ p. is_lt (path_cmp p (id_path itsi))) (ap id_path (sym same) ∙ bits) ∙
      first_true _ _ below) (tied (id_path itsi))) in
      let first : radio_row (with_attachments m itsi gs) e ≡ radio_row m e = ap (λ (n : Attached). RadioRow (number e.0) e.1 (each group_of (map.entries n))) (others_on (number e.0) other) in
      λ i. first i ∷ rows_before es (All-tail (λ e. length e.0 ≡ 48) e es whole) (second_true (is_lt (path_cmp e.0 (id_path itsi))) _ below) i
    where
      not_both : (r : Ordering) → is_lt r ≡ true → is_eq r ≡ true → ⊥
      not_both Less h k = cc
      not_both Equal h k = cc
      not_both Greater h k = cc

-- the groups' ranges are those of the attachments
pub ranges_on : (m : Attached) (itsi : ℕ) (gs : List Group) → itsi < 2 ^ 48 → All GroupInRange gs → AllEntries AttachmentInRange m → AllEntries AttachmentInRange (with_attachments m itsi gs)
ranges_on m itsi [] fits all ranges = ranges
ranges_on m itsi (g ∷ gs) fits all ranges =
    let here = All-head GroupInRange g gs all in
    ranges_on (map.insert m (itsi, g.0) g.1) itsi gs fits (All-tail GroupInRange g gs all) (insert_all pairs_total pairs_exact AttachmentInRange m (itsi, g.0) g.1 (fits, here.0, here.1) ranges)
