-- The images of an empty register, and of one with one of each.
use Rattle.std.proofs.Common.{◌≡◌, ℕ, ◌<◌, ◌^◌, true, List, [], ◌∷◌, ◌++◌, length, Some, None, refl, ap, ◌∙◌}
use Rattle.std.specs.Prelude.{map as each}
use Rattle.std.specs.List.{list_all}
use Rattle.std.specs.Ordering.{is_lt}
use Rattle.std.specs.declared.cmp.Ordering.{Ordering}
use Rattle.std.specs.Cmp.{IsTotalOrder}
use Rattle.std.specs.FinMap as map
use Rattle.identity.specs.Path.{Path, path_cmp, id_path}
use Rattle.identity.specs.Inside.PathLaws.{paths_total, number-id_path}
use Rattle.registration.specs.declared.limits.Limits.{Limits}
use Rattle.registration.specs.declared.rule.Rule.{Rule}
use Rattle.registration.specs.declared.radio.Radio.{Radio}
use Rattle.group_attach.specs.Attached.{Attached, Usage, no_groups, pair_cmp}
use Rattle.mailbox.specs.Values.{Item}
use Rattle.centre_core.specs.State.{LastAccepted, empty}
use Rattle.command_bytes.specs.Fields.{big}
use Rattle.image_rows.specs.Rows.{HeaderRow, RadioRow, MailRow, Group, rows_of, rule_row, radio_row, served_rows, groups_of}
use Rattle.image_rows.specs.RowText.{padded, row_bytes, sector_of}
use Rattle.image_rows.specs.Image.{sectors_of}
use Rattle.image_rows.specs.Loading.{is_next}
use Rattle.image_rows.specs.Worked.{bare, new_header, one_of_each, its_rows}
use Rattle.image_rows.proofs.Order.{entries-empty, entries_next}
use Rattle.image_rows.proofs.WithAttachments.{own_on}
use Rattle.image_rows.proofs.Only.{no_rows}
use Rattle.image_rows.proofs.Stations.{blanks, free_blanks, none_in_blanks}

pub empty_image : (epoch : ℕ) (limits : Limits) → rows_of epoch (empty limits) ≡ HeaderRow (bare epoch) ∷ []
empty_image epoch limits =
    (λ i. HeaderRow (record { epoch = epoch; count = 0; rules = map.len-empty path_cmp Rule i; radios = map.len-empty path_cmp Radio i; mail = 0; served = none_in_blanks limits.stations i })
    ∷ (each rule_row (entries-empty {X = Rule} path_cmp i) ++
    (each (radio_row no_groups) (entries-empty {X = Radio} path_cmp i) ++ no_rows 1 (blanks limits.stations) (free_blanks limits.stations) i)))

-- of epoch 1, in bytes
pub new_image : (limits : Limits) → sectors_of 1 (empty limits) ≡ padded new_header ∷ []
unfolding sector_of row_bytes big
new_image limits = ap (each sector_of) (empty_image 1 limits)

next_is_first : {K : Type 0} (X : Type 0) (R : K → K → Ordering) (k : K) → is_next (map.empty {X = X} {R = R}) k ≡ true
unfolding is_next
next_is_first X R k = ap (list_all (λ e. is_lt (R e.0 k))) (entries-empty {X = X} R)

module _ {K X : Type 0} {R : K → K → Ordering} (o : IsTotalOrder R) where
  one_entry : (k : K) (v : X) → map.entries (map.insert (map.empty {X = X} {R = R}) k v) ≡ (k, v) ∷ []
  one_entry k v = entries_next o map.empty k v (next_is_first X R k) ∙ ap (λ (l : List (K × X)). l ++ (k, v) ∷ []) (entries-empty {X = X} R)

  one_counted : (k : K) (v : X) → map.len (map.insert (map.empty {X = X} {R = R}) k v) ≡ 1
  one_counted k v = map.len-entries _ ∙ ap length (one_entry k v)

pub worked_image : (epoch : ℕ) (limits : Limits) (prefix : Path) (rule : Rule) (itsi : ℕ) (radio : Radio) (gtsi : ℕ) (usage : Usage) (item : Item) (last : LastAccepted) → itsi < 2 ^ 48
    → rows_of epoch (one_of_each limits prefix rule itsi radio gtsi usage item last) ≡ its_rows limits prefix rule itsi radio gtsi usage item last epoch
worked_image epoch limits prefix rule itsi radio gtsi usage item last fits =
    let gs : List Group = (gtsi, usage) ∷ [] in
    let groups : Attached = map.insert map.empty (itsi, gtsi) usage in
    let own : groups_of groups itsi ≡ gs = own_on no_groups itsi gs refl (λ q is. map.get-empty pair_cmp q) in
    let first : radio_row groups (id_path itsi, radio) ≡ RadioRow itsi radio gs =
    (λ i. RadioRow (number-id_path itsi fits i) radio (groups_of groups (number-id_path itsi fits i))) ∙ ap (RadioRow itsi radio) own in
    (λ i. HeaderRow (record { epoch = epoch; count = 2; rules = one_counted paths_total prefix rule i; radios = one_counted paths_total (id_path itsi) radio i; mail = 1; served = 1 })
    ∷ (each rule_row (one_entry paths_total prefix rule i) ++ (each (radio_row groups) (one_entry paths_total (id_path itsi) radio i) ++ (MailRow item ∷ served_rows 1 (None ∷ Some last ∷ [])))))
    ∙ (λ i. HeaderRow (record { epoch = epoch; count = 2; rules = 1; radios = 1; mail = 1; served = 1 }) ∷ rule_row (prefix, rule) ∷ first i ∷ MailRow item ∷ served_rows 1 (None ∷ Some last ∷ []))
