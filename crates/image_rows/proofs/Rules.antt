-- The rows of the rules, taken one after another, give the rules.
use Rattle.std.proofs.Common.{◌≡◌, true, List, [], ◌∷◌, ◌++◌, Option, Some, None, refl, sym, ap, ◌∙◌, append_assoc}
use Rattle.std.specs.Prelude.{map as each}
use Rattle.std.specs.FinMap as map
use Rattle.std.proofs.lemmas.Bool.{lt-ltb}
use Rattle.std.proofs.lemmas.List.{append-nil}
use Rattle.base.proofs.Bools.{second_true, and_is_true}
use Rattle.identity.specs.Path.{Path, path_cmp}
use Rattle.identity.specs.Inside.PathLaws.{paths_total}
use Rattle.prefix_tree.specs.Table.{PathMap}
use Rattle.registration.specs.declared.rule.Rule.{Rule}
use Rattle.centre_core.specs.State.{State}
use Rattle.image_rows.specs.Rows.{Header, Row, rule_row}
use Rattle.image_rows.specs.Loading.{◌>>=◌, Loading, row_taken, all_taken, taken_rule, rule_may}
use Rattle.image_rows.proofs.Order.{entries_next, next_of, fewer}

pub all_taken-append : (l : Loading) (xs ys : List Row) → all_taken l (xs ++ ys) ≡ (all_taken l xs >>= λ m. all_taken m ys)
all_taken-append l [] ys = refl
all_taken-append l (x ∷ xs) ys =
    elim (row_taken l x) as (λ r. (r >>= λ n. all_taken n (xs ++ ys)) ≡ ((r >>= λ n. all_taken n xs) >>= λ m. all_taken m ys)) [
      | Some n ↦ all_taken-append n xs ys
      | None ↦ refl
    ]

abbrev pub at : Header → State → Loading
at h s = record { header = Some h; state = s }

abbrev pub with_rules : State → PathMap Rule → State
with_rules s rules = record s { registered = record s.registered { rules = rules } }

-- the rules that are left
pub rules_taken : (h : Header) (s : State) (full : PathMap Rule) (es : List (Path × Rule)) → h.rules ≡ map.len full → map.entries s.registered.rules ++ es ≡ map.entries full
    → all_taken (at h s) (each rule_row es) ≡ Some (at h (with_rules s full))
unfolding row_taken
rules_taken h s full [] stated is = ap (λ (r : PathMap Rule). Some (at h (with_rules s r))) (map.same_entries_map s.registered.rules full (sym (append-nil (map.entries s.registered.rules)) ∙ is))
rules_taken h s full (e ∷ es) stated is =
    let old = s.registered.rules in
    let may : rule_may h s e.0 ≡ true = and_is_true _ _ (lt-ltb (map.len old) h.rules (rw stated (fewer path_cmp old full e es is))) (next_of path_cmp old full e es is) in
    let n : State = taken_rule s e.0 e.1 in
    let here : row_taken (at h s) (rule_row e) ≡ Some (at h n) = rw may refl in
    let more : map.entries n.registered.rules ++ es ≡ map.entries full =
    ap (λ (l : List (Path × Rule)). l ++ es) (entries_next paths_total old e.0 e.1 (second_true _ _ may)) ∙ append_assoc (map.entries old) ((e.0, e.1) ∷ []) es ∙ is in
    ap (λ (r : Option Loading). r >>= λ n. all_taken n (each rule_row es)) here ∙ rules_taken h n full es stated more
