-- A radio's attachments, restored.
use Rattle.std.proofs.Common.{◌≡◌, ℕ, Bool, true, false, cond, List, [], ◌∷◌, Option, Some, None, Result, Ok, Err, refl, sym, ap, ◌∙◌, subst}
use Rattle.std.specs.Prelude.{◌==◌, not, IsSome, OnOk}
use Rattle.std.specs.Option.{option_or}
use Rattle.std.specs.List.{All, filter}
use Rattle.std.specs.FinMap as finite
use Rattle.std.proofs.lemmas.List.Elements.{All-head, All-tail}
use mathlib.Core.Bool.{false≢true}
use Rattle.base.proofs.Numbers.{same_test}
use Rattle.group_attach.specs.declared.attachment.Attachment.{Attachment}
use Rattle.group_attach.specs.Attached.{Attached, Usage, pair_of, all_attached}
use Rattle.group_attach.specs.Applied.{restored, without_radio}
use Rattle.group_attach.specs.InOrder.{IsInOrder}
use Rattle.group_attach.specs.Inside.ListedMap.{map_of}
use Rattle.group_attach.specs.Inside.Filed.{AllHave, IsReplaced}
use Rattle.group_attach.proofs.Pairs.{pairs_total, pairs_exact, alike}
use Rattle.group_attach.proofs.Filtered.{retained_map, listed_map}
use Rattle.group_attach.proofs.Moves.{get_added}
use Rattle.group_attach.proofs.BothSides.{part_has}

all_own : (list : List Attachment) (itsi : ℕ) → All (λ a. a.itsi ≡ itsi) list → filter (λ a. (pair_of a).0 == itsi) list ≡ list
all_own [] itsi own = refl
all_own (a ∷ list) itsi own =
    ap (λ n. cond (a.itsi == n) (a ∷ filter (λ o. (pair_of o).0 == itsi) list) (filter (λ o. (pair_of o).0 == itsi) list)) (sym (All-head (λ o. o.itsi ≡ itsi) a list own))
    ∙ ap (λ b. cond b (a ∷ filter (λ o. (pair_of o).0 == itsi) list) (filter (λ o. (pair_of o).0 == itsi) list)) (same_test a.itsi)
    ∙ ap (λ l. a ∷ l) (all_own list itsi (All-tail (λ o. o.itsi ≡ itsi) a list own))

pub own_pairs : (list : List Attachment) (itsi : ℕ) → IsInOrder list → All (λ a. a.itsi ≡ itsi) list → AllHave (λ pair. pair.0) itsi (map_of list)
own_pairs list itsi order own = part_has (map_of list) (map_of list) itsi (ap map_of (sym (all_own list itsi own)) ∙ retained_map (λ pair. pair.0 == itsi) list order)

one_of : (b : Bool) (l o : Option Usage) → (b ≡ false → l ≡ None) → cond b l o ≡ option_or l (cond (not b) o None)
one_of true None o none = refl
one_of true (Some u) o none = refl
one_of false l o none = ap (λ x. option_or x o) (sym (none refl))

not_there : (o : Option Usage) (b : Bool) → (IsSome o → b ≡ true) → b ≡ false → o ≡ None
not_there None b there other = refl
not_there (Some u) b there other = absurd (false≢true (sym other ∙ there refl))

pub is_restored : (m n : Attached) (list : List Attachment) (itsi : ℕ) → IsInOrder list → All (λ a. a.itsi ≡ itsi) list → IsReplaced m itsi (map_of list) n → n ≡ restored m itsi list
is_restored m n list itsi order own replaced =
    finite.same_map pairs_total pairs_exact _ _ (λ q.
    replaced q
    ∙ one_of (q.0 == itsi) (finite.get (map_of list) q) (finite.get m q)
    (not_there (finite.get (map_of list) q) (q.0 == itsi) (λ there. ap (λ k. q.0 == k) (sym (own_pairs list itsi order own q there)) ∙
    same_test q.0))
    ∙ ap (option_or (finite.get (map_of list) q)) (sym (finite.get-retain_keys m (λ pair. not (pair.0 == itsi)) q (alike (λ pair. not (pair.0 == itsi)) q)))
    ∙ sym (get_added (without_radio m itsi) (map_of list) q))
    ∙ ap (all_attached (without_radio m itsi)) (listed_map list order)

pub restored_ok : {X E : Type 0} (r : Result X E) (m n given : Attached) (list : List Attachment) (itsi : ℕ) → IsInOrder list →
    All (λ a. a.itsi ≡ itsi) list → given ≡ map_of list → OnOk r (IsReplaced m itsi given n) → OnOk r (n ≡ restored m itsi list)
restored_ok (Ok x) m n given list itsi order own is replaced = is_restored m n list itsi order own (subst (λ l. IsReplaced m itsi l n) is replaced)
restored_ok (Err e) m n given list itsi order own is replaced = tt
