-- That both indexes come to the same attachments.
use Rattle.std.proofs.Common.{◌≡◌, ℕ, ◌<◌, Bool, true, false, cond, List, [], ◌∷◌, length, Option, Some, None, Result, Ok, Err, refl, sym, ap, ◌∙◌, subst}
use Rattle.std.specs.Prelude.{◌&&◌, ◌||◌, ◌==◌, not, IsSome, OnOk}
use Rattle.std.specs.Option.{is_some, option_or}
use Rattle.std.specs.List.{fold, list_any}
use Rattle.std.specs.FinMap as finite
use mathlib.Core.Bool.{false≢true}
use borrow.Author.Tests.{eqb-true}
use Rattle.mm_pdus.specs.declared.update.LocationUpdateType.{LocationUpdateType}
use Rattle.mm_pdus.specs.declared.group.GroupMode.{GroupMode}
use Rattle.mm_pdus.specs.declared.group.GroupMode.TheVariants.{Amendment, DetachAllFirst}
use Rattle.mm_pdus.specs.declared.group.GroupUp.{GroupUp}
use Rattle.mm_pdus.specs.declared.group.GroupUp.TheVariants as up
use Rattle.mm_pdus.specs.Address.{gtsi_of}
use Rattle.registration.specs.declared.rule.Rule.{Rule}
use Rattle.registration.specs.Registered.{Registered, rule_of}
use Rattle.group_attach.specs.declared.attachment.Attachment.{Attachment}
use Rattle.group_attach.specs.Attached.{Pair, Usage, Attached, of_radio, listed, all_attached}
use Rattle.group_attach.specs.Applied.{is_dropped, after_update, without_radio, attached_by, changed_by, at_start, applied}
use Rattle.group_attach.specs.Inside.ListedMap.{map_of}
use Rattle.group_attach.specs.Inside.Filed.{AllHave, IsReplaced, all_left, all_ended}
use Rattle.group_attach.proofs.Pairs.{pairs_total, pairs_exact, alike}
use Rattle.group_attach.proofs.Counting.{part_inserted, part_removed}
use Rattle.group_attach.proofs.Filtered.{length_listed}
use Rattle.group_attach.proofs.AllowedLaws.{other_applied}
use Rattle.group_attach.proofs.Endings.{passing_usage, get_passing}
use Rattle.group_attach.proofs.Moves.{map_listed, get_added, get_gone, dropped_usage, get_dropped}

get_part : (m : Attached) (itsi : ℕ) (q : Pair) → finite.get (of_radio m itsi) q ≡ cond (q.0 == itsi) (finite.get m q) None
get_part m itsi q = finite.get-retain_keys m (λ pair. pair.0 == itsi) q (alike (λ pair. pair.0 == itsi) q)

-- a location update
update_same : (b : Bool) (update : LocationUpdateType) (itsi : ℕ) (q : Pair) (o : Option Usage) → (q.0 == itsi) ≡ b →
    dropped_usage update (cond b o None) o ≡ passing_usage (λ e. not ((e.0.0 == itsi) && is_dropped update e.1.1)) q o
unfolding dropped_usage passing_usage
update_same true update itsi q None is = refl
update_same false update itsi q None is = refl
update_same true update itsi q (Some u) is = turned (is_dropped update u.1) (Some u) ∙ ap (λ b. cond (not (b && is_dropped update u.1)) (Some u) None) (sym is) where
  turned : (d : Bool) (x : Option Usage) → cond d None x ≡ cond (not d) x None
  turned true x = refl
  turned false x = refl
update_same false update itsi q (Some u) is = ap (λ b. cond (not (b && is_dropped update u.1)) (Some u) None) (sym is)

pub both_after_update : (m g x y : Attached) (itsi : ℕ) (update : LocationUpdateType) (own : List Attachment) → g ≡ m →
    own ≡ listed (of_radio m itsi) → x ≡ all_ended update g own → y ≡ after_update m itsi update → x ≡ y
both_after_update m g x y itsi update own same part left_is right_is =
    left_is ∙ (λ i. all_ended update (same i) (part i))
    ∙ finite.same_map pairs_total pairs_exact _ _ (λ q.
    get_dropped update m (of_radio m itsi) q
    ∙ ap (λ o. dropped_usage update o (finite.get m q)) (get_part m itsi q)
    ∙ update_same (q.0 == itsi) update itsi q (finite.get m q) refl
    ∙ sym (get_passing (λ e. not ((e.0.0 == itsi) && is_dropped update e.1.1)) m q))
    ∙ sym right_is

none_gone : (update : LocationUpdateType) (m : Attached) (list : List Attachment) → list_any (λ a. is_dropped update a.lifetime) list ≡ false → all_ended update m list ≡ m
none_gone update m [] none = refl
none_gone update m (a ∷ list) none =
    elim (is_dropped update a.lifetime) as (λ b. is_dropped update a.lifetime ≡ b → (b || list_any (λ o. is_dropped update o.lifetime) list) ≡ false →
    all_ended update (cond b (finite.remove m (a.itsi, a.gtsi)) m) list ≡ m) [
      | true ↦ λ ends same. absurd (false≢true (sym same))
      | false ↦ λ stays same. none_gone update m list same
    ] refl none

-- an update that ends none of the radio's attachments
pub none_after_update : (m : Attached) (itsi : ℕ) (update : LocationUpdateType) (own : List Attachment) → own ≡ listed (of_radio m itsi) →
    list_any (λ a. is_dropped update a.lifetime) own ≡ false → m ≡ after_update m itsi update
none_after_update m itsi update own part none = sym (none_gone update m own none) ∙ both_after_update m m _ _ itsi update own refl part refl refl

-- a radio's own part changes by itself
swapped : (b : Bool) (x : Option Usage) → cond (not b) (cond b x None) None ≡ cond b (cond (not b) x None) None
swapped true x = refl
swapped false x = refl

twice : (b : Bool) (x : Option Usage) → cond b (cond b x None) None ≡ cond b x None
twice true x = refl
twice false x = refl

part_at_start : (m : Attached) (itsi : ℕ) (mode : GroupMode) → at_start (of_radio m itsi) itsi mode ≡ of_radio (at_start m itsi mode) itsi
part_at_start m itsi Amendment = refl
part_at_start m itsi DetachAllFirst =
    finite.same_map pairs_total pairs_exact _ _ (λ q.
    finite.get-retain_keys (of_radio m itsi) (λ pair. not (pair.0 == itsi)) q (alike (λ pair. not (pair.0 == itsi)) q)
    ∙ ap (λ o. cond (not (q.0 == itsi)) o None) (get_part m itsi q)
    ∙ swapped (q.0 == itsi) (finite.get m q)
    ∙ sym (get_part (without_radio m itsi) itsi q
    ∙ ap (λ o. cond (q.0 == itsi) o None) (finite.get-retain_keys m (λ pair. not (pair.0 == itsi)) q (alike (λ pair. not (pair.0 == itsi)) q))))

part_attached : (m : Attached) (itsi g class : ℕ) (r : Option Rule) → attached_by (of_radio m itsi) (itsi, g) class r ≡ of_radio (attached_by m (itsi, g) class r) itsi
part_attached m itsi g class None = refl
part_attached m itsi g class (Some rule) = sym (part_inserted m itsi g (class, rule.lifetime))

part_changed : (s : Registered) (itsi : ℕ) (m : Attached) (item : GroupUp) → changed_by s itsi (of_radio m itsi) item ≡ of_radio (changed_by s itsi m item) itsi
part_changed s itsi m (up.Attach class address) = part_attached m itsi (gtsi_of address itsi) class (rule_of s (gtsi_of address itsi))
part_changed s itsi m (up.Leave reason address) = sym (part_removed m itsi (gtsi_of address itsi))

part_folded : (s : Registered) (itsi : ℕ) (m : Attached) (items : List GroupUp) → fold (changed_by s itsi) (of_radio m itsi) items ≡ of_radio (fold (changed_by s itsi) m items) itsi
part_folded s itsi m [] = refl
part_folded s itsi m (item ∷ items) = ap (λ x. fold (changed_by s itsi) x items) (part_changed s itsi m item) ∙ part_folded s itsi (changed_by s itsi m item) items

pub part_applied : (s : Registered) (m : Attached) (itsi : ℕ) (mode : GroupMode) (items : List GroupUp) → applied s (of_radio m itsi) itsi mode items ≡ of_radio (applied s m itsi mode items) itsi
part_applied s m itsi mode items = ap (λ x. fold (changed_by s itsi) x items) (part_at_start m itsi mode) ∙ part_folded s itsi (at_start m itsi mode) items

part_again : (m : Attached) (itsi : ℕ) → of_radio (of_radio m itsi) itsi ≡ of_radio m itsi
part_again m itsi =
    finite.same_map pairs_total pairs_exact _ _ (λ q.
    get_part (of_radio m itsi) itsi q ∙ ap (λ o. cond (q.0 == itsi) o None) (get_part m itsi q) ∙ twice (q.0 == itsi) (finite.get m q) ∙ sym (get_part m itsi q))

pub own_count : (s : Registered) (m : Attached) (itsi : ℕ) (mode : GroupMode) (items : List GroupUp) (own : List Attachment) → own ≡ listed (of_radio m itsi)
    → finite.len (of_radio (applied s (map_of own) itsi mode items) itsi) ≡ finite.len (of_radio (applied s m itsi mode items) itsi)
own_count s m itsi mode items own is =
    ap (λ x. finite.len (of_radio (applied s x itsi mode items) itsi)) (ap map_of is ∙ map_listed (of_radio m itsi))
    ∙ ap (λ x. finite.len (of_radio x itsi)) (part_applied s m itsi mode items)
    ∙ ap finite.len (part_again (applied s m itsi mode items) itsi)

-- a radio's part has its pairs alone
no_other : (b : Bool) (o : Option Usage) → IsSome (cond b o None) → b ≡ true
no_other true o there = refl
no_other false o there = absurd (false≢true there)

pub part_has : (m list : Attached) (itsi : ℕ) → list ≡ of_radio m itsi → AllHave (λ pair. pair.0) itsi list
part_has m list itsi is q there = eqb-true q.0 itsi (no_other (q.0 == itsi) (finite.get m q) (subst IsSome (ap (λ x. finite.get x q) is ∙ get_part m itsi q) there))

-- the radio's part in place of what it was is the whole after the PDU
pub replaced_is_applied : (s : Registered) (m n list : Attached) (itsi : ℕ) (mode : GroupMode) (items : List GroupUp) →
    list ≡ of_radio (applied s m itsi mode items) itsi → IsReplaced m itsi list n → n ≡ applied s m itsi mode items
replaced_is_applied s m n list itsi mode items is replaced =
    finite.same_map pairs_total pairs_exact _ _ (λ q.
    replaced q
    ∙ ap (λ x. cond (q.0 == itsi) (finite.get x q) (finite.get m q)) is
    ∙ (elim (q.0 == itsi) as (λ b. (q.0 == itsi) ≡ b → cond b (finite.get (of_radio (applied s m itsi mode items) itsi) q) (finite.get m q) ≡ finite.get (applied s m itsi mode items) q) [
      | true ↦ λ own. get_part (applied s m itsi mode items) itsi q ∙ ap (λ b. cond b (finite.get (applied s m itsi mode items) q) None) own
      | false ↦ λ other. sym (other_applied s m itsi mode items q other)
    ]) refl)

pub replaced_ok : {X E : Type 0} (r : Result X E) (s : Registered) (m n list : Attached) (itsi : ℕ) (mode : GroupMode) (items : List GroupUp) →
    list ≡ of_radio (applied s m itsi mode items) itsi → OnOk r (IsReplaced m itsi list n) → OnOk r (n ≡ applied s m itsi mode items)
replaced_ok (Ok x) s m n list itsi mode items is replaced = replaced_is_applied s m n list itsi mode items is replaced
replaced_ok (Err e) s m n list itsi mode items is replaced = tt

-- both indexes after a radio's part was replaced
moved_own : (l o : Option Usage) → cond (is_some o && not (is_some l)) None (option_or l o) ≡ l
moved_own None None = refl
moved_own None (Some u) = refl
moved_own (Some v) None = refl
moved_own (Some v) (Some u) = refl

moved_pair : (b : Bool) (l o x : Option Usage) → x ≡ cond b l o → cond (is_some (cond b o None) && not (is_some (cond b x None))) None (option_or (cond b x None) o) ≡ x
moved_pair true l o x is = moved_own x o
moved_pair false l o x is = sym is

pub both_replaced : (m g r y z list : Attached) (itsi : ℕ) (old own : List Attachment) → g ≡ m → IsReplaced m itsi list r →
    old ≡ listed (of_radio m itsi) → own ≡ listed (of_radio r itsi) → y ≡ all_attached g own → z ≡ all_left y old own → z ≡ r
both_replaced m g r y z list itsi old own same replaced was now added gone =
    gone ∙ (λ i. all_left (added i) (was i) (now i)) ∙ (λ i. all_left (all_attached (same i) (now i)) (listed (of_radio m itsi)) (listed (of_radio r itsi)))
    ∙ finite.same_map pairs_total pairs_exact _ _ (λ q.
    get_gone (all_attached m (listed (of_radio r itsi))) (of_radio m itsi) (of_radio r itsi) q
    ∙ ap (cond (is_some (finite.get (of_radio m itsi) q) && not (is_some (finite.get (of_radio r itsi) q))) None) (get_added m (of_radio r itsi) q)
    ∙ (λ i. cond (is_some (get_part m itsi q i) && not (is_some (get_part r itsi q i))) None (option_or (get_part r itsi q i) (finite.get m q)))
    ∙ moved_pair (q.0 == itsi) (finite.get list q) (finite.get m q) (finite.get r q) (replaced q))

-- what was replaced is put back
pub put_back : (m r x list before : Attached) (itsi : ℕ) → before ≡ of_radio m itsi → IsReplaced m itsi list r → IsReplaced r itsi before x → x ≡ m
put_back m r x list before itsi was replaced back =
    finite.same_map pairs_total pairs_exact _ _ (λ q.
    back q
    ∙ (λ i. cond (q.0 == itsi) (finite.get (was i) q) (replaced q i))
    ∙ ap (λ o. cond (q.0 == itsi) o (cond (q.0 == itsi) (finite.get list q) (finite.get m q))) (get_part m itsi q)
    ∙ as_before (q.0 == itsi) (finite.get list q) (finite.get m q)) where
      as_before : (b : Bool) (l o : Option Usage) → cond b (cond b o None) (cond b l o) ≡ o
      as_before true l o = refl
      as_before false l o = refl

-- a list that could not be added whole was not empty
pub some_own : (r : Attached) (itsi : ℕ) (own : List Attachment) → own ≡ listed (of_radio r itsi) → 0 < length own → 0 < finite.len (of_radio r itsi)
some_own r itsi own is some = subst (λ n. 0 < n) (ap length is ∙ length_listed (of_radio r itsi)) some
