-- What each effect keeps: no radio has too many groups, and the radios of all attachments are known.
use Rattle.std.proofs.Common.{◌≡◌, ℕ, ◌≤◌, Bool, true, false, cond, List, [], ◌∷◌, length, Option, Some, None, refl, sym, ap, ◌∙◌, subst, arith}
use Rattle.std.specs.Prelude.{◌&&◌, ◌==◌, nat_lt, not, IsSome, if◌then◌else◌}
use Rattle.std.specs.Option.{is_some}
use Rattle.std.specs.List.{filter, fold}
use Rattle.std.specs.Ordering.{eq_by_cmp}
use Rattle.std.specs.FinMap as finite
use Rattle.std.specs.FinMap.{find}
use mathlib.Core.Bool.{false≢true}
use Rattle.base.proofs.Bools.{cond_same}
use Rattle.base.proofs.Options.{none_there}
use borrow.Author.Tests.{ltb-false, eqb-true}
use Rattle.mm_pdus.specs.declared.update.LocationUpdateType.{LocationUpdateType}
use Rattle.mm_pdus.specs.declared.group.GroupMode.{GroupMode}
use Rattle.mm_pdus.specs.declared.group.GroupMode.TheVariants.{Amendment, DetachAllFirst}
use Rattle.mm_pdus.specs.declared.group.GroupUp.{GroupUp}
use Rattle.mm_pdus.specs.declared.group.GroupUp.TheVariants as up
use Rattle.mm_pdus.specs.Address.{gtsi_of}
use Rattle.registration.specs.declared.rule.Rule.{Rule}
use Rattle.registration.specs.declared.radio.Radio.{Radio}
use Rattle.registration.specs.Refusals.{first_of}
use Rattle.registration.specs.Registered.{Registered, rule_of, radio_of, has_radio, is_present}
use Rattle.group_attach.specs.declared.fault.GroupFault.TheVariants.{NotAttached, TooManyGroups}
use Rattle.group_attach.specs.Attached.{Pair, Usage, Attached, pair_cmp, no_groups, of_radio}
use Rattle.group_attach.specs.Applied.{passing, is_dropped, after_update, attached_by, changed_by, at_start, applied, most_of_radio, crowd_refusal, apply_refusal}
use Rattle.group_attach.specs.Allowed.{AllGroupsFit, AreKnown}
use Rattle.group_attach.proofs.Pairs.{pairs_total, pairs_exact, pairs_tied, alike}
use Rattle.group_attach.proofs.Filtered.{entries_passing, entries_retained, fewer}
use Rattle.group_attach.proofs.Endings.{passing_usage, get_passing}

found_first : {A : Type 0} (q : Pair) (b : Bool) (e : Pair × A) (es : List (Pair × A)) →
    find pair_cmp q (cond b (e ∷ es) es) ≡ cond b (cond (eq_by_cmp pair_cmp q e.0) (Some e.1) (find pair_cmp q es)) (find pair_cmp q es)
found_first q true e es = refl
found_first q false e es = refl

in_rest : {A : Type 0} (b : Bool) (o : Option A) → IsSome (cond b o o) → IsSome o
in_rest true o h = h
in_rest false o h = h

at_other : {A : Type 0} (b : Bool) (x y : Option A) → (b ≡ true → x ≡ y) → cond b x None ≡ cond b y None
at_other true x y same = same refl
at_other false x y same = refl

-- what an answer without a refusal says
few : (there : Bool) (n : ℕ) → first_of ((if there then None else Some NotAttached) ∷ crowd_refusal n ∷ []) ≡ None → n ≤ most_of_radio
few true n unrefused =
    (elim (nat_lt most_of_radio n) as (λ b. nat_lt most_of_radio n ≡ b → (if b then Some TooManyGroups else None) ≡ None → n ≤ most_of_radio)
    [ true ↦ λ e is. absurd cc | false ↦ λ e is. ltb-false most_of_radio n e ]) refl unrefused
few false n unrefused = absurd cc

present : (there : Bool) (n : ℕ) → first_of ((if there then None else Some NotAttached) ∷ crowd_refusal n ∷ []) ≡ None → there ≡ true
present true n unrefused = refl
present false n unrefused = absurd cc

is_known : (radio : Option Radio) → is_present radio ≡ true → IsSome radio
is_known None e = e
is_known (Some radio) e = refl

-- no attachments
pub no_groups_fit : AllGroupsFit no_groups
no_groups_fit itsi =
    let none : finite.len (of_radio no_groups itsi) ≡ 0 =
    ap finite.len (finite.same_map pairs_total pairs_exact (of_radio no_groups itsi) no_groups (λ q.
    finite.get-retain_keys no_groups (λ pair. pair.0 == itsi) q (alike (λ pair. pair.0 == itsi) q)
    ∙ ap (λ o. cond (q.0 == itsi) o None) (finite.get-empty pair_cmp q)
    ∙ cond_same (q.0 == itsi) None
    ∙ sym (finite.get-empty pair_cmp q)))
    ∙ finite.len-empty pair_cmp Usage in
    omega (arith, none)

pub no_groups_known : (s : Registered) → AreKnown s no_groups
no_groups_known s itsi gtsi there = absurd (none_there (finite.get-empty pair_cmp (itsi, gtsi)) there)

-- a part of the attachments
part_fits : (m : Attached) (test : Pair × Usage → Bool) → AllGroupsFit m → AllGroupsFit (passing test m)
part_fits m test fit itsi =
    let here : finite.len (of_radio m itsi) ≡ length (filter (λ e. e.0.0 == itsi) (finite.entries m)) =
    finite.len-entries (of_radio m itsi) ∙ ap length (entries_retained (λ pair. pair.0 == itsi) m) in
    let left : finite.len (of_radio (passing test m) itsi) ≡ length (filter (λ e. e.0.0 == itsi) (filter test (finite.entries m))) =
    finite.len-entries (of_radio (passing test m) itsi) ∙ ap length (entries_retained (λ pair. pair.0 == itsi) (passing test m) ∙ ap (filter (λ e. e.0.0 == itsi)) (entries_passing test m)) in
    omega (arith, here, left, fewer (λ e. e.0.0 == itsi) test (finite.entries m), fit itsi)

found_in_part : (q : Pair) (test : Pair × Usage → Bool) (es : List (Pair × Usage)) → IsSome (find pair_cmp q (filter test es)) → IsSome (find pair_cmp q es)
found_in_part q test [] there = there
found_in_part q test (e ∷ es) there =
    (elim (eq_by_cmp pair_cmp q e.0) as
    (λ b. IsSome (cond (test e) (cond b (Some e.1) (find pair_cmp q (filter test es))) (find pair_cmp q (filter test es))) →
    IsSome (cond b (Some e.1) (find pair_cmp q es))) [
      | true ↦ λ h. refl
      | false ↦ λ h. found_in_part q test es (in_rest (test e) (find pair_cmp q (filter test es)) h)
    ]) (subst IsSome (found_first q (test e) e (filter test es)) there)

part_known : (s : Registered) (m : Attached) (test : Pair × Usage → Bool) → AreKnown s m → AreKnown s (passing test m)
part_known s m test known itsi gtsi there =
    known itsi gtsi (subst IsSome (sym (finite.get-entries m (itsi, gtsi)))
    (found_in_part (itsi, gtsi) test (finite.entries m)
    (subst IsSome (finite.get-entries (passing test m) (itsi, gtsi) ∙ ap (find pair_cmp (itsi, gtsi)) (entries_passing test m)) there)))

-- a location update
pub after_update_fits : (m : Attached) (itsi : ℕ) (update : LocationUpdateType) → AllGroupsFit m → AllGroupsFit (after_update m itsi update)
after_update_fits m itsi update fit = part_fits m (λ e. not ((e.0.0 == itsi) && is_dropped update e.1.1)) fit

pub after_update_known : (s : Registered) (m : Attached) (itsi : ℕ) (update : LocationUpdateType) → AreKnown s m → AreKnown s (after_update m itsi update)
after_update_known s m itsi update known = part_known s m (λ e. not ((e.0.0 == itsi) && is_dropped update e.1.1)) known

-- one of a radio that is not known ends nothing
not_of_new : (s : Registered) (m : Attached) (itsi : ℕ) (update : LocationUpdateType) (q : Pair) (o : Option Usage) → finite.get m q ≡ o →
    AreKnown s m → has_radio s itsi ≡ false → passing_usage (λ e. not ((e.0.0 == itsi) && is_dropped update e.1.1)) q o ≡ o
unfolding passing_usage
not_of_new s m itsi update q None at known new = refl
not_of_new s m itsi update q (Some usage) at known new =
    (elim (q.0 == itsi) as (λ b. (q.0 == itsi) ≡ b → cond (not (b && is_dropped update usage.1)) (Some usage) None ≡ Some usage) [
      | true ↦ λ same. absurd (false≢true (sym new ∙ subst (λ r. IsSome (radio_of s r)) (eqb-true q.0 itsi same) (known q.0 q.1 (ap is_some at))))
      | false ↦ λ other. refl
    ]) refl

pub after_update_new : (s : Registered) (m : Attached) (itsi : ℕ) (update : LocationUpdateType) → AreKnown s m → has_radio s itsi ≡ false → after_update m itsi update ≡ m
after_update_new s m itsi update known new =
    finite.same_map pairs_total pairs_exact _ _ (λ q. get_passing (λ e. not ((e.0.0 == itsi) && is_dropped update e.1.1)) m q ∙ not_of_new s m itsi update q (finite.get m q) refl known new)

-- a register that knows no fewer radios
pub known_after : (s t : Registered) (m : Attached) → ((itsi : ℕ) → IsSome (radio_of s itsi) → IsSome (radio_of t itsi)) → AreKnown s m → AreKnown t m
known_after s t m grows known itsi gtsi there = grows itsi (known itsi gtsi there)

-- a group PDU changes no attachment of another radio
abbrev pub AreOthersSame : ℕ → Attached → Attached → Type 0
AreOthersSame itsi m n = (q : Pair) → (q.0 == itsi) ≡ false → finite.get n q ≡ finite.get m q

other_inserted : (itsi g : ℕ) (v : Usage) (m : Attached) → AreOthersSame itsi m (finite.insert m (itsi, g) v)
other_inserted itsi g v m q other =
    finite.get-insert pairs_total m (itsi, g) v q ∙ ap (λ b. cond b (Some v) (finite.get m q)) (pairs_tied q (itsi, g) ∙ ap (λ b. b && (q.1 == g)) other)

other_removed : (itsi g : ℕ) (m : Attached) → AreOthersSame itsi m (finite.remove m (itsi, g))
other_removed itsi g m q other =
    finite.get-remove pairs_total m (itsi, g) q ∙ ap (λ b. cond b None (finite.get m q)) (pairs_tied q (itsi, g) ∙ ap (λ b. b && (q.1 == g)) other)

other_attached : (itsi g class : ℕ) (m : Attached) (r : Option Rule) → AreOthersSame itsi m (attached_by m (itsi, g) class r)
other_attached itsi g class m None q other = refl
other_attached itsi g class m (Some rule) q other = other_inserted itsi g (class, rule.lifetime) m q other

other_changed : (s : Registered) (itsi : ℕ) (m : Attached) (item : GroupUp) → AreOthersSame itsi m (changed_by s itsi m item)
other_changed s itsi m (up.Attach class address) = other_attached itsi (gtsi_of address itsi) class m (rule_of s (gtsi_of address itsi))
other_changed s itsi m (up.Leave reason address) = other_removed itsi (gtsi_of address itsi) m

other_folded : (s : Registered) (itsi : ℕ) (m : Attached) (items : List GroupUp) → AreOthersSame itsi m (fold (changed_by s itsi) m items)
other_folded s itsi m [] q other = refl
other_folded s itsi m (item ∷ items) q other = other_folded s itsi (changed_by s itsi m item) items q other ∙ other_changed s itsi m item q other

other_at_start : (m : Attached) (itsi : ℕ) (mode : GroupMode) → AreOthersSame itsi m (at_start m itsi mode)
other_at_start m itsi Amendment q other = refl
other_at_start m itsi DetachAllFirst q other =
    finite.get-retain_keys m (λ pair. not (pair.0 == itsi)) q (alike (λ pair. not (pair.0 == itsi)) q) ∙ ap (λ b. cond (not b) (finite.get m q) None) other

pub other_applied : (s : Registered) (m : Attached) (itsi : ℕ) (mode : GroupMode) (items : List GroupUp) → AreOthersSame itsi m (applied s m itsi mode items)
other_applied s m itsi mode items q other = other_folded s itsi (at_start m itsi mode) items q other ∙ other_at_start m itsi mode q other

part_of_other : (itsi other : ℕ) (m n : Attached) → (other == itsi) ≡ false → AreOthersSame itsi m n → of_radio n other ≡ of_radio m other
part_of_other itsi other m n apart same =
    finite.same_map pairs_total pairs_exact _ _ (λ q.
    finite.get-retain_keys n (λ pair. pair.0 == other) q (alike (λ pair. pair.0 == other) q)
    ∙ at_other (q.0 == other) (finite.get n q) (finite.get m q) (λ is. same q (ap (λ k. k == itsi) (eqb-true q.0 other is) ∙ apart))
    ∙ sym (finite.get-retain_keys m (λ pair. pair.0 == other) q (alike (λ pair. pair.0 == other) q)))

-- a group PDU that is not refused
pub applied_fits : (s : Registered) (m : Attached) (itsi : ℕ) (mode : GroupMode) (items : List GroupUp) → apply_refusal s m itsi mode items ≡ None →
    AllGroupsFit m → AllGroupsFit (applied s m itsi mode items)
applied_fits s m itsi mode items unrefused fit other =
    (elim (other == itsi) as (λ b. (other == itsi) ≡ b → finite.len (of_radio (applied s m itsi mode items) other) ≤ most_of_radio) [
      | true ↦ λ e. subst (λ k. finite.len (of_radio (applied s m itsi mode items) k) ≤ most_of_radio) (sym (eqb-true other itsi e)) (few (is_present (radio_of s itsi)) _ unrefused)
      | false ↦ λ e. subst (λ n. finite.len n ≤ most_of_radio) (sym (part_of_other itsi other m (applied s m itsi mode items) e (other_applied s m itsi mode items))) (fit other)
    ]) refl

pub applied_known : (s : Registered) (m : Attached) (itsi : ℕ) (mode : GroupMode) (items : List GroupUp) → apply_refusal s m itsi mode items ≡ None →
    AreKnown s m → AreKnown s (applied s m itsi mode items)
applied_known s m itsi mode items unrefused known other gtsi there =
    (elim (other == itsi) as (λ b. (other == itsi) ≡ b → IsSome (radio_of s other)) [
      | true ↦ λ e. subst (λ k. IsSome (radio_of s k)) (sym (eqb-true other itsi e)) (is_known (radio_of s itsi) (present (is_present (radio_of s itsi)) _ unrefused))
      | false ↦ λ e. known other gtsi (subst IsSome (other_applied s m itsi mode items (other, gtsi) e) there)
    ]) refl
