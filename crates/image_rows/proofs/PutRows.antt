-- What a row that is put makes of the parts.
use Rattle.std.proofs.Common.{◌≡◌, ℕ, ◌-◌, ◌<◌, ◌≤◌, Bool, true, false, cond, List, length, Option, Some, None, Result, Ok, Err, refl, sym, ap, subst, ◌∙◌, arith}
use Rattle.std.specs.Prelude.{◌&&◌, ◌==◌, not, nat_lt, nat_le, IsSome, IfOk, OnErr, map as each, slice_set}
use Rattle.std.specs.Option.{is_some}
use Rattle.std.specs.Ordering.{nat_cmp, eq_by_cmp}
use Rattle.std.specs.FinMap as map
use Rattle.std.proofs.lemmas.Bool.{ltb-true, leb-true, eqb-true}
use Rattle.base.proofs.Bools.{first_true, second_true}
use Rattle.identity.specs.Path.{path_cmp, id_path}
use Rattle.identity.specs.Inside.PathLaws.{paths_total, paths_exact, tie_exact}
use Rattle.prefix_tree.specs.Table.{PathMap}
use Rattle.registration.specs.declared.radio.Radio.{Radio}
use Rattle.registration.specs.Registered.{Registered, radio_of, with_radio, without_radio}
use Rattle.group_attach.specs.declared.attachment.Attachment.{Attachment}
use Rattle.group_attach.specs.Attached.{Attached, all_attached}
use Rattle.group_attach.specs.Applied.{most_of_radio, restored, without_radio as without_groups}
use Rattle.group_attach.specs.Allowed.{AreKnown}
use Rattle.group_attach.proofs.Pairs.{pairs_total, pairs_exact, alike}
use Rattle.centre_core.specs.State.{State, LastAccepted}
use Rattle.image_rows.specs.Rows.{Row, RowInRange, Header, Group, RadioRow, ServedRow, how_many}
use Rattle.image_rows.specs.Loading.{◌>>=◌, Loading, begin, row_taken, take_by, is_next, rules_done, mail_done, with_attachments, attachment_in, put}
use Rattle.image_rows.specs.Loading.{taken_radio, served_may, all_done, finished, finished_by, place_may}
use Rattle.image_rows.specs.Held.{IsOutcome, IsHeld, IsLoaded, IsPlace, loading, with_groups}
use Rattle.image_rows.proofs.Order.{get_next}
use Rattle.image_rows.proofs.Rules.{at}
use Rattle.image_rows.proofs.Only.{no_attachment}
use Rattle.image_rows.proofs.Loaded.{one_more}

-- ---- a radio

module _ (m : PathMap Radio) (itsi : ℕ) (radio : Radio) (none : map.get m (id_path itsi) ≡ None) where
  gone_again : map.remove (map.insert m (id_path itsi) radio) (id_path itsi) ≡ m
  gone_again =
      map.same_map paths_total paths_exact _ _ (λ q.
      map.get-remove paths_total (map.insert m (id_path itsi) radio) (id_path itsi) q
      ∙ ap (cond (eq_by_cmp path_cmp q (id_path itsi)) None) (map.get-insert paths_total m (id_path itsi) radio q)
      ∙ (elim (eq_by_cmp path_cmp q (id_path itsi)) as (λ b. eq_by_cmp path_cmp q (id_path itsi) ≡ b → cond b None (cond b (Some radio) (map.get m q)) ≡ map.get m q) [
        | true ↦ λ tie. sym (ap (map.get m) (tie_exact q (id_path itsi) tie) ∙ none)
        | false ↦ λ other. refl
      ] refl))

-- a new radio that is taken out again leaves nothing
pub forgotten : (s : Registered) (itsi : ℕ) (radio : Radio) → radio_of s itsi ≡ None → without_radio (with_radio s itsi radio) itsi ≡ s
forgotten s itsi radio none = ap (λ (radios : PathMap Radio). record s { radios = radios }) (gone_again s.radios itsi radio none)

-- a radio that is not there has no groups
no_groups_yet : (r : Registered) (m : Attached) (itsi : ℕ) → AreKnown r m → radio_of r itsi ≡ None → without_groups m itsi ≡ m
no_groups_yet r m itsi known none =
    map.same_map pairs_total pairs_exact _ _ (λ q.
    map.get-retain_keys m (λ p. not (p.0 == itsi)) q (alike (λ p. not (p.0 == itsi)) q)
    ∙ (elim (q.0 == itsi) as (λ b. (q.0 == itsi) ≡ b → cond (not b) (map.get m q) None ≡ map.get m q) [
      | true ↦ λ is. sym (no_attachment (map.get m q) (radio_of r q.0) (known q.0 q.1) (ap (λ n. radio_of r n) (eqb-true q.0 itsi is) ∙ none))
      | false ↦ λ other. refl
    ] refl))

pub with_own : (s : State) (itsi : ℕ) (radio : Radio) (gs : List Group) (list : List Attachment) (reg : Registered) (m : Attached) → IsPlace s itsi →
    (nat_le (length gs) most_of_radio && map.is_sorted nat_cmp gs) ≡ true
    → list ≡ each (attachment_in itsi) gs → reg ≡ with_radio s.registered itsi radio → m ≡ restored s.groups itsi list →
    IsOutcome (with_groups s itsi radio gs) s true (record s { registered = reg; groups = m })
with_own s itsi radio gs list reg m place may own is groups =
    let with_attachments_so : m ≡ with_attachments s.groups itsi gs = groups ∙ ap (restored s.groups itsi) own ∙
    ap (λ (n : Attached). all_attached n (each (attachment_in itsi) gs)) (no_groups_yet s.registered s.groups itsi place.known place.new) in
    rw may (refl, λ i. record s { registered = is i; groups = with_attachments_so i })

pub no_place : (h : Header) (s : State) (itsi : ℕ) (radio : Radio) (gs : List Group) → place_may h s itsi radio ≡ false → put h s (RadioRow itsi radio gs) ≡ None
no_place h s itsi radio gs may = λ i. cond ((may i && nat_le (length gs) most_of_radio) && map.is_sorted nat_cmp gs) (Some (taken_radio s itsi radio gs)) None

pub is_place : (h : Header) (s : State) (itsi : ℕ) (radio : Radio) → IsHeld h s → place_may h s itsi radio ≡ true → IsPlace s itsi
is_place h s itsi radio held may =
    let old = s.registered.radios in
    let three = first_true _ _ (first_true _ _ may) in
    let two = first_true _ _ three in
    let next : is_next old (id_path itsi) ≡ true = second_true (rules_done h s && nat_lt (map.len old) h.radios) _ three in
    let few = ltb-true _ _ (second_true (rules_done h s) _ two) in
    let room = held.radios in
    record { new = get_next paths_total old (id_path itsi) next; room = omega (arith, few, room); known = held.known }

-- ---- any row

pub came_with : (h : Header) (s n : State) (r : Option State) (t : Bool) → IsOutcome r s t n → IsOutcome (r >>= λ m. Some (at h m)) (at h s) t (at h n)
came_with h s n None t came = (came.0, ap (at h) came.1)
came_with h s n (Some m) t came = (came.0, ap (at h) came.1)

pub some_with : (h : Header) (r : Option State) → IsSome r → IsSome (r >>= λ m. Some (at h m))
some_with h None some = some
some_with h (Some m) some = refl

pub stays_loaded : (l n : Loading) (row : Row) (t : Bool) → IsLoaded l → RowInRange row → IsOutcome (row_taken l row) l t n → IsLoaded n
stays_loaded l n row t loaded range came =
    elim (row_taken l row) as (λ r. row_taken l row ≡ r → IsOutcome r l t n → IsLoaded n) [
      | None ↦ λ e was. subst IsLoaded (sym was.1) loaded
      | Some m ↦ λ e is. subst IsLoaded (sym is.1) (one_more l m row loaded range e)
    ] refl came

pub stated_taken : (l n : Loading) (row : Row) (r : Option Row) (t : Bool) → Some row ≡ r → IsOutcome (row_taken l row) l t n → t ≡ true → (r >>= row_taken l) ≡ Some n
stated_taken l n row r t is came so =
    ap (λ o. o >>= row_taken l) (sym is)
    ∙ (elim (row_taken l row) as (λ o. IsOutcome o l t n → o ≡ Some n) [
      | None ↦ λ was. let both : true ≡ false = sym so ∙ was.0 in absurd cc
      | Some m ↦ λ now. ap Some (sym now.1)
    ] came)

pub stated_refused : (l n : Loading) (row : Row) (r : Option Row) (t : Bool) → Some row ≡ r → IsOutcome (row_taken l row) l t n → t ≡ false → ((r >>= row_taken l) ≡ None) × (n ≡ l)
stated_refused l n row r t is came so =
    let stated = elim (row_taken l row) as (λ o. IsOutcome o l t n → (o ≡ None) × (n ≡ l)) [
      | None ↦ λ was. (refl, was.1)
      | Some m ↦ λ now. let both : true ≡ false = sym now.0 ∙ so in absurd cc
    ] came in
    (ap (λ o. o >>= row_taken l) (sym is) ∙ stated.0, stated.1)

pub loaded_after : {E : Type 0} (r : Result Bool E) (h k : Option Header) (s n : State) (row : Row) → IsLoaded (loading h s) → RowInRange row →
    IfOk r (λ t. IsOutcome (row_taken (loading h s) row) (loading h s) t (loading k n)) → OnErr r ((k ≡ h) × (n ≡ s)) → IsLoaded (loading k n)
loaded_after (Ok t) h k s n row loaded range came same = stays_loaded (loading h s) (loading k n) row t loaded range came
loaded_after (Err e) h k s n row loaded range came same = subst (λ (o : Option Header). IsLoaded (loading o n)) (sym same.0) (subst (λ (m : State). IsLoaded (loading h m)) (sym same.1) loaded)

-- ---- what is kept of a station

pub served_place : (h : Header) (s : State) (station : ℕ) (x : LastAccepted) → served_may h s station x ≡ true → (0 < station) × (station ≤ length s.served)
served_place h s station x may =
    let four = first_true _ _ (first_true _ _ may) in
    let three = first_true _ _ four in (
      ltb-true _ _ (second_true (mail_done h s && nat_lt (how_many s.served) h.served) _ three),
      leb-true _ _ (second_true (mail_done h s && nat_lt (how_many s.served) h.served && nat_lt 0 station) _ four),
    )

pub with_last : (h : Header) (s : State) (station : ℕ) (x : LastAccepted) (served : List (Option LastAccepted)) → served_may h s station x ≡ true →
    served ≡ slice_set s.served (station - 1) (Some x) → IsOutcome (put h s (ServedRow station x)) s true (record s { served = served })
with_last h s station x served may is = rw may (refl, λ i. record s { served = is i })

pub without_last : (h : Header) (s : State) (station : ℕ) (x : LastAccepted) → served_may h s station x ≡ false → IsOutcome (put h s (ServedRow station x)) s false s
without_last h s station x may = rw may (refl, refl)

pub some_last : (h : Header) (s : State) (station : ℕ) (x : LastAccepted) → served_may h s station x ≡ true → IsSome (put h s (ServedRow station x))
some_last h s station x may = rw may refl

-- ---- the first row, and those after it

pub came_first : (o : Option Header) (s : State) (row : Row) (t : Bool) (n : Loading) → o ≡ None → IsOutcome (begin s row) (loading o s) t n → IsOutcome (row_taken (loading o s) row) (loading o s) t n
unfolding row_taken
came_first o s row t n is came = subst (λ (p : Option Header). IsOutcome (take_by p s row) (loading o s) t n) (sym is) came

pub came_later : (o : Option Header) (h : Header) (s n : State) (row : Row) (t : Bool) → o ≡ Some h → IsOutcome (put h s row) s t n →
    IsOutcome (row_taken (loading o s) row) (loading o s) t (loading o n)
unfolding row_taken
came_later o h s n row t is came = subst (λ (p : Option Header). IsOutcome (take_by p s row) (loading p s) t (loading p n)) (sym is) (came_with h s n (put h s row) t came)

pub some_later : (o : Option Header) (h : Header) (s : State) (row : Row) → o ≡ Some h → IsSome (put h s row) → IsSome (row_taken (loading o s) row)
unfolding row_taken
some_later o h s row is some = subst (λ (p : Option Header). IsSome (take_by p s row)) (sym is) (some_with h (put h s row) some)

-- ---- the whole

pub whole_none : (l : Loading) → l.header ≡ None → false ≡ is_some (finished l)
unfolding finished
whole_none l is = ap (λ (o : Option Header). is_some (finished_by o l.state)) (sym is)

pub whole_some : (l : Loading) (h : Header) → l.header ≡ Some h → all_done h l.state ≡ is_some (finished l)
unfolding finished
whole_some l h is = by (all_done h l.state) ∙ ap (λ (o : Option Header). is_some (finished_by o l.state)) (sym is)
  where
    by : (b : Bool) → b ≡ is_some {T = ℕ × State} (cond b (Some (h.epoch, l.state)) None)
    by true = refl
    by false = refl

pub finished_so : (l : Loading) (h : Header) → l.header ≡ Some h → all_done h l.state ≡ true → finished l ≡ Some (h.epoch, l.state)
unfolding finished
finished_so l h is done = ap (λ (o : Option Header). finished_by o l.state) is ∙ ap (λ (b : Bool). cond b (Some (h.epoch, l.state)) None) done

pub finished_not : (l : Loading) (h : Header) → l.header ≡ Some h → all_done h l.state ≡ false → finished l ≡ None
unfolding finished
finished_not l h is done = ap (λ (o : Option Header). finished_by o l.state) is ∙ ap (λ (b : Bool). cond b (Some (h.epoch, l.state)) None) done

pub finished_none : (l : Loading) → l.header ≡ None → finished l ≡ None
unfolding finished
finished_none l is = ap (λ (o : Option Header). finished_by o l.state) is
