-- The rows of a state stand for it.
use Rattle.std.proofs.Common.{◌≡◌, ℕ, ◌≤◌, true, List, [], ◌++◌, length, Option, Some, refl, sym, ap, ◌∙◌, arith}
use Rattle.std.specs.Prelude.{map as each}
use Rattle.std.specs.FinMap as map
use Rattle.std.proofs.lemmas.Bool.{le-leb}
use Rattle.std.proofs.lemmas.List.Sums.{count_by-le-length}
use Rattle.std.specs.Option.{is_some}
use Rattle.base.proofs.Bools.{and_is_true}
use Rattle.base.proofs.Numbers.{same_test}
use Rattle.identity.specs.Path.{Path, path_cmp}
use Rattle.registration.specs.declared.rule.Rule.{Rule}
use Rattle.registration.specs.declared.radio.Radio.{Radio}
use Rattle.centre_core.specs.State.{State, IsState, empty}
use Rattle.centre_core.specs.StateRanges.{StateInRange}
use Rattle.image_rows.specs.Rows.{Header, HeaderRow, MailRow, rule_row, radio_row, served_rows, rows_of, header_of, how_many}
use Rattle.image_rows.specs.Loading.{◌>>=◌, Loading, row_taken, all_taken, begun, state_of_rows, finished, header_may, all_done}
use Rattle.image_rows.proofs.Order.{entries-empty}
use Rattle.image_rows.proofs.Rules.{at, all_taken-append, rules_taken, with_rules}
use Rattle.image_rows.proofs.Radios.{radios_taken, with_radios, all_known, none_known, known_of}
use Rattle.image_rows.proofs.Letters.{mail_taken, with_mail}
use Rattle.image_rows.proofs.Stations.{blanks, served_taken, with_served}

pub rows_make_state : (epoch : ℕ) (s : State) → IsState s → StateInRange s → state_of_rows s.registered.limits (rows_of epoch s) ≡ Some (epoch, s)
unfolding row_taken finished
rows_make_state epoch s is ranges =
    let limits = s.registered.limits in
    let h : Header = header_of epoch s in
    let s0 : State = record (empty limits) { count = s.count } in
    let s1 : State = with_rules s0 s.registered.rules in
    let s2 : State = with_radios s1 s.registered.radios (known_of s.groups s.registered.radios) in
    let s3 : State = with_mail s2 s.mail.items in
    let s4 : State = with_served s3 s.served in
    let rules = each rule_row (map.entries s.registered.rules) in
    let radios = each (radio_row s.groups) (map.entries s.registered.radios) in
    let mail = each MailRow s.mail.items in
    let served = served_rows 1 s.served in
    let some_served : how_many s.served ≤ limits.stations = let k = count_by-le-length is_some s.served in let e = is.stations in omega (arith, k, e) in
    let fits : length s.mail.items ≤ limits.mail = let k = is.mail.in_order.fits in let e = is.mail.room in omega (arith, k, e) in
    let may : header_may limits h ≡ true =
    and_is_true _ _ (and_is_true _ _
    (and_is_true _ _ (and_is_true _ _ (le-leb _ _ is.count) (le-leb _ _ is.within.rules)) (le-leb _ _ is.within.radios)) (le-leb _ _ fits))
    (le-leb _ _ some_served) in
    let step0 : row_taken (begun limits) (HeaderRow h) ≡ Some (at h s0) = rw may refl in
    let step1 : all_taken (at h s0) rules ≡ Some (at h s1) =
    rules_taken h s0 s.registered.rules (map.entries s.registered.rules) refl
    (ap (λ (l : List (Path × Rule)). l ++ map.entries s.registered.rules) (entries-empty path_cmp)) in
    let done1 = same_test (map.len s.registered.rules) in
    let step2 : all_taken (at h s1) radios ≡ Some (at h s2) =
    radios_taken h s1 s.registered.radios s.groups (map.entries s.registered.radios) done1 refl is.attachments.0 ranges.attachments ranges.radios
    (ap (λ (l : List (Path × Radio)). l ++ map.entries s.registered.radios) (entries-empty path_cmp)) (sym (none_known s.groups)) in
    let done2 = and_is_true _ _ done1 (same_test (map.len s.registered.radios)) in
    let step3 : all_taken (at h s2) mail ≡ Some (at h s3) = mail_taken h s2 s.mail s.mail.items done2 refl is.mail.in_order refl in
    let done3 = and_is_true _ _ done2 (same_test (length s.mail.items)) in
    let step4 : all_taken (at h s3) served ≡ Some (at h s4) = served_taken h s3 [] s.served done3 refl is.last (ap blanks (sym is.stations)) in
    let whole : all_done h s4 ≡ true = and_is_true _ _ done3 (same_test (how_many s.served)) in
    let all : all_taken (begun limits) (rows_of epoch s) ≡ Some (at h s4) =
    ap (λ (r : Option Loading). r >>= λ n. all_taken n (rules ++ (radios ++ (mail ++ served)))) step0
    ∙ all_taken-append (at h s0) rules (radios ++ (mail ++ served)) ∙ ap (λ (r : Option Loading). r >>= λ n. all_taken n (radios ++ (mail ++ served))) step1
    ∙ all_taken-append (at h s1) radios (mail ++ served) ∙ ap (λ (r : Option Loading). r >>= λ n. all_taken n (mail ++ served)) step2
    ∙ all_taken-append (at h s2) mail served ∙ ap (λ (r : Option Loading). r >>= λ n. all_taken n served) step3
    ∙ step4 in
    let room = is.mail.room in
    ap (λ (r : Option Loading). r >>= finished) all ∙
    rw whole (λ i. Some (
      epoch,
      record {
        registered = s.registered;
        groups = all_known s.groups s.registered.radios is.attachments.1 i;
        mail =
            record { room = sym room i; items = s.mail.items };
        served = s.served;
        count = s.count;
      },
    ))
