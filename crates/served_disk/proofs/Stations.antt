-- The texts and the ends of stations, one station more.
use Rattle.std.proofs.Common.{◌≡◌, ◌∙◌, ℕ, ◌+◌, ◌<◌, ◌++◌, ◌∷◌, ◌||◌, [], Bool, true, List, Option, Some, Result, Ok, Err, Vec, length, take, get_or}
use Rattle.std.proofs.Common.{refl, ap, sym, subst, append_assoc, append-nil, length-take-le, arith}
use Rattle.std.specs.Prelude.{All, is_ok, slice_get}
use Rattle.std.specs.declared.alloc.Global.{Global}
use Rattle.std.specs.List.{list_any}
use Rattle.std.specs.Io.KnownBytes.{Appends}
use Rattle.std.proofs.KnownBytes.{Appends-trans}
use Rattle.std.proofs.lemmas.List.{take_more}
use Rattle.std.proofs.lemmas.List.Elements.{All-more}
use Rattle.std.proofs.lemmas.List.Folds.{list_any_more}
use Rattle.std.proofs.lemmas.Option.{slice_get-get_or}
use Rattle.registration.specs.Numbers.{Station}
use Rattle.console.specs.declared.running.Ran.{Ran}
use Rattle.console.specs.declared.running.RunFault.{RunFault}
use Rattle.stations.specs.declared.station_run.StationRun.{StationRun}
use Rattle.served_disk.specs.declared.fault.Fault.{Fault}
use Rattle.served_disk.specs.declared.port_names.PortNames.{PortNames}
use Rattle.served_disk.specs.Faults.{IsOfRun}
use Rattle.served_disk.specs.Stations.{HasEnded, HaveEnded, IsFirst, IsWhole, is_troubled, reports_trouble, text_from}
use Rattle.served_disk.specs.Printing.{station_text}

-- a run whose answers wait in memory
abbrev Answered : Type 0 → Type 0
Answered I = StationRun I (Vec ℕ Global)

-- of one station
abbrev text_of : {I : Type 0} → Station → PortNames → Answered I → List ℕ
text_of station name run = station_text station name.input.now ++ run.writer.items

-- one station more
text_more : {I : Type 0} (s : Station) (names : List PortNames) (runs : List (Answered I)) (name : PortNames) (run : Answered I) → length names ≡ length runs
    → text_from s (names ++ name ∷ []) (runs ++ run ∷ []) ≡ text_from s names runs ++ text_of (length names + s) name run
text_more s [] [] name run same = append-nil (text_of s name run) ∙ ap (λ k. text_of k name run) (omega arith)
text_more s (first ∷ names) [] name run same = absurd (omega (arith, same))
text_more s [] (first ∷ runs) name run same = absurd (omega (arith, same))
text_more s (n ∷ names) (r ∷ runs) name run same =
    let rest = text_more (s + 1) names runs name run (omega (arith, same)) in
    ap (λ t. text_of s n r ++ t) rest
    ∙ sym (append_assoc (text_of s n r) (text_from (s + 1) names runs) (text_of (length names + (s + 1)) name run))
    ∙ ap (λ k. (text_of s n r ++ text_from (s + 1) names runs) ++ text_of k name run) (omega arith)

-- the same of the first stations
pub one_more : {I : Type 0} (a b c : Option (List ℕ)) (names : List PortNames) (runs : List (Answered I)) (i : ℕ) (d : PortNames) (e : Answered I) (s : Station) (answers : List ℕ)
    → length names ≡ length runs → i < length runs → s ≡ i + 1 → answers ≡ (get_or runs i e).writer.items → Appends a b (text_from 1 (take i names) (take i runs))
    → Appends b c (station_text s (get_or names i d).input.now ++ answers) → Appends a c (text_from 1 (take (i + 1) names) (take (i + 1) runs))
one_more a b c names runs i d e s answers same within is given before more =
    let text = station_text s (get_or names i d).input.now ++ answers in
    let many : length (take i names) ≡ i = length-take-le i names (omega (arith, within, same)) in
    let as_many : length (take i names) ≡ length (take i runs) = many ∙ sym (length-take-le i runs (omega (arith, within))) in
    let whole : text_from 1 (take (i + 1) names) (take (i + 1) runs) ≡ text_from 1 (take i names) (take i runs) ++ text =
    (λ j. text_from 1 (take_more names i d (omega (arith, within, same)) j) (take_more runs i e within j))
    ∙ text_more 1 (take i names) (take i runs) (get_or names i d) (get_or runs i e) as_many
    ∙ ap (λ k. text_from 1 (take i names) (take i runs) ++ text_of k (get_or names i d) (get_or runs i e)) (ap (λ k. k + 1) many ∙ sym is)
    ∙ ap (λ t. text_from 1 (take i names) (take i runs) ++ (station_text s (get_or names i d).input.now ++ t)) (sym given) in
    subst (λ t. Appends a c t) (sym whole) (Appends-trans a b c (text_from 1 (take i names) (take i runs)) text before more)

module _ {I O : Type 0} where
  -- the run with the first fault
  first_fault : (names : List PortNames) (runs : List (StationRun I O)) (i : ℕ) (name : PortNames) (run : StationRun I O) (end : Result Bool Fault) (answered : Fault)
      → All IsWhole (take i runs) → slice_get names i ≡ Some name → slice_get runs i ≡ Some run → HasEnded name run.ran end → end ≡ Err answered
      → IsFirst names runs answered
  first_fault names runs i name run end answered whole named here ended failed = by_result run.ran refl ended
    where
      not_both : (b : Bool) (f : Fault) → ◌≡◌ {A = Result Bool Fault} (Ok b) (Err f) → ⊥
      not_both b f same = cc

      same_fault : (f g : Fault) → ◌≡◌ {A = Result Bool Fault} (Err f) (Err g) → f ≡ g
      same_fault f g same = cc

      by_result : (r : Result Ran RunFault) → run.ran ≡ r → HasEnded name r end → IsFirst names runs answered
      by_result (Ok ran) at is = absurd (not_both _ _ (sym is ∙ failed))
      by_result (Err fault) at (said, is, of) = record {
        place = i;
        name = name;
        run = run;
        fault = fault;
        whole = whole;
        named = named;
        here = here;
        failed = at;
        is = subst (λ f. IsOfRun fault name f) (same_fault _ _ (sym is ∙ failed)) of;
      }

  -- where a run has a fault, and none did before
  pub is_fault : (names : List PortNames) (runs : List (StationRun I O)) (i : ℕ) (d : PortNames) (e : StationRun I O) (end result : Result Bool Fault) (answered : Fault)
      → length names ≡ length runs → i < length runs → All IsWhole (take i runs) → HasEnded (get_or names i d) (get_or runs i e).ran end → end ≡ Err answered → result ≡ Err answered
      → HaveEnded names runs result
  is_fault names runs i d e end result answered same within whole is failed out =
      let named = slice_get-get_or names i d (omega (arith, within, same)) in
      let here = slice_get-get_or runs i e within in
      subst (λ r. HaveEnded names runs r) (sym out) (first_fault names runs i (get_or names i d) (get_or runs i e) end answered whole named here is failed)

  -- a run without one
  no_fault : (name : PortNames) (run : StationRun I O) (end : Result Bool Fault) (b : Bool) → HasEnded name run.ran end → end ≡ Ok b → IsWhole run × (b ≡ is_troubled run)
  no_fault name run end b is ended = by_result run.ran is
    where
      same_bool : (c d : Bool) → ◌≡◌ {A = Result Bool Fault} (Ok c) (Ok d) → c ≡ d
      same_bool c d same = cc

      not_both : (c : Bool) (f : Fault) → ◌≡◌ {A = Result Bool Fault} (Ok c) (Err f) → ⊥
      not_both c f same = cc

      by_result : (r : Result Ran RunFault) → HasEnded name r end → (is_ok r ≡ true) × (b ≡ reports_trouble r)
      by_result (Ok ran) is = (refl, same_bool _ _ (sym ended ∙ is))
      by_result (Err fault) (said, is, of) = absurd (not_both _ _ (sym ended ∙ is))

  -- one run more without a fault
  pub none_more : (runs : List (StationRun I O)) (i : ℕ) (e : StationRun I O) (name : PortNames) (end : Result Bool Fault) (troubled b : Bool)
      → i < length runs → HasEnded name (get_or runs i e).ran end → end ≡ Ok b → All IsWhole (take i runs) × (troubled ≡ list_any is_troubled (take i runs))
      → All IsWhole (take (i + 1) runs) × ((troubled || b) ≡ list_any is_troubled (take (i + 1) runs))
  none_more runs i e name end troubled b within is ended (whole, so_far) =
      let one = no_fault name (get_or runs i e) end b is ended in (
        All-more IsWhole runs i e within whole one.0,
        (λ j. so_far j || one.1 j) ∙ sym (list_any_more is_troubled runs i e within),
      )
