-- Radios are under whole identities.
use Rattle.std.proofs.Common.{◌≡◌, ℕ, Bool, true, false, cond, length, Option, Some, None, refl, sym, ap, subst, ◌∙◌}
use mathlib.Core.Bool.{false≢true}
use Rattle.std.specs.Prelude.{IsSome, OnSome, IfNone}
use Rattle.std.specs.Ordering.{eq_by_cmp}
use Rattle.std.specs.FinMap as map
use Rattle.identity.specs.Path.{Path, path_cmp, id_path}
use Rattle.identity.specs.Inside.PathLaws.{length-id_path, paths_total, tie_exact}
use Rattle.prefix_tree.specs.Table.{PathMap}
use Rattle.registration.specs.declared.radio.Radio.{Radio}
use Rattle.registration.specs.Registered.{AreWhole}

pub none_whole : (m : PathMap Radio) → m ≡ map.empty → AreWhole m
none_whole m is p there = absurd (false≢true (subst IsSome (ap (λ (n : PathMap Radio). map.get n p) is ∙ map.get-empty path_cmp p) there))

-- with a radio, new or old
pub one_whole : (m n : PathMap Radio) (itsi : ℕ) (radio : Radio) → AreWhole m → n ≡ map.insert m (id_path itsi) radio → AreWhole n
one_whole m n itsi radio whole is p there =
    by (eq_by_cmp path_cmp p (id_path itsi)) refl (subst IsSome (ap (λ (l : PathMap Radio). map.get l p) is ∙ map.get-insert paths_total m (id_path itsi) radio p) there)
  where
    by : (b : Bool) → eq_by_cmp path_cmp p (id_path itsi) ≡ b → IsSome (cond b (Some radio) (map.get m p)) → length p ≡ 48
    by true same some = ap length (tie_exact p (id_path itsi) same) ∙ length-id_path itsi
    by false other some = whole p some

-- without one
pub fewer_whole : (m n : PathMap Radio) (k : Path) → AreWhole m → n ≡ map.remove m k → AreWhole n
fewer_whole m n k whole is p there =
    by (eq_by_cmp path_cmp p k) (subst IsSome (ap (λ (l : PathMap Radio). map.get l p) is ∙ map.get-remove paths_total m k p) there)
  where
    by : (b : Bool) → IsSome (cond b None (map.get m p)) → length p ≡ 48
    by true some = absurd (false≢true some)
    by false some = whole p some

-- in the place of what there was, if there was one
pub replaced_whole : (m n : PathMap Radio) (itsi : ℕ) (radio : Radio) (before : Option Radio) → AreWhole m → OnSome before (n ≡ map.insert m (id_path itsi) radio) → IfNone before (n ≡ m) → AreWhole n
replaced_whole m n itsi radio (Some was) whole there absent = one_whole m n itsi radio whole there
replaced_whole m n itsi radio None whole there absent = subst AreWhole (sym absent) whole
