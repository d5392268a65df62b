-- Each step keeps the rule of the views.
use Rattle.std.proofs.Common.{◌≡◌, ◌≢◌, ℕ, List, [], ◌∷◌, ◌++◌, set, refl, sym, subst, ⊎_elim}
use mathlib.Core.Option.{some, some-ne-none}
use mathlib.Core.List.{IsPrefix}
use lib.ListN.{get_elem?}
use Rattle.crossbeam_utils.specs.Register.{Admits, TurnsAt, Turns}
use Rattle.atomic_table.proofs.Lists.{at_set, at_snoc}
use Rattle.logbook.specs.Pages.{Book}
use Rattle.centre_core.specs.State.{State}
use Rattle.std.specs.declared.alloc.Global.{Global}
use Rattle.centre_core.specs.Asked.{Asked}
use Rattle.snapshots.proofs.Prefixes.{prefix_self, prefix_trans}
use Rattle.snapshots.specs.declared.snapshot.Snapshot.{Snapshot}
use Rattle.snapshots.specs.declared.rule.CopyView.{CopyView}
use Rattle.snapshots.specs.Views.{view_with, IsSnapshot, IsSeenBy, Sees}

abbrev AllBegin : List (Asked Global) → List CopyView → Type 0
AllBegin log views = (seat : ℕ) (v : CopyView) → get_elem? views seat ≡ some v → IsPrefix v.seen log

begin_set : (log : List (Asked Global)) (views : List CopyView) (seat : ℕ) (w : CopyView) → IsPrefix w.seen log → AllBegin log views → AllBegin log (set views seat w)
begin_set log views seat w mine others j u e =
    ⊎_elim
    (λ (x : (j ≡ seat) × (w ≡ u)). subst (λ (y : CopyView). IsPrefix y.seen log) x.1 mine)
    (λ (x : (j ≢ seat) × (get_elem? views j ≡ some u)). others j u x.1)
    (at_set views seat j w u e)

begin_snoc : (log : List (Asked Global)) (views : List CopyView) (w : CopyView) → IsPrefix w.seen log → AllBegin log views → AllBegin log (views ++ w ∷ [])
begin_snoc log views w mine others j u e =
    ⊎_elim (λ (x : get_elem? views j ≡ some u). others j u x) (λ (x : w ≡ u). subst (λ (y : CopyView). IsPrefix y.seen log) x mine) (at_snoc views w u j e)

pub begins : (base : State) (book : Book) (x : Snapshot) → IsSnapshot base book x → IsSeenBy base book x (view_with [] ∷ [])
begins base book x is_so = (is_so, begin_snoc x.list.log [] (view_with []) (x.list.log, refl) (λ j u e. absurd (some-ne-none u (sym e))))

pub admits : (base : State) (book : Book) → Admits (IsSeenBy base book) (view_with [])
admits base book x views h = (h.0, begin_snoc x.list.log views (view_with []) (x.list.log, refl) h.1)

-- from x to y, whose list begins with that of x
pub turns : (base : State) (book : Book) (seat : ℕ) (v : CopyView) (x y : Snapshot) → IsSnapshot base book y → IsPrefix x.list.log y.list.log →
    TurnsAt (IsSeenBy base book) seat v x y (λ v x y w. Sees base book v y w)
turns base book seat v x y is_so longer views h at =
    let w = view_with y.list.log in (
      w,
      (is_so, begin_set y.list.log views seat w (prefix_self y.list.log) (λ j u e. prefix_trans u.seen x.list.log y.list.log (h.1 j u e) longer)),
      (refl, is_so, prefix_trans v.seen x.list.log y.list.log (h.1 seat v at) longer),
    )

pub enters : (base : State) (book : Book) (seat : ℕ) (v : CopyView) → Turns (IsSeenBy base book) seat v (λ x. x) (λ v x y w. Sees base book v y w)
enters base book seat v x views h at = turns base book seat v x x h.0 (prefix_self x.list.log) views h at
