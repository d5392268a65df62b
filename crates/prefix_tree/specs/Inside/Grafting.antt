-- What a node becomes once a borrow of what is below it ends.
use Rattle.std.specs.Prelude.{◌≡◌, ℕ, ◌+◌, ◌<◌, cond, length, IsTrue, Option, OnSome, IfSome}
use Rattle.std.specs.Borrow.{Lends, LendsIf, LendsSo, MutBor, Fml, RattleType}
use Rattle.std.specs.FinMap as map
use Rattle.std.specs.declared.alloc.Allocator.{Ghosts}
use Rattle.std.specs.declared.boxed.Box.{Box}
use Rattle.std.specs.contracts.boxed.Box as box
use Rattle.identity.specs.Path.{Path, begins}
use Rattle.prefix_tree.specs.Visits.{is_place, visits_beyond}
use Rattle.prefix_tree.specs.Inside.Around.{NodeModel, KeysUnder, IsFirm}
use Rattle.prefix_tree.specs.declared.node.Node.{Node}
use Rattle.prefix_tree.specs.contracts.node.Node.{the_row}

-- w is on the way to q below s, and has what s has from there on
pub record IsOnWay {V : Type 0} (s : NodeModel V) (q : Path) (w : NodeModel V) : Type 0 where
  pub firm : IsFirm s.at w
  pub longer : length s.at < length w.at
  pub leads : IsTrue (begins w.at q)
  pub same : (z : Path) → IsTrue (begins w.at z) → map.get s.table z ≡ map.get w.table z

-- w may be where l does
pub record IsLike {V : Type 0} (l w : NodeModel V) : Type 0 where
  pub at : w.at ≡ l.at
  pub place : IsTrue (is_place l.table l.at) → IsTrue (is_place w.table w.at)
  pub keys : KeysUnder l.at l.table → KeysUnder w.at w.table
  pub sound : IsTrue l.sound → IsTrue w.sound

-- n is s with w in the place of l below it
pub record IsGrafted {V : Type 0} (s l n w : NodeModel V) : Type 0 where
  pub like : IsLike s n
  pub table : (q : Path) → map.get n.table q ≡ cond (begins l.at q) (map.get w.table q) (map.get s.table q)

-- the steps at the end of the way to q, where n are taken before it goes down from s
abbrev pub steps_at_key : {V : Type 0} → ℕ → NodeModel V → Path → ℕ
steps_at_key n s q = n + visits_beyond s.table s.at q

module _ (V A : RattleType) (g : Ghosts A.Denot) (s : MutBor (Node V.Denot A.Denot)) where
  -- once r ends, a link below is what was last written there, if that may be there, and the rest is as it was
  abbrev pub BorrowsBelow : Option (MutBor (Box (Node V.Denot A.Denot) A.Denot)) → Fml
  BorrowsBelow r =
      LendsSo (the_row V A g) (box.the_row (the_row V A g) A g) s r
      (λ n w. IfSome r (λ l. IsLike l.now.value w.value → IsGrafted s.now l.now.value n w.value)) (λ n. (n.table ≡ s.now.table) × IsLike s.now n)

  -- once r ends, the value at p is what was last written there, and the rest is as it was; in no case is the node elsewhere
  abbrev pub BorrowsValue : Path → Option (MutBor V.Denot) → Fml
  BorrowsValue p r =
      LendsSo (the_row V A g) V s r
      (λ n x. OnSome r (n.table ≡ map.insert s.now.table p x) × IsLike s.now n) (λ n. (n.table ≡ s.now.table) × IsLike s.now n)

-- once r ends, the node in the box is what was last written there
abbrev pub BorrowsInside : (V A : RattleType) (g : Ghosts A.Denot) → MutBor (Box (Node V.Denot A.Denot) A.Denot) → MutBor (Node V.Denot A.Denot) → Fml
BorrowsInside V A g s r = Lends (box.the_row (the_row V A g) A g) (the_row V A g) s r (λ w. record s.now { value = w })
