-- A map put together from what is at a node and what is below it on either side, all under whole paths.
use Rattle.std.specs.Prelude.{◌≡◌, ℕ, ◌+◌, ◌<◌, length, not, Bool, true, false, ◌&&◌, cond, refl, List, [], ◌∷◌, ◌++◌, Option, Some, None, IsTrue}
use Rattle.std.specs.Option.{is_some}
use Rattle.std.specs.Coded.{Coded, code_by, coded×, coded_ℕ, coded_bool}
use Rattle.std.specs.FinMap as map
use Rattle.std.specs.declared.boxed.Box.{Box}
use Rattle.identity.specs.Path.{Path, begins}
use Rattle.prefix_tree.specs.Table.{PathMap, coded_path, coded_table}
use Rattle.prefix_tree.specs.Visits.{is_place, visits_beyond}

-- what a node is modelled as: its path, the entries at and below it, how many nodes it and those below are, and
-- whether those below are where they may
pub record NodeModel (V : Type 0) : Type 0 where
  pub at : Path
  pub table : PathMap V
  pub nodes : ℕ
  pub sound : Bool

-- how a node is stored: its four fields, one after another
abbrev pub coded_node : {V : Type 0} → Coded V → Coded (NodeModel V)
coded_node {V} v =
    code_by (Path × (PathMap V × (ℕ × Bool))) (coded× coded_path (coded× (coded_table v) (coded× coded_ℕ coded_bool)))
    (λ d. (d.at, (d.table, (d.nodes, d.sound)))) (λ p. record { at = p.0; table = p.1.0; nodes = p.1.1.0; sound = p.1.1.1 }) (λ _. refl)

-- the node's own entry
abbrev pub own_entry : {V : Type 0} → Path → Option V → List (Path × V)
own_entry p None = []
own_entry p (Some v) = (p, v) ∷ []

-- the entries in order: the node's own, then those that go on with 0, then those that go on with 1
abbrev pub around_entries : {V : Type 0} → Path → Option V → PathMap V → PathMap V → List (Path × V)
around_entries p v l r = own_entry p v ++ (map.entries l ++ map.entries r)

-- the map that they make
unfoldable pub around : {V : Type 0} → Path → Option V → PathMap V → PathMap V → PathMap V
around p v l r = map.from_entries (around_entries p v l r)

-- the path begins each key
unfoldable pub KeysUnder : {V : Type 0} → Path → PathMap V → Type 0
KeysUnder p m = (q : Path) → begins p q ≡ false → map.get m q ≡ None

-- what a link leads to
abbrev pub table_of : {V A : Type 0} → Option (Box (NodeModel V) A) → PathMap V
table_of None = map.empty
table_of (Some b) = b.value.table

-- how many nodes there are from a link on
abbrev pub nodes_of : {V A : Type 0} → Option (Box (NodeModel V) A) → ℕ
nodes_of None = 0
nodes_of (Some b) = b.value.nodes

-- the path begins the key of each of these entries
abbrev pub all_under : {V : Type 0} → Path → List (Path × V) → Bool
all_under p [] = true
all_under p (e ∷ es) = begins p e.0 && all_under p es

-- the node may be linked below p: its path and those of its keys go on from there, it has a value or both sides,
-- and those below it are where they may
abbrev pub is_firm : {V : Type 0} → Path → NodeModel V → Bool
is_firm p d = (begins p d.at && all_under d.at (map.entries d.table)) && (is_place d.table d.at && d.sound)

-- the link leads to a node that may be linked below p, or to nothing
abbrev pub is_under : {V A : Type 0} → Path → Option (Box (NodeModel V) A) → Bool
is_under p None = true
is_under p (Some b) = is_firm p b.value

-- a node that may be linked below p, but for its own value or sides
pub record IsLoose {V : Type 0} (p : Path) (d : NodeModel V) : Type 0 where
  pub extends : IsTrue (begins p d.at)
  pub keys : KeysUnder d.at d.table
  pub sound : IsTrue d.sound

-- a node that may be linked below p, with its own value or both sides
pub record IsFirm {V : Type 0} (p : Path) (d : NodeModel V) : Type 0 where
  pub loose : IsLoose p d
  pub place : IsTrue (is_place d.table d.at)

-- the link leads to such a node, or to nothing
abbrev pub IsUnder : {V A : Type 0} → Path → Option (Box (NodeModel V) A) → Type 0
IsUnder p None = Unit {0}
IsUnder p (Some b) = IsFirm p b.value

-- the link leads to a node that may be linked below p, but for its own value or sides, or to nothing
abbrev pub IsLooseUnder : {V A : Type 0} → Path → Option (Box (NodeModel V) A) → Type 0
IsLooseUnder p None = Unit {0}
IsLooseUnder p (Some b) = IsLoose p b.value

-- what a node is modelled as that has this path, this value, and these links on its sides
abbrev pub node_view : {V A : Type 0} → Path → Option V → Option (Box (NodeModel V) A) → Option (Box (NodeModel V) A) → NodeModel V
node_view p v l r = record {
  at = p;
  table = around p v (table_of l) (table_of r);
  nodes = nodes_of l + nodes_of r + 1;
  sound = is_under (p ++ false ∷ []) l && is_under (p ++ true ∷ []) r;
}

-- whether the link leads to a node that begins the path
abbrev pub leads_to : {V A : Type 0} → Option (Box (NodeModel V) A) → Path → Bool
leads_to None q = false
leads_to (Some b) q = begins b.value.at q

-- one map under this bit, another under the other bit
abbrev pub spread : {V : Type 0} → Path → Option V → Bool → PathMap V → PathMap V → PathMap V
spread p v true old other = around p v other old
spread p v false old other = around p v old other

-- the link leads to a node without a value and with one side at most
abbrev pub is_lone : {V A : Type 0} → Option (Box (NodeModel V) A) → Bool
is_lone None = false
is_lone (Some b) = not (is_place b.value.table b.value.at)

-- where the ways to what the link leads to and to q part, and the bit that goes on to the link's node
pub record IsParting {V A : Type 0} (o : Option (Box (NodeModel V) A)) (q p : Path) (side : Bool) : Type 0 where
  pub there : IsTrue (is_some o)
  pub old_side : IsUnder (p ++ side ∷ []) o
  pub on_the_way : IsTrue (begins p q)
  pub other_side : length p < length q → IsTrue (begins (p ++ not side ∷ []) q)
  pub last : (r : Path) → IsUnder r o → IsTrue (begins r q) → IsTrue (begins r p)

-- the ways part there; there is no such place only where the link leads to nothing
abbrev pub PartsAt : {V A : Type 0} → Option (Box (NodeModel V) A) → Path → Option (Path × Bool) → Type 0
PartsAt o q None = o ≡ None
PartsAt o q (Some at) = IsParting o q at.0 at.1

-- the nodes that are visited from a link on
abbrev pub link_visits : {V A : Type 0} → Option (Box (NodeModel V) A) → Path → ℕ
link_visits None q = 0
link_visits (Some b) q = 1 + cond (begins b.value.at q) (visits_beyond b.value.table b.value.at q) 0
