-- Ordered trees over any type of labels. Assumes nothing.
use Rattle.std.specs.Prelude.{ℕ, zero, suc, ◌+◌, max, List, [], ◌∷◌, Some, None, Option}

-- A list of trees. It is one type, and not two that name each other: `grow a c f` is the tree with
-- the label a over the children c, followed by the trees f.
pub data Forest (A : Type 0) : Type 0 where
  none : Forest A
  grow : A → Forest A → Forest A → Forest A

pub data Tree (A : Type 0) : Type 0 where
  node : A → Forest A → Tree A

-- the tree as a list of one
abbrev pub alone : {A : Type 0} → Tree A → Forest A
alone (node a c) = grow a c none

-- the trees of one list and then those of another
abbrev pub join : {A : Type 0} → Forest A → Forest A → Forest A
join none g = g
join (grow a c f) g = grow a c (join f g)

abbrev pub map : {A B : Type 0} → (A → B) → Forest A → Forest B
map h none = none
map h (grow a c f) = grow (h a) (map h c) (map h f)

-- how many trees there are
abbrev pub count : {A : Type 0} → Forest A → ℕ
count none = 0
count (grow a c f) = suc (count f)

-- how many nodes the trees have
abbrev pub nodes : {A : Type 0} → Forest A → ℕ
nodes none = 0
nodes (grow a c f) = 1 + nodes c + nodes f

-- on how many levels the nodes lie
abbrev pub levels : {A : Type 0} → Forest A → ℕ
levels none = 0
levels (grow a c f) = max (1 + levels c) (levels f)

abbrev pub size : {A : Type 0} → Tree A → ℕ
size t = nodes (alone t)

-- the depth of the deepest node, where that of the root is 0
abbrev pub height : {A : Type 0} → Tree A → ℕ
height (node a c) = levels c

-- the tree at a place in a list
abbrev pub child : {A : Type 0} → Forest A → ℕ → Option (Tree A)
child none k = None
child (grow a c f) zero = Some (node a c)
child (grow a c f) (suc k) = child f k

-- A path lists child numbers from the root down.
abbrev pub under : {A : Type 0} → Option (Tree A) → (Tree A → Option (Tree A)) → Option (Tree A)
under None go = None
under (Some t) go = go t

abbrev pub subtree : {A : Type 0} → List ℕ → Tree A → Option (Tree A)
subtree [] t = Some t
subtree (k ∷ path) (node a c) = under (child c k) (subtree path)
