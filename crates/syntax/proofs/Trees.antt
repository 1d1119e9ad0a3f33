-- Trees and their subtrees: depth, size and paths. Assumes nothing.
use Rattle.std.proofs.Common.{◌≡◌, ℕ, zero, suc, ◌+◌, ◌<◌, ◌≤◌, ◌⊎◌, List, [], ◌∷◌, ◌++◌, length, Some, None, Option, refl, ap, ◌∙◌, inl, inr, arith}
use Rattle.std.proofs.lemmas.Bool.{cases_lt}
use Rattle.syntax.specs.Trees.{Forest, none, grow, Tree, node, map, count, nodes, levels, size, height, child, under, subtree}

under_append : {A : Type 0} (o : Option (Tree A)) (g h k : Tree A → Option (Tree A)) → ((u : Tree A) → k u ≡ under (g u) h) → under o k ≡ under (under o g) h
under_append None g h k same = refl
under_append (Some u) g h k same = same u

pub subtree_append : {A : Type 0} (p q : List ℕ) (t : Tree A) → subtree (p ++ q) t ≡ under (subtree p t) (subtree q)
subtree_append [] q t = refl
subtree_append (k ∷ p) q (node a c) = under_append (child c k) (subtree p) (subtree q) (subtree (p ++ q)) (subtree_append p q)

never : {A : Type 0} {t : Tree A} → None ≡ Some t → ⊥
never e = let z : ◌≡◌ {A = ℕ} 0 1 = cc in omega arith

some : {A : Type 0} {t u : Tree A} → Some t ≡ Some u → t ≡ u
some e = cc

-- a child lies one level down, and is part of the whole
child_within : {A : Type 0} (f : Forest A) (k : ℕ) (t : Tree A) → child f k ≡ Some t → (1 + height t ≤ levels f) × (size t ≤ nodes f)
child_within none k t is = absurd (never is)
child_within (grow a c f) zero t is = let e = some is in omega (arith, ap height e, ap size e)
child_within (grow a c f) (suc k) t is = let h = child_within f k t is in omega (arith, h.0, h.1)

-- what lies at a path of a tree lies within its height and size
pub subtree_within : {A : Type 0} (p : List ℕ) (t u : Tree A) → subtree p t ≡ Some u → (length p + height u ≤ height t) × (size u ≤ size t)
subtree_within [] t u is = let e = some is in omega (arith, ap height e, ap size e)
subtree_within {A} (k ∷ p) (node a c) u is = at (child c k) refl is (λ t. subtree_within p t u)
  where
    at : (o : Option (Tree A)) → child c k ≡ o → under o (subtree p) ≡ Some u → ((t : Tree A) → subtree p t ≡ Some u → (length p + height u ≤ height t) × (size u ≤ size t)) → (length (k ∷ p) + height u ≤ levels c) × (size u ≤ size (node a c))
    at None here e below = absurd (never e)
    at (Some t) here e below =
        let outer = child_within c k t here in
        let inner = below t e in
        omega (arith, outer.0, outer.1, inner.0, inner.1)

-- some child has all levels but one
child_deepest : {A : Type 0} (f : Forest A) → 0 < levels f → (k : ℕ) × (t : Tree A) × (child f k ≡ Some t) × (1 + height t ≡ levels f)
child_deepest none deep = absurd (omega arith)
child_deepest {A} (grow a c f) deep = by_size (cases_lt (1 + levels c) (levels f)) (child_deepest f)
  where
    by_size : (1 + levels c < levels f) ⊎ (levels f ≤ 1 + levels c) → (0 < levels f → (k : ℕ) × (t : Tree A) × (child f k ≡ Some t) × (1 + height t ≡ levels f)) → (k : ℕ) × (t : Tree A) × (child (grow a c f) k ≡ Some t) × (1 + height t ≡ levels (grow a c f))
    by_size (inl less) beside = let (k, t, is, high) = beside (omega arith) in (suc k, t, is, omega arith)
    by_size (inr more) beside = (0, node a c, refl, omega arith)

-- some node lies as deep as the tree is high
pub deepest : {A : Type 0} (n : ℕ) (t : Tree A) → height t ≡ n → (p : List ℕ) × (u : Tree A) × (subtree p t ≡ Some u) × (length p ≡ n)
deepest zero t high = ([], t, refl, refl)
deepest (suc n) (node a c) high =
    let (k, t, is, below) = child_deepest c (omega arith) in
    let (p, u, at, long) = deepest n t (omega arith) in
    (k ∷ p, u, ap (λ o. under o (subtree p)) is ∙ at, ap suc long)

-- nodes, levels and trees are counted the same under other labels
module _ {A B : Type 0} (h : A → B) where
  pub nodes_map : (f : Forest A) → nodes (map h f) ≡ nodes f
  nodes_map none = refl
  nodes_map (grow a c f) = omega (arith, nodes_map c, nodes_map f)

  pub levels_map : (f : Forest A) → levels (map h f) ≡ levels f
  levels_map none = refl
  levels_map (grow a c f) = omega (arith, levels_map c, levels_map f)

  pub count_map : (f : Forest A) → count (map h f) ≡ count f
  count_map none = refl
  count_map (grow a c f) = omega (arith, count_map f)
