-- Well-formed forests and their bytes. Assumes nothing.
use Rattle.std.proofs.Common.{◌≡◌, ℕ, zero, suc, ◌+◌, ◌<◌, ◌≤◌, List, ◌++◌, length, sym, refl, ap, ◌∙◌, append_assoc, arith, length-append}
use Rattle.layout.specs.Files.{forest_bytes}
use Rattle.syntax.specs.Rules.{WellFormed}
use Rattle.syntax.specs.Kinds.{arity, code_of}
use Rattle.layout.specs.SymbolBytes.{argument_bytes, symbol_bytes}
use Rattle.layout.specs.Groups.{group}
use Rattle.syntax.specs.Trees.{Forest, none, grow, join, count, nodes}
use Rattle.syntax.specs.declared.argument.Symbol.{Symbol}
use Rattle.layout.proofs.Groups.{groups_some}
use Rattle.layout.proofs.Prefixes.{symbol_prefix}

-- the bytes of a node, of its children and of the trees beside it, before a rest
pub spells_grow : (s : Symbol) (c f : Forest Symbol) (x : List ℕ) → forest_bytes (grow s c f) ++ x ≡ symbol_bytes s ++ (forest_bytes c ++ (forest_bytes f ++ x))
spells_grow s c f x =
    append_assoc (symbol_bytes s) (forest_bytes c ++ forest_bytes f) x ∙ ap (λ z. symbol_bytes s ++ z) (append_assoc (forest_bytes c) (forest_bytes f) x)

-- two forests of as many trees that begin the same bytes are equal, and leave the same rest
pub forest_prefix : (f g : Forest Symbol) (x y : List ℕ) → WellFormed f → WellFormed g → count f ≡ count g → forest_bytes f ++ x ≡ forest_bytes g ++ y → (f ≡ g) × (x ≡ y)
forest_prefix none none x y wf wg e is = (refl, is)
forest_prefix none (grow t d g) x y wf wg e is = absurd (omega arith)
forest_prefix (grow s c f) none x y wf wg e is = absurd (omega arith)
forest_prefix (grow s c f) (grow t d g) x y wf wg e is =
    let (fs, ns, wc, wfs) = wf in
    let (ft, nt, wd, wgs) = wg in
    let head = symbol_prefix s t _ _ fs ft (sym (spells_grow s c f x) ∙ is ∙ spells_grow t d g y) in
    let below = forest_prefix c d _ _ wc wd (ns ∙ ap (λ z. arity z.kind) head.0 ∙ sym nt) head.1 in
    let beside = forest_prefix f g x y wfs wgs (omega arith) below.1 in
    (λ i. grow (head.0 i) (below.0 i) (beside.0 i), beside.1)

-- each node takes at least one byte
pub symbol_some : (s : Symbol) → 0 < length (symbol_bytes s)
symbol_some s = omega (arith, length-append (group (code_of s.kind)) (argument_bytes s.argument), groups_some 2 (code_of s.kind))

pub nodes_within : (f : Forest Symbol) → nodes f ≤ length (forest_bytes f)
nodes_within none = omega arith
nodes_within (grow s c f) =
    omega (arith, length-append (symbol_bytes s) (forest_bytes c ++ forest_bytes f), length-append (forest_bytes c) (forest_bytes f), symbol_some s, nodes_within c, nodes_within f)

pub count_within : {A : Type 0} (f : Forest A) → count f ≤ nodes f
count_within none = omega arith
count_within (grow s c f) = omega (arith, count_within f)

-- forests one after the other
module _ (g : Forest Symbol) where
  pub join_bytes : (f : Forest Symbol) → forest_bytes (join f g) ≡ forest_bytes f ++ forest_bytes g
  join_bytes none = refl
  join_bytes (grow s c f) =
      ap (λ z. symbol_bytes s ++ (forest_bytes c ++ z)) (join_bytes f) ∙ sym (spells_grow s c f (forest_bytes g))

  pub join_well : (f : Forest Symbol) → WellFormed f → WellFormed g → WellFormed (join f g)
  join_well none wf wg = wg
  join_well (grow s c f) wf wg = (wf.0, wf.1, wf.2, join_well f wf.3 wg)

  pub join_count : (f : Forest Symbol) → count (join f g) ≡ count f + count g
  join_count none = omega arith
  join_count (grow s c f) = omega (arith, join_count f)

  pub join_nodes : (f : Forest Symbol) → nodes (join f g) ≡ nodes f + nodes g
  join_nodes none = omega arith
  join_nodes (grow s c f) = omega (arith, join_nodes f)

-- the first n trees of a forest that has more, and the others
pub split : (n : ℕ) (h : Forest Symbol) → n ≤ count h → (f : Forest Symbol) × (g : Forest Symbol) × (h ≡ join f g) × (count f ≡ n)
split zero h within = (none, h, refl, refl)
split (suc n) none within = absurd (omega arith)
split (suc n) (grow s c h) within =
    let (f, g, is, long) = split n h (omega arith) in
    (grow s c f, g, ap (grow s c) is, omega arith)

pub split_well : (f g : Forest Symbol) → WellFormed (join f g) → WellFormed f × WellFormed g
split_well none g w = (tt, w)
split_well (grow s c f) g w = let r = split_well f g w.3 in ((w.0, w.1, w.2, r.0), r.1)
