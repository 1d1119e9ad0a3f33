-- The steps of a scan: trees that stand one after the other in a file. Assumes nothing.
use Rattle.std.proofs.Common.{◌≡◌, ℕ, ◌+◌, ◌-◌, ◌<◌, ◌≤◌, max, true, List, [], ◌++◌, length, sym, refl, ap, ◌∙◌, subst, append_assoc, append-nil, arith, length-append}
use Rattle.std.proofs.lemmas.List.{nil_from_length}
use Rattle.syntax.specs.Arguments.{fits}
use Rattle.layout.specs.Files.{forest_bytes}
use Rattle.syntax.specs.Rules.{WellFormed}
use Rattle.syntax.specs.Kinds.{arity}
use Rattle.layout.specs.Scans.{Begins, FileOf, HeightIsDepth, Measures, NoTrees, OneRule}
use Rattle.layout.specs.SymbolBytes.{symbol_bytes}
use Rattle.syntax.specs.Trees.{Forest, none, grow, Tree, node, alone, join, count, nodes, levels, size, height}
use Rattle.syntax.specs.declared.argument.Symbol.{Symbol}
use Rattle.layout.specs.declared.scan.Measured.{Measured}
use Rattle.syntax.proofs.Trees.{subtree_within, deepest}
use Rattle.layout.proofs.Forests.{spells_grow, forest_prefix, nodes_within, count_within, join_bytes, join_well, join_count, join_nodes, split, split_well, symbol_some}
use Rattle.layout.proofs.Prefixes.{symbol_prefix}
use Rattle.layout.proofs.SymbolBytes.{NoSymbol}

-- the first of some trees at the front of the bytes
pub record First (bytes : List ℕ) (k : ℕ) (f : Forest Symbol) (end : List ℕ) : Type 0 where
  pub s : Symbol
  pub c : Forest Symbol
  pub g : Forest Symbol
  pub whole : f ≡ grow s c g
  pub fit : fits s ≡ true
  pub below : Begins (forest_bytes c ++ (forest_bytes g ++ end)) (arity s.kind) c (forest_bytes g ++ end)
  pub beside : Begins (forest_bytes g ++ end) (k - 1) g end
  pub front : bytes ≡ symbol_bytes s ++ (forest_bytes c ++ (forest_bytes g ++ end))

pub first : (bytes : List ℕ) (k : ℕ) (f : Forest Symbol) (end : List ℕ) → 0 < k → Begins bytes k f end → First bytes k f end
first bytes k none end some b = absurd (omega (arith, b.many))
first bytes k (grow s c g) end some b =
    let (fit, many, wc, wg) = b.well in
    record {
      s = s;
      c = c;
      g = g;
      whole = refl;
      fit = fit;
      below = record { well = wc; many = many; spelled = refl };
      beside = record { well = wg; many = omega (arith, b.many); spelled = refl };
      front = b.spelled ∙ spells_grow s c g end;
    }

pub no_first : (bytes : List ℕ) (k : ℕ) → 0 < k → NoSymbol bytes → NoTrees bytes k
no_first bytes k some absent f end b = let h = first bytes k f end some b in absent h.s _ h.fit h.front

module _ (bytes rest : List ℕ) (s : Symbol) (fit : fits s ≡ true) (front : bytes ≡ symbol_bytes s ++ rest) (k : ℕ) (some : 0 < k) where
  -- the first node is the one that was read
  pub known : (f : Forest Symbol) (end : List ℕ) (b : Begins bytes k f end) → let h = first bytes k f end some b in (s ≡ h.s) × (rest ≡ forest_bytes h.c ++ (forest_bytes h.g ++ end))
  known f end b = let h = first bytes k f end some b in symbol_prefix s h.s rest _ fit h.fit (sym front ∙ h.front)

  pub no_below : NoTrees rest (arity s.kind) → NoTrees bytes k
  no_below absent f end b =
      let h = first bytes k f end some b in
      let (same, behind) = known f end b in
      absent h.c _ (record { well = h.below.well; many = h.below.many ∙ ap (λ z. arity z.kind) (sym same); spelled = behind })

  module _ (c : Forest Symbol) (after : List ℕ) (below : Begins rest (arity s.kind) c after) where
    pub no_beside : NoTrees after (k - 1) → NoTrees bytes k
    no_beside absent f end b =
        let h = first bytes k f end some b in
        let (same, behind) = known f end b in
        let many = below.many ∙ ap (λ z. arity z.kind) same ∙ sym h.below.many in
        let past = forest_prefix c h.c after _ below.well h.below.well many (sym below.spelled ∙ behind) in
        absent h.g end (record { well = h.beside.well; many = h.beside.many; spelled = past.1 })

    pub begins_grow : (g : Forest Symbol) (end : List ℕ) → Begins after (k - 1) g end → Begins bytes k (grow s c g) end
    begins_grow g end b =
        record {
          well = (fit, below.many, below.well, b.well);
          many = omega (arith, b.many);
          spelled = front ∙ ap (λ z. symbol_bytes s ++ z) (below.spelled ∙ ap (λ z. forest_bytes c ++ z) b.spelled) ∙ sym (spells_grow s c g end);
        }

-- Where `seen` nodes of k trees have been passed, `owed` trees are still to come in what is left.
pub record Owed (bytes : List ℕ) (k : ℕ) (rest : List ℕ) (owed seen : ℕ) : Type 0 where
  pub completes : (g : Forest Symbol) (end : List ℕ) → Begins rest owed g end → (f : Forest Symbol) × Begins bytes k f end × (nodes f ≡ seen + nodes g)
  pub leaves : (f : Forest Symbol) (end : List ℕ) → Begins bytes k f end → (g : Forest Symbol) × Begins rest owed g end
  pub within : seen + length rest ≤ length bytes

module _ (bytes : List ℕ) (k : ℕ) (rest : List ℕ) (owed seen : ℕ) (o : Owed bytes k rest owed seen) where
  -- each tree takes at least a byte
  pub owed_short : length rest < owed → NoTrees bytes k
  owed_short less f end b =
      let (g, h) = o.leaves f end b in
      omega (arith, h.many, count_within g, nodes_within g, ap length h.spelled ∙ length-append (forest_bytes g) end)

  pub owed_missing : 0 < owed → NoSymbol rest → NoTrees bytes k
  owed_missing some absent f end b =
      let (g, h) = o.leaves f end b in
      no_first rest owed some absent g end h

  pub owed_done : owed ≤ 0 → (f : Forest Symbol) × Begins bytes k f rest × (nodes f ≡ seen)
  owed_done over =
      let (f, b, many) = o.completes none rest (record { well = tt; many = omega arith; spelled = refl }) in
      (f, b, omega (arith, many))

  module _ (some : 0 < owed) (s : Symbol) (after : List ℕ) (fit : fits s ≡ true) (front : rest ≡ symbol_bytes s ++ after) where
    completes' : (g : Forest Symbol) (end : List ℕ) → Begins after (owed - 1 + arity s.kind) g end → (f : Forest Symbol) × Begins bytes k f end × (nodes f ≡ seen + 1 + nodes g)
    completes' g end b =
        let (c, d, is, long) = split (arity s.kind) g (omega (arith, b.many)) in
        let (wc, wd) = split_well c d (subst WellFormed is b.well) in
        let apart = ap forest_bytes is ∙ join_bytes d c in
        let below : Begins after (arity s.kind) c (forest_bytes d ++ end) = record { well = wc; many = long; spelled = b.spelled ∙ ap (λ z. z ++ end) apart ∙ append_assoc (forest_bytes c) (forest_bytes d) end } in
        let beside : Begins (forest_bytes d ++ end) (owed - 1) d end = record { well = wd; many = omega (arith, b.many, ap count is ∙ join_count d c, long); spelled = refl } in
        let (f, whole, many) = o.completes (grow s c d) end (begins_grow rest after s fit front owed some c _ below d end beside) in
        (f, whole, omega (arith, many, ap nodes is ∙ join_nodes d c))

    leaves' : (f : Forest Symbol) (end : List ℕ) → Begins bytes k f end → (g : Forest Symbol) × Begins after (owed - 1 + arity s.kind) g end
    leaves' f end b =
        let (g, h) = o.leaves f end b in
        let p = first rest owed g end some h in
        let (same, behind) = known rest after s fit front owed some g end h in
        let many = p.below.many ∙ ap (λ z. arity z.kind) (sym same) in (
          join p.c p.g,
          record {
            well = join_well p.g p.c p.below.well p.beside.well;
            many = omega (arith, join_count p.g p.c, many, p.beside.many);
            spelled = behind ∙ sym (append_assoc (forest_bytes p.c) (forest_bytes p.g) end) ∙ ap (λ z. z ++ end) (sym (join_bytes p.g p.c));
          },
        )

    pub owed_more : Owed bytes k after (owed - 1 + arity s.kind) (seen + 1)
    owed_more = record { completes = completes'; leaves = leaves'; within = omega (arith, o.within, ap length front ∙ length-append (symbol_bytes s) after, symbol_some s) }

-- some trees have some level
pub levels_some : {A : Type 0} (f : Forest A) → 0 < count f → 0 < levels f
levels_some none some = absurd (omega arith)
levels_some (grow a c f) some = omega arith

-- all nodes of trees at the front of the bytes lie in the bytes
pub nodes_fit : (bytes : List ℕ) (k : ℕ) (f : Forest Symbol) (end : List ℕ) → Begins bytes k f end → nodes f ≤ length bytes
nodes_fit bytes k f end b = omega (arith, nodes_within f, ap length b.spelled ∙ length-append (forest_bytes f) end)

pub one_rule : OneRule
one_rule (node s c) (node t d) rt ru same =
    let e = (forest_prefix (grow s c none) (grow t d none) [] [] rt ru refl (ap (λ z. z ++ []) same)).0 in
    cc

file_begins : (bytes : List ℕ) (t : Tree Symbol) → FileOf bytes t → Begins bytes 1 (alone t) []
file_begins bytes (node s c) file = record { well = file.rule; many = refl; spelled = file.spelled ∙ sym (append-nil _) }

pub no_file : (bytes : List ℕ) → NoTrees bytes 1 → (t : Tree Symbol) → FileOf bytes t → ⊥
no_file bytes absent t file = absent (alone t) [] (file_begins bytes t file)

pub no_end : (bytes : List ℕ) (f : Forest Symbol) (rest : List ℕ) → Begins bytes 1 f rest → (length rest ≡ 0 → ⊥) → (t : Tree Symbol) → FileOf bytes t → ⊥
no_end bytes f rest b some t file =
    let h = file_begins bytes t file in
    let e = forest_prefix f (alone t) rest [] b.well h.well (b.many ∙ sym h.many) (sym b.spelled ∙ h.spelled) in
    some (ap length e.1)

-- the one tree of a file
pub record Whole (bytes : List ℕ) (f : Forest Symbol) : Type 0 where
  pub tree : Tree Symbol
  pub file : FileOf bytes tree
  pub sized : nodes f ≡ size tree
  pub high : levels f ≡ height tree + 1

pub whole : (bytes : List ℕ) (f : Forest Symbol) (rest : List ℕ) → Begins bytes 1 f rest → length rest ≡ 0 → Whole bytes f
whole bytes none rest b empty = absurd (omega (arith, b.many))
whole bytes (grow s c none) rest b empty =
    record {
      tree = node s c;
      file = record { rule = b.well; spelled = b.spelled ∙ ap (λ z. forest_bytes (grow s c none) ++ z) (nil_from_length rest empty) ∙ append-nil _ };
      sized = refl;
      high = omega arith;
    }
whole bytes (grow s c (grow t d f)) rest b empty = absurd (omega (arith, b.many))

pub measures_at : {bytes : List ℕ} {n k limit : ℕ} {m : Measured} → n ≡ k → Measures bytes n limit m → Measures bytes k limit m
measures_at {bytes} {n} {k} {limit} {m} same h = subst (λ j. Measures bytes j limit m) same h

-- what was measured of a node's children and of the trees beside it gives the whole
module _ (bytes rest : List ℕ) (s : Symbol) (fit : fits s ≡ true) (front : bytes ≡ symbol_bytes s ++ rest) (k limit : ℕ) (some : 0 < k) (deep : 0 < limit) (below beside : Measured) (b : Measures rest (arity s.kind) (limit - 1) below) (d : Measures below.rest.now (k - 1) limit beside) where
  grown : Begins bytes k (grow s b.forest d.forest) beside.rest.now
  grown = begins_grow bytes rest s fit front k some b.forest below.rest.now b.begins d.forest beside.rest.now d.begins

  pub grown_fits : 1 + below.nodes + beside.nodes ≤ length bytes
  grown_fits = omega (arith, nodes_fit bytes k _ _ grown, b.nodes_are, d.nodes_are)

  pub measures_grow : (m : Measured) → beside.rest.now ≡ m.rest.now → m.nodes ≡ 1 + below.nodes + beside.nodes → m.levels ≡ max (1 + below.levels) beside.levels → Measures bytes k limit m
  measures_grow m same many high =
      record {
        forest = grow s b.forest d.forest;
        begins = subst (Begins bytes k (grow s b.forest d.forest)) same grown;
        nodes_are = omega (arith, many, b.nodes_are, d.nodes_are);
        levels_are = omega (arith, high, b.levels_are, d.levels_are);
      }

pub height_depth : HeightIsDepth
height_depth t = (λ path u is. omega (arith, (subtree_within path t u is).0), deepest (height t) t refl)
