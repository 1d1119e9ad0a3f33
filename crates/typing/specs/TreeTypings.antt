-- What the typing of a tree means, in the words of the typing relation. Assumes nothing.
use Rattle.std.specs.Prelude.{◌≡◌, ℕ, ◌+◌, ◌≤◌, min, []}
use Rattle.syntax.specs.Rules.{Rule as WellFormedTree}
use Rattle.syntax.specs.Trees.{Forest, none, grow, Tree, node, alone}
use Rattle.syntax.specs.declared.argument.Argument.TheVariants as argument
use Rattle.syntax.specs.declared.argument.Symbol.{Symbol}
use Rattle.syntax.specs.declared.kind.Kind.TheVariants.{Hole}
use Rattle.typing.specs.Forms.{Form, nothing}
use Rattle.typing.specs.Judgements.{Judges}
use Rattle.typing.specs.Rules.{Has, with}
use Rattle.typing.specs.Strings.{Status, formed, clashed, overlong, Typing, most}
use Rattle.typing.specs.Terms.{Term, GroundType, fill}
use Rattle.typing.specs.Typings.{is_clash, is_overlong, is_hole, node_typing, node_status, typings}

-- A tree whose top is faulty becomes a hole; any other is kept.
abbrev pub kept_or : Status → Symbol → Forest Symbol → Forest Symbol → Forest Symbol
kept_or (formed F) s c f = grow s c f
kept_or clashed s c f = grow (with Hole argument.Nothing) none f
kept_or overlong s c f = grow (with Hole argument.Nothing) none f

-- the trees in which every faulty part is a hole
abbrev pub mended : ℕ → Forest Symbol → Forest Symbol
mended labels none = none
mended labels (grow s c f) =
    kept_or (node_status labels s.kind s.argument (typings labels c)) s (mended labels c) (mended labels f)

-- the tree in which every faulty part below the top is a hole
abbrev pub mended_below : ℕ → Tree Symbol → Tree Symbol
mended_below labels (node s c) = node s (mended labels c)

-- what a tree alone gives
abbrev pub tree_typing : ℕ → Tree Symbol → Typing
tree_typing labels (node s c) = node_typing labels s.kind s.argument (typings labels c)

-- Most general: what a tree alone gives stands for just the pairs that the typing relation gives the tree
-- in which every faulty part below the top is a hole.
abbrev pub MostGeneral : Type 0
MostGeneral =
    (labels : ℕ) (t : Tree Symbol) → 4 ≤ labels → WellFormedTree t → Judges labels (λ Γ A. Has labels Γ (mended_below labels t) A) (tree_typing labels t).status

-- how many nodes are clashes, are overlong, and are holes
abbrev pub clashes_in : ℕ → Forest Symbol → ℕ
clashes_in labels none = 0
clashes_in labels (grow s c f) = is_clash (node_status labels s.kind s.argument (typings labels c)) + clashes_in labels c + clashes_in labels f

abbrev pub overlongs_in : ℕ → Forest Symbol → ℕ
overlongs_in labels none = 0
overlongs_in labels (grow s c f) = is_overlong (node_status labels s.kind s.argument (typings labels c)) + overlongs_in labels c + overlongs_in labels f

abbrev pub holes_in : Forest Symbol → ℕ
holes_in none = 0
holes_in (grow s c f) = is_hole s.kind + holes_in c + holes_in f

-- The counts are the numbers of such nodes of the tree, held at the most that is counted.
pub record Counts (labels : ℕ) (t : Tree Symbol) (T : Typing) : Type 0 where
  pub clashes : T.clashes ≡ min most (clashes_in labels (alone t))
  pub overlongs : T.overlongs ≡ min most (overlongs_in labels (alone t))
  pub holes : T.holes ≡ min most (holes_in (alone t))

abbrev pub Counted : Type 0
Counted = (labels : ℕ) (t : Tree Symbol) → Counts labels t (tree_typing labels t)

-- the status is a form that lists no name, and nothing is counted
pub record Clean (T : Typing) (F : Form) : Type 0 where
  pub clashes : T.clashes ≡ 0
  pub overlongs : T.overlongs ≡ 0
  pub holes : T.holes ≡ 0
  pub status : T.status ≡ formed F
  pub closed : F.entries ≡ []

-- no hole is left, no node is overlong, and the relation types the tree in the empty context
pub record WellTyped (labels : ℕ) (t : Tree Symbol) : Type 0 where
  pub holes : holes_in (alone t) ≡ 0
  pub overlongs : overlongs_in labels (alone t) ≡ 0
  pub of : Term
  pub typed : Has labels nothing t of

-- the ground instances of a type
pub record Instance (labels : ℕ) (t A : Term) : Type 0 where
  pub ground : GroundType labels A
  pub values : ℕ → Term
  pub is : A ≡ fill values t

-- Closed and clean: the figures are all zero exactly if the tree is well typed, and then the types that it
-- has in the empty context are the ground instances of the form's type.
pub record Closed (labels : ℕ) (t : Tree Symbol) : Type 0 where
  pub clean : WellTyped labels t → (F : Form) × Clean (tree_typing labels t) F
  pub typed : (F : Form) → Clean (tree_typing labels t) F → WellTyped labels t
  pub onto : (F : Form) → Clean (tree_typing labels t) F → (A : Term) → Has labels nothing t A → Instance labels F.result A
  pub back : (F : Form) → Clean (tree_typing labels t) F → (A : Term) → Instance labels F.result A → Has labels nothing t A

abbrev pub ClosedAndClean : Type 0
ClosedAndClean = (labels : ℕ) (t : Tree Symbol) → 4 ≤ labels → WellFormedTree t → Closed labels t
