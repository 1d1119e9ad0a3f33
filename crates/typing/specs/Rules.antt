-- The typing rules: what a node of each kind asks of its children, and the typing relation of trees.
-- Declarative: nothing here says how a typing is found. Assumes nothing.
use Rattle.std.specs.Prelude.{◌≡◌, ℕ, List, replicate, Some, slice_index_or, slice_set}
use Rattle.syntax.specs.Labels.{label_code}
use Rattle.syntax.specs.Trees.{Forest, none, grow, Tree, node}
use Rattle.syntax.specs.declared.argument.Argument.{Argument}
use Rattle.syntax.specs.declared.argument.Argument.TheVariants as argument
use Rattle.syntax.specs.declared.argument.Symbol.{Symbol}
use Rattle.syntax.specs.declared.kind.Kind.{Kind}
use Rattle.syntax.specs.declared.kind.Kind.TheVariants.{Hole, Num, Var, Nil, Lam, Fix, Sel, App, Add, Ext, Ifz}
use Rattle.syntax.specs.declared.label.Label.{Label}
use Rattle.syntax.specs.declared.name.Name.{Name}
use Rattle.typing.specs.Forms.{Context, given}
use Rattle.typing.specs.Terms.{Term, GroundType, num, fun, rec, absent, present}

-- a set of pairs of a context and a type
abbrev pub Pairs : Type 1
Pairs = Context → Term → Type 0

-- The argument is a name, or a label, of which this holds.
abbrev pub Named : Argument → (List ℕ → Type 0) → Type 0
Named argument.Nothing P = ⊥
Named (argument.Number n) P = ⊥
Named (argument.Name n) P = P n.0
Named (argument.Label l) P = ⊥

abbrev pub Labelled : Argument → (ℕ → Type 0) → Type 0
Labelled argument.Nothing P = ⊥
Labelled (argument.Number n) P = ⊥
Labelled (argument.Name n) P = ⊥
Labelled (argument.Label l) P = P (label_code l)

-- A node has the type A in the context Γ, where child k has the pairs C k and there are so many labels.
abbrev pub Rule : ℕ → Kind → Argument → (ℕ → Pairs) → Pairs
Rule labels Hole a C Γ A = GroundType labels A
Rule labels Num a C Γ A = A ≡ num
Rule labels Var a C Γ A = Named a (λ n. Γ n ≡ Some A)
Rule labels Nil a C Γ A = A ≡ rec (replicate labels absent)
Rule labels Lam a C Γ A = Named a (λ n. (P : Term) × (B : Term) × GroundType labels P × C 0 (given n P Γ) B × (A ≡ fun P B))
Rule labels Fix a C Γ A = C 0 Γ (fun A A)
Rule labels Sel a C Γ A = Labelled a (λ l. (places : List Term) × C 0 Γ (rec places) × (slice_index_or places l absent ≡ present A))
Rule labels App a C Γ A = (P : Term) × C 0 Γ (fun P A) × C 1 Γ P
Rule labels Add a C Γ A = C 0 Γ num × C 1 Γ num × (A ≡ num)
Rule labels Ext a C Γ A =
    Labelled a (λ l. (places : List Term) × (P : Term) × C 0 Γ (rec places) × C 1 Γ P × (A ≡ rec (slice_set places l (present P))))
Rule labels Ifz a C Γ A = C 0 Γ num × C 1 Γ A × C 2 Γ A

abbrev pub with : Kind → Argument → Symbol
with k a = record { kind = k; argument = a }

-- the trees over no child, one, two and three
abbrev pub leaf : Symbol → Tree Symbol
leaf s = node s none

abbrev pub beside : Tree Symbol → Forest Symbol → Forest Symbol
beside (node s c) f = grow s c f

abbrev pub over : Symbol → Tree Symbol → Tree Symbol
over s t = node s (beside t none)

abbrev pub over2 : Symbol → Tree Symbol → Tree Symbol → Tree Symbol
over2 s t u = node s (beside t (beside u none))

abbrev pub over3 : Symbol → Tree Symbol → Tree Symbol → Tree Symbol → Tree Symbol
over3 s t u v = node s (beside t (beside u (beside v none)))

-- The inference rules: a tree has a type in a context, where there are so many labels.
pub data Has (labels : ℕ) : Context → Tree Symbol → Term → Type 0 where
  hole : {Γ : Context} {A : Term} → GroundType labels A → Has labels Γ (leaf (with Hole argument.Nothing)) A
  number : {Γ : Context} {n : ℕ} → Has labels Γ (leaf (with Num (argument.Number n))) num
  variable : {Γ : Context} {n : Name} {A : Term} → Γ n.0 ≡ Some A → Has labels Γ (leaf (with Var (argument.Name n))) A
  nil : {Γ : Context} → Has labels Γ (leaf (with Nil argument.Nothing)) (rec (replicate labels absent))
  lam : {Γ : Context} {n : Name} {t : Tree Symbol} {A B : Term} → GroundType labels A → Has labels (given n.0 A Γ) t B → Has labels Γ (over (with Lam (argument.Name n)) t) (fun A B)
  fix : {Γ : Context} {t : Tree Symbol} {A : Term} → Has labels Γ t (fun A A) → Has labels Γ (over (with Fix argument.Nothing) t) A
  sel : {Γ : Context} {l : Label} {t : Tree Symbol} {A : Term} (places : List Term) → Has labels Γ t (rec places) → slice_index_or places (label_code l) absent ≡ present A → Has labels Γ (over (with Sel (argument.Label l)) t) A
  app : {Γ : Context} {t u : Tree Symbol} {A B : Term} → Has labels Γ t (fun A B) → Has labels Γ u A → Has labels Γ (over2 (with App argument.Nothing) t u) B
  add : {Γ : Context} {t u : Tree Symbol} → Has labels Γ t num → Has labels Γ u num → Has labels Γ (over2 (with Add argument.Nothing) t u) num
  ext : {Γ : Context} {l : Label} {t u : Tree Symbol} {A : Term} (places : List Term) → Has labels Γ t (rec places) → Has labels Γ u A → Has labels Γ (over2 (with Ext (argument.Label l)) t u) (rec (slice_set places (label_code l) (present A)))
  ifz : {Γ : Context} {t u v : Tree Symbol} {A : Term} → Has labels Γ t num → Has labels Γ u A → Has labels Γ v A → Has labels Γ (over3 (with Ifz argument.Nothing) t u v) A
