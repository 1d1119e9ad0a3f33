-- Types and places as first-order terms: heads over their parts, and variables. A ground type is a
-- term without variables in which every head has the parts that are its own. Assumes nothing.
use Rattle.std.specs.Prelude.{◌≡◌, ℕ, List, [], ◌∷◌, ◌++◌}
use Rattle.typing.specs.Heads.{Sort, type, result_of, parts_of}
use Rattle.typing.specs.declared.head.Head.{Head}
use Rattle.typing.specs.declared.head.Head.TheVariants.{Num, Fun, Rec, Absent, Present}

infixl 70 ◌·◌
-- A head is applied to its parts one by one: `head Fun · a · b` is the type of functions from a to b.
pub data Term : Type 0 where
  var : ℕ → Term
  head : Head → Term
  ◌·◌ : Term → Term → Term

-- a term applied to more parts
abbrev pub applied : Term → List Term → Term
applied t [] = t
applied t (x ∷ xs) = applied (t · x) xs

abbrev pub num : Term
num = head Num

abbrev pub fun : Term → Term → Term
fun a b = head Fun · a · b

-- a record of these places, in label order
abbrev pub rec : List Term → Term
rec places = applied (head Rec) places

abbrev pub absent : Term
absent = head Absent

abbrev pub present : Term → Term
present a = head Present · a

-- The term, applied to parts of the sorts `needs`, makes a term of the sort s, where a variable may
-- stand for what V says.
abbrev pub Sorted : (ℕ → Sort → Type 0) → ℕ → List Sort → Sort → Term → Type 0
Sorted V labels needs s (var k) = (needs ≡ []) × V k s
Sorted V labels needs s (head h) = (parts_of labels h ≡ needs) × (result_of h ≡ s)
Sorted V labels needs s (f · x) = (a : Sort) × Sorted V labels (a ∷ needs) s f × Sorted V labels [] a x

-- a ground type, where there are so many labels
abbrev pub GroundType : ℕ → Term → Type 0
GroundType labels t = Sorted (λ k s. ⊥) labels [] type t

-- the term with its variables filled, alike at each appearance
abbrev pub fill : (ℕ → Term) → Term → Term
fill ρ (var k) = ρ k
fill ρ (head h) = head h
fill ρ (f · x) = fill ρ f · fill ρ x

-- the variables in the order in which they appear in prefix order
abbrev pub variables : Term → List ℕ
variables (var k) = k ∷ []
variables (head h) = []
variables (f · x) = variables f ++ variables x
