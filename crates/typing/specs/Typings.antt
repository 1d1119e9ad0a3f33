-- The typing of a node from those of its children, and of a tree. Computes. Assumes nothing.
use Rattle.std.specs.Prelude.{ℕ, ◌+◌, min, cond, List, [], ◌∷◌, map, length, Some, None, Option, nat_le}
use Rattle.syntax.specs.Trees.{Forest, none, grow}
use Rattle.syntax.specs.declared.argument.Argument.{Argument}
use Rattle.syntax.specs.declared.argument.Symbol.{Symbol}
use Rattle.syntax.specs.declared.kind.Kind.{Kind}
use Rattle.syntax.specs.declared.kind.Kind.TheVariants.{Hole, Num, Var, Nil, Lam, Fix, Sel, App, Add, Ext, Ifz}
use Rattle.typing.specs.Constraints.{joined, constraints}
use Rattle.typing.specs.Forms.{Form, hole_form}
use Rattle.typing.specs.Parsing.{read_typing}
use Rattle.typing.specs.Solve.{solve}
use Rattle.typing.specs.Strings.{Status, formed, clashed, overlong, Typing, form_bytes, typing_bytes, longest, most}

-- A faulty child is read as a hole.
abbrev pub form_of : Status → Form
form_of (formed F) = F
form_of clashed = hole_form
form_of overlong = hole_form

abbrev pub status_of : Option Form → Status
status_of None = clashed
status_of (Some F) = cond (nat_le (length (form_bytes F)) longest) (formed F) overlong

abbrev pub is_clash : Status → ℕ
is_clash (formed F) = 0
is_clash clashed = 1
is_clash overlong = 0

abbrev pub is_overlong : Status → ℕ
is_overlong (formed F) = 0
is_overlong clashed = 0
is_overlong overlong = 1

abbrev pub is_hole : Kind → ℕ
is_hole Hole = 1
is_hole Num = 0
is_hole Var = 0
is_hole Nil = 0
is_hole Lam = 0
is_hole Fix = 0
is_hole Sel = 0
is_hole App = 0
is_hole Add = 0
is_hole Ext = 0
is_hole Ifz = 0

abbrev pub total : (Typing → ℕ) → List Typing → ℕ
total count [] = 0
total count (T ∷ Ts) = count T + total count Ts

abbrev pub node_status : ℕ → Kind → Argument → List Typing → Status
node_status labels k a Ts = status_of (solve (constraints labels k a (joined 0 (map (λ T. form_of T.status) Ts))))

abbrev pub counted : Kind → Status → List Typing → Typing
counted k s Ts =
    record { clashes = min most (is_clash s + total (λ T. T.clashes) Ts); overlongs = min most (is_overlong s + total (λ T. T.overlongs) Ts); holes = min most (is_hole k + total (λ T. T.holes) Ts); status = s }

-- the typing of a node, where there are so many labels
abbrev pub node_typing : ℕ → Kind → Argument → List Typing → Typing
node_typing labels k a Ts = counted k (node_status labels k a Ts) Ts

-- the typings that the trees alone give
abbrev pub typings : ℕ → Forest Symbol → List Typing
typings labels none = []
typings labels (grow s c f) = node_typing labels s.kind s.argument (typings labels c) ∷ typings labels f

-- The rule over strings. A child string that is not lawful is not asked about, and counts as a hole.
abbrev pub typing_or : Option Typing → Typing
typing_or None = record { clashes = 0; overlongs = 0; holes = 0; status = formed hole_form }
typing_or (Some T) = T

abbrev pub rule : ℕ → Kind → Argument → List (List ℕ) → List ℕ
rule labels k a strings = typing_bytes (node_typing labels k a (map (λ s. typing_or (read_typing labels s)) strings))

-- the strings that the trees alone give
abbrev pub strings : ℕ → Forest Symbol → List (List ℕ)
strings labels none = []
strings labels (grow s c f) = rule labels s.kind s.argument (strings labels c) ∷ strings labels f
