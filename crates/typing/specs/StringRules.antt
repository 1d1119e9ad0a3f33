-- The rule over strings is the rule over typings, and gives lawful strings. Assumes nothing.
use Rattle.std.specs.Prelude.{◌≡◌, ℕ, ◌≤◌, true, List, [], ◌∷◌, map, length}
use Rattle.syntax.specs.Arguments.{fits}
use Rattle.syntax.specs.Rules.{WellFormed}
use Rattle.syntax.specs.Kinds.{arity}
use Rattle.syntax.specs.Trees.{Forest}
use Rattle.syntax.specs.declared.argument.Symbol.{Symbol}
use Rattle.typing.specs.Judgements.{GoodTypings}
use Rattle.typing.specs.Parsing.{is_lawful}
use Rattle.typing.specs.Strings.{Typing, Bytes, LawfulString, typing_bytes}
use Rattle.typing.specs.Typings.{node_typing, typings, rule, strings}

abbrev pub AllLawful : ℕ → List (List ℕ) → Type 0
AllLawful labels [] = Unit {0}
AllLawful labels (s ∷ ss) = LawfulString labels s × AllLawful labels ss

-- The rule reads the typings that its child strings spell, and spells that of the node.
abbrev pub RuleOfStrings : Type 0
RuleOfStrings =
    (labels : ℕ) (s : Symbol) (Ts : List Typing) → GoodTypings labels Ts → rule labels s.kind s.argument (map typing_bytes Ts) ≡ typing_bytes (node_typing labels s.kind s.argument Ts)

-- Of lawful strings, as many as the kind has children, the rule gives a lawful string.
abbrev pub RuleIsLawful : Type 0
RuleIsLawful =
    (labels : ℕ) (s : Symbol) (ss : List (List ℕ)) → 4 ≤ labels → fits s ≡ true → length ss ≡ arity s.kind → AllLawful labels ss → LawfulString labels (rule labels s.kind s.argument ss)

-- the strings that trees alone give spell the typings that they alone give
abbrev pub StringsSpellTypings : Type 0
StringsSpellTypings =
    (labels : ℕ) (f : Forest Symbol) → 4 ≤ labels → WellFormed f → strings labels f ≡ map typing_bytes (typings labels f)

-- the test of lawfulness says of all bytes whether they are a lawful string
abbrev pub TestOfLawfulness : Type 0
TestOfLawfulness =
    (labels : ℕ) (bs : List ℕ) → Bytes bs → (is_lawful labels bs ≡ true → LawfulString labels bs) × (LawfulString labels bs → is_lawful labels bs ≡ true)
