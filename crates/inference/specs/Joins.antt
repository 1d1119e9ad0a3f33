-- What it is to join the forms of children that their strings spell. Assumes nothing.
use Rattle.std.specs.Prelude.{◌≡◌, ℕ, ◌+◌, List, [], ◌∷◌, ◌++◌, map, length, Some, Ok, Err, Result, MatchResult}
use Rattle.std.specs.Borrow.{Bor}
use Rattle.syntax.specs.declared.fault.Fault.{Fault}
use Rattle.syntax.specs.declared.name.Name as name
use Rattle.forms.specs.declared.outline.FormOutline.{FormOutline}
use Rattle.forms.specs.declared.outline.Outline.{Outline}
use Rattle.forms.specs.declared.outline.Untyped.{Untyped}
use Rattle.typing.specs.Constraints.{joined}
use Rattle.typing.specs.Forms.{Name, Form}
use Rattle.typing.specs.Heads.{type}
use Rattle.typing.specs.Parsing.{read_typing}
use Rattle.typing.specs.Strings.{Typing, entries_bytes, term_bytes}
use Rattle.typing.specs.Terms.{Term}
use Rattle.typing.specs.Typings.{form_of}
use Rattle.inference.specs.Drafts.{State, add_entries, add_form, add_forms, unknowns, Roomy, DoesIf}
use Rattle.inference.specs.Posed.{spare}
use Rattle.inference.specs.declared.base.Base.{Base}
use Rattle.inference.specs.Layouts.{Legible}

-- a name off the front of some bytes
abbrev pub ReadsName : List ℕ → Result (name.Name × Bor (List ℕ)) Fault → Type 0
ReadsName bytes r =
    (n rest : List ℕ) → length n ≡ 4 → bytes ≡ n ++ rest → MatchResult r (λ p. (p.0.0 ≡ n) × (p.1.now ≡ rest)) (λ fault. ⊥)

-- names of four bytes, and types that can be read
abbrev pub EntriesLegible : List (Name × Term) → Type 0
EntriesLegible [] = Unit {0}
EntriesLegible (e ∷ es) = (length e.0 ≡ 4) × Legible [] type e.1 × EntriesLegible es

abbrev pub AddsEntries : ℕ → ℕ → List ℕ → State → State → Result (Bor (List ℕ)) Fault → Type 0
AddsEntries base count bytes S S' r =
    (es : List (Name × Term)) (rest : List ℕ) → length es ≡ count → EntriesLegible es → bytes ≡ entries_bytes es ++ rest → Roomy (add_entries base es S) → MatchResult r (λ behind. (S' ≡ add_entries base es S) × (behind.now ≡ rest)) (λ fault. ⊥)

abbrev pub AddsForm : ℕ → ℕ → List ℕ → State → State → Result ℕ Fault → Type 0
AddsForm base count bytes S S' r =
    (F : Form) → length F.entries ≡ count → EntriesLegible F.entries → Legible [] type F.result → bytes ≡ entries_bytes F.entries ++ term_bytes F.result → DoesIf (add_form base F S) S' r

abbrev pub AddsChild : ℕ → List ℕ → State → State → Result ℕ Fault → Type 0
AddsChild base text S S' r = (T : Typing) → read_typing 4 text ≡ Some T → DoesIf (add_form base (form_of T.status) S) S' r

-- how many variables a child's form has, where a faulty child's is a hole's
abbrev pub width_by : Result FormOutline Untyped → ℕ
width_by (Ok form) = form.variables
width_by (Err why) = 1

abbrev pub width_in : Outline → ℕ
width_in o = width_by o.form

-- the strings spell these typings
abbrev pub AllRead : List (List ℕ) → List Typing → Type 0
AllRead [] [] = Unit {0}
AllRead [] (T ∷ Ts) = ⊥
AllRead (s ∷ ss) [] = ⊥
AllRead (s ∷ ss) (T ∷ Ts) = (read_typing 4 s ≡ Some T) × AllRead ss Ts

abbrev pub forms_of : List Typing → List Form
forms_of Ts = map (λ T. form_of T.status) Ts

-- a list begins with another
abbrev pub Begins : List ℕ → List ℕ → Type 0
Begins [] xs = Unit {0}
Begins (c ∷ cs) [] = ⊥
Begins (c ∷ cs) (x ∷ xs) = (x ≡ c) × Begins cs xs

-- children over the cells from `base` on, if there is room
abbrev pub all_at : ℕ → List Form → State × List ℕ
all_at base Fs = add_forms base Fs (unknowns ((joined base Fs).unknowns + spare))

abbrev pub AddsAll : ℕ → List (List ℕ) → State → List ℕ → Result Base Fault → Type 0
AddsAll base ss S' types r =
    (Ts : List Typing) → AllRead ss Ts → Roomy (all_at base (forms_of Ts)).0 → MatchResult r (λ w. (w.cell ≡ (joined base (forms_of Ts)).unknowns) × (S' ≡ (all_at base (forms_of Ts)).0) × Begins (all_at base (forms_of Ts)).1 types) (λ fault. ⊥)
