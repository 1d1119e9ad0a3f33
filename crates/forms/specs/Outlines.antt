-- The outline of a typing string: what its reader tells of it. Assumes nothing.
use Rattle.std.specs.Prelude.{◌≡◌, ℕ, ◌+◌, ◌-◌, ◌<◌, cond, List, [], ◌∷◌, ◌++◌, map, length, drop, Some, None, Ok, Err, Option, Result, MatchResult, ◌==◌, ◌⊎◌}
use Rattle.std.specs.Borrow.{Bor}
use Rattle.layout.specs.Groups.{group}
use Rattle.syntax.specs.declared.fault.Fault.{Fault}
use Rattle.syntax.specs.declared.fault.Fault.TheVariants.{Unlawful}
use Rattle.typing.specs.Constraints.{width}
use Rattle.typing.specs.Forms.{Form}
use Rattle.typing.specs.Parsing.{read_count, read_typing}
use Rattle.typing.specs.Strings.{Bytes, Typing, formed, clashed, overlong, entries_bytes, term_bytes}
use Rattle.typing.specs.Strings as strings
use Rattle.forms.specs.declared.outline.FormOutline.{FormOutline}
use Rattle.forms.specs.declared.outline.Outline.{Outline}
use Rattle.forms.specs.declared.outline.Untyped.{Untyped}
use Rattle.forms.specs.declared.outline.Untyped.TheVariants.{Clashed, Overlong}

-- where in its string the entries of a form begin, and where its type begins
abbrev pub entries_offset : Typing → Form → ℕ
entries_offset T F = 1 + length (group T.clashes) + length (group T.overlongs) + length (group T.holes) + length (group (length F.entries))

abbrev pub type_offset : Typing → Form → ℕ
type_offset T F = entries_offset T F + length (entries_bytes F.entries)

-- the outline of the form, or why there is none
abbrev pub form_of : Typing → strings.Status → Result FormOutline Untyped
form_of T (formed F) = Ok (record { open_names = length F.entries; variables = width F; entries_at = entries_offset T F; type_at = type_offset T F })
form_of T clashed = Err Clashed
form_of T overlong = Err Overlong

abbrev pub outline_of : Typing → Outline
outline_of T = record { tally = record { clashes = T.clashes; overlongs = T.overlongs; holes = T.holes }; form = form_of T T.status }

-- a string that is no typing string is refused
abbrev pub outlined : Option Typing → Result Outline Fault
outlined None = Err Unlawful
outlined (Some T) = Ok (outline_of T)

-- the figures of the form; without one there are no names and no variables, and what would stand behind
-- the counts begins where a string of this length ends
abbrev pub figure : (FormOutline → ℕ) → ℕ → Result FormOutline Untyped → ℕ
figure of none (Ok form) = of form
figure of none (Err why) = none

abbrev pub names_in : Outline → ℕ
names_in o = figure (λ form. form.open_names) 0 o.form

abbrev pub variables_in : Outline → ℕ
variables_in o = figure (λ form. form.variables) 0 o.form

abbrev pub places_in : ℕ → Outline → ℕ × ℕ
places_in len o = (figure (λ form. form.entries_at) len o.form, figure (λ form. form.type_at) len o.form)

-- the outline of a form that ends a string of so many bytes
abbrev pub ending : ℕ → Form → FormOutline
ending end F =
    record {
      open_names = length F.entries;
      variables = width F;
      entries_at = end - (length (entries_bytes F.entries) + length (term_bytes F.result));
      type_at = end - length (term_bytes F.result);
    }

abbrev pub whole : ℕ → Option Form → Result FormOutline Fault
whole end None = Err Unlawful
whole end (Some F) = Ok (ending end F)

-- the same of what stands behind the counts
abbrev pub shape_of : ℕ → strings.Status → Result FormOutline Untyped
shape_of end (formed F) = Ok (ending end F)
shape_of end clashed = Err Clashed
shape_of end overlong = Err Overlong

abbrev pub shaped : ℕ → Option strings.Status → Result (Result FormOutline Untyped) Fault
shaped end None = Err Unlawful
shaped end (Some s) = Ok (shape_of end s)

-- a status that no byte may stand behind
abbrev pub bare : Untyped → ℕ → Result (Result FormOutline Untyped) Fault
bare why n = cond (n == 0) (Ok (Err why)) (Err Unlawful)

-- a count and the bytes behind it
abbrev pub Tallied : List ℕ → Result (ℕ × Bor (List ℕ)) Fault → Type 0
Tallied bs r = MatchResult r (λ p. (read_count bs ≡ Some (p.0, p.1.now)) × (length p.1.now < length bs)) (λ fault. (fault ≡ Unlawful) × (read_count bs ≡ None))

-- A lawful string with a form has its entries and its type where the outline says.
abbrev pub FormStands : Type 0
FormStands =
    (text : List ℕ) (T : Typing) (F : Form) → Bytes text → read_typing 4 text ≡ Some T → T.status ≡ formed F → (drop (entries_offset T F) text ≡ entries_bytes F.entries ++ term_bytes F.result) × (drop (type_offset T F) text ≡ term_bytes F.result)

-- A lawful string without a form ends behind its counts.
abbrev pub BareEnds : Type 0
BareEnds =
    (text : List ℕ) (T : Typing) → Bytes text → read_typing 4 text ≡ Some T → (T.status ≡ clashed) ⊎ (T.status ≡ overlong) → length text ≡ 1 + length (group T.clashes) + length (group T.overlongs) + length (group T.holes)

-- some strings with their outlines: a hole, a clash, two names that are listed, and a variable that is read
-- as a place and then as a type
abbrev pub worked : List (List ℕ × Result Outline Fault)
worked = (
  0 ∷ 0 ∷ 0 ∷ 1 ∷ 0 ∷ 5 ∷ [],
  Ok (record { tally = record { clashes = 0; overlongs = 0; holes = 1 }; form = Ok (record { open_names = 0; variables = 1; entries_at = 5; type_at = 5 }) }),
) ∷ (
  1 ∷ 1 ∷ 0 ∷ 0 ∷ [],
  Ok (record { tally = record { clashes = 1; overlongs = 0; holes = 0 }; form = Err Clashed }),
) ∷ (
  0 ∷ 0 ∷ 0 ∷ 0 ∷ 2 ∷ 120 ∷ 0 ∷ 0 ∷ 0 ∷ 1 ∷ 5 ∷ 6 ∷ 121 ∷ 0 ∷ 0 ∷ 0 ∷ 5 ∷ 6 ∷ [],
  Ok (record { tally = record { clashes = 0; overlongs = 0; holes = 0 }; form = Ok (record { open_names = 2; variables = 2; entries_at = 5; type_at = 17 }) }),
) ∷
    (0 ∷ 0 ∷ 0 ∷ 0 ∷ 0 ∷ 2 ∷ 5 ∷ 3 ∷ 3 ∷ 4 ∷ 5 ∷ [], Err Unlawful) ∷
    []

-- what an outline of a string of this length tells of names, variables and places
abbrev pub told : ℕ → Result Outline Fault → List ℕ
told len (Err fault) = []
told len (Ok o) = names_in o ∷ variables_in o ∷ (places_in len o).0 ∷ (places_in len o).1 ∷ []

-- the same of the strings above: where there is no form, none and none and the string's end
abbrev pub worked_figures : List (List ℕ)
worked_figures = (0 ∷ 1 ∷ 5 ∷ 5 ∷ []) ∷ (0 ∷ 0 ∷ 4 ∷ 4 ∷ []) ∷ (2 ∷ 2 ∷ 5 ∷ 17 ∷ []) ∷ [] ∷ []

abbrev pub WorkedOutlines : Type 0
WorkedOutlines =
    (map (λ row. outlined (read_typing 4 row.0)) worked ≡ map (λ row. row.1) worked) × (map (λ row. told (length row.0) row.1) worked ≡ worked_figures)
