-- The text of a type, where there are four labels. Computes. Assumes nothing.
use Rattle.std.specs.Prelude.{◌≡◌, ℕ, ◌≤◌, cond, List, [], ◌∷◌, ◌++◌, map, length, drop, Some, None, Ok, Err, codes, decimal, Option, Result, nat_lt}
use Rattle.syntax.specs.Labels.{label_word}
use Rattle.syntax.specs.declared.fault.Fault.{Fault}
use Rattle.syntax.specs.declared.fault.Fault.TheVariants.{ShortBuffer, Unlawful}
use Rattle.syntax.specs.declared.label.Label.{Label}
use Rattle.syntax.specs.declared.label.Label.TheVariants.{Row, Col, Ink, Lit}
use Rattle.typing.specs.Forms.{Form}
use Rattle.typing.specs.Strings.{Good, Typing, Status, formed, clashed, overlong}
use Rattle.typing.specs.Terms.{Term, var, head, ◌·◌, num, fun, rec, absent, present}
use Rattle.typing.specs.declared.head.Head.TheVariants.{Num, Fun, Rec, Absent, Present}

-- a part of a term, and its text
abbrev pub Part : Type 0
Part = Term × List ℕ

-- A field of a record and what follows it. A place that is a variable shows its number, a present one its
-- type, and an absent one nothing; what is shown has the gap before it, and then a comma comes next.
abbrev pub field_text : Label → List ℕ → Term → List ℕ → (List ℕ → List ℕ) → List ℕ
field_text l gap (var k) text more = gap ++ (label_word l ++ (codes "?" ++ (text ++ more (codes ","))))
field_text l gap (head h) text more = more gap
field_text l gap (f · x) text more = gap ++ (label_word l ++ (codes ":" ++ (text ++ more (codes ","))))

abbrev pub fields_text : List Label → List Part → List ℕ → List ℕ
fields_text [] ps gap = []
fields_text (l ∷ ls) [] gap = []
fields_text (l ∷ ls) (p ∷ ps) gap = field_text l gap p.0 p.1 (fields_text ls ps)

abbrev pub labels : List Label
labels = Row ∷ Col ∷ Ink ∷ Lit ∷ []

-- the text of the part at the front
abbrev pub first_text : List Part → List ℕ
first_text [] = []
first_text (p ∷ ps) = p.1

abbrev pub behind_first : List Part → List Part
behind_first [] = []
behind_first (p ∷ ps) = ps

-- the text of what stands first in a term, over the parts that it is applied to
abbrev pub over : Term → List Part → List ℕ
over (var k) ps = codes "v" ++ decimal k
over (head Num) ps = codes "num"
over (head Fun) ps = codes "(" ++ (first_text ps ++ (codes "->" ++ (first_text (behind_first ps) ++ codes ")")))
over (head Rec) ps = codes "{" ++ (fields_text labels ps [] ++ codes "}")
over (head Absent) ps = []
over (head Present) ps = first_text ps
over (f · x) ps = []

abbrev pub front : Term → Term
front (var k) = var k
front (head h) = head h
front (f · x) = front f

-- the parts, in their order
abbrev pub parts : Term → List Part
parts (var k) = []
parts (head h) = []
parts (f · x) = parts f ++ (x, over (front x) (parts x)) ∷ []

abbrev pub type_text : Term → List ℕ
type_text t = over (front t) (parts t)

-- the text of a typing's type
abbrev pub status_text : Status → Result (List ℕ) Fault
status_text (formed F) = Ok (type_text F.result)
status_text clashed = Err Unlawful
status_text overlong = Err Unlawful

abbrev pub typing_text : Option Typing → Result (List ℕ) Fault
typing_text None = Err Unlawful
typing_text (Some T) = status_text T.status

-- the same for a buffer of so many bytes
abbrev pub answer_text : ℕ → Option Typing → Result (List ℕ) Fault
answer_text room o = cond (nat_lt room 4000) (Err ShortBuffer) (typing_text o)

-- the text at the front of a buffer that is otherwise as it was, or a refusal that leaves it as it was
abbrev pub WritesText : Result (List ℕ) Fault → List ℕ → List ℕ → Result ℕ Fault → Type 0
WritesText (Ok text) before after r = (r ≡ Ok (length text)) × (after ≡ text ++ drop (length text) before)
WritesText (Err fault) before after r = (r ≡ Err fault) × (after ≡ before)

-- The text of a lawful string's type fits a buffer that is not refused.
abbrev pub TypeTextFits : Type 0
TypeTextFits = (F : Form) → Good 4 F → length (type_text F.result) ≤ 4000

-- some types with their texts
abbrev pub worked : List (Term × List ℕ)
worked =
    (num, codes "num") ∷
    (var 12, codes "v12") ∷
    (fun (var 0) (fun num (var 0)), codes "(v0->(num->v0))") ∷
    (rec (absent ∷ absent ∷ absent ∷ absent ∷ []), codes "{}") ∷
    (rec (present num ∷ var 3 ∷ absent ∷ absent ∷ []), codes "{row:num,col?v3}") ∷
    (rec (absent ∷ var 1 ∷ absent ∷ present (fun num num) ∷ []), codes "{col?v1,lit:(num->num)}") ∷
    []

abbrev pub WorkedTexts : Type 0
WorkedTexts = map (λ row. type_text row.0) worked ≡ map (λ row. row.1) worked
