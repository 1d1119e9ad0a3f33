-- How long the text of a type is: at most sixteen bytes for each byte of the type. Assumes nothing.
use Rattle.std.proofs.Common.{◌≡◌, ℕ, ◌+◌, ◌*◌, ◌<◌, ◌≤◌, List, [], ◌∷◌, ◌++◌, length, codes, refl, arith, length-append}
use Rattle.std.proofs.lemmas.Fmt.{length-decimal-le}
use Rattle.layout.specs.Groups.{bound, group}
use Rattle.syntax.specs.Labels.{label_word}
use Rattle.syntax.specs.declared.label.Label.{Label}
use Rattle.syntax.specs.declared.label.Label.TheVariants.{Row, Col, Ink, Lit}
use Rattle.typing.specs.Forms.{Form, entry_variables, form_variables}
use Rattle.typing.specs.Heads.{Sort, type, token_of}
use Rattle.typing.specs.Strings.{Good, entries_bytes, term_bytes}
use Rattle.typing.specs.Terms.{Term, var, head, ◌·◌, variables, Sorted}
use Rattle.typing.specs.declared.head.Head.TheVariants.{Num, Fun, Rec, Absent, Present}
use Rattle.typing.proofs.StringReading.{entry_variables_long, numbered_small, variables_long}
use Rattle.typing.proofs.TermReading.{Small, group_long, small_parts}
use Rattle.type_text.specs.Prints.{Spelt}
use Rattle.type_text.specs.TypeTexts.{Part, field_text, fields_text, first_text, behind_first, labels, over, front, parts, type_text, TypeTextFits}

word_long : (l : Label) → length (label_word l) ≡ 3
word_long Row = refl
word_long Col = refl
word_long Ink = refl
word_long Lit = refl

-- what parts may add: their texts, and for each what a field has around it
load : List Part → ℕ
load [] = 0
load (p ∷ ps) = length p.1 + 5 + load ps

load_push : (ps : List Part) (p : Part) → load (ps ++ p ∷ []) ≡ load ps + (length p.1 + 5)
unfolding load
load_push [] p = omega arith
load_push (q ∷ ps) p = omega (arith, load_push ps p)

two_long : (ps : List Part) → length (first_text ps) + length (first_text (behind_first ps)) ≤ load ps
unfolding load
two_long [] = omega arith
two_long (p ∷ []) = omega arith
two_long (p ∷ q ∷ ps) = omega arith

one_long : (ps : List Part) → length (first_text ps) ≤ load ps
unfolding load
one_long [] = omega arith
one_long (p ∷ ps) = omega arith

field_long : (l : Label) (gap : List ℕ) (t : Term) (text : List ℕ) (more : List ℕ → List ℕ) (n : ℕ) → length gap ≤ 1 → ((g : List ℕ) → length g ≤ 1 → length (more g) ≤ n) → length (field_text l gap t text more) ≤ length text + 5 + n
field_long l gap (var k) text more n short later =
    omega (arith, short, later (codes ",") (omega arith), word_long l, length-append gap (label_word l ++ (codes "?" ++ (text ++ more (codes ",")))), length-append (label_word l) (codes "?" ++ (text ++ more (codes ","))), length-append text (more (codes ",")))
field_long l gap (head h) text more n short later = omega (arith, later gap short)
field_long l gap (f · x) text more n short later =
    omega (arith, short, later (codes ",") (omega arith), word_long l, length-append gap (label_word l ++ (codes ":" ++ (text ++ more (codes ",")))), length-append (label_word l) (codes ":" ++ (text ++ more (codes ","))), length-append text (more (codes ",")))

fields_long : (ls : List Label) (ps : List Part) (gap : List ℕ) → length gap ≤ 1 → length (fields_text ls ps gap) ≤ load ps
unfolding load
fields_long [] ps gap short = omega arith
fields_long (l ∷ ls) [] gap short = omega arith
fields_long (l ∷ ls) (p ∷ ps) gap short = field_long l gap p.0 p.1 (fields_text ls ps) (load ps) short (fields_long ls ps)

over_long : (N : List Sort) (s : Sort) (t : Term) (ps : List Part) → Sorted (λ k _. 5 + k < bound 2) 4 N s t → length (over (front t) ps) ≤ 8 + load ps
over_long N s (var k) ps so = omega (arith, length-decimal-le 7 k (omega arith) (omega (arith, so.1)) (omega (arith, so.1)))
over_long N s (head Num) ps so = omega arith
over_long N s (head Fun) ps so = omega (arith, two_long ps, length-append (first_text ps) (codes "->" ++ (first_text (behind_first ps) ++ codes ")")), length-append (first_text (behind_first ps)) (codes ")"))
over_long N s (head Rec) ps so = omega (arith, fields_long labels ps [] (omega arith), length-append (fields_text labels ps []) (codes "}"))
over_long N s (head Absent) ps so = omega arith
over_long N s (head Present) ps so = omega (arith, one_long ps)
over_long N s (f · x) ps so = over_long (so.0 ∷ N) s f ps so.1

parts_long : (N : List Sort) (s : Sort) (t : Term) → Sorted (λ k _. 5 + k < bound 2) 4 N s t → load (parts t) + 16 ≤ 16 * length (term_bytes t)
unfolding load
parts_long N s (var k) so = omega (arith, group_long (5 + k))
parts_long N s (head h) so = omega (arith, group_long (token_of h))
parts_long N s (f · x) so =
    let before = parts_long (so.0 ∷ N) s f so.1 in
    let text = over_long [] so.0 x (parts x) so.2 in
    omega (arith, before, text, parts_long [] so.0 x so.2, load_push (parts f) (x, over (front x) (parts x)), length-append (term_bytes f) (term_bytes x))

pub text_long : (s : Sort) (t : Term) → Spelt s t → length (type_text t) ≤ 16 * length (term_bytes t)
text_long s t so = omega (arith, over_long [] s t (parts t) so, parts_long [] s t so)

-- variables that are numbered from 0 have tokens
spelt_from : (V : ℕ → Sort → Type 0) (N : List Sort) (s : Sort) (t : Term) → Sorted V 4 N s t → Small (variables t) → Sorted (λ k _. 5 + k < bound 2) 4 N s t
spelt_from V N s (var k) so small = (so.0, small.0)
spelt_from V N s (head h) so small = so
spelt_from V N s (f · x) so small =
    let p = small_parts (variables f) (variables x) small in
    (so.0, spelt_from V (so.0 ∷ N) s f so.1 p.0, spelt_from V [] so.0 x so.2 p.1)

form_long : (F : Form) → Good 4 F → length (entries_bytes F.entries) + length (term_bytes F.result) ≤ 240
form_long F good = omega (arith, good.short, length-append (group (length F.entries)) (entries_bytes F.entries ++ term_bytes F.result), length-append (entries_bytes F.entries) (term_bytes F.result))

pub result_long : (F : Form) → Good 4 F → length (term_bytes F.result) ≤ 240
result_long F good = omega (arith, form_long F good)

pub result_spelt : (F : Form) → Good 4 F → Spelt type F.result
result_spelt F good =
    let small : Small (form_variables F) = numbered_small 0 (form_variables F) (omega (arith, form_long F good, length-append (entry_variables F.entries) (variables F.result), entry_variables_long F.entries, variables_long F.result)) good.sound.numbered in
    spelt_from (λ k s. good.sound.sorts k ≡ s) [] type F.result good.sound.result (small_parts (entry_variables F.entries) (variables F.result) small).1

pub type_text_fits : TypeTextFits
type_text_fits F good = omega (arith, text_long type F.result (result_spelt F good), result_long F good)
