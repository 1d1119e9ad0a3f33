-- What the string of a child tells: its form can be read, and has few variables. Assumes nothing.
use Rattle.std.proofs.Common.{◌≡◌, ℕ, suc, ◌+◌, ◌<◌, ◌≤◌, max, true, List, [], ◌∷◌, ◌++◌, length, get_or, drop, IfOk, Some, None, Ok, Err, Option, Result, sym, refl, ap, ◌∙◌, subst, arith, length-append}
use Rattle.std.proofs.lemmas.Bool.{and_from, lt-ltb}
use Rattle.layout.specs.Groups.{group}
use Rattle.syntax.specs.declared.fault.Fault.{Fault}
use Rattle.forms.specs.Outlines.{entries_offset, outlined, outline_of}
use Rattle.forms.specs.Outlines as outlines
use Rattle.forms.specs.declared.outline.FormOutline.{FormOutline}
use Rattle.forms.specs.declared.outline.Outline.{Outline}
use Rattle.forms.proofs.Outlining.{form_stands, string_long}
use Rattle.typing.specs.Constraints.{above, width}
use Rattle.typing.specs.Forms.{Name, Form, entry_variables, form_variables}
use Rattle.typing.specs.Heads.{Sort, type}
use Rattle.typing.specs.Parsing.{read_typing}
use Rattle.typing.specs.Strings.{Bytes, Status, formed, clashed, overlong, Typing, Good, GoodStatus, Numbered, Rising, Types, entries_bytes, term_bytes}
use Rattle.typing.specs.Terms.{Term, var, head, ◌·◌, Sorted, variables}
use Rattle.typing.specs.Typings.{form_of}
use Rattle.typing.proofs.StringReading.{name_long, numbered_small, variables_long, entry_variables_long}
use Rattle.typing.proofs.StringsRead.{typing_read}
use Rattle.typing.proofs.TermReading.{Small, small_parts}
use Rattle.inference.specs.Drafts.{State, DoesIf, add_form}
use Rattle.inference.specs.Joins.{EntriesLegible, AddsForm, AddsChild, width_by, width_in}
use Rattle.inference.specs.Layouts.{Legible}
use Rattle.inference.specs.Nodes.{all_bytes}

legible_small : (V : ℕ → Sort → Type 0) (t : Term) (N : List Sort) (s : Sort) → Sorted V 4 N s t → Small (variables t) → Legible N s t
legible_small V (var k) N s so small = (so.0, small.0)
legible_small V (head h) N s so small = so
legible_small V (f · x) N s so small =
    let p = small_parts (variables f) (variables x) small in
    (so.0, legible_small V f (so.0 ∷ N) s so.1 p.0, legible_small V x [] so.0 so.2 p.1)

entries_legible : (V : ℕ → Sort → Type 0) (es : List (Name × Term)) → Rising es → Types V 4 es → Small (entry_variables es) → EntriesLegible es
entries_legible V [] rising so small = tt
entries_legible V (e ∷ es) rising so small =
    let p = small_parts (variables e.1) (entry_variables es) small in
    (name_long e.0 rising.0, legible_small V e.1 [] type so.0 p.0, entries_legible V es rising.2 so.1 p.1)

-- the bytes of a good form
pub form_short : (F : Form) → Good 4 F → length (group (length F.entries)) + length (entries_bytes F.entries) + length (term_bytes F.result) ≤ 240
form_short F good =
    omega (arith, good.short, length-append (group (length F.entries)) (entries_bytes F.entries ++ term_bytes F.result), length-append (entries_bytes F.entries) (term_bytes F.result))

few_variables : (F : Form) → Good 4 F → length (form_variables F) ≤ 240
few_variables F good =
    omega (arith, form_short F good, length-append (entry_variables F.entries) (variables F.result), entry_variables_long F.entries, variables_long F.result)

pub good_legible : (F : Form) → Good 4 F → EntriesLegible F.entries × Legible [] type F.result
good_legible F good =
    let small = numbered_small 0 (form_variables F) (omega (arith, few_variables F good)) good.sound.numbered in
    let p = small_parts (entry_variables F.entries) (variables F.result) small in
    (entries_legible _ F.entries good.sound.rising good.sound.types p.0, legible_small _ F.result [] type good.sound.result p.1)

-- numbers from 0 without a gap are fewer than there are appearances
pub above_numbered : (n : ℕ) (ks : List ℕ) → Numbered n ks → above ks ≤ n + length ks
above_numbered n [] num = omega arith
above_numbered n (k ∷ ks) num = omega (arith, num.0, above_numbered (max n (k + 1)) ks num.1)

width_few : (F : Form) → Good 4 F → width F ≤ 240
width_few F good = omega (arith, above_numbered 0 (form_variables F) good.sound.numbered, few_variables F good)

pub child_width : (s : Status) → GoodStatus 4 s → width (form_of s) ≤ 240
child_width (formed F) good = width_few F good
child_width clashed good = omega arith
child_width overlong good = omega arith

-- the typing that was outlined
pub outlined_from : (o : Option Typing) (x : Outline) → outlined o ≡ Ok x → (T : Typing) × (o ≡ Some T) × (outline_of T ≡ x)
outlined_from None x is = absurd (let z : ◌≡◌ {A = ℕ} 0 1 = cc in omega (arith, z))
outlined_from (Some T) x is = (T, refl, cc)

width_by_lem : (T : Typing) (s : Status) → width_by (outlines.form_of T s) ≡ width (form_of s)
width_by_lem T (formed F) = refl
width_by_lem T clashed = refl
width_by_lem T overlong = refl

pub width_in_lem : (T : Typing) → width_in (outline_of T) ≡ width (form_of T.status)
width_in_lem T = width_by_lem T T.status

module _ (text : List ℕ) (x : Outline) (bytes : Bytes text) (is : outlined (read_typing 4 text) ≡ Ok x) where
  outline_of_lem : (T : Typing) → read_typing 4 text ≡ Some T → outline_of T ≡ x
  outline_of_lem T read = let e : Ok (outline_of T) ≡ Ok x = sym (ap outlined read) ∙ is in cc

  -- what the outline says of a form
  form_outlined : (T : Typing) → read_typing 4 text ≡ Some T → (f : FormOutline) → x.form ≡ Ok f → (F : Form) × (T.status ≡ formed F) × (f.open_names ≡ length F.entries) × (f.entries_at ≡ entries_offset T F)
  form_outlined T read f is_form = by_status T.status refl (ap (λ (y : Outline). y.form) (outline_of_lem T read) ∙ is_form)
    where
      by_status : (s : Status) → T.status ≡ s → outlines.form_of T s ≡ Ok f → (F : Form) × (T.status ≡ formed F) × (f.open_names ≡ length F.entries) × (f.entries_at ≡ entries_offset T F)
      by_status (formed F) status e = (F, status, cc, cc)
      by_status clashed status e = absurd (let z : ◌≡◌ {A = ℕ} 0 1 = cc in omega (arith, z))
      by_status overlong status e = absurd (let z : ◌≡◌ {A = ℕ} 0 1 = cc in omega (arith, z))

  pub at_within : (f : FormOutline) → x.form ≡ Ok f → f.entries_at ≤ length text
  at_within f is_form =
      let T = outlined_from (read_typing 4 text) x is in
      let F = form_outlined T.0 T.1 f is_form in
      omega (arith, F.3, ap length (typing_read 4 text T.0 bytes T.1).1, string_long T.0 F.0 F.1)

  -- a child with a form
  pub child_formed : (base : ℕ) (S S' : State) (r : Result ℕ Fault) (from : List ℕ) (f : FormOutline) → from ≡ drop f.entries_at text → x.form ≡ Ok f → AddsForm base f.open_names from S S' r → AddsChild base text S S' r
  child_formed base S S' r from f from_is is_form adds T read =
      let F = form_outlined T read f is_form in
      let good : Good 4 F.0 = subst (GoodStatus 4) F.1 (typing_read 4 text T bytes read).0.status in
      let legible = good_legible F.0 good in
      let at : from ≡ entries_bytes F.0.entries ++ term_bytes F.0.result = from_is ∙ ap (λ n. drop n text) F.3 ∙ (form_stands text T F.0 bytes read F.1).0 in
      subst (λ s. DoesIf (add_form base (form_of s) S) S' r) (sym F.1) (adds F.0 (sym F.2) legible.0 legible.1 at)

  pub width_small : width_in x ≤ 240
  width_small =
      let f = outlined_from (read_typing 4 text) x is in
      omega (arith, ap width_in f.2, width_in_lem f.0, child_width f.0.status (typing_read 4 text f.0 bytes f.1).0.status)

pub few_variables_read : (text : List ℕ) (r : Result Outline Fault) → Bytes text → r ≡ outlined (read_typing 4 text) → IfOk r (λ o. width_in o ≤ 240)
few_variables_read text (Ok x) bytes is = width_small text x bytes (sym is)
few_variables_read text (Err fault) bytes is = tt

pub all_bytes_lem : (xs : List ℕ) → ((i : ℕ) → get_or xs i 0 < 256) → all_bytes xs ≡ true
all_bytes_lem [] all = refl
all_bytes_lem (x ∷ xs) all = and_from _ _ (lt-ltb x 256 (all 0)) (all_bytes_lem xs (λ i. all (suc i)))
