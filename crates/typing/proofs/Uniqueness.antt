-- A problem has at most one form whose variables are numbered by first appearance. Assumes nothing.
use Rattle.std.proofs.Common.{◌≡◌, ℕ, ◌+◌, ◌<◌, ◌≤◌, max, ◌⊎◌, List, [], ◌∷◌, map, Some, None, sym, refl, ap, ◌∙◌, subst, ap₂, inl, inr, arith}
use Rattle.std.proofs.lemmas.Bool.{cases_lt}
use Rattle.typing.specs.Forms.{Name, Form, entry_variables, form_variables}
use Rattle.typing.specs.Solve.{Problem, renamed_entries, filled}
use Rattle.typing.specs.Solved.{Answers, AtMostOneForm}
use Rattle.typing.specs.Strings.{Numbered}
use Rattle.typing.specs.Terms.{Term, var, head, ◌·◌, fill, variables}
use Rattle.typing.proofs.Numbering.{form_variables_renamed}
use Rattle.typing.proofs.Renaming.{Each, each_map, filled_alike, filled_twice, form_is}
use Rattle.typing.proofs.Sorting.{each_join}

-- a variable's number
abbrev number : Term → ℕ
number (var k) = k
number (head h) = 0
number (f · x) = 0

-- filling each variable with itself
fill_self : (t : Term) → fill var t ≡ t
fill_self (var k) = refl
fill_self (head h) = refl
fill_self (f · x) = ap₂ ◌·◌ (fill_self f) (fill_self x)

entries_self : (es : List (Name × Term)) → renamed_entries var es ≡ es
entries_self [] = refl
entries_self (e ∷ es) = ap₂ (λ (t : Term) (fs : List (Name × Term)). (e.0, t) ∷ fs) (fill_self e.1) (entries_self es)

filled_self : (F : Form) → filled var F ≡ F
filled_self F = form_is _ _ _ _ (entries_self F.entries) (fill_self F.result)

-- Fillings that give the same agree on the variables.
fill_apart : (ρ τ : ℕ → Term) (t : Term) → fill ρ t ≡ fill τ t → Each (λ k. ρ k ≡ τ k) (variables t)
fill_apart ρ τ (var k) is = (is, tt)
fill_apart ρ τ (head h) is = tt
fill_apart ρ τ (f · x) is =
    each_join (λ k. ρ k ≡ τ k) (variables f) (variables x) (fill_apart ρ τ f (let e : fill ρ f ≡ fill τ f = cc in e)) (fill_apart ρ τ x (let e : fill ρ x ≡ fill τ x = cc in e))

first_term : List (Name × Term) → Term
first_term [] = var 0
first_term (e ∷ es) = e.1

entries_apart : (ρ τ : ℕ → Term) (es : List (Name × Term)) → renamed_entries ρ es ≡ renamed_entries τ es → Each (λ k. ρ k ≡ τ k) (entry_variables es)
unfolding first_term
entries_apart ρ τ [] is = tt
entries_apart ρ τ (e ∷ es) is =
    each_join (λ k. ρ k ≡ τ k) (variables e.1) (entry_variables es) (fill_apart ρ τ e.1 (ap first_term is)) (entries_apart ρ τ es (let p : renamed_entries ρ es ≡ renamed_entries τ es = cc in p))

filled_apart : (ρ τ : ℕ → Term) (F : Form) → filled ρ F ≡ filled τ F → Each (λ k. ρ k ≡ τ k) (form_variables F)
filled_apart ρ τ F is =
    each_join (λ k. ρ k ≡ τ k) (entry_variables F.entries) (variables F.result) (entries_apart ρ τ F.entries (ap (λ (G : Form). G.entries) is)) (fill_apart ρ τ F.result (ap (λ (G : Form). G.result) is))

-- what is filled to a variable is one
filled_variable : (τ : ℕ → Term) (t : Term) (k : ℕ) → fill τ t ≡ var k → (t ≡ var (number t)) × (number (τ (number t)) ≡ k)
filled_variable τ (var j) k is = (refl, ap number is)
filled_variable τ (head h) k is = absurd (let z : ◌≡◌ {A = ℕ} 0 1 = cc in omega (arith, z))
filled_variable τ (f · x) k is = absurd (let z : ◌≡◌ {A = ℕ} 0 1 = cc in omega (arith, z))

-- A renaming with an inverse, of variables numbered by first appearance to such, is the identity: at a
-- variable that first appears, the renamed one first appears too.
abbrev Fixed : (ℕ → ℕ) → (ℕ → ℕ) → ℕ → Type 0
Fixed f h n = (j : ℕ) → j < n → (f j ≡ j) × (h j ≡ j)

fixed_next : (f h : ℕ → ℕ) (n k : ℕ) → Fixed f h n → k ≤ n → f k ≤ n → h (f k) ≡ k → (f k ≡ k) × (max n (f k + 1) ≡ max n (k + 1)) × Fixed f h (max n (k + 1))
fixed_next f h n k low le le' inverse = by_place (cases_lt k n) (cases_lt (f k) n)
  where
    fixed_on : f k ≡ k → Fixed f h (max n (k + 1))
    fixed_on here j lt = at (cases_lt j n)
      where
        at : (j < n) ⊎ (n ≤ j) → (f j ≡ j) × (h j ≡ j)
        at (inl less) = low j less
        at (inr more) = let is : k ≡ j = omega (arith, lt, more, le) in subst (λ i. (f i ≡ i) × (h i ≡ i)) is (here, sym (ap h here) ∙ inverse)

    by_place : (k < n) ⊎ (n ≤ k) → (f k < n) ⊎ (n ≤ f k) → (f k ≡ k) × (max n (f k + 1) ≡ max n (k + 1)) × Fixed f h (max n (k + 1))
    by_place (inl lt) other = let here = (low k lt).0 in (here, ap (λ i. max n (i + 1)) here, fixed_on here)
    by_place (inr ge) (inl lt) = absurd (omega (arith, (low (f k) lt).1, inverse, lt, ge))
    by_place (inr ge) (inr ge') = let here : f k ≡ k = omega (arith, le, le', ge, ge') in (here, ap (λ i. max n (i + 1)) here, fixed_on here)

renaming_stays : (f h : ℕ → ℕ) (n : ℕ) → Fixed f h n → (ks : List ℕ) → Numbered n ks → Numbered n (map f ks) → Each (λ k. h (f k) ≡ k) ks → Each (λ k. f k ≡ k) ks
renaming_stays f h n low [] a b inverse = tt
renaming_stays f h n low (k ∷ ks) a b inverse =
    let next = fixed_next f h n k low a.0 b.0 inverse.0 in
    (next.0, renaming_stays f h (max n (k + 1)) next.2 ks a.1 (subst (λ m. Numbered m (map f ks)) next.1 b.1) inverse.1)

-- Forms that are instances of each other, both numbered by first appearance, are equal.
pub instances_equal : (F G : Form) (τ τ' : ℕ → Term) → filled τ G ≡ F → filled τ' F ≡ G → Numbered 0 (form_variables F) → Numbered 0 (form_variables G) → F ≡ G
instances_equal F G τ τ' back onto numbered numbered' =
    let f : ℕ → ℕ = λ k. number (τ' k) in
    let h : ℕ → ℕ = λ k. number (τ k) in
    let round : filled (λ k. fill τ (τ' k)) F ≡ filled var F = sym (filled_twice τ τ' F) ∙ ap (filled τ) onto ∙ back ∙ sym (filled_self F) in
    let apart : Each (λ k. fill τ (τ' k) ≡ var k) (form_variables F) = filled_apart (λ k. fill τ (τ' k)) var F round in
    let renames : filled (λ k. var (f k)) F ≡ G = sym (filled_alike τ' (λ k. var (f k)) F (each_map (λ k. fill τ (τ' k) ≡ var k) (λ k. τ' k ≡ var (f k)) (λ k is. (filled_variable τ (τ' k) k is).0) (form_variables F) apart)) ∙ onto in
    let inverse : Each (λ k. h (f k) ≡ k) (form_variables F) = each_map (λ k. fill τ (τ' k) ≡ var k) (λ k. h (f k) ≡ k) (λ k is. (filled_variable τ (τ' k) k is).1) (form_variables F) apart in
    let renumbered : Numbered 0 (map f (form_variables F)) = subst (Numbered 0) (sym (ap form_variables renames) ∙ form_variables_renamed f F) numbered' in
    let stays = renaming_stays f h 0 (λ j lt. absurd (omega (arith, lt))) (form_variables F) numbered renumbered inverse in
    sym (filled_self F) ∙ filled_alike var (λ k. var (f k)) F (each_map (λ k. f k ≡ k) (λ k. var k ≡ var (f k)) (λ k is. ap var (sym is)) (form_variables F) stays) ∙ renames

-- an answer's form is an instance of any other answer's
instance_of : (P : Problem) (F G : Form) → Answers P (Some F) → Answers P (Some G) → (τ : ℕ → Term) × (filled τ G ≡ F)
instance_of P F G a b =
    let i = a.1 var in
    let t = b.0 i.0 i.1 in
    (t.0, t.1 ∙ sym i.2 ∙ filled_self F)

pub at_most_one_form : AtMostOneForm
at_most_one_form P None None a b m n = refl
at_most_one_form P None (Some G) a b m n = let i = b.1 var in absurd (a i.0 i.1)
at_most_one_form P (Some F) None a b m n = let i = a.1 var in absurd (b i.0 i.1)
at_most_one_form P (Some F) (Some G) a b m n =
    let t = instance_of P F G a b in
    let t' = instance_of P G F b a in
    ap Some (instances_equal F G t.0 t'.0 t.1 t'.1 m n)
