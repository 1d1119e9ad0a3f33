-- Filling twice, filling alike, and numbering variables by first appearance. Assumes nothing.
use Rattle.std.proofs.Common.{◌≡◌, ℕ, suc, ◌<◌, Bool, true, false, cond, ◌||◌, eqb, ◌⊎◌, List, [], ◌∷◌, ◌++◌, get_or, sym, refl, ap, ◌∙◌, ap₂, inl, inr, arith}
use Rattle.std.proofs.lemmas.Bool.{eqb-true, eq-eqb, or_cases, or_left, or_right}
use Rattle.typing.specs.Forms.{Name, Form, entry_variables, form_variables}
use Rattle.typing.specs.Solve.{renamed_entries, filled, member, distinct, position, canonical}
use Rattle.typing.specs.Solved.{Bounded, EntriesBounded}
use Rattle.typing.specs.Terms.{Term, var, head, ◌·◌, fill, variables}

-- this holds of each of them
abbrev pub Each : (ℕ → Type 0) → List ℕ → Type 0
Each P [] = Unit {0}
Each P (k ∷ ks) = P k × Each P ks

pub each_append : (P : ℕ → Type 0) (xs ys : List ℕ) → Each P (xs ++ ys) → Each P xs × Each P ys
each_append P [] ys all = (tt, all)
each_append P (x ∷ xs) ys all = let r = each_append P xs ys all.1 in ((all.0, r.0), r.1)

pub each_map : (P Q : ℕ → Type 0) → ((k : ℕ) → P k → Q k) → (xs : List ℕ) → Each P xs → Each Q xs
each_map P Q f [] all = tt
each_map P Q f (x ∷ xs) all = (f x all.0, each_map P Q f xs all.1)

pub fill_alike : (ρ τ : ℕ → Term) (t : Term) → Each (λ k. ρ k ≡ τ k) (variables t) → fill ρ t ≡ fill τ t
fill_alike ρ τ (var k) all = all.0
fill_alike ρ τ (head h) all = refl
fill_alike ρ τ (f · x) all =
    let r = each_append (λ k. ρ k ≡ τ k) (variables f) (variables x) all in
    ap₂ ◌·◌ (fill_alike ρ τ f r.0) (fill_alike ρ τ x r.1)

pub fill_fill : (ρ τ : ℕ → Term) (t : Term) → fill ρ (fill τ t) ≡ fill (λ k. fill ρ (τ k)) t
fill_fill ρ τ (var k) = refl
fill_fill ρ τ (head h) = refl
fill_fill ρ τ (f · x) = ap₂ ◌·◌ (fill_fill ρ τ f) (fill_fill ρ τ x)

pub fill_bounded : (ρ τ : ℕ → Term) (n : ℕ) → ((k : ℕ) → k < n → ρ k ≡ τ k) → (t : Term) → Bounded n t → fill ρ t ≡ fill τ t
fill_bounded ρ τ n agree (var k) b = agree k b
fill_bounded ρ τ n agree (head h) b = refl
fill_bounded ρ τ n agree (f · x) b = ap₂ ◌·◌ (fill_bounded ρ τ n agree f b.0) (fill_bounded ρ τ n agree x b.1)

-- the same of forms
pub form_is : (es fs : List (Name × Term)) (t u : Term) → es ≡ fs → t ≡ u → ◌≡◌ {A = Form} (record { entries = es; result = t }) (record { entries = fs; result = u })
form_is es fs t u a b = ap₂ made a b
  where
    made : List (Name × Term) → Term → Form
    made x y = record { entries = x; result = y }

pub entries_alike : (ρ τ : ℕ → Term) (es : List (Name × Term)) → Each (λ k. ρ k ≡ τ k) (entry_variables es) → renamed_entries ρ es ≡ renamed_entries τ es
entries_alike ρ τ [] all = refl
entries_alike ρ τ (e ∷ es) all =
    let r = each_append (λ k. ρ k ≡ τ k) (variables e.1) (entry_variables es) all in
    ap₂ (λ (t : Term) (fs : List (Name × Term)). (e.0, t) ∷ fs) (fill_alike ρ τ e.1 r.0) (entries_alike ρ τ es r.1)

entries_twice : (ρ τ : ℕ → Term) (es : List (Name × Term)) → renamed_entries ρ (renamed_entries τ es) ≡ renamed_entries (λ k. fill ρ (τ k)) es
entries_twice ρ τ [] = refl
entries_twice ρ τ (e ∷ es) = ap₂ (λ (t : Term) (fs : List (Name × Term)). (e.0, t) ∷ fs) (fill_fill ρ τ e.1) (entries_twice ρ τ es)

entries_bounded : (ρ τ : ℕ → Term) (n : ℕ) → ((k : ℕ) → k < n → ρ k ≡ τ k) → (es : List (Name × Term)) → EntriesBounded n es → renamed_entries ρ es ≡ renamed_entries τ es
entries_bounded ρ τ n agree [] b = refl
entries_bounded ρ τ n agree (e ∷ es) b = ap₂ (λ (t : Term) (fs : List (Name × Term)). (e.0, t) ∷ fs) (fill_bounded ρ τ n agree e.1 b.0) (entries_bounded ρ τ n agree es b.1)

pub filled_alike : (ρ τ : ℕ → Term) (F : Form) → Each (λ k. ρ k ≡ τ k) (form_variables F) → filled ρ F ≡ filled τ F
filled_alike ρ τ F all =
    let r = each_append (λ k. ρ k ≡ τ k) (entry_variables F.entries) (variables F.result) all in
    form_is _ _ _ _ (entries_alike ρ τ F.entries r.0) (fill_alike ρ τ F.result r.1)

pub filled_twice : (ρ τ : ℕ → Term) (F : Form) → filled ρ (filled τ F) ≡ filled (λ k. fill ρ (τ k)) F
filled_twice ρ τ F = form_is _ _ _ _ (entries_twice ρ τ F.entries) (fill_fill ρ τ F.result)

pub filled_bounded : (ρ τ : ℕ → Term) (n : ℕ) → ((k : ℕ) → k < n → ρ k ≡ τ k) → (F : Form) → EntriesBounded n F.entries → Bounded n F.result → filled ρ F ≡ filled τ F
filled_bounded ρ τ n agree F be br = form_is _ _ _ _ (entries_bounded ρ τ n agree F.entries be) (fill_bounded ρ τ n agree F.result br)

-- numbering
member_append : (k : ℕ) (xs ys : List ℕ) → member k xs ≡ true → member k (xs ++ ys) ≡ true
member_append k [] ys m = absurd (let z : false ≡ true = m in let y : ◌≡◌ {A = ℕ} 0 1 = cc in omega (arith, y))
member_append k (x ∷ xs) ys m = by_case (or_cases (eqb k x) (member k xs) m) (member_append k xs ys)
  where
    by_case : (eqb k x ≡ true) ⊎ (member k xs ≡ true) → (member k xs ≡ true → member k (xs ++ ys) ≡ true) → (eqb k x || member k (xs ++ ys)) ≡ true
    by_case (inl e) later = or_left _ _ e
    by_case (inr e) later = or_right _ _ (later e)

member_push : (k : ℕ) (xs : List ℕ) → member k (xs ++ k ∷ []) ≡ true
member_push k [] = or_left _ _ (eq-eqb k k refl)
member_push k (x ∷ xs) = or_right _ _ (member_push k xs)

distinct_keeps : (k : ℕ) (ks seen : List ℕ) → member k seen ≡ true → member k (distinct seen ks) ≡ true
distinct_keeps k [] seen m = m
distinct_keeps k (x ∷ ks) seen m =
    distinct_keeps k ks (cond (member x seen) seen (seen ++ x ∷ [])) (elim (member x seen) as (λ b. member k (cond b seen (seen ++ x ∷ [])) ≡ true) [ true ↦ m | false ↦ member_append k seen (x ∷ []) m ])

pub distinct_has : (ks seen : List ℕ) → Each (λ k. member k (distinct seen ks) ≡ true) ks
distinct_has [] seen = tt
distinct_has (x ∷ ks) seen =
    (distinct_keeps x ks (cond (member x seen) seen (seen ++ x ∷ [])) (now_in (member x seen) refl), distinct_has ks (cond (member x seen) seen (seen ++ x ∷ [])))
  where
    now_in : (b : Bool) → member x seen ≡ b → member x (cond b seen (seen ++ x ∷ [])) ≡ true
    now_in true is = is
    now_in false is = member_push x seen

pub position_of : (k : ℕ) (xs : List ℕ) → member k xs ≡ true → get_or xs (position k xs) 0 ≡ k
position_of k [] m = absurd (let z : false ≡ true = m in let y : ◌≡◌ {A = ℕ} 0 1 = cc in omega (arith, y))
position_of k (x ∷ xs) m = by_test (eqb k x) refl m (position_of k xs)
  where
    by_test : (b : Bool) → eqb k x ≡ b → (b || member k xs) ≡ true → (member k xs ≡ true → get_or xs (position k xs) 0 ≡ k) → get_or (x ∷ xs) (cond b 0 (suc (position k xs))) 0 ≡ k
    by_test true is here later = sym (eqb-true k x is)
    by_test false is here later = later here

-- The form with its variables numbered by first appearance has the same instances.
pub canonical_onto : (ρ : ℕ → Term) (F : Form) → (τ : ℕ → Term) × (filled τ (canonical F) ≡ filled ρ F)
canonical_onto ρ F =
    let seen = distinct [] (form_variables F) in
    let τ : ℕ → Term = λ j. ρ (get_or seen j 0) in
    (τ, filled_twice τ (λ k. var (position k seen)) F ∙ filled_alike (λ k. τ (position k seen)) ρ F (each_map (λ k. member k seen ≡ true) (λ k. τ (position k seen) ≡ ρ k) (λ k m. ap ρ (position_of k seen m)) (form_variables F) (distinct_has (form_variables F) [])))

pub canonical_back : (τ : ℕ → Term) (F : Form) → (ρ : ℕ → Term) × (filled τ (canonical F) ≡ filled ρ F)
canonical_back τ F = ((λ k. τ (position k (distinct [] (form_variables F)))), filled_twice τ (λ k. var (position k (distinct [] (form_variables F)))) F)
