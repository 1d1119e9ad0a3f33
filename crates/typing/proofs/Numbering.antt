-- Numbering by first appearance numbers from 0 without a gap. Assumes nothing.
use Rattle.std.proofs.Common.{◌≡◌, ℕ, suc, ◌+◌, ◌<◌, max, Bool, true, false, cond, ◌||◌, eqb, List, [], ◌∷◌, ◌++◌, map, length, sym, refl, ap, ◌∙◌, subst, ap₂, arith, length-append}
use Rattle.std.proofs.lemmas.List.{append_assoc, append-nil, map-append}
use Rattle.std.proofs.lemmas.Bool.{both_ways, eq-eqb, or_parts}
use Rattle.typing.specs.Forms.{Name, Form, entry_variables, form_variables}
use Rattle.typing.specs.Solve.{renamed_entries, filled, member, distinct, position, canonical}
use Rattle.typing.specs.Strings.{Numbered}
use Rattle.typing.specs.Terms.{Term, var, head, ◌·◌, fill, variables}

pub position_here : (k : ℕ) (xs ys : List ℕ) → member k xs ≡ true → (position k (xs ++ ys) ≡ position k xs) × (position k xs < length xs)
position_here k [] ys m = absurd (both_ways false refl m)
position_here k (x ∷ xs) ys m = by_test (eqb k x) m (position_here k xs ys)
  where
    by_test : (b : Bool) → (b || member k xs) ≡ true → (member k xs ≡ true → (position k (xs ++ ys) ≡ position k xs) × (position k xs < length xs)) → (cond b 0 (suc (position k (xs ++ ys))) ≡ cond b 0 (suc (position k xs))) × (cond b 0 (suc (position k xs)) < suc (length xs))
    by_test true here later = (refl, omega arith)
    by_test false here later = let r = later here in (ap suc r.0, omega (arith, r.1))

pub position_new : (k : ℕ) (xs ys : List ℕ) → member k xs ≡ false → position k (xs ++ k ∷ ys) ≡ length xs
position_new k [] ys m = ap (λ b. cond b 0 (suc (position k ys))) (eq-eqb k k refl)
position_new k (x ∷ xs) ys m =
    let p = or_parts (eqb k x) (member k xs) m in
    ap (λ b. cond b 0 (suc (position k (xs ++ k ∷ ys)))) p.0 ∙ ap suc (position_new k xs ys p.1)

pub distinct_grows : (ks seen : List ℕ) → (more : List ℕ) × (distinct seen ks ≡ seen ++ more)
distinct_grows [] seen = ([], sym (append-nil seen))
distinct_grows (k ∷ ks) seen = by_test (member k seen) (distinct_grows ks seen) (distinct_grows ks (seen ++ k ∷ []))
  where
    by_test : (b : Bool) → (more : List ℕ) × (distinct seen ks ≡ seen ++ more) → (more : List ℕ) × (distinct (seen ++ k ∷ []) ks ≡ (seen ++ k ∷ []) ++ more) → (more : List ℕ) × (distinct (cond b seen (seen ++ k ∷ [])) ks ≡ seen ++ more)
    by_test true stays grows = stays
    by_test false stays grows = (k ∷ grows.0, grows.1 ∙ append_assoc seen (k ∷ []) grows.0)

numbered_from : (ks seen : List ℕ) → Numbered (length seen) (map (λ k. position k (distinct seen ks)) ks)
numbered_from [] seen = tt
numbered_from (k ∷ ks) seen = by_test (member k seen) refl (numbered_from ks seen) (numbered_from ks (seen ++ k ∷ []))
  where
    by_test : (b : Bool) → member k seen ≡ b → Numbered (length seen) (map (λ i. position i (distinct seen ks)) ks) → Numbered (length (seen ++ k ∷ [])) (map (λ i. position i (distinct (seen ++ k ∷ []) ks)) ks) → Numbered (length seen) (map (λ i. position i (distinct (cond b seen (seen ++ k ∷ [])) ks)) (k ∷ ks))
    by_test true is stays grows =
        let g = distinct_grows ks seen in
        let at = position_here k seen g.0 is in
        let p : position k (distinct seen ks) < length seen = omega (arith, ap (position k) g.1, at.0, at.1) in
        let same : max (length seen) (position k (distinct seen ks) + 1) ≡ length seen = omega (arith, p) in
        (omega (arith, p), subst (λ n. Numbered n (map (λ i. position i (distinct seen ks)) ks)) (sym same) stays)
    by_test false is stays grows =
        let g = distinct_grows ks (seen ++ k ∷ []) in
        let at : position k (distinct (seen ++ k ∷ []) ks) ≡ length seen = ap (position k) (g.1 ∙ append_assoc seen (k ∷ []) g.0) ∙ position_new k seen g.0 is in
        let next : max (length seen) (position k (distinct (seen ++ k ∷ []) ks) + 1) ≡ length (seen ++ k ∷ []) = omega (arith, at, length-append seen (k ∷ [])) in
        (omega (arith, at), subst (λ n. Numbered n (map (λ i. position i (distinct (seen ++ k ∷ []) ks)) ks)) (sym next) grows)

variables_renamed : (f : ℕ → ℕ) (t : Term) → variables (fill (λ k. var (f k)) t) ≡ map f (variables t)
variables_renamed f (var k) = refl
variables_renamed f (head h) = refl
variables_renamed f (g · x) = ap₂ ◌++◌ (variables_renamed f g) (variables_renamed f x) ∙ sym (map-append f (variables g) (variables x))

entry_variables_renamed : (f : ℕ → ℕ) (es : List (Name × Term)) → entry_variables (renamed_entries (λ k. var (f k)) es) ≡ map f (entry_variables es)
entry_variables_renamed f [] = refl
entry_variables_renamed f (e ∷ es) =
    ap₂ ◌++◌ (variables_renamed f e.1) (entry_variables_renamed f es) ∙ sym (map-append f (variables e.1) (entry_variables es))

pub form_variables_renamed : (f : ℕ → ℕ) (F : Form) → form_variables (filled (λ k. var (f k)) F) ≡ map f (form_variables F)
form_variables_renamed f F =
    ap₂ ◌++◌ (entry_variables_renamed f F.entries) (variables_renamed f F.result) ∙ sym (map-append f (entry_variables F.entries) (variables F.result))

pub canonical_numbered : (F : Form) → Numbered 0 (form_variables (canonical F))
canonical_numbered F =
    let seen = distinct [] (form_variables F) in
    subst (Numbered 0) (sym (form_variables_renamed (λ k. position k seen) F)) (numbered_from (form_variables F) [])
