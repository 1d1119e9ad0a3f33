-- Writing terms one after the other, with the variables that have appeared, spells the form whose
-- variables are numbered by first appearance. Assumes nothing.
use Rattle.std.proofs.Common.{◌≡◌, ℕ, suc, ◌+◌, ◌≤◌, Bool, true, false, cond, eqb, List, [], ◌∷◌, ◌++◌, length, sym, refl, ap, ◌∙◌, ap₂, arith, length-append}
use Rattle.std.proofs.lemmas.List.{length_push}
use Rattle.std.proofs.lemmas.Bool.{or_parts}
use Rattle.layout.specs.Groups.{group}
use Rattle.layout.proofs.Groups.{groups_some}
use Rattle.typing.specs.Forms.{Name, Form, entry_variables}
use Rattle.typing.specs.Solve.{renamed_entries, filled, member, distinct, position, canonical}
use Rattle.typing.specs.Strings.{term_bytes, entries_bytes, form_bytes}
use Rattle.typing.specs.Terms.{Term, var, head, ◌·◌, fill, variables}
use Rattle.typing.proofs.Numbering.{position_here, position_new, distinct_grows}
use Rattle.typing.proofs.Renaming.{each_map, fill_alike, entries_alike, distinct_has}
use Rattle.inference.specs.Writings.{place_in, seen_after, spelled, seen_after_all, spelled_all}

pub distinct_append : (xs ys seen : List ℕ) → distinct seen (xs ++ ys) ≡ distinct (distinct seen xs) ys
distinct_append [] ys seen = refl
distinct_append (x ∷ xs) ys seen = distinct_append xs ys (cond (member x seen) seen (seen ++ x ∷ []))

-- the place of a variable that has appeared stays
place_stays : (k : ℕ) (seen ks : List ℕ) → member k seen ≡ true → place_in (distinct seen ks) k ≡ place_in seen k
place_stays k seen ks m = let g = distinct_grows ks seen in ap (λ p. var (position k p)) g.1 ∙ ap var (position_here k seen g.0 m).0

-- one that has not appeared has the next place
pub position_none : (k : ℕ) (xs : List ℕ) → member k xs ≡ false → position k xs ≡ length xs
position_none k [] m = refl
position_none k (x ∷ xs) m =
    let p = or_parts (eqb k x) (member k xs) m in
    ap (λ b. cond b 0 (suc (position k xs))) p.0 ∙ ap suc (position_none k xs p.1)

place_next : (k : ℕ) (seen : List ℕ) → position k (seen_after seen (var k)) ≡ position k seen
place_next k seen = by_test (member k seen) refl
  where
    by_test : (b : Bool) → member k seen ≡ b → position k (cond b seen (seen ++ k ∷ [])) ≡ position k seen
    by_test true is = refl
    by_test false is = position_new k seen [] is ∙ sym (position_none k seen is)

pub spelled_variable : (k : ℕ) (seen : List ℕ) → spelled seen (var k) ≡ group (5 + position k seen)
spelled_variable k seen = ap (λ p. group (5 + p)) (place_next k seen)

-- a term's places stay where more appears behind it
spelled_stays : (t : Term) (seen ks : List ℕ) → term_bytes (fill (place_in (distinct (seen_after seen t) ks)) t) ≡ spelled seen t
spelled_stays t seen ks =
    let S = seen_after seen t in
    ap term_bytes (fill_alike (place_in (distinct S ks)) (place_in S) t (each_map (λ k. member k S ≡ true) (λ k. place_in (distinct S ks) k ≡ place_in S k) (λ k m. place_stays k S ks m) (variables t) (distinct_has (variables t) seen)))

pub spelled_apply : (f x : Term) (seen : List ℕ) → spelled seen (f · x) ≡ spelled seen f ++ spelled (seen_after seen f) x
spelled_apply f x seen =
    ap (λ S. term_bytes (fill (place_in S) f) ++ term_bytes (fill (place_in S) x)) (distinct_append (variables f) (variables x) seen)
    ∙ ap (λ z. z ++ spelled (seen_after seen f) x) (spelled_stays f seen (variables x))

pub seen_apply : (f x : Term) (seen : List ℕ) → seen_after seen (f · x) ≡ seen_after (seen_after seen f) x
seen_apply f x seen = distinct_append (variables f) (variables x) seen

pub spelled_entry : (n : Name) (t : Term) (es : List (Name × Term)) (seen : List ℕ) → spelled_all seen ((n, t) ∷ es) ≡ n ++ (spelled seen t ++ spelled_all (seen_after seen t) es)
spelled_entry n t es seen =
    ap (λ S. n ++ (term_bytes (fill (place_in S) t) ++ entries_bytes (renamed_entries (place_in S) es))) (distinct_append (variables t) (entry_variables es) seen)
    ∙ ap (λ z. n ++ (z ++ spelled_all (seen_after seen t) es)) (spelled_stays t seen (entry_variables es))

pub seen_entry : (n : Name) (t : Term) (es : List (Name × Term)) (seen : List ℕ) → seen_after_all seen ((n, t) ∷ es) ≡ seen_after_all (seen_after seen t) es
seen_entry n t es seen = distinct_append (variables t) (entry_variables es) seen

spelled_all_stays : (es : List (Name × Term)) (seen ks : List ℕ) → entries_bytes (renamed_entries (place_in (distinct (seen_after_all seen es) ks)) es) ≡ spelled_all seen es
spelled_all_stays es seen ks =
    let S = seen_after_all seen es in
    ap entries_bytes (entries_alike (place_in (distinct S ks)) (place_in S) es (each_map (λ k. member k S ≡ true) (λ k. place_in (distinct S ks) k ≡ place_in S k) (λ k m. place_stays k S ks m) (entry_variables es) (distinct_has (entry_variables es) seen)))

length_renamed : (ρ : ℕ → Term) (es : List (Name × Term)) → length (renamed_entries ρ es) ≡ length es
length_renamed ρ [] = refl
length_renamed ρ (e ∷ es) = ap suc (length_renamed ρ es)

pub spelled_form : (F : Form) → form_bytes (canonical F) ≡ group (length F.entries) ++ (spelled_all [] F.entries ++ spelled (seen_after_all [] F.entries) F.result)
spelled_form F =
    let es = F.entries in
    let t = F.result in
    ap (λ S. form_bytes (filled (place_in S) F)) (distinct_append (entry_variables es) (variables t) [])
    ∙ ap₂ (λ (n : ℕ) (z : List ℕ). group n ++ (z ++ spelled (seen_after_all [] es) t)) (length_renamed _ es) (spelled_all_stays es [] (variables t))

-- No more variables appear than bytes are written.
length_distinct : (ks seen : List ℕ) → length (distinct seen ks) ≤ length seen + length ks
length_distinct [] seen = omega arith
length_distinct (k ∷ ks) seen = by_test (member k seen) (length_distinct ks seen) (length_distinct ks (seen ++ k ∷ []))
  where
    by_test : (b : Bool) → length (distinct seen ks) ≤ length seen + length ks → length (distinct (seen ++ k ∷ []) ks) ≤ length (seen ++ k ∷ []) + length ks → length (distinct (cond b seen (seen ++ k ∷ [])) ks) ≤ length seen + suc (length ks)
    by_test true stays grows = omega (arith, stays)
    by_test false stays grows = omega (arith, grows, length_push seen k)

length_spelled : (f : ℕ → ℕ) (t : Term) → length (variables t) ≤ length (term_bytes (fill (λ k. var (f k)) t))
length_spelled f (var k) = omega (arith, groups_some 2 (5 + f k))
length_spelled f (head h) = omega arith
length_spelled f (g · x) =
    omega (arith, length-append (variables g) (variables x), length-append (term_bytes (fill (λ k. var (f k)) g)) (term_bytes (fill (λ k. var (f k)) x)), length_spelled f g, length_spelled f x)

pub seen_few : (t : Term) (seen : List ℕ) → length (seen_after seen t) ≤ length seen + length (spelled seen t)
seen_few t seen = omega (arith, length_distinct (variables t) seen, length_spelled (λ k. position k (seen_after seen t)) t)

pub seen_few_all : (es : List (Name × Term)) (seen : List ℕ) → length (seen_after_all seen es) ≤ length seen + length (spelled_all seen es)
seen_few_all [] seen = omega arith
seen_few_all (e ∷ es) seen =
    let t = e.1 in
    let S = spelled seen t in
    let R = spelled_all (seen_after seen t) es in
    omega (arith, ap length (seen_entry e.0 t es seen), ap length (spelled_entry e.0 t es seen), length-append e.0 (S ++ R), length-append S R, seen_few t seen, seen_few_all es (seen_after seen t))
