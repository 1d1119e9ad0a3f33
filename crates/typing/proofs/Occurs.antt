-- The occurs check: a graph that fails it has no solution, and in one that passes it every cell
-- stands for a term, which is a most general solution. Assumes nothing.
use Rattle.std.proofs.Common.{◌≡◌, ℕ, zero, suc, ◌+◌, ◌<◌, ◌≤◌, Bool, true, false, ◌⊎◌, List, [], ◌∷◌, length, get_or, set, replicate, sym, refl, ap, ◌∙◌, subst, ap₂, inl, inr, arith, length-set}
use lib.ListN.{length-replicate}
use Rattle.std.proofs.lemmas.List.{get_or-set_other, get_or_past}
use Rattle.std.proofs.lemmas.Bool.{cases_lt, cases_eq, and_from, and_parts, both_ways}
use Rattle.typing.specs.Cells.{Cell, free, link, atom, apply, Graph, cell, find, below, grounded, every, acyclic, unroll, readback, term_of}
use Rattle.typing.specs.Solutions.{Fits, Solves, Tidy, NotLink}
use Rattle.typing.specs.Terms.{Term, var, head, ◌·◌, fill}
use Rattle.typing.specs.Sizes.{size}
use Rattle.typing.proofs.Finding.{find_value, find_stays, find_link}

pub size_some : (t : Term) → 1 ≤ size t
size_some (var k) = omega arith
size_some (head h) = omega arith
size_some (f · x) = omega (arith, size_some f)

-- how many cells are not passed yet
abbrev left : List Bool → ℕ
left [] = 0
left (true ∷ bs) = left bs
left (false ∷ bs) = suc (left bs)

left_set : (bs : List Bool) (r : ℕ) → r < length bs → get_or bs r false ≡ false → suc (left (set bs r true)) ≡ left bs
left_set [] r lt is = absurd (omega arith)
left_set (true ∷ bs) zero lt is = absurd (both_ways true is refl)
left_set (false ∷ bs) zero lt is = refl
left_set (true ∷ bs) (suc r) lt is = left_set bs r (omega arith) is
left_set (false ∷ bs) (suc r) lt is = ap suc (left_set bs r (omega arith) is)

left_replicate : (n : ℕ) → left (replicate n false) ≡ n
left_replicate zero = refl
left_replicate (suc n) = ap suc (left_replicate n)

-- a solution's term at i is smaller than at each cell that was passed
abbrev Under : (ℕ → Term) → List Bool → ℕ → Type 0
Under σ passed i = (o : ℕ) → get_or passed o false ≡ true → size (σ i) < size (σ o)

module _ (n : ℕ) (g : Graph) (tidy : Tidy n g) (σ : ℕ → Term) (solves : Solves σ g) where
  under_more : (passed : List Bool) (r j : ℕ) → Under σ passed r → size (σ j) < size (σ r) → Under σ (set passed r true) j
  under_more passed r j under less o is = by_place (cases_eq o r)
    where
      by_place : (o ≡ r) ⊎ (o ≡ r → ⊥) → size (σ j) < size (σ o)
      by_place (inl e) = subst (λ x. size (σ j) < size (σ x)) (sym e) less
      by_place (inr ne) = omega (arith, less, under o (sym (get_or-set_other passed r o true false ne) ∙ is))

  under_root : (passed : List Bool) (i : ℕ) → Under σ passed i → Under σ passed (find g i)
  under_root passed i under o is = subst (λ t. size t < size (σ o)) (sym (find_value σ g solves i)) (under o is)

  -- at the root r, with the cell c, of which `passed` says b
  below_holds : (passed : List Bool) (r : ℕ) → length passed ≡ n → Under σ passed r → (b : Bool) → get_or passed r false ≡ b → (c : Cell) → cell g r ≡ c → (on : ℕ → Bool) → ((j : ℕ) → r < n → get_or passed r false ≡ false → size (σ j) < size (σ r) → on j ≡ true) → below b c on ≡ true
  below_holds passed r long under true is c at on holds = absurd (omega (arith, under r is))
  below_holds passed r long under false is free at on holds = refl
  below_holds passed r long under false is (link j) at on holds = refl
  below_holds passed r long under false is (atom h) at on holds = refl
  below_holds passed r long under false is (apply a b) at on holds =
      let fits : σ r ≡ σ a · σ b = subst (Fits σ r) at (solves r) in
      let sizes : size (σ r) ≡ size (σ a) + size (σ b) = ap size fits in
      and_from _ _ (holds a inside is (omega (arith, sizes, size_some (σ b)))) (holds b inside is (omega (arith, sizes, size_some (σ a))))
    where
      inside : r < n
      inside = by_place (cases_lt r n)
        where
          by_place : (r < n) ⊎ (n ≤ r) → r < n
          by_place (inl lt) = lt
          by_place (inr le) = absurd (let wrong : apply a b ≡ free = sym at ∙ get_or_past g r free (omega (arith, tidy.long)) in let z : ◌≡◌ {A = ℕ} 0 1 = cc in omega (arith, z))

  grounded_holds : (fuel : ℕ) (passed : List Bool) (i : ℕ) → length passed ≡ n → left passed < fuel → Under σ passed i → grounded fuel g passed i ≡ true
  grounded_holds zero passed i long fewer under = absurd (omega arith)
  grounded_holds (suc fuel) passed i long fewer under =
      below_holds passed (find g i) long (under_root passed i under) (get_or passed (find g i) false) refl (cell g (find g i)) refl (grounded fuel g (set passed (find g i) true)) (λ j inside is less. grounded_holds fuel (set passed (find g i) true) j (length-set passed (find g i) true ∙ long) (omega (arith, left_set passed (find g i) (omega (arith, inside, long)) is)) (under_more passed (find g i) j (under_root passed i under) less))

  none_passed : (m o : ℕ) → get_or (replicate m false) o false ≡ true → ⊥
  none_passed zero o is = both_ways false refl is
  none_passed (suc m) zero is = both_ways false refl is
  none_passed (suc m) (suc o) is = none_passed m o is

  every_holds : (k : ℕ) (test : ℕ → Bool) → ((i : ℕ) → test i ≡ true) → every k test ≡ true
  every_holds zero test all = refl
  every_holds (suc k) test all = and_from _ _ (all k) (every_holds k test all)

  -- a graph with a solution passes
  pub acyclic_holds : acyclic g ≡ true
  acyclic_holds = every_holds (length g) _ (λ i. grounded_holds (suc (length g)) (replicate (length g) false) i (length-replicate (length g) false ∙ tidy.long) (omega (arith, left_replicate (length g))) (λ o is. absurd (none_passed (length g) o is)))

-- A solution's terms are instances of the terms that are read back.
unroll_value : (σ : ℕ → Term) (r : ℕ) (c : Cell) → Fits σ r c → (on : ℕ → Term) → ((j : ℕ) → fill σ (on j) ≡ σ j) → fill σ (unroll c r on) ≡ σ r
unroll_value σ r free fits on is = refl
unroll_value σ r (link j) fits on is = refl
unroll_value σ r (atom h) fits on is = sym fits
unroll_value σ r (apply a b) fits on is = ap₂ ◌·◌ (is a) (is b) ∙ sym fits

readback_value : (σ : ℕ → Term) (g : Graph) → Solves σ g → (fuel i : ℕ) → fill σ (readback fuel g i) ≡ σ i
readback_value σ g solves zero i = refl
readback_value σ g solves (suc fuel) i =
    unroll_value σ (find g i) (cell g (find g i)) (solves (find g i)) (readback fuel g) (readback_value σ g solves fuel) ∙ find_value σ g solves i

pub term_value : (σ : ℕ → Term) (g : Graph) → Solves σ g → (i : ℕ) → fill σ (term_of g i) ≡ σ i
term_value σ g solves i = readback_value σ g solves (suc (length g)) i

-- Where the walk down from a cell ends, more fuel reads back the same term.
unroll_same : (b : Bool) (c : Cell) (r : ℕ) (test : ℕ → Bool) → below b c test ≡ true → (on on' : ℕ → Term) → ((j : ℕ) → test j ≡ true → on j ≡ on' j) → unroll c r on ≡ unroll c r on'
unroll_same true c r test passes on on' same = absurd (both_ways false refl passes)
unroll_same false free r test passes on on' same = refl
unroll_same false (link j) r test passes on on' same = refl
unroll_same false (atom h) r test passes on on' same = refl
unroll_same false (apply a b) r test passes on on' same =
    let both = and_parts (test a) (test b) passes in
    ap₂ ◌·◌ (same a both.0) (same b both.1)

readback_stable : (g : Graph) (fuel fuel' : ℕ) (passed : List Bool) (i : ℕ) → fuel ≤ fuel' → grounded fuel g passed i ≡ true → readback fuel g i ≡ readback fuel' g i
readback_stable g zero fuel' passed i le passes = absurd (both_ways false refl passes)
readback_stable g (suc fuel) zero passed i le passes = absurd (omega arith)
readback_stable g (suc fuel) (suc fuel') passed i le passes =
    unroll_same (get_or passed (find g i) false) (cell g (find g i)) (find g i) (grounded fuel g (set passed (find g i) true)) passes (readback fuel g) (readback fuel' g) (λ j ok. readback_stable g fuel fuel' (set passed (find g i) true) j (omega arith) ok)

pub every_at : (n : ℕ) (test : ℕ → Bool) → every n test ≡ true → (i : ℕ) → i < n → test i ≡ true
every_at zero test all i lt = absurd (omega arith)
every_at (suc n) test all i lt =
    let both = and_parts (test n) (every n test) all in
    by_place (cases_eq i n) both.0 (λ less. every_at n test both.1 i less)
  where
    by_place : (i ≡ n) ⊎ (i ≡ n → ⊥) → test n ≡ true → (i < n → test i ≡ true) → test i ≡ true
    by_place (inl e) here before = subst (λ x. test x ≡ true) (sym e) here
    by_place (inr ne) here before = before (omega (arith, ne))

module _ (n : ℕ) (g : Graph) (tidy : Tidy n g) (passes : acyclic g ≡ true) where
  cell_inside : (i a b : ℕ) → cell g i ≡ apply a b → i < length g
  cell_inside i a b at = by_place (cases_lt i (length g))
    where
      by_place : (i < length g) ⊎ (length g ≤ i) → i < length g
      by_place (inl lt) = lt
      by_place (inr le) = absurd (let wrong : apply a b ≡ free = sym at ∙ get_or_past g i free le in let z : ◌≡◌ {A = ℕ} 0 1 = cc in omega (arith, z))

  root_term : ℕ → Term
  root_term r = unroll (cell g r) r (readback (length g) g)

  -- each cell's own equation holds of the terms that are read back
  fits_term : (ρ : ℕ → Term) (i : ℕ) (c : Cell) → cell g i ≡ c → Fits (λ j. fill ρ (term_of g j)) i c
  unfolding root_term
  fits_term ρ i free at = tt
  fits_term ρ i (link j) at = ap (λ r. fill ρ (root_term r)) (find_link n g tidy i j at)
  fits_term ρ i (atom h) at =
      ap (λ r. fill ρ (root_term r)) (find_stays g i (subst NotLink (sym at) tt)) ∙ ap (λ c. fill ρ (unroll c i (readback (length g) g))) at
  fits_term ρ i (apply a b) at =
      let stays : find g i ≡ i = find_stays g i (subst NotLink (sym at) tt) in
      let walked = every_at (length g) _ passes i (cell_inside i a b at) in
      let first = replicate (length g) false in
      let here : below (get_or first (find g i) false) (apply a b) (grounded (length g) g (set first (find g i) true)) ≡ true = subst (λ c. below (get_or first (find g i) false) c (grounded (length g) g (set first (find g i) true)) ≡ true) (ap (cell g) stays ∙ at) walked in
      let same = unroll_same (get_or first (find g i) false) (apply a b) i (grounded (length g) g (set first (find g i) true)) here (readback (length g) g) (term_of g) (λ j ok. readback_stable g (length g) (suc (length g)) (set first (find g i) true) j (omega arith) ok) in
      ap (λ r. fill ρ (root_term r)) stays ∙ ap (λ c. fill ρ (unroll c i (readback (length g) g))) at ∙ ap (fill ρ) same

  -- Whatever the free cells stand for, there is a solution.
  pub term_solves : (ρ : ℕ → Term) → Solves (λ i. fill ρ (term_of g i)) g
  term_solves ρ i = fits_term ρ i (cell g i) refl
