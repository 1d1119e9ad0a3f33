-- Reading terms back from their bytes. Assumes nothing.
use Rattle.std.proofs.Common.{◌≡◌, ℕ, zero, suc, ◌+◌, ◌-◌, ◌/◌, ◌%◌, ◌<◌, ◌≤◌, max, true, false, cond, eqb, ltb, ◌⊎◌, List, [], ◌∷◌, ◌++◌, length, get_or, Some, None, Option, sym, refl, ap, ◌∙◌, subst, inl, inr, arith, length-append}
use Rattle.std.proofs.lemmas.List.{append_assoc, append-nil, get_or_append_left, get_or_push, length_push}
use Rattle.std.proofs.lemmas.Bool.{lt-ltb, le-ltb, eq-eqb, cases_lt}
use Rattle.layout.specs.Groups.{bound, groups, group}
use Rattle.typing.specs.Heads.{Sort, type, place, result_of, parts_of, token_of, head_of}
use Rattle.typing.specs.Parsing.{and_then, only_if, read_group, same_sort, meet_variable, read_head, read_terms}
use Rattle.typing.specs.Strings.{term_bytes, Numbered}
use Rattle.typing.specs.Terms.{Term, var, head, ◌·◌, applied, variables, Sorted}
use Rattle.typing.specs.declared.head.Head.{Head}
use Rattle.typing.specs.declared.head.Head.TheVariants.{Num, Fun, Rec, Absent, Present}
use Rattle.typing.proofs.GroupReading.{then_is, if_true, group_spelled}
use Rattle.typing.proofs.Merging.{head_of_token}
use Rattle.typing.proofs.Records.{EachSorted}

applied_push : (t : Term) (xs : List Term) (x : Term) → applied t (xs ++ x ∷ []) ≡ applied t xs · x
applied_push t [] x = refl
applied_push t (y ∷ xs) x = applied_push (t · y) xs x

each_push : (V : ℕ → Sort → Type 0) (labels : ℕ) (ss : List Sort) (xs : List Term) (s : Sort) (x : Term) → EachSorted V labels ss xs → Sorted V labels [] s x → EachSorted V labels (ss ++ s ∷ []) (xs ++ x ∷ [])
each_push V labels [] [] s x each so = (so, tt)
each_push V labels [] (y ∷ xs) s x each so = absurd each
each_push V labels (q ∷ ss) [] s x each so = absurd each
each_push V labels (q ∷ ss) (y ∷ xs) s x each so = (each.0, each_push V labels ss xs s x each.1 so)

-- a head over some of its parts
pub record Made (V : ℕ → Sort → Type 0) (labels : ℕ) (N : List Sort) (s : Sort) (t : Term) : Type 0 where
  pub top : Head
  pub parts : List Term
  pub sorts : List Sort
  pub is : t ≡ applied (head top) parts
  pub needs : parts_of labels top ≡ sorts ++ N
  pub makes : result_of top ≡ s
  pub each : EachSorted V labels sorts parts

-- a sorted term is a variable, or a head over parts
pub take_apart : (V : ℕ → Sort → Type 0) (labels : ℕ) (t : Term) (N : List Sort) (s : Sort) → Sorted V labels N s t → ((k : ℕ) × (t ≡ var k) × (N ≡ []) × V k s) ⊎ Made V labels N s t
take_apart V labels (var k) N s so = inl (k, refl, so.0, so.1)
take_apart V labels (head h) N s so = inr (record { top = h; parts = []; sorts = []; is = refl; needs = so.0; makes = so.1; each = tt })
take_apart V labels (f · x) N s so = by_case (take_apart V labels f (so.0 ∷ N) s so.1)
  where
    by_case : ((k : ℕ) × (f ≡ var k) × (so.0 ∷ N ≡ []) × V k s) ⊎ Made V labels (so.0 ∷ N) s f → ((k : ℕ) × (f · x ≡ var k) × (N ≡ []) × V k s) ⊎ Made V labels N s (f · x)
    by_case (inl v) = absurd (let wrong : so.0 ∷ N ≡ [] = v.2 in let z : ◌≡◌ {A = ℕ} 0 1 = cc in omega (arith, z))
    by_case (inr m) = inr (record { top = m.top; parts = m.parts ++ x ∷ []; sorts = m.sorts ++ so.0 ∷ []; is = ap (λ g. g · x) m.is ∙ sym (applied_push (head m.top) m.parts x); needs = m.needs ∙ sym (append_assoc m.sorts (so.0 ∷ []) N); makes = m.makes; each = each_push V labels m.sorts m.parts so.0 x m.each so.2 })

-- terms one behind the other
abbrev pub terms_bytes : List Term → List ℕ
terms_bytes [] = []
terms_bytes (t ∷ ts) = term_bytes t ++ terms_bytes ts

abbrev pub terms_variables : List Term → List ℕ
terms_variables [] = []
terms_variables (t ∷ ts) = variables t ++ terms_variables ts

pub applied_bytes : (t : Term) (xs : List Term) → term_bytes (applied t xs) ≡ term_bytes t ++ terms_bytes xs
applied_bytes t [] = sym (append-nil (term_bytes t))
applied_bytes t (x ∷ xs) = applied_bytes (t · x) xs ∙ append_assoc (term_bytes t) (term_bytes x) (terms_bytes xs)

pub applied_variables : (t : Term) (xs : List Term) → variables (applied t xs) ≡ variables t ++ terms_variables xs
applied_variables t [] = sym (append-nil (variables t))
applied_variables t (x ∷ xs) = applied_variables (t · x) xs ∙ append_assoc (variables t) (variables x) (terms_variables xs)

-- how many variables have appeared
abbrev pub reach : ℕ → List ℕ → ℕ
reach n [] = n
reach n (k ∷ ks) = reach (max n (k + 1)) ks

pub reach_append : (xs : List ℕ) (n : ℕ) (ys : List ℕ) → reach n (xs ++ ys) ≡ reach (reach n xs) ys
reach_append [] n ys = refl
reach_append (x ∷ xs) n ys = reach_append xs (max n (x + 1)) ys

pub numbered_parts : (xs : List ℕ) (n : ℕ) (ys : List ℕ) → Numbered n (xs ++ ys) → Numbered n xs × Numbered (reach n xs) ys
numbered_parts [] n ys num = (tt, num)
numbered_parts (x ∷ xs) n ys num = let r = numbered_parts xs (max n (x + 1)) ys num.1 in ((num.0, r.0), r.1)

-- the sorts of the first n variables
abbrev pub known : (ℕ → Sort) → ℕ → List Sort
known sorts zero = []
known sorts (suc n) = known sorts n ++ sorts n ∷ []

pub known_long : (sorts : ℕ → Sort) (n : ℕ) → length (known sorts n) ≡ n
known_long sorts zero = refl
known_long sorts (suc n) = omega (arith, length_push (known sorts n) (sorts n), known_long sorts n)

pub known_at : (sorts : ℕ → Sort) (n k : ℕ) (d : Sort) → k < n → get_or (known sorts n) k d ≡ sorts k
known_at sorts zero k d lt = absurd (omega arith)
known_at sorts (suc n) k d lt = by_place (cases_lt k n) (known_at sorts n k d)
  where
    by_place : (k < n) ⊎ (n ≤ k) → (k < n → get_or (known sorts n) k d ≡ sorts k) → get_or (known sorts n ++ sorts n ∷ []) k d ≡ sorts k
    by_place (inl less) before = get_or_append_left (known sorts n) (sorts n ∷ []) d k (omega (arith, known_long sorts n, less)) ∙ before less
    by_place (inr le) before =
        let e : n ≡ k = omega (arith, lt, le) in
        get_or_push (known sorts n) (sorts n) d k (known_long sorts n ∙ e) ∙ ap sorts e

same_sort_lem : (s : Sort) → same_sort s s ≡ true
same_sort_lem type = refl
same_sort_lem place = refl

meet_known : (sorts : ℕ → Sort) (n k : ℕ) (s : Sort) → k ≤ n → sorts k ≡ s → meet_variable s k (known sorts n) ≡ Some (known sorts (max n (k + 1)))
meet_known sorts n k s le is = by_place (cases_lt k n)
  where
    old : Option (List Sort)
    old = only_if (same_sort (get_or (known sorts n) k s) s) (Some (known sorts n))

    new : Option (List Sort)
    new = only_if (eqb k (length (known sorts n))) (Some (known sorts n ++ s ∷ []))

    by_place : (k < n) ⊎ (n ≤ k) → cond (ltb k (length (known sorts n))) old new ≡ Some (known sorts (max n (k + 1)))
    by_place (inl lt) =
        let at : get_or (known sorts n) k s ≡ s = known_at sorts n k s lt ∙ is in
        let m : n ≡ max n (k + 1) = omega (arith, lt) in
        ap (λ b. cond b old new) (lt-ltb k (length (known sorts n)) (omega (arith, known_long sorts n, lt))) ∙ if_true _ (Some (known sorts n)) (ap (λ q. same_sort q s) at ∙ same_sort_lem s) ∙ ap (λ j. Some (known sorts j)) m
    by_place (inr ge) =
        let e : k ≡ n = omega (arith, le, ge) in
        let m : suc n ≡ max n (k + 1) = omega (arith, e) in
        ap (λ b. cond b old new) (le-ltb k (length (known sorts n)) (omega (arith, known_long sorts n, ge))) ∙ if_true _ (Some (known sorts n ++ s ∷ [])) (eq-eqb k (length (known sorts n)) (e ∙ sym (known_long sorts n))) ∙ ap (λ q. Some (known sorts n ++ q ∷ [])) (sym is ∙ ap sorts e) ∙ ap (λ j. Some (known sorts j)) m

token_variable : (k : ℕ) → head_of (5 + k) ≡ None
token_variable k = let e : 5 + k ≡ suc (suc (suc (suc (suc k)))) = omega arith in ap head_of e

token_small : (h : Head) → token_of h < bound 2
token_small Num = omega arith
token_small Fun = omega arith
token_small Rec = omega arith
token_small Absent = omega arith
token_small Present = omega arith

pub group_long : (n : ℕ) → 1 ≤ length (group n)
group_long n = elim (ltb n 128) as (λ b. 1 ≤ length (cond b (n ∷ []) ((128 + n % 128) ∷ groups 1 (n / 128)))) [ true ↦ omega arith | false ↦ omega arith ]

-- every variable has a token
abbrev pub Small : List ℕ → Type 0
Small [] = Unit {0}
Small (k ∷ ks) = (5 + k < bound 2) × Small ks

pub small_parts : (xs ys : List ℕ) → Small (xs ++ ys) → Small xs × Small ys
small_parts [] ys s = (tt, s)
small_parts (x ∷ xs) ys s = let r = small_parts xs ys s.1 in ((s.0, r.0), r.1)

pub term_long : (t : Term) → 1 ≤ length (term_bytes t)
term_long (var k) = group_long (5 + k)
term_long (head h) = group_long (token_of h)
term_long (f · x) = omega (arith, length-append (term_bytes f) (term_bytes x), term_long f)

module _ (labels : ℕ) (sorts : ℕ → Sort) where
  abbrev V : ℕ → Sort → Type 0
  V k q = sorts k ≡ q

  -- what reading terms of these sorts gives, where they stand first
  abbrev ReadsBackWith : ℕ → Type 0
  ReadsBackWith fuel =
      (ss : List Sort) (ts : List Term) (n : ℕ) (rest : List ℕ) → length (terms_bytes ts) ≤ fuel → EachSorted V labels ss ts → Numbered n (terms_variables ts) → Small (terms_variables ts) → read_terms fuel labels ss (known sorts n) (terms_bytes ts ++ rest) ≡ Some (ts, known sorts (reach n (terms_variables ts)), rest)

  -- the token of a term and what stands behind it
  record First (fuel : ℕ) (s : Sort) (n : ℕ) (tail : List ℕ) (t : Term) : Type 0 where
    token : ℕ
    behind : List ℕ
    grouped : read_group 2 (term_bytes t ++ tail) ≡ Some (token, behind)
    headed : read_head labels (head_of token) token s (known sorts n) behind (read_terms fuel labels) ≡ Some (t, known sorts (reach n (variables t)), tail)

  first_variable : (fuel : ℕ) (s : Sort) (n : ℕ) (tail : List ℕ) (k : ℕ) → sorts k ≡ s → k ≤ n → 5 + k < bound 2 → First fuel s n tail (var k)
  first_variable fuel s n tail k is le small = record { token = 5 + k; behind = tail; grouped = group_spelled 2 (5 + k) tail small; headed = ap (λ o. read_head labels o (5 + k) s (known sorts n) tail (read_terms fuel labels)) (token_variable k) ∙ ap (λ j. and_then (meet_variable s j (known sorts n)) (λ seen. Some (var j, seen, tail))) less ∙ then_is (meet_variable s k (known sorts n)) (known sorts (max n (k + 1))) (λ seen. Some (var k, seen, tail)) (meet_known sorts n k s le is) }
    where
      less : 5 + k - 5 ≡ k
      less = omega arith

  first_made : (fuel : ℕ) → ReadsBackWith fuel → (s : Sort) (n : ℕ) (tail : List ℕ) (t : Term) → Made V labels [] s t → length (term_bytes t) ≤ suc fuel → Numbered n (variables t) → Small (variables t) → First fuel s n tail t
  first_made fuel ih s n tail t m long num small = subst (First fuel s n tail) (sym m.is) (record { token = token_of h; behind = terms_bytes xs ++ tail; grouped = grouped; headed = headed })
    where
      h : Head
      h = m.top

      xs : List Term
      xs = m.parts

      vars : variables t ≡ terms_variables m.parts
      vars = ap variables m.is ∙ applied_variables (head m.top) m.parts

      bytes : term_bytes t ≡ group (token_of m.top) ++ terms_bytes m.parts
      bytes = ap term_bytes m.is ∙ applied_bytes (head m.top) m.parts

      shorter : length (terms_bytes m.parts) ≤ fuel
      shorter = omega (arith, long, ap length bytes, length-append (group (token_of m.top)) (terms_bytes m.parts), group_long (token_of m.top))

      parts : read_terms fuel labels (parts_of labels m.top) (known sorts n) (terms_bytes m.parts ++ tail) ≡ Some (m.parts, known sorts (reach n (terms_variables m.parts)), tail)
      parts =
          ap (λ ss. read_terms fuel labels ss (known sorts n) (terms_bytes m.parts ++ tail)) (m.needs ∙ append-nil m.sorts) ∙ ih m.sorts m.parts n tail shorter m.each (subst (Numbered n) vars num) (subst Small vars small)

      grouped : read_group 2 (term_bytes (applied (head m.top) m.parts) ++ tail) ≡ Some (token_of m.top, terms_bytes m.parts ++ tail)
      grouped =
          ap (read_group 2) (ap (λ bs. bs ++ tail) (applied_bytes (head m.top) m.parts) ∙ append_assoc (group (token_of m.top)) (terms_bytes m.parts) tail) ∙ group_spelled 2 (token_of m.top) (terms_bytes m.parts ++ tail) (token_small m.top)

      headed : read_head labels (head_of (token_of m.top)) (token_of m.top) s (known sorts n) (terms_bytes m.parts ++ tail) (read_terms fuel labels) ≡ Some (applied (head m.top) m.parts, known sorts (reach n (variables (applied (head m.top) m.parts))), tail)
      headed =
          ap (λ o. read_head labels o (token_of m.top) s (known sorts n) (terms_bytes m.parts ++ tail) (read_terms fuel labels)) (head_of_token m.top) ∙ if_true _ _ (ap (λ q. same_sort q s) m.makes ∙ same_sort_lem s) ∙ then_is _ (m.parts, known sorts (reach n (terms_variables m.parts)), tail) (λ r. Some (applied (head m.top) r.0, r.1, r.2)) parts ∙ ap (λ ks. Some (applied (head m.top) m.parts, known sorts (reach n ks), tail)) (sym (applied_variables (head m.top) m.parts))

  first_term : (fuel : ℕ) → ReadsBackWith fuel → (s : Sort) (n : ℕ) (tail : List ℕ) (t : Term) → Sorted V labels [] s t → length (term_bytes t) ≤ suc fuel → Numbered n (variables t) → Small (variables t) → First fuel s n tail t
  first_term fuel ih s n tail t so long num small = by_case (take_apart V labels t [] s so)
    where
      by_case : ((k : ℕ) × (t ≡ var k) × (◌≡◌ {A = List Sort} [] []) × V k s) ⊎ Made V labels [] s t → First fuel s n tail t
      by_case (inl v) = subst (First fuel s n tail) (sym v.1) (first_variable fuel s n tail v.0 v.3 (subst (λ (u : Term). Numbered n (variables u)) v.1 num).0 (subst (λ (u : Term). Small (variables u)) v.1 small).0)
      by_case (inr m) = first_made fuel ih s n tail t m long num small

  pub terms_spelled : (fuel : ℕ) → ReadsBackWith fuel
  terms_spelled fuel [] [] n rest long each num small = refl
  terms_spelled fuel [] (t ∷ ts) n rest long each num small = absurd each
  terms_spelled fuel (s ∷ ss) [] n rest long each num small = absurd each
  terms_spelled zero (s ∷ ss) (t ∷ ts) n rest long each num small = absurd (omega (arith, long, length-append (term_bytes t) (terms_bytes ts), term_long t))
  terms_spelled (suc fuel) (s ∷ ss) (t ∷ ts) n rest long each num small =
      let nums = numbered_parts (variables t) n (terms_variables ts) num in
      let smalls = small_parts (variables t) (terms_variables ts) small in
      let tail = terms_bytes ts ++ rest in
      let n₁ = reach n (variables t) in
      let one = first_term fuel (terms_spelled fuel) s n tail t each.0 (omega (arith, long, length-append (term_bytes t) (terms_bytes ts))) nums.0 smalls.0 in
      let others = terms_spelled fuel ss ts n₁ rest (omega (arith, long, length-append (term_bytes t) (terms_bytes ts), term_long t)) each.1 nums.1 smalls.1 in
      joined t ts one others
    where
      joined : (u : Term) (us : List Term) → First fuel s n (terms_bytes us ++ rest) u → read_terms fuel labels ss (known sorts (reach n (variables u))) (terms_bytes us ++ rest) ≡ Some (us, known sorts (reach (reach n (variables u)) (terms_variables us)), rest) → read_terms (suc fuel) labels (s ∷ ss) (known sorts n) (terms_bytes (u ∷ us) ++ rest) ≡ Some (u ∷ us, known sorts (reach n (terms_variables (u ∷ us))), rest)
      joined u us one others =
          ap (read_terms (suc fuel) labels (s ∷ ss) (known sorts n)) (append_assoc (term_bytes u) (terms_bytes us) rest) ∙ then_is (read_group 2 (term_bytes u ++ (terms_bytes us ++ rest))) (one.token, one.behind) _ one.grouped ∙ then_is _ (u, known sorts (reach n (variables u)), terms_bytes us ++ rest) _ one.headed ∙ then_is _ (us, known sorts (reach (reach n (variables u)) (terms_variables us)), rest) (λ r. Some (u ∷ r.0, r.1, r.2)) others ∙ ap (λ j. Some (u ∷ us, known sorts j, rest)) (sym (reach_append (variables u) n (terms_variables us)))
