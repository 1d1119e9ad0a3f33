-- Names that are told apart by their keys, and rising lists of them. Assumes nothing.
use Rattle.std.proofs.Common.{◌≡◌, ℕ, zero, suc, ◌-◌, ◌<◌, ◌≤◌, true, false, cond, leb, ◌⊎◌, List, [], ◌∷◌, length, replicate, sym, refl, ap, subst, inl, inr, arith}
use Rattle.std.specs.Char.{is_ascii_lowercase}
use Rattle.std.specs.List.{AllByRecursion}
use Rattle.std.proofs.ByRecursion.{All-append}
use Rattle.std.proofs.lemmas.Bool.{and_parts, leb-true, cases_Bool}
use Rattle.syntax.proofs.Letters.{letters_step, named}
use Rattle.syntax.specs.Names.{is_name, letters}
use Rattle.syntax.specs.declared.name.Name.{Name}
use Rattle.reading.specs.FreeNames.{Among}
use Rattle.reading.specs.NameStrings.{key, rising}
use Rattle.reading.specs.NameLists.{Valid, rising_parts}

abbrev pub Low : ℕ → Type 0
Low b = b < 256

letters_low : (bs : List ℕ) → AllByRecursion Low (letters bs)
letters_low [] = tt
letters_low (b ∷ bs) = rw (letters_step b bs) (by_test (letters_low bs) (cases_Bool (is_ascii_lowercase b)))
  where
    by_test : AllByRecursion Low (letters bs) → (is_ascii_lowercase b ≡ true) ⊎ (is_ascii_lowercase b ≡ false) → AllByRecursion Low (cond (is_ascii_lowercase b) (b ∷ letters bs) [])
    by_test rest (inl e) =
        let high = leb-true b 122 (and_parts (leb 97 b) (leb b 122) e).1 in
        let low : b < 256 = omega (arith, high) in
        subst (λ t. AllByRecursion Low (cond t (b ∷ letters bs) [])) (sym e) (low, rest)
    by_test rest (inr e) = subst (λ t. AllByRecursion Low (cond t (b ∷ letters bs) [])) (sym e) tt

zeros_low : (k : ℕ) → AllByRecursion Low (replicate k 0)
zeros_low zero = tt
zeros_low (suc k) = (omega arith, zeros_low k)

pub name_low : (bs : List ℕ) → is_name bs ≡ true → AllByRecursion Low bs
name_low bs valid =
    subst (AllByRecursion Low) (sym (named bs valid).made) (All-append Low (letters bs) (replicate (4 - length (letters bs)) 0) (letters_low bs) (zeros_low (4 - length (letters bs))))

abbrev value : List ℕ → ℕ
value bs = key (record { 0 = bs })

same_bytes : (xs ys : List ℕ) → length xs ≡ 4 → length ys ≡ 4 → AllByRecursion Low xs → AllByRecursion Low ys → value xs ≡ value ys → xs ≡ ys
same_bytes (a ∷ b ∷ c ∷ d ∷ []) (a' ∷ b' ∷ c' ∷ d' ∷ []) lx ly low low' e =
    let h = low.0 in
    let i = low.1.0 in
    let j = low.1.1.0 in
    let k = low.1.1.1.0 in
    let h' = low'.0 in
    let i' = low'.1.0 in
    let j' = low'.1.1.0 in
    let k' = low'.1.1.1.0 in
    let p : a ≡ a' = omega (arith, e, h, i, j, k, h', i', j', k') in
    let q : b ≡ b' = omega (arith, e, p, i, j, k, i', j', k') in
    let r : c ≡ c' = omega (arith, e, p, q, j, k, j', k') in
    let s : d ≡ d' = omega (arith, e, p, q, r) in
    cc
same_bytes [] ys lx ly low low' e = absurd (omega arith)
same_bytes (a ∷ []) ys lx ly low low' e = absurd (omega arith)
same_bytes (a ∷ b ∷ []) ys lx ly low low' e = absurd (omega arith)
same_bytes (a ∷ b ∷ c ∷ []) ys lx ly low low' e = absurd (omega arith)
same_bytes (a ∷ b ∷ c ∷ d ∷ x ∷ xs) ys lx ly low low' e = absurd (omega arith)
same_bytes (a ∷ b ∷ c ∷ d ∷ []) [] lx ly low low' e = absurd (omega arith)
same_bytes (a ∷ b ∷ c ∷ d ∷ []) (a' ∷ []) lx ly low low' e = absurd (omega arith)
same_bytes (a ∷ b ∷ c ∷ d ∷ []) (a' ∷ b' ∷ []) lx ly low low' e = absurd (omega arith)
same_bytes (a ∷ b ∷ c ∷ d ∷ []) (a' ∷ b' ∷ c' ∷ []) lx ly low low' e = absurd (omega arith)
same_bytes (a ∷ b ∷ c ∷ d ∷ []) (a' ∷ b' ∷ c' ∷ d' ∷ y ∷ ys) lx ly low low' e = absurd (omega arith)

pub same_name : (m n : Name) → Valid m → Valid n → key m ≡ key n → m ≡ n
same_name m n vm vn e =
    ap (λ bs. record { 0 = bs }) (same_bytes m.0 n.0 (named m.0 vm).four (named n.0 vn).four (name_low m.0 vm) (name_low n.0 vn) e)

pub among_above : (low : ℕ) (ns : List Name) (n : Name) → rising low ns ≡ true → Among n ns → low < key n
among_above low [] n up here = absurd here
among_above low (m ∷ ms) n up (inl e) = omega (arith, ap key e, (rising_parts low m ms up).1)
among_above low (m ∷ ms) n up (inr rest) = let p = rising_parts low m ms up in omega (arith, p.1, among_above (key m) ms n p.2 rest)

-- a rising list of some of the names of another is no longer than it
pub shorter_list : (low low' : ℕ) (xs ys : List Name) → rising low xs ≡ true → rising low' ys ≡ true → ((n : Name) → Among n xs → Among n ys) → length xs ≤ length ys
shorter_list low low' [] ys up up' sub = omega arith
shorter_list low low' (x ∷ xs) [] up up' sub = absurd (sub x (inl refl))
shorter_list low low' (x ∷ xs) (y ∷ ys) up up' sub =
    let p = rising_parts low x xs up in
    let q = rising_parts low' y ys up' in
    by_place p q (sub x (inl refl))
    (λ rest. shorter_list (key x) (key y) xs ys p.2 q.2 rest)
    (λ all. shorter_list low (key y) (x ∷ xs) ys up q.2 all)
  where
    by_place : Valid x × (low < key x) × (rising (key x) xs ≡ true) → Valid y × (low' < key y) × (rising (key y) ys ≡ true) → Among x (y ∷ ys) → (((n : Name) → Among n xs → Among n ys) → length xs ≤ length ys) → (((n : Name) → Among n (x ∷ xs) → Among n ys) → length (x ∷ xs) ≤ length ys) → length (x ∷ xs) ≤ length (y ∷ ys)
    by_place p q (inl e) tails whole = omega (arith, tails (λ n here. behind n here (sub n (inr here))))
      where
        behind : (n : Name) → Among n xs → Among n (y ∷ ys) → Among n ys
        behind n here (inl f) = absurd (omega (arith, ap key e, ap key f, among_above (key x) xs n p.2 here))
        behind n here (inr rest) = rest
    by_place p q (inr later) tails whole = omega (arith, whole (λ n here. behind n here (sub n here)))
      where
        behind : (n : Name) → Among n (x ∷ xs) → Among n (y ∷ ys) → Among n ys
        behind n (inl g) (inl f) = absurd (omega (arith, ap key g, ap key f, among_above (key y) ys x q.2 later))
        behind n (inr here) (inl f) = absurd (omega (arith, ap key f, among_above (key y) ys x q.2 later, among_above (key x) xs n p.2 here))
        behind n here (inr rest) = rest
