-- Sorts are kept by merging: cells that are merged have one shape, so what is read back is sorted.
-- Assumes nothing.
use Rattle.std.proofs.Common.{◌≡◌, ℕ, zero, suc, ◌+◌, ◌<◌, ◌≤◌, min, max, Bool, true, false, cond, eqb, List, [], ◌∷◌, ◌++◌, length, get_or, set, Some, None, Option, sym, refl, ap, ◌∙◌, subst, ap₂, arith, length-set}
use Rattle.std.proofs.lemmas.Bool.{both_ways, and_parts}
use Rattle.typing.specs.Cells.{Cell, free, link, atom, apply, Graph, Pairs, cell, hop, chase, find, meet, Outcome, clash, solved, more, linked, settle, unite, step, after, run, below, grounded, acyclic, unroll, readback, term_of}
use Rattle.typing.specs.Heads.{Sort, result_of, parts_of, token_of}
use Rattle.typing.specs.Solutions.{Fits, Solves, Equal, Proper, Tidy, Within, NotLink}
use Rattle.typing.specs.Terms.{Term, var, head, ◌·◌, Sorted}
use Rattle.typing.proofs.Finding.{find_value, find_root, find_down, every_set}
use Rattle.typing.proofs.Merging.{Kept, Sound, step_sound, ordered}
use Rattle.typing.specs.Sizes.{size}
use Rattle.typing.proofs.Occurs.{size_some, every_at}

infix 40 ◌⇒◌
-- the sorts of the parts that a term still takes, and the sort of what it then is
pub data Shape : Type 0 where
  ◌⇒◌ : List Sort → Sort → Shape

-- what a cell says of the shapes
abbrev pub Shaped : ℕ → (ℕ → Shape) → ℕ → Cell → Type 0
Shaped labels S i free = (s : Sort) × (S i ≡ ([] ⇒ s))
Shaped labels S i (link j) = S i ≡ S j
Shaped labels S i (atom h) = S i ≡ (parts_of labels h ⇒ result_of h)
Shaped labels S i (apply a b) = (x : Sort) × (N : List Sort) × (s : Sort) × (S a ≡ (x ∷ N ⇒ s)) × (S b ≡ ([] ⇒ x)) × (S i ≡ (N ⇒ s))

abbrev pub WellShaped : ℕ → (ℕ → Shape) → Graph → Type 0
WellShaped labels S g = (i : ℕ) → i < length g → Shaped labels S i (cell g i)

abbrev pub SamePairs : (ℕ → Shape) → Pairs → Type 0
SamePairs S [] = Unit {0}
SamePairs S (p ∷ ps) = (S p.0 ≡ S p.1) × SamePairs S ps

abbrev pub OutShaped : ℕ → (ℕ → Shape) → Outcome → Type 0
OutShaped labels S clash = Unit {0}
OutShaped labels S (solved g) = WellShaped labels S g
OutShaped labels S (more g ps) = WellShaped labels S g × SamePairs S ps

pub same_append : (S : ℕ → Shape) (ps qs : Pairs) → SamePairs S ps → SamePairs S qs → SamePairs S (ps ++ qs)
same_append S [] qs a b = b
same_append S (p ∷ ps) qs a b = (a.0, same_append S ps qs a.1 b)

-- The term has this shape by its head and by how many parts it has.
abbrev pub Spine : ℕ → Term → Shape → Type 0
Spine labels (var k) sh = ⊥
Spine labels (head h) sh = sh ≡ (parts_of labels h ⇒ result_of h)
Spine labels (f · x) (N ⇒ s) = (y : Sort) × Spine labels f (y ∷ N ⇒ s)

pub spine_unique : (labels : ℕ) (t : Term) (A B : Shape) → Spine labels t A → Spine labels t B → A ≡ B
spine_unique labels (var k) A B p q = absurd p
spine_unique labels (head h) A B p q = p ∙ sym q
spine_unique labels (f · x) (N ⇒ s) (M ⇒ r) p q =
    let e = spine_unique labels f (p.0 ∷ N ⇒ s) (q.0 ∷ M ⇒ r) p.1 q.1 in
    let n : N ≡ M = cc in
    let m : s ≡ r = cc in
    ap₂ ◌⇒◌ n m

hop_shape : (labels n : ℕ) (S : ℕ → Shape) (c : Cell) (i : ℕ) → Shaped labels S i c → Proper n i c → (on : ℕ → ℕ) → ((j : ℕ) → j < i → S (on j) ≡ S j) → S (hop c i on) ≡ S i
hop_shape labels n S free i sh p on same = refl
hop_shape labels n S (link j) i sh p on same = same j p ∙ sym sh
hop_shape labels n S (atom h) i sh p on same = refl
hop_shape labels n S (apply a b) i sh p on same = refl

module _ (labels n : ℕ) (S : ℕ → Shape) (g : Graph) (tidy : Tidy n g) (well : WellShaped labels S g) where
  chase_shape : (f i : ℕ) → i < n → S (chase f g i) ≡ S i
  chase_shape zero i lt = refl
  chase_shape (suc f) i lt =
      hop_shape labels n S (cell g i) i (well i (omega (arith, lt, tidy.long))) (tidy.proper i) (chase f g) (λ j less. chase_shape f j (omega arith))

  pub find_shape : (i : ℕ) → i < n → S (find g i) ≡ S i
  find_shape i lt = chase_shape i i lt

  module _ (σ : ℕ → Term) (solves : Solves σ g) where
    root_spine : (r : ℕ) (c : Cell) → NotLink c → Shaped labels S r c → Proper n r c → Fits σ r c → ((a : ℕ) (y : Sort) (M : List Sort) (q : Sort) → size (σ a) < size (σ r) → a < n → S a ≡ (y ∷ M ⇒ q) → Spine labels (σ a) (y ∷ M ⇒ q)) → (x : Sort) (N : List Sort) (s : Sort) → S r ≡ (x ∷ N ⇒ s) → Spine labels (σ r) (x ∷ N ⇒ s)
    root_spine r free root sh p fits next x N s is =
        absurd (let wrong : ([] ⇒ sh.0) ≡ (x ∷ N ⇒ s) = sym sh.1 ∙ is in let z : ◌≡◌ {A = ℕ} 0 1 = cc in omega (arith, z))
    root_spine r (link j) root sh p fits next x N s is = absurd root
    root_spine r (atom h) root sh p fits next x N s is = subst (λ t. Spine labels t (x ∷ N ⇒ s)) (sym fits) (sym is ∙ sh)
    root_spine r (apply a b) root sh p fits next x N s is =
        let e : (sh.1 ⇒ sh.2) ≡ (x ∷ N ⇒ s) = sym sh.5 ∙ is in
        let en : sh.1 ≡ x ∷ N = cc in
        let es : sh.2 ≡ s = cc in
        let at : S a ≡ (sh.0 ∷ x ∷ N ⇒ s) = sh.3 ∙ ap₂ (λ (m : List Sort) (r : Sort). sh.0 ∷ m ⇒ r) en es in
        let sizes : size (σ r) ≡ size (σ a) + size (σ b) = ap size fits in
        subst (λ t. Spine labels t (x ∷ N ⇒ s)) (sym fits) (sh.0, next a sh.0 (x ∷ N) s (omega (arith, sizes, size_some (σ b))) p.0 at)

    -- a cell that still takes parts stands for a head with some parts
    cell_spine : (m i : ℕ) → size (σ i) ≤ m → i < n → (x : Sort) (N : List Sort) (s : Sort) → S i ≡ (x ∷ N ⇒ s) → Spine labels (σ i) (x ∷ N ⇒ s)
    cell_spine zero i small lt x N s is = absurd (omega (arith, small, size_some (σ i)))
    cell_spine (suc m) i small lt x N s is =
        let r = find g i in
        let inside : r < n = omega (arith, lt, find_down n g tidy i) in
        let value = find_value σ g solves i in
        let sizes : size (σ r) ≡ size (σ i) = ap size value in
        subst (λ t. Spine labels t (x ∷ N ⇒ s)) value
        (root_spine r (cell g r) (find_root n g tidy i) (well r (omega (arith, inside, tidy.long))) (tidy.proper r) (solves r) (λ a y M q less ina at. cell_spine m a (omega (arith, less, sizes, small)) ina y M q at) x N s (find_shape i lt ∙ is))

    -- two cells that still take parts and stand for one term have one shape
    pub one_shape : (a c : ℕ) → a < n → c < n → σ a ≡ σ c → (x y : Sort) (N M : List Sort) (s r : Sort) → S a ≡ (x ∷ N ⇒ s) → S c ≡ (y ∷ M ⇒ r) → (x ∷ N ⇒ s) ≡ (y ∷ M ⇒ r)
    one_shape a c ina inc e x y N M s r isa isc =
        spine_unique labels (σ a) (x ∷ N ⇒ s) (y ∷ M ⇒ r) (cell_spine (size (σ a)) a (omega arith) ina x N s isa) (subst (λ t. Spine labels t (y ∷ M ⇒ r)) (sym e) (cell_spine (size (σ c)) c (omega arith) inc y M r isc))

    shaped_moved : (i k : ℕ) → S i ≡ S k → (c : Cell) → Shaped labels S k c → Shaped labels S i c
    shaped_moved i k e free sh = (sh.0, e ∙ sh.1)
    shaped_moved i k e (link j) sh = e ∙ sh
    shaped_moved i k e (atom h) sh = e ∙ sh
    shaped_moved i k e (apply a b) sh = (sh.0, sh.1, sh.2, sh.3, sh.4, e ∙ sh.5)

    abbrev LeftShaped : ℕ → Option (Cell × Pairs) → Type 0
    LeftShaped i None = Unit {0}
    LeftShaped i (Some m) = Shaped labels S i m.0 × SamePairs S m.1

    meet_shaped : (i k : ℕ) → σ i ≡ σ k → S i ≡ S k → (c d : Cell) → Proper n i c → Proper n k d → Fits σ i c → Fits σ k d → Shaped labels S i c → Shaped labels S k d → LeftShaped i (meet c d)
    meet_shaped i k e same free d pc pd fc fd sc sd = (shaped_moved i k same d sd, tt)
    meet_shaped i k e same (link j) d pc pd fc fd sc sd = tt
    meet_shaped i k e same (atom h) free pc pd fc fd sc sd = (sc, tt)
    meet_shaped i k e same (atom h) (link j) pc pd fc fd sc sd = tt
    meet_shaped i k e same (atom h) (atom h') pc pd fc fd sc sd =
        elim (eqb (token_of h) (token_of h')) as (λ b. LeftShaped i (cond b (Some (atom h, [])) None)) [ true ↦ (sc, tt) | false ↦ tt ]
    meet_shaped i k e same (atom h) (apply a b) pc pd fc fd sc sd = tt
    meet_shaped i k e same (apply a b) free pc pd fc fd sc sd = (sc, tt)
    meet_shaped i k e same (apply a b) (link j) pc pd fc fd sc sd = tt
    meet_shaped i k e same (apply a b) (atom h) pc pd fc fd sc sd = tt
    meet_shaped i k e same (apply a b) (apply a' b') pc pd fc fd sc sd =
        let both : σ a · σ b ≡ σ a' · σ b' = sym fc ∙ e ∙ fd in
        let l : σ a ≡ σ a' = cc in
        let shapes = one_shape a a' pc.0 pd.0 l sc.0 sd.0 sc.1 sd.1 sc.2 sd.2 sc.3 sd.3 in
        let x : sc.0 ≡ sd.0 = cc in
        (sc, (sc.3 ∙ shapes ∙ sym sd.3, (sc.4 ∙ ap (λ y. [] ⇒ y) x ∙ sym sd.4, tt)))

    linked_shaped : (low high : ℕ) (c : Cell) → S low ≡ S high → Shaped labels S low c → WellShaped labels S (linked g low high c)
    linked_shaped low high c e sh i lt =
        every_set (λ k d. k < n → Shaped labels S k d) (set g low c) high (link low) (every_set (λ k d. k < n → Shaped labels S k d) g low c (λ k less. well k (omega (arith, less, tidy.long))) (λ less. sh)) (λ less. sym e) i (omega (arith, lt, length-set (set g low c) high (link low), length-set g low c, tidy.long))

    settle_shaped : (low high : ℕ) (ps : Pairs) → low < n → high < n → σ low ≡ σ high → S low ≡ S high → SamePairs S ps → (m : Option (Cell × Pairs)) → meet (cell g low) (cell g high) ≡ m → OutShaped labels S (settle g low high ps m)
    settle_shaped low high ps inl' inh e same rest None is = tt
    settle_shaped low high ps inl' inh e same rest (Some m) is =
        let left : LeftShaped low (Some m) = subst (LeftShaped low) is (meet_shaped low high e same (cell g low) (cell g high) (tidy.proper low) (tidy.proper high) (solves low) (solves high) (well low (omega (arith, inl', tidy.long))) (well high (omega (arith, inh, tidy.long)))) in
        (linked_shaped low high m.0 same left.0, same_append S m.1 ps left.1 rest)

    unite_shaped : (p : ℕ × ℕ) (ps : Pairs) → Within n (p ∷ ps) → Equal σ (p ∷ ps) → SamePairs S (p ∷ ps) → (t : Bool) → OutShaped labels S (unite t g (min (find g p.0) (find g p.1)) (max (find g p.0) (find g p.1)) ps)
    unite_shaped p ps within equal same true = (well, same.1)
    unite_shaped p ps within equal same false =
        let a = find g p.0 in
        let b = find g p.1 in
        let ina : a < n = omega (arith, find_down n g tidy p.0, within.0) in
        let inb : b < n = omega (arith, find_down n g tidy p.1, within.1) in
        let values : σ a ≡ σ b = find_value σ g solves p.0 ∙ equal.0 ∙ sym (find_value σ g solves p.1) in
        let shapes : S a ≡ S b = find_shape p.0 within.0 ∙ same.0 ∙ sym (find_shape p.1 within.1) in
        settle_shaped (min a b) (max a b) ps (omega (arith, ina, inb)) (omega (arith, ina, inb))
        (ordered (λ l h. σ l ≡ σ h) a b values (sym values)) (ordered (λ l h. S l ≡ S h) a b shapes (sym shapes)) same.1
        (meet (cell g (min a b)) (cell g (max a b))) refl

    step_shaped : (ps : Pairs) → Within n ps → Equal σ ps → SamePairs S ps → OutShaped labels S (step g ps)
    step_shaped [] within equal same = well
    step_shaped (p ∷ ps) within equal same = unite_shaped p ps within equal same (eqb (find g p.0) (find g p.1))

abbrev pub RunShaped : ℕ → (ℕ → Shape) → Option Graph → Type 0
RunShaped labels S None = Unit {0}
RunShaped labels S (Some g) = WellShaped labels S g

after_shaped : (labels n : ℕ) (S : ℕ → Shape) (σ : ℕ → Term) (g : Graph) (ps : Pairs) → Solves σ g → Equal σ ps → (o : Outcome) → Sound n g ps o → OutShaped labels S o → (on : Graph → Pairs → Option Graph) → ((g' : Graph) (ps' : Pairs) → Kept n g ps g' ps' → WellShaped labels S g' → SamePairs S ps' → RunShaped labels S (on g' ps')) → RunShaped labels S (after o on)
after_shaped labels n S σ g ps solves equal clash sound shaped on next = tt
after_shaped labels n S σ g ps solves equal (solved g') sound shaped on next = shaped
after_shaped labels n S σ g ps solves equal (more g' ps') sound shaped on next = next g' ps' sound shaped.0 shaped.1

-- where there is a solution, the graph that a run leaves has the shapes of the one that it began with
pub run_shaped : (labels n : ℕ) (S : ℕ → Shape) (σ : ℕ → Term) (fuel : ℕ) (g : Graph) (ps : Pairs) → Tidy n g → Within n ps → Solves σ g → Equal σ ps → WellShaped labels S g → SamePairs S ps → RunShaped labels S (run fuel g ps)
run_shaped labels n S σ zero g ps tidy within solves equal well same = tt
run_shaped labels n S σ (suc fuel) g ps tidy within solves equal well same =
    after_shaped labels n S σ g ps solves equal (step g ps) (step_sound n g ps tidy within) (step_shaped labels n S g tidy well σ solves ps within equal same) (run fuel) (λ g' ps' kept well' same'. let r = kept.onto σ solves equal in run_shaped labels n S σ fuel g' ps' kept.tidy kept.within r.0 r.1 well' same')

-- a term of this shape, where the free cells have the sorts of their shapes
abbrev pub SortedAs : ℕ → (ℕ → Shape) → Shape → Term → Type 0
SortedAs labels S (N ⇒ s) t = Sorted (λ k q. S k ≡ ([] ⇒ q)) labels N s t

module _ (labels n : ℕ) (S : ℕ → Shape) (g : Graph) (tidy : Tidy n g) (well : WellShaped labels S g) where
  unroll_sorted : (r : ℕ) (c : Cell) → NotLink c → Shaped labels S r c → Proper n r c → (b : Bool) (test : ℕ → Bool) → below b c test ≡ true → (on : ℕ → Term) → ((j : ℕ) → j < n → test j ≡ true → SortedAs labels S (S j) (on j)) → SortedAs labels S (S r) (unroll c r on)
  unroll_sorted r c root sh p true test passes on next = absurd (both_ways false refl passes)
  unroll_sorted r free root sh p false test passes on next = subst (λ z. SortedAs labels S z (var r)) (sym sh.1) (refl, sh.1)
  unroll_sorted r (link j) root sh p false test passes on next = absurd root
  unroll_sorted r (atom h) root sh p false test passes on next = subst (λ z. SortedAs labels S z (head h)) (sym sh) (refl, refl)
  unroll_sorted r (apply a b) root sh p false test passes on next =
      let both = and_parts (test a) (test b) passes in
      subst (λ z. SortedAs labels S z (on a · on b)) (sym sh.5) (sh.0, subst (λ z. SortedAs labels S z (on a)) sh.3 (next a p.0 both.0), subst (λ z. SortedAs labels S z (on b)) sh.4 (next b p.1 both.1))

  readback_sorted : (fuel : ℕ) (passed : List Bool) (i : ℕ) → i < n → grounded fuel g passed i ≡ true → SortedAs labels S (S i) (readback fuel g i)
  readback_sorted zero passed i lt passes = absurd (both_ways false refl passes)
  readback_sorted (suc fuel) passed i lt passes =
      let r = find g i in
      let inside : r < n = omega (arith, lt, find_down n g tidy i) in
      subst (λ z. SortedAs labels S z (readback (suc fuel) g i)) (find_shape labels n S g tidy well i lt)
      (unroll_sorted r (cell g r) (find_root n g tidy i) (well r (omega (arith, inside, tidy.long))) (tidy.proper r) (get_or passed r false) (grounded fuel g (set passed r true)) passes (readback fuel g) (λ j inj ok. readback_sorted fuel (set passed r true) j inj ok))

  pub term_sorted : acyclic g ≡ true → (i : ℕ) → i < n → SortedAs labels S (S i) (term_of g i)
  term_sorted passes i lt = readback_sorted (suc (length g)) _ i lt (every_at (length g) _ passes i (omega (arith, lt, tidy.long)))
