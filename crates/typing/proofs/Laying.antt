-- Laying terms out as cells: each solution of the graph before goes on to one of the graph after, in
-- which the term's cell has the term's value. Assumes nothing.
use Rattle.std.proofs.Common.{◌≡◌, ℕ, ◌<◌, ◌≤◌, cond, eqb, ◌⊎◌, [], ◌∷◌, ◌++◌, length, sym, refl, ap, ◌∙◌, subst, ap₂, inl, inr, arith}
use Rattle.std.proofs.lemmas.List.{get_or_append_left, get_or_past, get_or_push, length_push}
use Rattle.std.proofs.lemmas.Bool.{cases_lt, cases_eq, eq-eqb, ne_eqb}
use Rattle.typing.specs.Cells.{Cell, free, link, atom, apply, Graph, Pairs, cell}
use Rattle.typing.specs.Solutions.{Fits, Solves, Equal, Proper, Tidy, Within}
pub use Rattle.typing.specs.Layings.{Agree, Laid, Placed}
use Rattle.typing.specs.Solve.{Equations, lay, lay_all}
use Rattle.typing.specs.Solved.{Holds, Bounded, AllBounded}
use Rattle.typing.specs.Terms.{Term, var, head, ◌·◌, fill}

-- the function with another value at k
pub put : (ℕ → Term) → ℕ → Term → ℕ → Term
put σ k v i = cond (eqb i k) v (σ i)

pub put_here : (σ : ℕ → Term) (k : ℕ) (v : Term) → put σ k v k ≡ v
unfolding put
put_here σ k v = ap (λ b. cond b v (σ k)) (eq-eqb k k refl)

pub put_other : (σ : ℕ → Term) (k : ℕ) (v : Term) (i : ℕ) → (i ≡ k → ⊥) → put σ k v i ≡ σ i
unfolding put
put_other σ k v i ne = ap (λ b. cond b v (σ i)) (ne_eqb i k ne)

fits_agree : (n i : ℕ) (σ τ : ℕ → Term) → i < n → Agree n σ τ → (c : Cell) → Proper n i c → Fits τ i c → Fits σ i c
fits_agree n i σ τ lt agree free p f = tt
fits_agree n i σ τ lt agree (link j) p f = agree i lt ∙ f ∙ sym (agree j (omega (arith, p)))
fits_agree n i σ τ lt agree (atom h) p f = agree i lt ∙ f
fits_agree n i σ τ lt agree (apply a b) p f = agree i lt ∙ f ∙ sym (ap₂ ◌·◌ (agree a p.0) (agree b p.1))

pub solves_agree : (n : ℕ) (g : Graph) → Tidy n g → (σ τ : ℕ → Term) → Agree n σ τ → Solves τ g → Solves σ g
solves_agree n g tidy σ τ agree solves i = by_place (cases_lt i n)
  where
    by_place : (i < n) ⊎ (n ≤ i) → Fits σ i (cell g i)
    by_place (inl lt) = fits_agree n i σ τ lt agree (cell g i) (tidy.proper i) (solves i)
    by_place (inr le) = subst (Fits σ i) (sym (get_or_past g i free (omega (arith, tidy.long)))) tt

proper_more : (n m i : ℕ) → n ≤ m → (c : Cell) → Proper n i c → Proper m i c
proper_more n m i le free p = tt
proper_more n m i le (link j) p = p
proper_more n m i le (atom h) p = tt
proper_more n m i le (apply a b) p = (omega (arith, p.0), omega (arith, p.1))

-- a property of every cell, with one more cell behind them
every_push : (P : ℕ → Cell → Type 0) (g : Graph) (c : Cell) → ((i : ℕ) → P i free) → ((i : ℕ) → P i (cell g i)) → P (length g) c → (i : ℕ) → P i (cell (g ++ c ∷ []) i)
every_push P g c none all here i = by_place (cases_lt i (length g)) (cases_eq i (length g))
  where
    by_place : (i < length g) ⊎ (length g ≤ i) → (i ≡ length g) ⊎ (i ≡ length g → ⊥) → P i (cell (g ++ c ∷ []) i)
    by_place (inl lt) e = subst (P i) (sym (get_or_append_left g (c ∷ []) free i lt)) (all i)
    by_place (inr le) (inl e) = subst (λ x. P x (cell (g ++ c ∷ []) x)) (sym e) (subst (P (length g)) (sym (get_or_push g c free (length g) refl)) here)
    by_place (inr le) (inr ne) = subst (P i) (sym (get_or_past (g ++ c ∷ []) i free (omega (arith, length_push g c, ne)))) (none i)

pub push_tidy : (g : Graph) (c : Cell) → Tidy (length g) g → Proper (length g) (length g) c → Tidy (length (g ++ c ∷ [])) (g ++ c ∷ [])
push_tidy g c tidy p =
    let le : length g ≤ length (g ++ c ∷ []) = omega (arith, length_push g c) in
    record { long = refl; proper = every_push (Proper (length (g ++ c ∷ []))) g c (λ i. tt) (λ i. proper_more (length g) (length (g ++ c ∷ [])) i le (cell g i) (tidy.proper i)) (proper_more (length g) (length (g ++ c ∷ [])) (length g) le c p) }

pub push_back : (g : Graph) (c : Cell) (σ : ℕ → Term) → Solves σ (g ++ c ∷ []) → Solves σ g × Fits σ (length g) c
push_back g c σ solves = (old, subst (Fits σ (length g)) (get_or_push g c free (length g) refl) (solves (length g)))
  where
    old : (i : ℕ) → Fits σ i (cell g i)
    old i = by_place (cases_lt i (length g))
      where
        by_place : (i < length g) ⊎ (length g ≤ i) → Fits σ i (cell g i)
        by_place (inl lt) = subst (Fits σ i) (get_or_append_left g (c ∷ []) free i lt) (solves i)
        by_place (inr le) = subst (Fits σ i) (sym (get_or_past g i free le)) tt

-- the value of a cell, where those of its parts are known
valued : (ℕ → Term) → Cell → Term
valued σ free = var 0
valued σ (link j) = σ j
valued σ (atom h) = head h
valued σ (apply a b) = σ a · σ b

valued_fits : (σ : ℕ → Term) (n : ℕ) (c : Cell) → Proper n n c → Fits (put σ n (valued σ c)) n c
unfolding valued
valued_fits σ n free p = tt
valued_fits σ n (link j) p = put_here σ n (σ j) ∙ sym (put_other σ n (σ j) j (omega (arith, p)))
valued_fits σ n (atom h) p = put_here σ n (head h)
valued_fits σ n (apply a b) p =
    put_here σ n (σ a · σ b) ∙ sym (ap₂ ◌·◌ (put_other σ n (σ a · σ b) a (omega (arith, p.0))) (put_other σ n (σ a · σ b) b (omega (arith, p.1))))

pub laid_none : (g : Graph) → Tidy (length g) g → Laid g g
laid_none g tidy = record { longer = omega arith; tidy = tidy; back = λ σ solves. solves; onto = λ σ solves. (σ, solves, λ i lt. refl) }

pub laid_push : (g : Graph) (c : Cell) → Tidy (length g) g → Proper (length g) (length g) c → Laid g (g ++ c ∷ [])
laid_push g c tidy p = record { longer = omega (arith, length_push g c); tidy = push_tidy g c tidy p; back = λ σ solves. (push_back g c σ solves).0; onto = onto }
  where
    onto : (σ : ℕ → Term) → Solves σ g → (τ : ℕ → Term) × Solves τ (g ++ c ∷ []) × Agree (length g) τ σ
    onto σ solves =
        let τ = put σ (length g) (valued σ c) in
        let agree : Agree (length g) τ σ = λ i lt. put_other σ (length g) (valued σ c) i (omega arith) in
        (τ, every_push (Fits τ) g c (λ i. tt) (solves_agree (length g) g tidy τ σ agree solves) (valued_fits σ (length g) c p), agree)

pub laid_more : (g g' g'' : Graph) → Laid g g' → Laid g' g'' → Laid g g''
laid_more g g' g'' a b = record { longer = omega (arith, a.longer, b.longer); tidy = b.tidy; back = λ σ solves. a.back σ (b.back σ solves); onto = onto }
  where
    onto : (σ : ℕ → Term) → Solves σ g → (τ : ℕ → Term) × Solves τ g'' × Agree (length g) τ σ
    onto σ solves =
        let one = a.onto σ solves in
        let two = b.onto one.0 one.1 in
        (two.0, two.1, λ i lt. two.2 i (omega (arith, a.longer)) ∙ one.2 i lt)

pub bounded_more : (n m : ℕ) → n ≤ m → (t : Term) → Bounded n t → Bounded m t
bounded_more n m le (var k) b = omega (arith, b)
bounded_more n m le (head h) b = tt
bounded_more n m le (f · x) b = (bounded_more n m le f b.0, bounded_more n m le x b.1)

pub lay_placed : (t : Term) (g : Graph) → Tidy (length g) g → Bounded (length g) t → Placed t g (lay t g).0 (lay t g).1
lay_placed (var k) g tidy b = record { laid = laid_none g tidy; inside = b; value = λ σ solves. refl }
lay_placed (head h) g tidy b = record { laid = laid_push g (atom h) tidy tt; inside = omega (arith, length_push g (atom h)); value = λ σ solves. (push_back g (atom h) σ solves).1 }
lay_placed (f · x) g tidy b = both (lay_placed f g tidy b.0) (λ tidy' b'. lay_placed x (lay f g).0 tidy' b')
  where
    both : Placed f g (lay f g).0 (lay f g).1 → (Tidy (length (lay f g).0) (lay f g).0 → Bounded (length (lay f g).0) x → Placed x (lay f g).0 (lay x (lay f g).0).0 (lay x (lay f g).0).1) → Placed (f · x) g (lay (f · x) g).0 (lay (f · x) g).1
    both p later =
        let q = later p.laid.tidy (bounded_more (length g) (length (lay f g).0) p.laid.longer x b.1) in
        let c = apply (lay f g).1 (lay x (lay f g).0).1 in
        let h = (lay x (lay f g).0).0 in
        let inl_side : (lay f g).1 < length h = omega (arith, p.inside, q.laid.longer) in
        record { laid = laid_more g h (h ++ c ∷ []) (laid_more g (lay f g).0 h p.laid q.laid) (laid_push h c q.laid.tidy (inl_side, q.inside)); inside = omega (arith, length_push h c); value = λ σ solves. let s = push_back h c σ solves in s.1 ∙ ap₂ ◌·◌ (p.value σ (q.laid.back σ s.0)) (q.value σ s.0) }

pub record AllPlaced (es : Equations) (g g' : Graph) (ps : Pairs) : Type 0 where
  pub laid : Laid g g'
  pub within : Within (length g') ps
  pub onto : (σ : ℕ → Term) → Solves σ g' → Holds σ es → Equal σ ps
  pub back : (σ : ℕ → Term) → Solves σ g' → Equal σ ps → Holds σ es

pub all_bounded_more : (n m : ℕ) → n ≤ m → (es : Equations) → AllBounded n es → AllBounded m es
all_bounded_more n m le [] b = tt
all_bounded_more n m le (e ∷ es) b = (bounded_more n m le e.0 b.0, bounded_more n m le e.1 b.1, all_bounded_more n m le es b.2)

pub lay_all_placed : (es : Equations) (g : Graph) → Tidy (length g) g → AllBounded (length g) es → AllPlaced es g (lay_all es g).0 (lay_all es g).1
lay_all_placed [] g tidy b = record { laid = laid_none g tidy; within = tt; onto = λ σ solves h. tt; back = λ σ solves q. tt }
lay_all_placed (e ∷ es) g tidy b =
    let p = lay_placed e.0 g tidy b.0 in
    let g₁ = (lay e.0 g).0 in
    let q = lay_placed e.1 g₁ p.laid.tidy (bounded_more (length g) (length g₁) p.laid.longer e.1 b.1) in
    let g₂ = (lay e.1 g₁).0 in
    let le : length g ≤ length g₂ = omega (arith, p.laid.longer, q.laid.longer) in
    joined p q (lay_all_placed es g₂ q.laid.tidy (all_bounded_more (length g) (length g₂) le es b.2))
  where
    joined : Placed e.0 g (lay e.0 g).0 (lay e.0 g).1 → Placed e.1 (lay e.0 g).0 (lay e.1 (lay e.0 g).0).0 (lay e.1 (lay e.0 g).0).1 → AllPlaced es (lay e.1 (lay e.0 g).0).0 (lay_all es (lay e.1 (lay e.0 g).0).0).0 (lay_all es (lay e.1 (lay e.0 g).0).0).1 → AllPlaced (e ∷ es) g (lay_all (e ∷ es) g).0 (lay_all (e ∷ es) g).1
    joined p q r =
        let g₁ = (lay e.0 g).0 in
        let g₂ = (lay e.1 g₁).0 in
        let g₃ = (lay_all es g₂).0 in
        let i = (lay e.0 g).1 in
        let j = (lay e.1 g₁).1 in
        let first : (σ : ℕ → Term) → Solves σ g₃ → σ i ≡ fill σ e.0 = λ σ solves. p.value σ (q.laid.back σ (r.laid.back σ solves)) in
        let second : (σ : ℕ → Term) → Solves σ g₃ → σ j ≡ fill σ e.1 = λ σ solves. q.value σ (r.laid.back σ solves) in
        record { laid = laid_more g g₁ g₃ p.laid (laid_more g₁ g₂ g₃ q.laid r.laid); within = (omega (arith, p.inside, q.laid.longer, r.laid.longer), omega (arith, q.inside, r.laid.longer), r.within); onto = λ σ solves h. (first σ solves ∙ h.0 ∙ sym (second σ solves), r.onto σ solves h.1); back = λ σ solves h. (sym (first σ solves) ∙ h.0 ∙ second σ solves, r.back σ solves h.1) }
