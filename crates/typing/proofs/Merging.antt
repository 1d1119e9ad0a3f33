-- Merging cells keeps the solutions in which they are equal. Assumes nothing.
use Rattle.std.proofs.Common.{◌≡◌, ℕ, zero, suc, ◌+◌, ◌*◌, ◌<◌, ◌≤◌, min, max, Bool, true, false, cond, eqb, ◌⊎◌, [], ◌∷◌, ◌++◌, length, set, Some, None, Option, sym, refl, ap, ◌∙◌, subst, subst₂, inl, inr, arith, length-append, length-set}
use Rattle.std.proofs.lemmas.List.{get_or-set_same, get_or-set_other}
use Rattle.std.proofs.lemmas.Bool.{cases_eq, cases_lt, eqb-true, eqb-false}
use Rattle.typing.specs.Heads.{token_of, head_of}
use Rattle.typing.specs.Cells.{Cell, free, link, atom, apply, Graph, Pairs, cell, find, meet, Outcome, clash, solved, more, linked, settle, unite, step, after, run, unify}
use Rattle.typing.specs.Solutions.{Fits, Solves, Equal, Proper, Tidy, Within, NotLink, weight, live}
use Rattle.typing.specs.Terms.{Term, head, ◌·◌}
use Rattle.typing.specs.declared.head.Head.{Head}
use Rattle.typing.specs.declared.head.Head.TheVariants.{Num, Fun, Rec, Absent, Present}
use Rattle.typing.proofs.Finding.{find_value, find_root, find_down, every_set, tidy_set}

-- heads with one token are equal
pub head_of_token : (h : Head) → head_of (token_of h) ≡ Some h
head_of_token Num = refl
head_of_token Fun = refl
head_of_token Rec = refl
head_of_token Absent = refl
head_of_token Present = refl

pub token_apart : (h k : Head) → token_of h ≡ token_of k → h ≡ k
token_apart h k e = let some : Some h ≡ Some k = sym (head_of_token h) ∙ ap head_of e ∙ head_of_token k in cc

-- What a meeting of two cells says of every solution in which they are equal.
abbrev Met : (ℕ → Term) → ℕ → ℕ → Cell → Cell → Option (Cell × Pairs) → Type 0
Met σ i k c d None = Fits σ i c → Fits σ k d → ⊥
Met σ i k c d (Some m) =
    (Fits σ i c → Fits σ k d → Fits σ i m.0 × Equal σ m.1) × (Fits σ i m.0 → Equal σ m.1 → Fits σ i c × Fits σ k d)

fits_moved : (σ : ℕ → Term) (i k : ℕ) → σ i ≡ σ k → (c : Cell) → Fits σ i c → Fits σ k c
fits_moved σ i k e free f = tt
fits_moved σ i k e (link j) f = sym e ∙ f
fits_moved σ i k e (atom h) f = sym e ∙ f
fits_moved σ i k e (apply a b) f = sym e ∙ f

meet_atoms : (σ : ℕ → Term) (i k : ℕ) → σ i ≡ σ k → (h h' : Head) (b : Bool) → eqb (token_of h) (token_of h') ≡ b → Met σ i k (atom h) (atom h') (cond b (Some (atom h, [])) None)
meet_atoms σ i k e h h' true is =
    let same : h ≡ h' = token_apart h h' (eqb-true _ _ is) in
    ((λ f f'. (f, tt)), (λ f q. (f, sym e ∙ f ∙ ap head same)))
meet_atoms σ i k e h h' false is = λ f f'.
    let same : h ≡ h' = cc in
    eqb-false _ _ is (ap token_of same)

meet_met : (σ : ℕ → Term) (i k : ℕ) → σ i ≡ σ k → (c d : Cell) → NotLink c → NotLink d → Met σ i k c d (meet c d)
meet_met σ i k e free d rc rd = ((λ f f'. (fits_moved σ k i (sym e) d f', tt)), (λ f q. (tt, fits_moved σ i k e d f)))
meet_met σ i k e (link j) d rc rd = absurd rc
meet_met σ i k e (atom h) free rc rd = ((λ f f'. (f, tt)), (λ f q. (f, tt)))
meet_met σ i k e (atom h) (link j) rc rd = absurd rd
meet_met σ i k e (atom h) (atom h') rc rd = meet_atoms σ i k e h h' (eqb (token_of h) (token_of h')) refl
meet_met σ i k e (atom h) (apply a b) rc rd = λ f f'. let wrong : head h ≡ σ a · σ b = sym f ∙ e ∙ f' in let z : ◌≡◌ {A = ℕ} 0 1 = cc in omega arith
meet_met σ i k e (apply a b) free rc rd = ((λ f f'. (f, tt)), (λ f q. (f, tt)))
meet_met σ i k e (apply a b) (link j) rc rd = absurd rd
meet_met σ i k e (apply a b) (atom h) rc rd = λ f f'. let wrong : head h ≡ σ a · σ b = sym f' ∙ sym e ∙ f in let z : ◌≡◌ {A = ℕ} 0 1 = cc in omega arith
meet_met σ i k e (apply a b) (apply a' b') rc rd = (
  (λ f f'. let both : σ a · σ b ≡ σ a' · σ b' = sym f ∙ e ∙ f' in
      let l : σ a ≡ σ a' = cc in
      let r : σ b ≡ σ b' = cc in
      (f, (l, (r, tt)))),
  (λ f q.
      let l : σ a ≡ σ a' = q.0 in
      let r : σ b ≡ σ b' = q.1.0 in
      let g : σ k ≡ σ a' · σ b' = cc in
      (f, g)),
)

-- What a meeting leaves: a cell that is no link, in the place of the first, and at most two pairs.
abbrev pub Left : ℕ → ℕ → Option (Cell × Pairs) → Type 0
Left n i None = Unit {0}
Left n i (Some m) = Proper n i m.0 × (weight m.0 ≡ 1) × Within n m.1 × (length m.1 ≤ 2)

pub meet_left : (n i k : ℕ) (c d : Cell) → NotLink c → NotLink d → Proper n i c → Proper n k d → Left n i (meet c d)
meet_left n i k free free rc rd pc pd = (tt, refl, tt, omega arith)
meet_left n i k free (link j) rc rd pc pd = absurd rd
meet_left n i k free (atom h) rc rd pc pd = (tt, refl, tt, omega arith)
meet_left n i k free (apply a b) rc rd pc pd = (pd, refl, tt, omega arith)
meet_left n i k (link j) d rc rd pc pd = absurd rc
meet_left n i k (atom h) free rc rd pc pd = (tt, refl, tt, omega arith)
meet_left n i k (atom h) (link j) rc rd pc pd = absurd rd
meet_left n i k (atom h) (atom h') rc rd pc pd =
    elim (eqb (token_of h) (token_of h')) as (λ b. Left n i (cond b (Some (atom h, [])) None)) [ true ↦ (tt, refl, tt, omega arith) | false ↦ tt ]
meet_left n i k (atom h) (apply a b) rc rd pc pd = tt
meet_left n i k (apply a b) free rc rd pc pd = (pc, refl, tt, omega arith)
meet_left n i k (apply a b) (link j) rc rd pc pd = absurd rd
meet_left n i k (apply a b) (atom h) rc rd pc pd = tt
meet_left n i k (apply a b) (apply a' b') rc rd pc pd = (pc, refl, (pc.0, pd.0, (pc.1, pd.1, tt)), omega arith)

pub live_set : (g : Graph) (k : ℕ) (c : Cell) → k < length g → live (set g k c) + weight (cell g k) ≡ live g + weight c
live_set [] k c lt = absurd (omega arith)
live_set (d ∷ g) zero c lt = omega arith
live_set (d ∷ g) (suc k) c lt = omega (arith, live_set g k c (omega arith))

pub weight_root : (c : Cell) → NotLink c → weight c ≡ 1
weight_root free r = refl
weight_root (link j) r = absurd r
weight_root (atom h) r = refl
weight_root (apply a b) r = refl

pub within_append : (n : ℕ) (ps qs : Pairs) → Within n ps → Within n qs → Within n (ps ++ qs)
within_append n [] qs wp wq = wq
within_append n (p ∷ ps) qs wp wq = (wp.0, wp.1, within_append n ps qs wp.2 wq)

pub equal_append : (σ : ℕ → Term) (ps qs : Pairs) → Equal σ ps → Equal σ qs → Equal σ (ps ++ qs)
equal_append σ [] qs ep eq = eq
equal_append σ (p ∷ ps) qs ep eq = (ep.0, equal_append σ ps qs ep.1 eq)

pub equal_parts : (σ : ℕ → Term) (ps qs : Pairs) → Equal σ (ps ++ qs) → Equal σ ps × Equal σ qs
equal_parts σ [] qs e = (tt, e)
equal_parts σ (p ∷ ps) qs e = let r = equal_parts σ ps qs e.1 in ((e.0, r.0), r.1)

-- The pairs ps over the graph g have the solutions that ps' have over g', and less is left to do.
pub record Kept (n : ℕ) (g : Graph) (ps : Pairs) (g' : Graph) (ps' : Pairs) : Type 0 where
  pub tidy : Tidy n g'
  pub within : Within n ps'
  pub less : 3 * live g' + length ps' < 3 * live g + length ps
  pub onto : (σ : ℕ → Term) → Solves σ g → Equal σ ps → Solves σ g' × Equal σ ps'
  pub back : (σ : ℕ → Term) → Solves σ g' → Equal σ ps' → Solves σ g × Equal σ ps

abbrev pub Sound : ℕ → Graph → Pairs → Outcome → Type 0
Sound n g ps clash = (σ : ℕ → Term) → Solves σ g → Equal σ ps → ⊥
Sound n g ps (solved g') = (g ≡ g') × (ps ≡ [])
Sound n g ps (more g' ps') = Kept n g ps g' ps'

-- two different roots of one graph
module _ (n : ℕ) (g : Graph) (tidy : Tidy n g) (low high : ℕ) (lt : low < high) (inside : high < n) (root-low : NotLink (cell g low)) (root-high : NotLink (cell g high)) where
  high_inside : high < length g
  high_inside = omega (arith, tidy.long)

  other : low ≡ high → ⊥
  other e = omega arith

  linked_onto : (σ : ℕ → Term) (c : Cell) → σ low ≡ σ high → Solves σ g → Fits σ low c → Solves σ (linked g low high c)
  linked_onto σ c e solves fits = every_set (Fits σ) (set g low c) high (link low) (every_set (Fits σ) g low c solves fits) (sym e)

  at_high : (c : Cell) → cell (linked g low high c) high ≡ link low
  at_high c = get_or-set_same (set g low c) high (link low) free (omega (arith, length-set g low c, high_inside))

  at_low : (c : Cell) → cell (linked g low high c) low ≡ c
  at_low c = get_or-set_other (set g low c) high low (link low) free other ∙ get_or-set_same g low c free (omega (arith, high_inside))

  elsewhere : (c : Cell) (i : ℕ) → (i ≡ low → ⊥) → (i ≡ high → ⊥) → cell (linked g low high c) i ≡ cell g i
  elsewhere c i nl nh = get_or-set_other (set g low c) high i (link low) free nh ∙ get_or-set_other g low i c free nl

  linked_equal : (σ : ℕ → Term) (c : Cell) → Solves σ (linked g low high c) → σ low ≡ σ high
  linked_equal σ c solves = sym (subst (Fits σ high) (at_high c) (solves high))

  linked_fits : (σ : ℕ → Term) (c : Cell) → Solves σ (linked g low high c) → Fits σ low c
  linked_fits σ c solves = subst (Fits σ low) (at_low c) (solves low)

  linked_back : (σ : ℕ → Term) (c : Cell) → Solves σ (linked g low high c) → Fits σ low (cell g low) → Fits σ high (cell g high) → Solves σ g
  linked_back σ c solves fl fh i = by_place (cases_eq i low) (cases_eq i high)
    where
      by_place : (i ≡ low) ⊎ (i ≡ low → ⊥) → (i ≡ high) ⊎ (i ≡ high → ⊥) → Fits σ i (cell g i)
      by_place (inl e) h = subst (λ x. Fits σ x (cell g x)) (sym e) fl
      by_place (inr ne) (inl e) = subst (λ x. Fits σ x (cell g x)) (sym e) fh
      by_place (inr nl) (inr nh) = subst (Fits σ i) (elsewhere c i nl nh) (solves i)

  linked_tidy : (c : Cell) → Proper n low c → Tidy n (linked g low high c)
  linked_tidy c p = tidy_set n (set g low c) high (link low) (tidy_set n g low c tidy p) lt

  linked_live : (c : Cell) → weight c ≡ 1 → live (linked g low high c) + 1 ≡ live g
  linked_live c one =
      let a = live_set g low c (omega (arith, high_inside)) in
      let b = live_set (set g low c) high (link low) (omega (arith, length-set g low c, high_inside)) in
      let d : weight (cell (set g low c) high) ≡ 1 = ap weight (get_or-set_other g low high c free (λ e. other (sym e))) ∙ weight_root (cell g high) root-high in
      omega (arith, a, b, d, one, weight_root (cell g low) root-low)

  module _ (p : ℕ × ℕ) (ps : Pairs) (rest : Within n ps) (to : (σ : ℕ → Term) → Solves σ g → σ p.0 ≡ σ p.1 → σ low ≡ σ high) (from : (σ : ℕ → Term) → Solves σ g → σ low ≡ σ high → σ p.0 ≡ σ p.1) where
    settle_sound : (m : Option (Cell × Pairs)) → meet (cell g low) (cell g high) ≡ m → Sound n g (p ∷ ps) (settle g low high ps m)
    settle_sound None is = λ σ solves equal.
        let e : σ low ≡ σ high = to σ solves equal.0 in
        let met : Met σ low high (cell g low) (cell g high) None = subst (Met σ low high (cell g low) (cell g high)) is (meet_met σ low high e (cell g low) (cell g high) root-low root-high) in
        met (solves low) (solves high)
    settle_sound (Some m) is =
        let left : Left n low (Some m) = subst (Left n low) is (meet_left n low high (cell g low) (cell g high) root-low root-high (tidy.proper low) (tidy.proper high)) in
        record { tidy = linked_tidy m.0 left.0; within = within_append n m.1 ps left.2 rest; less = omega (arith, linked_live m.0 left.1, length-append m.1 ps, left.3); onto = onto; back = back }
      where
        met : (σ : ℕ → Term) → σ low ≡ σ high → Met σ low high (cell g low) (cell g high) (Some m)
        met σ e = subst (Met σ low high (cell g low) (cell g high)) is (meet_met σ low high e (cell g low) (cell g high) root-low root-high)

        onto : (σ : ℕ → Term) → Solves σ g → Equal σ (p ∷ ps) → Solves σ (linked g low high m.0) × Equal σ (m.1 ++ ps)
        onto σ solves equal =
            let e = to σ solves equal.0 in
            let r = (met σ e).0 (solves low) (solves high) in
            (linked_onto σ m.0 e solves r.0, equal_append σ m.1 ps r.1 equal.1)

        back : (σ : ℕ → Term) → Solves σ (linked g low high m.0) → Equal σ (m.1 ++ ps) → Solves σ g × Equal σ (p ∷ ps)
        back σ solves equal =
            let e = linked_equal σ m.0 solves in
            let both = equal_parts σ m.1 ps equal in
            let r = (met σ e).1 (linked_fits σ m.0 solves) both.0 in
            let old = linked_back σ m.0 solves r.0 r.1 in
            (old, (from σ old e, both.1))

pub ordered : (P : ℕ → ℕ → Type 0) (a b : ℕ) → P a b → P b a → P (min a b) (max a b)
ordered P a b pab pba = by_order (cases_lt a b)
  where
    by_order : (a < b) ⊎ (b ≤ a) → P (min a b) (max a b)
    by_order (inl lt) =
        let l : a ≡ min a b = omega arith in
        let h : b ≡ max a b = omega arith in
        subst₂ P l h pab
    by_order (inr le) =
        let l : b ≡ min a b = omega arith in
        let h : a ≡ max a b = omega arith in
        subst₂ P l h pba

-- the first pair is made equal
module _ (n : ℕ) (g : Graph) (tidy : Tidy n g) (p : ℕ × ℕ) (ps : Pairs) (within : Within n (p ∷ ps)) where
  roots_equal : (σ : ℕ → Term) → Solves σ g → σ p.0 ≡ σ p.1 → σ (find g p.0) ≡ σ (find g p.1)
  roots_equal σ solves e = find_value σ g solves p.0 ∙ e ∙ sym (find_value σ g solves p.1)

  pair_equal : (σ : ℕ → Term) → Solves σ g → σ (find g p.0) ≡ σ (find g p.1) → σ p.0 ≡ σ p.1
  pair_equal σ solves e = sym (find_value σ g solves p.0) ∙ e ∙ find_value σ g solves p.1

  unite_sound : (t : Bool) → eqb (find g p.0) (find g p.1) ≡ t → Sound n g (p ∷ ps) (unite t g (min (find g p.0) (find g p.1)) (max (find g p.0) (find g p.1)) ps)
  unite_sound true is =
      let same : find g p.0 ≡ find g p.1 = eqb-true _ _ is in
      record { tidy = tidy; within = within.2; less = omega arith; onto = λ σ solves equal. (solves, equal.1); back = λ σ solves equal. (solves, (pair_equal σ solves (ap σ same), equal)) }
  unite_sound false is =
      let a = find g p.0 in
      let b = find g p.1 in
      let apart : a ≡ b → ⊥ = eqb-false _ _ is in
      let ina : a < n = omega (arith, find_down n g tidy p.0, within.0) in
      let inb : b < n = omega (arith, find_down n g tidy p.1, within.1) in
      let roots : NotLink (cell g (min a b)) × NotLink (cell g (max a b)) = ordered (λ l h. NotLink (cell g l) × NotLink (cell g h)) a b (find_root n g tidy p.0, find_root n g tidy p.1) (find_root n g tidy p.1, find_root n g tidy p.0) in
      settle_sound n g tidy (min a b) (max a b) (omega (arith, apart)) (omega (arith, ina, inb)) roots.0 roots.1 p ps within.2
      (λ σ solves e. ordered (λ l h. σ l ≡ σ h) a b (roots_equal σ solves e) (sym (roots_equal σ solves e)))
      (λ σ solves e. pair_equal σ solves (ordered (λ l h. σ l ≡ σ h → σ a ≡ σ b) a b (λ q. q) (λ q. sym q) e))
      (meet (cell g (min a b)) (cell g (max a b))) refl

pub step_sound : (n : ℕ) (g : Graph) (ps : Pairs) → Tidy n g → Within n ps → Sound n g ps (step g ps)
step_sound n g [] tidy within = (refl, refl)
step_sound n g (p ∷ ps) tidy within = unite_sound n g tidy p ps within (eqb (find g p.0) (find g p.1)) refl

-- What a run says: the graph that it leaves has the solutions of the graph in which the pairs are
-- equal, or there are none.
abbrev pub Ran : ℕ → Graph → Pairs → Option Graph → Type 0
Ran n g ps None = (σ : ℕ → Term) → Solves σ g → Equal σ ps → ⊥
Ran n g ps (Some g') =
    Tidy n g' × ((σ : ℕ → Term) → Solves σ g → Equal σ ps → Solves σ g') × ((σ : ℕ → Term) → Solves σ g' → Solves σ g × Equal σ ps)

ran_kept : (n : ℕ) (g g' : Graph) (ps ps' : Pairs) → Kept n g ps g' ps' → (o : Option Graph) → Ran n g' ps' o → Ran n g ps o
ran_kept n g g' ps ps' kept None ran = λ σ solves equal. let r = kept.onto σ solves equal in ran σ r.0 r.1
ran_kept n g g' ps ps' kept (Some g'') ran =
    (ran.0, (λ σ solves equal. let r = kept.onto σ solves equal in ran.1 σ r.0 r.1), (λ σ solves. let r = ran.2 σ solves in kept.back σ r.0 r.1))

after_ran : (n : ℕ) (g : Graph) (ps : Pairs) → Tidy n g → (o : Outcome) → Sound n g ps o → (on : Graph → Pairs → Option Graph) → ((g' : Graph) (ps' : Pairs) → Kept n g ps g' ps' → Ran n g' ps' (on g' ps')) → Ran n g ps (after o on)
after_ran n g ps tidy clash sound on next = sound
after_ran n g ps tidy (solved g') sound on next =
    subst (λ x. Ran n g ps (Some x)) sound.0 (tidy, (λ σ solves equal. solves), (λ σ solves. (solves, subst (Equal σ) (sym sound.1) tt)))
after_ran n g ps tidy (more g' ps') kept on next = ran_kept n g g' ps ps' kept (on g' ps') (next g' ps' kept)

pub run_ran : (fuel n : ℕ) (g : Graph) (ps : Pairs) → Tidy n g → Within n ps → 3 * live g + length ps < fuel → Ran n g ps (run fuel g ps)
run_ran zero n g ps tidy within less = absurd (omega arith)
run_ran (suc fuel) n g ps tidy within less =
    after_ran n g ps tidy (step g ps) (step_sound n g ps tidy within) (run fuel) (λ g' ps' kept. run_ran fuel n g' ps' kept.tidy kept.within (omega (arith, kept.less)))

pub live_length : (g : Graph) → live g ≤ length g
live_length [] = omega arith
live_length (free ∷ g) = omega (arith, live_length g)
live_length (link j ∷ g) = omega (arith, live_length g)
live_length (atom h ∷ g) = omega (arith, live_length g)
live_length (apply a b ∷ g) = omega (arith, live_length g)

pub unify_ran : (n : ℕ) (g : Graph) (ps : Pairs) → Tidy n g → Within n ps → Ran n g ps (unify g ps)
unify_ran n g ps tidy within = run_ran (3 * length g + length ps + 1) n g ps tidy within (omega (arith, live_length g))

-- More fuel than the work that is left changes nothing, so a run goes on where one step leaves it.
after_any : (n : ℕ) (g : Graph) (ps : Pairs) (o : Outcome) → Sound n g ps o → (on on' : Graph → Pairs → Option Graph) → ((g' : Graph) (ps' : Pairs) → Kept n g ps g' ps' → on g' ps' ≡ on' g' ps') → after o on ≡ after o on'
after_any n g ps clash sound on on' same = refl
after_any n g ps (solved g') sound on on' same = refl
after_any n g ps (more g' ps') kept on on' same = same g' ps' kept

run_any : (n f f' : ℕ) (g : Graph) (ps : Pairs) → Tidy n g → Within n ps → 3 * live g + length ps < f → 3 * live g + length ps < f' → run f g ps ≡ run f' g ps
run_any n zero f' g ps tidy within less less' = absurd (omega arith)
run_any n (suc f) zero g ps tidy within less less' = absurd (omega arith)
run_any n (suc f) (suc f') g ps tidy within less less' =
    after_any n g ps (step g ps) (step_sound n g ps tidy within) (run f) (run f') (λ g' ps' kept. run_any n f f' g' ps' kept.tidy kept.within (omega (arith, kept.less)) (omega (arith, kept.less)))

-- one step of a run
pub unify_step : (n : ℕ) (g : Graph) (ps : Pairs) → Tidy n g → Within n ps → unify g ps ≡ after (step g ps) unify
unify_step n g ps tidy within =
    let fuel = 3 * length g + length ps in
    let le = live_length g in
    run_any n (fuel + 1) (suc fuel) g ps tidy within (omega (arith, le)) (omega (arith, le)) ∙ after_any n g ps (step g ps) (step_sound n g ps tidy within) (run fuel) unify (λ g' ps' kept. run_any n fuel (3 * length g' + length ps' + 1) g' ps' kept.tidy kept.within (omega (arith, kept.less, le)) (omega (arith, live_length g')))
