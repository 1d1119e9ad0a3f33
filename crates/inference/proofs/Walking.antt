-- A walk down a graph of cells: what it means where it comes back to an open cell, and what it leaves
-- where it does not. Assumes nothing.
use Rattle.std.proofs.Common.{◌≡◌, ℕ, zero, suc, ◌+◌, ◌<◌, ◌≤◌, max, true, false, cond, eqb, ◌⊎◌, List, [], ◌∷◌, length, set, sym, refl, ap, ◌∙◌, subst, ap₂, inl, inr, arith}
use Rattle.std.proofs.lemmas.List.{get_or-set_same, get_or_past, get_or-set_other, length-set}
use Rattle.std.proofs.lemmas.Bool.{cases_Bool, cases_eq, cases_lt, eq-eqb, ne_eqb}
use Rattle.typing.specs.Cells.{Graph, cell, find, readback, unroll, acyclic, term_of}
use Rattle.typing.specs.declared.cell.Cell.{Cell}
use Rattle.typing.specs.declared.cell.Cell.TheVariants.{Free as free, Link as link, Atom as atom, Apply as apply}
use Rattle.typing.specs.Solutions.{Fits, Solves, Tidy, NotLink}
use Rattle.typing.specs.Terms.{Term, var, ◌·◌, fill}
use Rattle.typing.specs.Sizes.{size}
use Rattle.inference.specs.Walks.{mark, is_unseen, unseen, Under, Sinks, Ranks, PartsRank, Ranked, Walked, Fresh}
use Rattle.inference.specs.declared.cycle.Mark.{Mark}
use Rattle.inference.specs.declared.cycle.Mark.TheVariants.{Unseen, Open, Done}
use Rattle.typing.proofs.Finding.{find_value, find_stays, find_link}
use Rattle.typing.proofs.Occurs.{acyclic_holds, size_some, term_solves}

-- a mark that is written, and the others
module _ (ms : List Mark) (r : ℕ) (m : Mark) (within : r < length ms) where
  marked : mark (set ms r m) r ≡ m
  marked = get_or-set_same ms r m Unseen within

  others : (o : ℕ) → (o ≡ r → ⊥) → mark (set ms r m) o ≡ mark ms o
  others o ne = get_or-set_other ms r o m Unseen ne

unseen_set : (ms : List Mark) (r : ℕ) (m : Mark) → r < length ms → unseen (set ms r m) + is_unseen (mark ms r) ≡ unseen ms + is_unseen m
unseen_set [] r m within = absurd (omega arith)
unseen_set (x ∷ ms) zero m within = omega arith
unseen_set (x ∷ ms) (suc r) m within = omega (arith, unseen_set ms r m (omega arith))

open≢done : Open ≡ Done → ⊥
open≢done e = let z : ◌≡◌ {A = ℕ} 0 1 = cc in omega arith

-- the walk comes back to a cell that is open
pub back_at_open : (g : Graph) (ms : List Mark) (i : ℕ) → mark ms (find g i) ≡ Open → Sinks g ms i
back_at_open g ms i is σ solves under =
    let less = under (find g i) is in
    omega (arith, less, ap size (find_value σ g solves i))

-- a cell that is done needs no walk
pub done_already : (g : Graph) (ms : List Mark) (i : ℕ) → mark ms (find g i) ≡ Done → Walked g ms i ms
done_already g ms i is =
    record { fewer = omega arith; reached = is; opened = λ o e. e; still_open = λ o e. e; still_done = λ o e. e; ranked = λ r. r }

-- the parts of an open cell lie under it
module _ (g : Graph) (ms : List Mark) (i : ℕ) (within : find g i < length ms) (σ : ℕ → Term) (solves : Solves σ g) (under : Under σ ms i) where
  pub under_part : (j : ℕ) → size (σ j) < size (σ (find g i)) → Under σ (set ms (find g i) Open) j
  under_part j less o is = by_place (cases_eq o (find g i))
    where
      by_place : (o ≡ find g i) ⊎ (o ≡ find g i → ⊥) → size (σ j) < size (σ o)
      by_place (inl e) = subst (λ x. size (σ j) < size (σ x)) (sym e) less
      by_place (inr ne) = omega (arith, less, ap size (find_value σ g solves i), under o (sym (others ms (find g i) Open within o ne) ∙ is))

parts_smaller : (σ : ℕ → Term) (g : Graph) → Solves σ g → (r a b : ℕ) → cell g r ≡ apply a b → (size (σ a) < size (σ r)) × (size (σ b) < size (σ r))
parts_smaller σ g solves r a b is =
    let e = ap size (subst (Fits σ r) is (solves r)) in
    (omega (arith, e, size_some (σ b)), omega (arith, e, size_some (σ a)))

module _ (g : Graph) (ms : List Mark) (i a b : ℕ) (within : find g i < length ms) (is : cell g (find g i) ≡ apply a b) where
  pub sinks_first : Sinks g (set ms (find g i) Open) a → Sinks g ms i
  sinks_first sinks σ solves under = sinks σ solves (under_part g ms i within σ solves under a (parts_smaller σ g solves (find g i) a b is).0)

  pub sinks_second : (ms' : List Mark) → Walked g (set ms (find g i) Open) a ms' → Sinks g ms' b → Sinks g ms i
  sinks_second ms' walked sinks σ solves under =
      sinks σ solves (λ o e. under_part g ms i within σ solves under b (parts_smaller σ g solves (find g i) a b is).1 o (walked.opened o e))

-- Marks that went on from others: no open cell is closed or opened, and what is done stays done.
pub record Went (g : Graph) (ms ms' : List Mark) : Type 0 where
  pub fewer : unseen ms' ≤ unseen ms
  pub opened : (o : ℕ) → mark ms' o ≡ Open → mark ms o ≡ Open
  pub still_open : (o : ℕ) → mark ms o ≡ Open → mark ms' o ≡ Open
  pub still_done : (o : ℕ) → mark ms o ≡ Done → mark ms' o ≡ Done
  pub ranked : Ranked g ms → Ranked g ms'

pub went_none : (g : Graph) (ms : List Mark) → Went g ms ms
went_none g ms = record { fewer = omega arith; opened = λ o e. e; still_open = λ o e. e; still_done = λ o e. e; ranked = λ r. r }

pub went_twice : (g : Graph) (ms ms' ms'' : List Mark) (a b : ℕ) → Walked g ms a ms' → Walked g ms' b ms'' → Went g ms ms''
went_twice g ms ms' ms'' a b v w =
    record {
      fewer = omega (arith, v.fewer, w.fewer);
      opened = λ o e. v.opened o (w.opened o e);
      still_open = λ o e. w.still_open o (v.still_open o e);
      still_done = λ o e. w.still_done o (v.still_done o e);
      ranked = λ r. w.ranked (v.ranked r);
    }

-- a rank above those of a cell's parts
top_rank : Graph → (ℕ → ℕ) → Cell → ℕ
top_rank g rank free = 0
top_rank g rank (link j) = 0
top_rank g rank (atom h) = 0
top_rank g rank (apply a b) = 1 + max (rank (find g a)) (rank (find g b))

-- the parts of a cell are done
abbrev pub PartsDone : Graph → List Mark → Cell → Type 0
PartsDone g ms free = Unit {0}
PartsDone g ms (link j) = Unit {0}
PartsDone g ms (atom h) = Unit {0}
PartsDone g ms (apply a b) = (mark ms (find g a) ≡ Done) × (mark ms (find g b) ≡ Done)

unseen≢open : Unseen ≡ Open → ⊥
unseen≢open e = let z : ◌≡◌ {A = ℕ} 0 1 = cc in omega arith

unseen≢done : Unseen ≡ Done → ⊥
unseen≢done e = let z : ◌≡◌ {A = ℕ} 0 1 = cc in omega arith

-- cells of another mark than r are other cells
apart : (ms : List Mark) (r o : ℕ) (m k : Mark) → mark ms r ≡ m → mark ms o ≡ k → (m ≡ k → ⊥) → o ≡ r → ⊥
apart ms r o m k at-r at-o ne e = ne (sym at-r ∙ ap (mark ms) (sym e) ∙ at-o)

-- ranks of parts go over to other marks and ranks in which they are the same
parts_over : (g : Graph) (ms ms' : List Mark) (rank rank' : ℕ → ℕ) (r r' : ℕ) (c : Cell) → r ≤ r'
    → ((p : ℕ) → mark ms p ≡ Done → (mark ms' p ≡ Done) × (rank' p ≡ rank p)) → PartsRank g ms rank r c → PartsRank g ms' rank' r' c
parts_over g ms ms' rank rank' r r' free le over h = tt
parts_over g ms ms' rank rank' r r' (link j) le over h = tt
parts_over g ms ms' rank rank' r r' (atom k) le over h = tt
parts_over g ms ms' rank rank' r r' (apply a b) le over (x, y) =
    let p = over (find g a) x.done in
    let q = over (find g b) y.done in
    (record { done = p.0; lower = omega (arith, x.lower, p.1) }, record { done = q.0; lower = omega (arith, y.lower, q.1) })

parts_top : (g : Graph) (ms ms' : List Mark) (rank rank' : ℕ → ℕ) (c : Cell)
    → ((p : ℕ) → mark ms p ≡ Done → (mark ms' p ≡ Done) × (rank' p ≡ rank p)) → PartsDone g ms c → PartsRank g ms' rank' (top_rank g rank c) c
unfolding top_rank
parts_top g ms ms' rank rank' free over h = tt
parts_top g ms ms' rank rank' (link j) over h = tt
parts_top g ms ms' rank rank' (atom k) over h = tt
parts_top g ms ms' rank rank' (apply a b) over (x, y) =
    let p = over (find g a) x in
    let q = over (find g b) y in
    (record { done = p.0; lower = omega (arith, p.1) }, record { done = q.0; lower = omega (arith, q.1) })

-- a cell is entered
module _ (g : Graph) (ms : List Mark) (r : ℕ) (within : r < length ms) (new : mark ms r ≡ Unseen) where
  enter_ranked : Ranked g ms → Ranked g (set ms r Open)
  enter_ranked (rank, each) =
      (rank, λ o is. at o is (cases_eq o r))
    where
      over : (p : ℕ) → mark ms p ≡ Done → (mark (set ms r Open) p ≡ Done) × (rank p ≡ rank p)
      over p is = (others ms r Open within p (apart ms r p Unseen Done new is unseen≢done) ∙ is, refl)

      at : (o : ℕ) → mark (set ms r Open) o ≡ Done → (o ≡ r) ⊎ (o ≡ r → ⊥) → PartsRank g (set ms r Open) rank (rank o) (cell g o)
      at o is (inl e) = absurd (open≢done (sym (marked ms r Open within) ∙ ap (mark (set ms r Open)) (sym e) ∙ is))
      at o is (inr ne) = parts_over g ms (set ms r Open) rank rank (rank o) (rank o) (cell g o) (omega arith) over (each o (sym (others ms r Open within o ne) ∙ is))

-- a cell that was open, and whose parts are done, is done
module _ (g : Graph) (ms : List Mark) (r : ℕ) (within : r < length ms) (is_open : mark ms r ≡ Open) (parts : PartsDone g ms (cell g r)) where
  leave_ranked : Ranked g ms → Ranked g (set ms r Done)
  leave_ranked (rank, each) = (rank', λ o is. at o is (cases_eq o r))
    where
      rank' : ℕ → ℕ
      rank' o = cond (eqb o r) (top_rank g rank (cell g r)) (rank o)

      here : rank' r ≡ top_rank g rank (cell g r)
      here = rw (eq-eqb r r refl)

      there : (o : ℕ) → (o ≡ r → ⊥) → rank' o ≡ rank o
      there o ne = rw (ne_eqb o r ne)

      over : (p : ℕ) → mark ms p ≡ Done → (mark (set ms r Done) p ≡ Done) × (rank' p ≡ rank p)
      over p is = let ne = apart ms r p Open Done is_open is open≢done in (others ms r Done within p ne ∙ is, there p ne)

      at : (o : ℕ) → mark (set ms r Done) o ≡ Done → (o ≡ r) ⊎ (o ≡ r → ⊥) → PartsRank g (set ms r Done) rank' (rank' o) (cell g o)
      at o is (inl e) = subst (λ x. PartsRank g (set ms r Done) rank' (rank' x) (cell g x)) (sym e) (subst (λ x. PartsRank g (set ms r Done) rank' x (cell g r)) (sym here) (parts_top g ms (set ms r Done) rank rank' (cell g r) over parts))
      at o is (inr ne) = subst (λ x. PartsRank g (set ms r Done) rank' x (cell g o)) (sym (there o ne)) (parts_over g ms (set ms r Done) rank rank' (rank o) (rank o) (cell g o) (omega arith) over (each o (sym (others ms r Done within o ne) ∙ is)))

-- a cell is entered, its parts are walked, and it is left
pub walked_through : (g : Graph) (ms ms' : List Mark) (i : ℕ) → find g i < length ms → find g i < length ms' → mark ms (find g i) ≡ Unseen → Went g (set ms (find g i) Open) ms' → PartsDone g ms' (cell g (find g i)) → Walked g ms i (set ms' (find g i) Done)
walked_through g ms ms' i within within' new went parts =
    let r = find g i in
    let is_open = went.still_open r (marked ms r Open within) in
    record {
      fewer = omega (arith, unseen_set ms r Open within, unseen_set ms' r Done within', went.fewer, ap is_unseen new, ap is_unseen is_open);
      reached = marked ms' r Done within';
      opened = λ o is. let ne : (o ≡ r → ⊥) = apart (set ms' r Done) r o Done Open (marked ms' r Done within') is (λ e. open≢done (sym e)) in sym (others ms r Open within o ne) ∙ went.opened o (sym (others ms' r Done within' o ne) ∙ is);
      still_open = λ o is. let ne : (o ≡ r → ⊥) = apart ms r o Unseen Open new is unseen≢open in others ms' r Done within' o ne ∙ went.still_open o (others ms r Open within o ne ∙ is);
      still_done = λ o is. let ne : (o ≡ r → ⊥) = apart ms r o Unseen Done new is unseen≢done in others ms' r Done within' o ne ∙ went.still_done o (others ms r Open within o ne ∙ is);
      ranked = λ h. leave_ranked g ms' r within' is_open parts (went.ranked (enter_ranked g ms r within new h));
    }

pub entering_less : (ms : List Mark) (r : ℕ) → r < length ms → mark ms r ≡ Unseen → unseen (set ms r Open) < unseen ms
entering_less ms r within new = omega (arith, unseen_set ms r Open within, ap is_unseen new)

-- The same where the root is known under another name.
module _ (g : Graph) (ms : List Mark) (i r : ℕ) (root : r ≡ find g i) where
  pub back : mark ms r ≡ Open → Sinks g ms i
  back is = back_at_open g ms i (ap (mark ms) (sym root) ∙ is)

  pub already : mark ms r ≡ Done → Walked g ms i ms
  already is = done_already g ms i (ap (mark ms) (sym root) ∙ is)

  module _ (within : r < length ms) (c : Cell) (here : c ≡ cell g r) (a b : ℕ) (is : c ≡ apply a b) where
    found : cell g (find g i) ≡ apply a b
    found = ap (cell g) (sym root) ∙ sym here ∙ is

    pub first_sinks : Sinks g (set ms r Open) a → Sinks g ms i
    first_sinks sinks = sinks_first g ms i a b (subst (λ x. x < length ms) root within) found (subst (λ x. Sinks g (set ms x Open) a) root sinks)

    pub second_sinks : (ms' : List Mark) → Walked g (set ms r Open) a ms' → Sinks g ms' b → Sinks g ms i
    second_sinks ms' walked sinks = sinks_second g ms i a b (subst (λ x. x < length ms) root within) found ms' (subst (λ x. Walked g (set ms x Open) a ms') root walked) sinks

    pub parts_walked : (ms' ms'' : List Mark) → r < length ms'' → mark ms r ≡ Unseen → Walked g (set ms r Open) a ms' → Walked g ms' b ms'' → Walked g ms i (set ms'' r Done)
    parts_walked ms' ms'' inside new v w =
        let went = subst (λ x. Went g (set ms x Open) ms'') root (went_twice g (set ms r Open) ms' ms'' a b v w) in
        let parts : PartsDone g ms'' (apply a b) = (w.still_done (find g a) v.reached, w.reached) in
        subst (λ x. Walked g ms i (set ms'' x Done)) (sym root)
        (walked_through g ms ms'' i (subst (λ x. x < length ms) root within) (subst (λ x. x < length ms'') root inside) (ap (mark ms) (sym root) ∙ new) went (subst (PartsDone g ms'') (sym found) parts))

  pub leaf_walked : r < length ms → mark ms r ≡ Unseen → ((a b : ℕ) → cell g r ≡ apply a b → ⊥) → Walked g ms i (set (set ms r Open) r Done)
  leaf_walked within new leaf =
      let inside : r < length (set ms r Open) = omega (arith, length-set ms r Open) in
      subst (λ x. Walked g ms i (set (set ms x Open) x Done)) (sym root)
      (walked_through g ms (set ms (find g i) Open) i (subst (λ x. x < length ms) root within) (subst (λ x. x < length (set ms x Open)) root inside) (ap (mark ms) (sym root) ∙ new) (went_none g (set ms (find g i) Open)) (no_parts (cell g (find g i)) (λ a b e. leaf a b (ap (cell g) root ∙ e))))
    where
      no_parts : (c : Cell) → ((a b : ℕ) → c ≡ apply a b → ⊥) → PartsDone g (set ms (find g i) Open) c
      no_parts free none = tt
      no_parts (link j) none = tt
      no_parts (atom h) none = tt
      no_parts (apply a b) none = absurd (none a b refl)

-- only cells of the graph have parts
cell_inside : (g : Graph) (i a b : ℕ) → cell g i ≡ apply a b → i < length g
cell_inside g i a b at = by_place (cases_lt i (length g))
  where
    by_place : (i < length g) ⊎ (length g ≤ i) → i < length g
    by_place (inl lt) = lt
    by_place (inr le) = absurd (let wrong : apply a b ≡ free = sym at ∙ get_or_past g i free le in let z : ◌≡◌ {A = ℕ} 0 1 = cc in omega (arith, z))

-- the terms of ranked cells: more fuel than a cell's rank changes nothing
unroll_any : (g : Graph) (ms : List Mark) (rank : ℕ → ℕ) (r : ℕ) (c : Cell) (on on' : ℕ → Term) → ((j : ℕ) → Ranks g ms rank r j → on j ≡ on' j) → PartsRank g ms rank r c → (k : ℕ) → unroll c k on ≡ unroll c k on'
unroll_any g ms rank r free on on' same h k = refl
unroll_any g ms rank r (link j) on on' same h k = refl
unroll_any g ms rank r (atom x) on on' same h k = refl
unroll_any g ms rank r (apply a b) on on' same (p, q) k = ap₂ ◌·◌ (same a p) (same b q)

module _ (g : Graph) (ms : List Mark) (rank : ℕ → ℕ) (each : (o : ℕ) → mark ms o ≡ Done → PartsRank g ms rank (rank o) (cell g o)) where
  readback_any : (f f' i : ℕ) → mark ms (find g i) ≡ Done → rank (find g i) < f → rank (find g i) < f' → readback f g i ≡ readback f' g i
  readback_any zero f' i done less less' = absurd (omega arith)
  readback_any (suc f) zero i done less less' = absurd (omega arith)
  readback_any (suc f) (suc f') i done less less' =
      let r = find g i in
      unroll_any g ms rank (rank r) (cell g r) (readback f g) (readback f' g) (λ j p. readback_any f f' j p.done (omega (arith, p.lower)) (omega (arith, p.lower))) (each r done) r

  value : ℕ → Term
  value i = readback (suc (rank (find g i))) g i

  module _ (n : ℕ) (tidy : Tidy n g) (all : (i : ℕ) → i < length g → mark ms (find g i) ≡ Done) where
    fits : (i : ℕ) (c : Cell) → cell g i ≡ c → Fits value i c
    unfolding value
    fits i free at = tt
    fits i (link j) at = ap (λ r. unroll (cell g r) r (readback (rank r) g)) (find_link n g tidy i j at)
    fits i (atom h) at =
        ap (λ r. unroll (cell g r) r (readback (rank r) g)) (find_stays g i (subst NotLink (sym at) tt)) ∙ ap (λ c. unroll c i (readback (rank i) g)) at
    fits i (apply a b) at =
        let stays = find_stays g i (subst NotLink (sym at) tt) in
        let done = ap (mark ms) (sym stays) ∙ all i (cell_inside g i a b at) in
        let parts = subst (PartsRank g ms rank (rank i)) at (each i done) in
        ap (λ r. unroll (cell g r) r (readback (rank r) g)) stays ∙ ap (λ c. unroll c i (readback (rank i) g)) at
        ∙ ap₂ ◌·◌ (readback_any (rank i) (suc (rank (find g a))) a parts.0.done parts.0.lower (omega arith)) (readback_any (rank i) (suc (rank (find g b))) b parts.1.done parts.1.lower (omega arith))

-- where every cell is done, no cell is reached from its own parts
pub all_walked : (n : ℕ) (g : Graph) (ms : List Mark) → Tidy n g → Ranked g ms → ((i : ℕ) → i < length g → mark ms (find g i) ≡ Done) → acyclic g ≡ true
all_walked n g ms tidy (rank, each) all = acyclic_holds n g tidy (value g ms rank each) (λ i. fits g ms rank each n tidy all i (cell g i) refl)

-- where no cell is open, a walk that comes back says that some cell is
pub come_back : (n : ℕ) (g : Graph) (ms : List Mark) (i : ℕ) → Tidy n g → ((o : ℕ) → mark ms o ≡ Open → ⊥) → Sinks g ms i → acyclic g ≡ false
come_back n g ms i tidy closed sinks = by_test (cases_Bool (acyclic g))
  where
    by_test : (acyclic g ≡ true) ⊎ (acyclic g ≡ false) → acyclic g ≡ false
    by_test (inl passes) = absurd (sinks (λ j. fill var (term_of g j)) (term_solves n g tidy passes var) (λ o is. absurd (closed o is)))
    by_test (inr fails) = fails

-- the walks from the first cells are done
pub record Sofar (g : Graph) (ms : List Mark) (i : ℕ) : Type 0 where
  pub closed : (o : ℕ) → mark ms o ≡ Open → ⊥
  pub ranked : Ranked g ms
  pub done : (j : ℕ) → j < i → mark ms (find g j) ≡ Done

pub sofar_none : (g : Graph) (ms : List Mark) → Fresh ms → Sofar g ms 0
sofar_none g ms fresh =
    record {
      closed = λ o is. unseen≢open (sym (fresh o) ∙ is);
      ranked = ((λ o. 0), λ o is. absurd (unseen≢done (sym (fresh o) ∙ is)));
      done = λ j less. absurd (omega arith);
    }
