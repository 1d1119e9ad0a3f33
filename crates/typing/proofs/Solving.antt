-- Solving a problem gives the most general form, and nothing only if there is no solution.
-- Assumes nothing.
use Rattle.std.proofs.Common.{◌≡◌, ℕ, zero, suc, ◌<◌, Bool, true, false, cond, [], ◌∷◌, length, replicate, Some, None, Option, sym, refl, ◌∙◌, subst, arith}
use lib.ListN.{length-replicate}
use Rattle.std.proofs.lemmas.Bool.{both_ways}
use Rattle.typing.specs.Cells.{free, Graph, Pairs, cell, unify, acyclic, term_of}
use Rattle.typing.specs.Forms.{Form}
use Rattle.typing.specs.Solutions.{Fits, Solves, Equal, Proper, Tidy, Within}
use Rattle.typing.specs.Solve.{Equations, Problem, lay_all, filled, canonical, finished}
use Rattle.typing.specs.Solved.{Holds, AllBounded, Posed, Answers, SolvesExactly}
use Rattle.typing.specs.Terms.{Term, fill}
use Rattle.typing.proofs.Laying.{AllPlaced, lay_all_placed}
use Rattle.typing.proofs.Merging.{Ran, unify_ran}
use Rattle.typing.proofs.Occurs.{acyclic_holds, term_value, term_solves}
use Rattle.typing.proofs.Renaming.{fill_bounded, filled_twice, filled_bounded, canonical_onto, canonical_back}

-- so many free cells
pub cell_free : (n i : ℕ) → cell (replicate n free) i ≡ free
cell_free zero i = refl
cell_free (suc n) zero = refl
cell_free (suc n) (suc i) = cell_free n i

pub free_tidy : (n : ℕ) → Tidy (length (replicate n free)) (replicate n free)
free_tidy n = record { long = refl; proper = λ i. subst (Proper (length (replicate n free)) i) (sym (cell_free n i)) tt }

pub free_solves : (n : ℕ) (σ : ℕ → Term) → Solves σ (replicate n free)
free_solves n σ i = subst (Fits σ i) (sym (cell_free n i)) tt

pub holds_agree : (n : ℕ) (σ ρ : ℕ → Term) → ((k : ℕ) → k < n → σ k ≡ ρ k) → (es : Equations) → AllBounded n es → Holds ρ es → Holds σ es
holds_agree n σ ρ agree [] b h = tt
holds_agree n σ ρ agree (e ∷ es) b h =
    (fill_bounded σ ρ n agree e.0 b.0 ∙ h.0 ∙ sym (fill_bounded σ ρ n agree e.1 b.1), holds_agree n σ ρ agree es b.2 h.1)

-- A graph with the solutions of a problem's equations, and a form that is read off it once it is unified:
-- what is read back fills that form as the solutions fill the problem's.
pub record Models (P : Problem) (g : Graph) (ps : Pairs) (shown : Graph → Form) : Type 0 where
  pub spread : (ρ : ℕ → Term) → Holds ρ P.equations → (σ : ℕ → Term) × Solves σ g × Equal σ ps × (filled σ P.form ≡ filled ρ P.form)
  pub back : (σ : ℕ → Term) → Solves σ g → Equal σ ps → Holds σ P.equations
  pub shows : (σ : ℕ → Term) → Solves σ g → (ρ : ℕ → Term) (g' : Graph) → ((i : ℕ) → fill ρ (term_of g' i) ≡ σ i) → filled ρ (shown g') ≡ filled σ P.form

abbrev pub finished_by : (Graph → Form) → Option Graph → Option Form
finished_by shown None = None
finished_by shown (Some g) = cond (acyclic g) (Some (canonical (shown g))) None

module _ (P : Problem) (g : Graph) (ps : Pairs) (shown : Graph → Form) (M : Models P g ps shown) where
  ran : (o : Option Graph) → Ran (length g) g ps o → Answers P (finished_by shown o)
  ran None none = λ ρ h. let s = M.spread ρ h in none s.0 s.1 s.2
  ran (Some g') some = by_check (acyclic g') refl
    where
      by_check : (b : Bool) → acyclic g' ≡ b → Answers P (cond b (Some (canonical (shown g'))) None)
      by_check false is = λ ρ h.
          let s = M.spread ρ h in
          both_ways (acyclic g') is (acyclic_holds (length g) g' some.0 s.0 (some.1 s.0 s.1 s.2))
      by_check true is = (general, instance)
        where
          general : (ρ : ℕ → Term) → Holds ρ P.equations → (τ : ℕ → Term) × (filled τ (canonical (shown g')) ≡ filled ρ P.form)
          general ρ h =
              let s = M.spread ρ h in
              let c = canonical_onto s.0 (shown g') in
              (c.0, c.1 ∙ M.shows s.0 s.1 s.0 g' (term_value s.0 g' (some.1 s.0 s.1 s.2)) ∙ s.3)

          instance : (τ : ℕ → Term) → (ρ : ℕ → Term) × Holds ρ P.equations × (filled τ (canonical (shown g')) ≡ filled ρ P.form)
          instance τ =
              let c = canonical_back τ (shown g') in
              let σ : ℕ → Term = λ i. fill c.0 (term_of g' i) in
              let solved = some.2 σ (term_solves (length g) g' some.0 is c.0) in
              (σ, M.back σ solved.0 solved.1, c.1 ∙ M.shows σ solved.0 c.0 g' (λ i. refl))

pub models_answer : (P : Problem) (g : Graph) (ps : Pairs) (shown : Graph → Form) → Tidy (length g) g → Within (length g) ps → Models P g ps shown → Answers P (finished_by shown (unify g ps))
models_answer P g ps shown tidy within M = ran P g ps shown M (unify g ps) (unify_ran (length g) g ps tidy within)

module _ (P : Problem) (posed : Posed P) where
  pub long : length (replicate P.unknowns free) ≡ P.unknowns
  long = length-replicate P.unknowns free

  pub placed : AllPlaced P.equations (replicate P.unknowns free) (lay_all P.equations (replicate P.unknowns free)).0 (lay_all P.equations (replicate P.unknowns free)).1
  placed = lay_all_placed P.equations (replicate P.unknowns free) (free_tidy P.unknowns) (subst (λ n. AllBounded n P.equations) (sym long) posed.equations)

  abbrev pub graph : Graph
  graph = (lay_all P.equations (replicate P.unknowns free)).0

  abbrev pub pairs : Pairs
  pairs = (lay_all P.equations (replicate P.unknowns free)).1

  -- a solution of the equations gives one of the graph
  pub spread : (ρ : ℕ → Term) → Holds ρ P.equations → (σ : ℕ → Term) × Solves σ graph × Equal σ pairs × ((k : ℕ) → k < P.unknowns → σ k ≡ ρ k)
  spread ρ h =
      let on = placed.laid.onto ρ (free_solves P.unknowns ρ) in
      let agree : (k : ℕ) → k < P.unknowns → on.0 k ≡ ρ k = λ k lt. on.2 k (omega (arith, lt, long)) in
      (on.0, on.1, placed.onto on.0 on.1 (holds_agree P.unknowns on.0 ρ agree P.equations posed.equations h), agree)

  -- the form over the unknowns, filled with what is read back
  models : Models P graph pairs (λ g. filled (term_of g) P.form)
  models = record { spread = λ ρ h. let s = spread ρ h in (s.0, s.1, s.2, filled_bounded s.0 ρ P.unknowns s.3 P.form posed.entries posed.result); back = placed.back; shows = λ σ solves ρ g is. filled_twice ρ (term_of g) P.form ∙ filled_bounded (λ k. fill ρ (term_of g k)) σ P.unknowns (λ k lt. is k) P.form posed.entries posed.result }

  by_graph : (o : Option Graph) → Answers P (finished_by (λ g. filled (term_of g) P.form) o) → Answers P (finished P.form o)
  by_graph None a = a
  by_graph (Some g) a = a

pub solves_exactly : SolvesExactly
solves_exactly P posed =
    by_graph P posed (unify (graph P posed) (pairs P posed)) (models_answer P (graph P posed) (pairs P posed) (λ g. filled (term_of g) P.form) (placed P posed).laid.tidy (placed P posed).within (models P posed))
