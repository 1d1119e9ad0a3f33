-- Unifying any graph that poses a problem gives the problem's form. Assumes nothing.
use Rattle.std.proofs.Common.{◌≡◌, ℕ, Bool, true, false, cond, List, [], ◌∷◌, Some, None, Option, refl, ◌∙◌, ap₂}
use Rattle.typing.specs.Cells.{Graph, Pairs, unify, acyclic, term_of}
use Rattle.typing.specs.Forms.{Name, Form}
use Rattle.typing.specs.Posing.{Slots, entries_at, form_at, finished_at, Slotted, Poses, AnyGraphSolves}
use Rattle.typing.specs.Solutions.{Solves, Equal}
use Rattle.typing.specs.Solve.{Problem, renamed_entries, filled, canonical, finished, solve}
use Rattle.typing.specs.Solved.{Holds, Posed, Answers, NumberedForm}
use Rattle.typing.specs.Terms.{Term, fill}
use Rattle.typing.proofs.Numbering.{canonical_numbered}
use Rattle.typing.proofs.Renaming.{filled_bounded, form_is}
use Rattle.typing.proofs.Solving.{Models, finished_by, graph, holds_agree, models_answer, pairs, solves_exactly}
use Rattle.typing.proofs.Uniqueness.{at_most_one_form}

-- what is read back fills the entries in the slots as a solution fills the problem's
entries_filled : (ρ σ : ℕ → Term) (g : Graph) → ((i : ℕ) → fill ρ (term_of g i) ≡ σ i) → (ss : List (Name × ℕ)) (es : List (Name × Term)) → Slotted σ ss es → renamed_entries ρ (entries_at g ss) ≡ renamed_entries σ es
entries_filled ρ σ g is [] [] slotted = refl
entries_filled ρ σ g is [] (e ∷ es) slotted = absurd slotted
entries_filled ρ σ g is (s ∷ ss) [] slotted = absurd slotted
entries_filled ρ σ g is (s ∷ ss) (e ∷ es) slotted =
    let here : (s.0, fill ρ (term_of g s.1)) ≡ (e.0, fill σ e.1) = ap₂ (λ (n : Name) (t : Term). (n, t)) slotted.0 (is s.1 ∙ slotted.1) in
    ap₂ ◌∷◌ here (entries_filled ρ σ g is ss es slotted.2)

module _ (P : Problem) (posed : Posed P) (g : Graph) (ps : Pairs) (S : Slots) (poses : Poses P g ps S) where
  models : Models P g ps (λ h. form_at h S)
  models = record { spread = spread; back = poses.holds; shows = λ σ solves ρ h is. form_is _ _ _ _ (entries_filled ρ σ h is S.entries P.form.entries (poses.entries σ solves)) (is S.result ∙ poses.result σ solves) }
    where
      spread : (ρ : ℕ → Term) → Holds ρ P.equations → (σ : ℕ → Term) × Solves σ g × Equal σ ps × (filled σ P.form ≡ filled ρ P.form)
      spread ρ h =
          let on = poses.onto ρ in
          let σ = on.0 in
          (σ, on.1, poses.equal σ on.1 (holds_agree P.unknowns σ ρ on.2 P.equations posed.equations h), filled_bounded σ ρ P.unknowns on.2 P.form posed.entries posed.result)

  by_graph : (o : Option Graph) → Answers P (finished_by (λ h. form_at h S) o) → Answers P (finished_at S o)
  by_graph None a = a
  by_graph (Some h) a = a

numbered_if : (b : Bool) (F : Form) → NumberedForm (cond b (Some (canonical F)) None)
numbered_if true F = canonical_numbered F
numbered_if false F = tt

numbered_at : (S : Slots) (o : Option Graph) → NumberedForm (finished_at S o)
numbered_at S None = tt
numbered_at S (Some g) = numbered_if (acyclic g) (form_at g S)

numbered_solved : (F : Form) (o : Option Graph) → NumberedForm (finished F o)
numbered_solved F None = tt
numbered_solved F (Some g) = numbered_if (acyclic g) (filled (term_of g) F)

pub any_graph_solves : AnyGraphSolves
any_graph_solves P posed g ps S poses =
    at_most_one_form P (finished_at S (unify g ps)) (solve P)
    (by_graph P posed g ps S poses (unify g ps) (models_answer P g ps (λ h. form_at h S) poses.tidy poses.within (models P posed g ps S poses)))
    (solves_exactly P posed) (numbered_at S (unify g ps)) (numbered_solved P.form (unify (graph P posed) (pairs P posed)))
