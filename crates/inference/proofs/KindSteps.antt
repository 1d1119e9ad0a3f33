-- Steps of the kinds for which there is no room. Assumes nothing.
use Rattle.std.proofs.Common.{ℕ, [], ◌∷◌, set, Result}
use Rattle.syntax.specs.Labels.{label_code}
use Rattle.syntax.specs.declared.argument.Argument.TheVariants as argument
use Rattle.syntax.specs.declared.fault.Fault.{Fault}
use Rattle.syntax.specs.declared.kind.Kind.TheVariants as kind
use Rattle.syntax.specs.declared.label.Label.{Label}
use Rattle.typing.specs.declared.head.Head.TheVariants.{Rec, Present}
use Rattle.inference.specs.Drafts.{State, build_at, equate_at}
use Rattle.inference.specs.Posed.{cells_from, constrain_at}
use Rattle.inference.proofs.DraftSteps.{Grows, grows_build, grows_equate, grows_more}

module _ (l : Label) (w f v : ℕ) (S S' : State) (r : Result ℕ Fault) where
  record_grows : Grows (build_at Present (v ∷ []) (build_at Rec (cells_from 4 w) S).0).0 (constrain_at kind.Ext (argument.Label l) w (f ∷ v ∷ []) S).0
  record_grows =
      let q = build_at Rec (cells_from 4 w) S in
      let p = build_at Present (v ∷ []) q.0 in
      let xs = set (cells_from 4 w) (label_code l) p.1 in
      let e = build_at Rec xs p.0 in
      grows_more p.0 e.0 (equate_at f q.1 e.0) (grows_build Rec xs p.0) (grows_equate f q.1 e.0)
