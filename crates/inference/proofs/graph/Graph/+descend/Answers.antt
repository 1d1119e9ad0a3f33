use Rattle.std.proofs.Common.{◌<◌, length, set, sym, refl, subst, arith, length-set}
use Rattle.std.proofs.lemmas.Result.{MatchResult-from_err}
use Rattle.typing.proofs.Finding.{parts_within}
use Rattle.inference.specs.Walks.{Walked}
use Rattle.inference.specs.declared.cycle.Mark.TheVariants.{Open, Done}
use Rattle.inference.proofs.Walking.{back, first_sinks, second_sinks, parts_walked, leaf_walked, entering_less}
use Rattle.inference.proofs.graph.Graph.+descend.Goals as goal
use Rattle.inference.proofs.graph.Graph.+descend.Goals.{in-Apply+in_ok-descend+in_ok-descend-2, in_default}

pub returns-in-Open : goal.returns-in-Open
returns-in-Open t c = back _ _ _ _ c.root-top.ensures.value c.in-Open.is

pub descend-requires : goal.descend-requires
descend-requires t c =
    let ms = c.args.marks.now in
    let r = c.root-top.result in
    let within : r < length ms = omega arith in
    (omega (arith, entering_less ms r within c.in-Unseen.is, c.decreases), (parts_within _ c.args.self.now.tidy r _ _ c.in-Apply.is).0)

pub returns-in_err-descend : goal.returns-in_err-descend
returns-in_err-descend t c =
    let within : c.root-top.result < length c.args.marks.now = omega arith in
    MatchResult-from_err _ _ _ c.from_residual.ensures.0 (λ e. first_sinks _ _ _ _ c.root-top.ensures.value within _ refl _ _ c.in-Apply.is c.in_err-descend.ensures)

pub descend-requires-in-Apply : goal.descend-requires-in-Apply
descend-requires-in-Apply t c =
    let ms = c.args.marks.now in
    let r = c.root-top.result in
    let within : r < length ms = omega arith in
    (omega (arith, entering_less ms r within c.in-Unseen.is, c.decreases, c.in_ok-descend.ensures.fewer), (parts_within _ c.args.self.now.tidy r _ _ c.in-Apply.is).1)

pub returns-in_err-descend-2 : goal.returns-in_err-descend-2
returns-in_err-descend-2 t c =
    let within : c.root-top.result < length c.args.marks.now = omega arith in
    MatchResult-from_err _ _ _ c.from_residual-in_err-descend-2.ensures.0 (λ e. second_sinks _ _ _ _ c.root-top.ensures.value within _ refl _ _ c.in-Apply.is _ c.in_ok-descend.ensures c.in_err-descend-2.ensures)

pub returns : goal.returns
returns t c =
    let g = c.args.self.now.cells.now in
    let ms = c.args.marks.now in
    let r = c.root-top.result in
    let root = c.root-top.ensures.value in
    let within : r < length ms = omega arith in
    elim c.match-cell.branch [
      | in-Apply+in_ok-descend+in_ok-descend-2 w ↦
          subst (λ m. Walked g ms c.args.start (set m r Done)) (sym w.marks-is)
          (parts_walked g ms _ r root within _ refl _ _ w.in-Apply.is _ _ (omega (arith, w.descend.auto.marks, w.descend-in-Apply.auto.marks, length-set ms r Open)) c.in-Unseen.is w.in_ok-descend.ensures w.in_ok-descend-2.ensures)
      | in_default w ↦
          subst (λ m. Walked g ms c.args.start (set m r Done)) (sym w.marks-is) (leaf_walked g ms _ r root within c.in-Unseen.is w.in_default.not-Apply)
    ]
