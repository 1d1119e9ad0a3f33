use Rattle.std.proofs.Common.{◌≡◌, ◌+◌, ◌-◌, ◌++◌, take, drop, ap, ◌∙◌, ap₂, arith, rules}
use Rattle.std.proofs.lemmas.List.{drop-drop}
use Rattle.reading.proofs.name_set.put.Goals as goal

pub returns : goal.returns
returns c =
    let at = c.args.at in
    let four : at + 4 - at ≡ 4 = omega arith in
    record {
      wrote = ap₂ (λ z k. take at c.args.out.now ++ (z ++ drop k (drop at c.args.out.now))) c.copy_from_slice.ensures.after four ∙ ap (λ z. take at c.args.out.now ++ (c.args.name.0 ++ z)) (drop-drop 4 at c.args.out.now);
      long = search rules;
    }
