use Rattle.std.proofs.Common.{sym, refl, inl, inr, arith}
use Rattle.std.proofs.lemmas.Bool.{eqb-true, eqb-false}
use Rattle.layout.proofs.Prefixes.{groups_back, symbols_back}
use Rattle.layout.proofs.Scans.{height_depth, one_rule, no_file, no_end, whole, levels_some}
use Rattle.layout.proofs.scan.scan.Goals as goal

pub returns-in_default : goal.returns-in_default
returns-in_default c = record { answer = inl (refl, no_file _ c.in_default.ensures); one = one_rule; depth = height_depth; numbers = groups_back; nodes = symbols_back }

pub returns-then-not-is_empty : goal.returns-then-not-is_empty
returns-then-not-is_empty c =
    let found = c.in-Some.ensures in
    record { answer = inl (refl, no_end _ _ _ found.begins (eqb-false _ _ (sym c.if-not-is_empty.ensures))); one = one_rule; depth = height_depth; numbers = groups_back; nodes = symbols_back }

pub returns-then-found : goal.returns-then-found
returns-then-found c =
    let found = c.in-Some.ensures in
    let w = whole _ _ _ found.begins (eqb-true _ _ (sym c.if-not-is_empty.ensures)) in
    record { answer = inr (inl (refl, (w.tree, w.file, omega (arith, w.high, found.levels_are)))); one = one_rule; depth = height_depth; numbers = groups_back; nodes = symbols_back }

pub returns-then-found-capacity : goal.returns-then-found-capacity
returns-then-found-capacity c =
    let found = c.in-Some.ensures in
    let w = whole _ _ _ found.begins (eqb-true _ _ (sym c.if-not-is_empty.ensures)) in
    record {
      answer = inr (inr (refl, (w.tree, w.file, omega (arith, w.high, found.levels_are), omega (arith, w.sized, found.nodes_are))));
      one = one_rule;
      depth = height_depth;
      numbers = groups_back;
      nodes = symbols_back;
    }

pub overflow_sub-result : goal.overflow_sub-result
overflow_sub-result c =
    let found = c.in-Some.ensures in
    omega (arith, levels_some found.forest (omega (arith, found.begins.many)), found.levels_are)

pub returns : goal.returns
returns c =
    let found = c.in-Some.ensures in
    let w = whole _ _ _ found.begins (eqb-true _ _ (sym c.if-not-is_empty.ensures)) in
    record {
      answer = record {
        tree = w.tree;
        file = w.file;
        shallow = omega (arith, w.high, found.levels_are);
        small = omega (arith, w.sized, found.nodes_are);
        nodes_are = omega (arith, w.sized, found.nodes_are);
        height_is = omega (arith, w.high, found.levels_are);
      };
      one = one_rule;
      depth = height_depth;
      numbers = groups_back;
      nodes = symbols_back;
    }
