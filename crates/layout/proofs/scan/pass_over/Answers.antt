use Rattle.std.proofs.Common.{◌+◌, ◌-◌, sym, subst, arith}
use Rattle.layout.proofs.Scans.{Owed, owed_short, owed_missing, owed_done, owed_more, levels_some}
use Rattle.layout.proofs.scan.pass_over.Goals as goal

pub returns-then-owed-rest : goal.returns-then-owed-rest
returns-then-owed-rest c = owed_short _ _ _ _ _ c.loop-owed.invariant c.if-owed-rest.true

pub returns-in_err-symbol : goal.returns-in_err-symbol
returns-in_err-symbol c = rw c.from_residual.ensures (owed_missing _ _ _ _ _ c.loop-owed.invariant c.loop-owed-test.true c.in_err-symbol.ensures)

pub loop-owed-preserved : goal.loop-owed-preserved
loop-owed-preserved c =
    let (fit, front) = c.in_ok-symbol.ensures in
    subst (λ n. Owed c.args.bytes.now c.args.count c.in_ok-symbol.after.now (c.loop-owed.owed - 1 + n) (c.loop-owed.nodes + 1)) (sym c.arity.ensures)
    (owed_more _ _ _ _ _ c.loop-owed.invariant c.loop-owed-test.true c.in_ok-symbol.symbol c.in_ok-symbol.after.now fit front)

pub returns : goal.returns
returns c =
    let (f, begins, many) = owed_done _ _ _ _ _ c.loop-owed.invariant c.loop-owed-test.false in
    record {
      forest = f;
      begins = begins;
      nodes_are = sym many;
      levels_are = omega (arith, levels_some f (omega (arith, begins.many)));
    }
