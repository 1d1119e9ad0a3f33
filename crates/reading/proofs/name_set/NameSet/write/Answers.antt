use Rattle.std.proofs.Common.{◌≡◌, length, sym, refl, arith}
use Rattle.reading.specs.Fours.{write_start, write_long, write_more, end_long, end_wrote}
use Rattle.reading.proofs.name_set.NameSet.write.Goals as goal

pub loop-i-init : goal.loop-i-init
loop-i-init c = (write_start c.args.out.now _ (omega arith), refl)

pub loop-i-preserved : goal.loop-i-preserved
loop-i-preserved c = (
  write_more _ _ c.loop-i.i _ _ c.loop-i.out c.put.new.out c.loop-i-test.true c.loop-i.invariant.1 c.put.ensures.long c.loop-i.invariant.0 c.put.ensures.wrote,
  write_long _ 0 c.loop-i.i _ c.loop-i.out c.loop-i.out c.loop-i.out c.loop-i-test.true c.loop-i.invariant.1 c.put.ensures.long,
)

pub returns : goal.returns
returns c =
    let names = c.as_slice-names.result.now in
    let same = sym c.as_slice-names.ensures.value in
    let past : c.loop-i.i ≡ length names = omega arith in
    record {
      long = end_long names _ c.loop-i.i _ refl c.loop-i.out c.args.out.now same c.as_slice-names.ensures.fits past c.loop-i.invariant.1;
      wrote = end_wrote names _ c.loop-i.i _ refl c.loop-i.out c.args.out.now same c.as_slice-names.ensures.fits past c.loop-i.invariant.1 c.loop-i.invariant.0;
    }
