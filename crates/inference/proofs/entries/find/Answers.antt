use Rattle.std.proofs.Common.{◌≡◌, length, get_or, Less, Equal, Greater, sym, subst, arith}
use Rattle.typing.proofs.DerivedOrder.{equal_by_cmp, before_by_cmp}
use Rattle.inference.specs.Slots.{Goes, blank, slot_of, slots_of}
use Rattle.inference.proofs.Slotting.{goes_more, listed_here, place_here, comes_later, comes_none}
use Rattle.inference.proofs.entries.find.Goals as goal

pub returns-in-Equal : goal.returns-in-Equal
returns-in-Equal c =
    let es = c.args.entries.now in
    let i = c.loop-i.i in
    let same = equal_by_cmp c.args.added.name.0 (get_or es i blank).name.0 Equal c.in-Equal.ensures in
    (c.loop-i-test.true, listed_here _ es i blank c.loop-i-test.true c.loop-i.invariant (sym same))

pub returns-in-Less : goal.returns-in-Less
returns-in-Less c =
    let es = c.args.entries.now in
    let i = c.loop-i.i in
    let other = equal_by_cmp c.args.added.name.0 (get_or es i blank).name.0 Less c.in-Less.ensures in
    let earlier = before_by_cmp c.args.added.name.0 (get_or es i blank).name.0 Less c.in-Less.ensures in
    (c.loop-i.auto.i-end, place_here _ es i c.loop-i.invariant (comes_later _ es i blank c.loop-i-test.true (sym other) (sym earlier)))

pub loop-i-preserved : goal.loop-i-preserved
loop-i-preserved c =
    let es = c.args.entries.now in
    let i = c.loop-i.i in
    let other = equal_by_cmp c.args.added.name.0 (get_or es i blank).name.0 Greater c.in-Greater.ensures in
    let later = before_by_cmp c.args.added.name.0 (get_or es i blank).name.0 Greater c.in-Greater.ensures in
    goes_more _ es i blank c.loop-i-test.true c.loop-i.invariant (sym other) (sym later)

pub returns : goal.returns
returns c =
    let es = c.args.entries.now in
    let ends : c.loop-i.i ≡ length es = omega arith in
    (omega arith, place_here c.args.added es _ (subst (Goes (slot_of c.args.added) (slots_of es)) ends c.loop-i.invariant) (comes_none c.args.added es))
