-- A question that is not refused is asked of a node over lawful strings. Assumes nothing.
use Rattle.std.proofs.Common.{◌≡◌, ℕ, ◌<◌, ◌≤◌, Bool, true, false, cond, ◌&&◌, eqb, ltb, leb, List, [], ◌∷◌, length, is_some, Some, None, Option, refl, ap, arith}
use Rattle.std.proofs.lemmas.Bool.{and_from, and_parts, both_ways, eqb-true, leb-true, ltb-true}
use Rattle.reading.specs.Readings.{allows_all, meter_end, refusal, suits}
use Rattle.syntax.specs.Arguments.{fits}
use Rattle.syntax.specs.Kinds.{arity}
use Rattle.syntax.specs.declared.argument.Symbol.{Symbol}
use Rattle.syntax.specs.declared.fault.Fault.{Fault}
use Rattle.syntax.specs.declared.fault.Fault.TheVariants.{Misfit, MeterFull, ShortBuffer, Unlawful}
use Rattle.typing.specs.Judgements.{GoodTypings}
use Rattle.typing.specs.Parsing.{is_lawful, read_typing}
use Rattle.typing.specs.Strings.{Bytes, GoodTyping, Typing}
use Rattle.typing.specs.Typings.{typing_or}
use Rattle.typing.proofs.StringsRead.{typing_read}
use Rattle.inference.specs.Joins.{AllRead}
use Rattle.inference.specs.Nodes.{Lawful, all_bytes, typed}
use Rattle.inference.specs.Tallies.{all_lawful, read_all}

pub bytes_tested : (xs : List ℕ) → all_bytes xs ≡ true → Bytes xs
bytes_tested [] is = tt
bytes_tested (x ∷ xs) is =
    let p = and_parts (ltb x 256) (all_bytes xs) is in
    (ltb-true x 256 p.0, bytes_tested xs p.1)

-- a test whose failure is a reason to refuse
passed : (test : Bool) (more : Option Fault) (why : Fault) → cond test more (Some why) ≡ None → (test ≡ true) × (more ≡ None)
passed true more why is = (refl, is)
passed false more why is = absurd (let z : ◌≡◌ {A = ℕ} 0 1 = cc in omega (arith, z))

-- what an allowed string spells
allowed_read : (s : List ℕ) → (all_bytes s && is_lawful 4 s) ≡ true → (read_typing 4 s ≡ Some (typing_or (read_typing 4 s))) × GoodTyping 4 (typing_or (read_typing 4 s))
allowed_read s allowed =
    let p = and_parts (all_bytes s) (is_lawful 4 s) allowed in
    let read = some_read (read_typing 4 s) p.1 in
    (read, (typing_read 4 s (typing_or (read_typing 4 s)) (bytes_tested s p.0) read).0)
  where
    some_read : (o : Option Typing) → is_some o ≡ true → o ≡ Some (typing_or o)
    some_read None is = absurd (both_ways false refl is)
    some_read (Some T) is = refl

allowed_all : (strings : List (List ℕ)) → allows_all typed strings ≡ true → AllRead strings (read_all strings) × GoodTypings 4 (read_all strings)
allowed_all [] allowed = (tt, tt)
allowed_all (s ∷ ss) allowed =
    let p = and_parts (all_bytes s && is_lawful 4 s) (allows_all typed ss) allowed in
    let one = allowed_read s p.0 in
    let others = allowed_all ss p.1 in
    ((one.0, others.0), (one.1, others.1))

pub lawful_node : (m : ℕ) (s : Symbol) (strings : List (List ℕ)) (room : ℕ) → refusal typed m s strings room ≡ None → Lawful s strings × (247 ≤ room) × (m < meter_end)
lawful_node m s strings room free =
    let fit = passed (fits s) _ Misfit free in
    let more = passed (ltb m meter_end) _ MeterFull fit.1 in
    let long = passed (leb 247 room) _ ShortBuffer more.1 in
    let suit = passed (suits typed s strings) None Unlawful long.1 in
    let p = and_parts (eqb (length strings) (arity s.kind)) (allows_all typed strings) suit.0 in
    let all = allowed_all strings p.1 in
    (record { fit = fit.0; count = eqb-true (length strings) (arity s.kind) p.0; reads = all.0; good = all.1 }, leb-true 247 room long.0, ltb-true m meter_end more.0)

pub read_lawful : (strings : List (List ℕ)) → AllRead strings (read_all strings) → all_lawful strings ≡ true
read_lawful [] reads = refl
read_lawful (s ∷ ss) reads = and_from (is_lawful 4 s) (all_lawful ss) (ap is_some reads.0) (read_lawful ss reads.1)
