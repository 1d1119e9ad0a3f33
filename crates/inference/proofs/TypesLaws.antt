-- The typing reading keeps the laws of readings. Assumes nothing.
use Rattle.std.proofs.Common.{◌≡◌, ℕ, zero, suc, ◌+◌, ◌/◌, ◌<◌, ◌≤◌, true, ◌&&◌, eqb, ltb, ◌⊎◌, List, [], ◌∷◌, ◌++◌, length, sym, refl, ap, subst, inl, inr, arith, length-append}
use Rattle.std.proofs.lemmas.Bool.{and_from, and_parts, cases_lt, eqb-true, lt-ltb}
use Rattle.std.specs.List.{AllByRecursion}
use Rattle.layout.specs.Groups.{bound, group, groups}
use Rattle.layout.proofs.Groups.{groups_small, groups_large}
use Rattle.reading.specs.Readings.{Sound, allows_all, suits}
use Rattle.reading.proofs.NameKeys.{Low, name_low}
use Rattle.syntax.specs.Arguments.{fits}
use Rattle.syntax.specs.Kinds.{arity}
use Rattle.syntax.specs.declared.argument.Symbol.{Symbol}
use Rattle.typing.specs.Forms.{Name}
use Rattle.typing.specs.Heads.{Sort, type, token_of}
use Rattle.typing.specs.Parsing.{is_lawful}
use Rattle.typing.specs.StringRules.{AllLawful}
use Rattle.typing.specs.Strings.{Bytes, GoodStatus, GoodTyping, LawfulString, Rising, Status, formed, clashed, overlong, Typing, most, status_byte, status_bytes, term_bytes, entries_bytes, typing_bytes}
use Rattle.typing.specs.Terms.{Term, var, head, ◌·◌}
use Rattle.typing.specs.Typings.{rule}
use Rattle.typing.specs.declared.head.Head.{Head}
use Rattle.typing.specs.declared.head.Head.TheVariants.{Num, Fun, Rec, Absent, Present}
use Rattle.typing.proofs.StringReading.{entries_long}
use Rattle.typing.proofs.StringRule.{rule_is_lawful}
use Rattle.typing.proofs.StringsRead.{test_of_lawfulness}
use Rattle.inference.specs.Joins.{EntriesLegible}
use Rattle.inference.specs.Layouts.{Legible}
use Rattle.inference.specs.Nodes.{all_bytes, typed}
use Rattle.inference.proofs.ChildFacts.{form_short, good_legible}
use Rattle.inference.proofs.LawfulNodes.{bytes_tested}

bytes_test : (xs : List ℕ) → Bytes xs → all_bytes xs ≡ true
bytes_test [] bytes = refl
bytes_test (x ∷ xs) bytes = and_from (ltb x 256) (all_bytes xs) (lt-ltb x 256 bytes.0) (bytes_test xs bytes.1)

bytes_join : (xs ys : List ℕ) → Bytes xs → Bytes ys → Bytes (xs ++ ys)
bytes_join [] ys first rest = rest
bytes_join (x ∷ xs) ys first rest = (first.0, bytes_join xs ys first.1 rest)

low_bytes : (xs : List ℕ) → AllByRecursion Low xs → Bytes xs
low_bytes [] low = tt
low_bytes (x ∷ xs) low = (low.0, low_bytes xs low.1)

groups_bytes : (m n : ℕ) → n < bound m → Bytes (groups m n)
groups_bytes zero n few = (omega (arith, few), tt)
groups_bytes (suc m) n few = by_size (cases_lt n 128) (λ large. groups_bytes m (n / 128) (omega (arith, few)))
  where
    by_size : (n < 128) ⊎ (128 ≤ n) → (128 ≤ n → Bytes (groups m (n / 128))) → Bytes (groups (suc m) n)
    by_size (inl small) above = subst Bytes (sym (groups_small (suc m) n small)) (omega (arith, small), tt)
    by_size (inr large) above = subst Bytes (sym (groups_large m n large)) (omega arith, above large)

-- a count takes at most two bytes
count_short : (n : ℕ) → n ≤ most → length (group n) ≤ 2
count_short n few = by_size (cases_lt n 128)
  where
    by_size : (n < 128) ⊎ (128 ≤ n) → length (group n) ≤ 2
    by_size (inl small) = omega (arith, ap length (groups_small 2 n small))
    by_size (inr large) = omega (arith, ap length (groups_large 1 n large), ap length (groups_small 1 (n / 128) (omega (arith, few))))

token_small : (h : Head) → token_of h < bound 2
token_small Num = omega arith
token_small Fun = omega arith
token_small Rec = omega arith
token_small Absent = omega arith
token_small Present = omega arith

term_bytes_lem : (t : Term) (needs : List Sort) (s : Sort) → Legible needs s t → Bytes (term_bytes t)
term_bytes_lem (var k) needs s legible = groups_bytes 2 (5 + k) legible.1
term_bytes_lem (head h) needs s legible = groups_bytes 2 (token_of h) (token_small h)
term_bytes_lem (f · x) needs s legible =
    bytes_join (term_bytes f) (term_bytes x) (term_bytes_lem f (legible.0 ∷ needs) s legible.1) (term_bytes_lem x [] legible.0 legible.2)

entries_bytes_lem : (es : List (Name × Term)) → Rising es → EntriesLegible es → Bytes (entries_bytes es)
entries_bytes_lem [] rising legible = tt
entries_bytes_lem (e ∷ es) rising legible =
    bytes_join e.0 (term_bytes e.1 ++ entries_bytes es) (low_bytes e.0 (name_low e.0 rising.0))
    (bytes_join (term_bytes e.1) (entries_bytes es) (term_bytes_lem e.1 [] type legible.1) (entries_bytes_lem es rising.2 legible.2))

status_bytes_lem : (s : Status) → GoodStatus 4 s → Bytes (status_bytes s)
status_bytes_lem (formed F) good =
    let legible = good_legible F good in
    let few : length F.entries < bound 2 = omega (arith, form_short F good, entries_long F.entries) in
    bytes_join (group (length F.entries)) (entries_bytes F.entries ++ term_bytes F.result) (groups_bytes 2 (length F.entries) few)
    (bytes_join (entries_bytes F.entries) (term_bytes F.result) (entries_bytes_lem F.entries good.sound.rising legible.0) (term_bytes_lem F.result [] type legible.1))
status_bytes_lem clashed good = tt
status_bytes_lem overlong good = tt

status_small : (s : Status) → status_byte s < 256
status_small (formed F) = omega arith
status_small clashed = omega arith
status_small overlong = omega arith

status_short : (s : Status) → GoodStatus 4 s → length (status_bytes s) ≤ 240
status_short (formed F) good = good.short
status_short clashed good = omega arith
status_short overlong good = omega arith

module _ (T : Typing) (good : GoodTyping 4 T) where
  count_bytes : (n : ℕ) (rest : List ℕ) → n ≤ most → Bytes rest → Bytes (group n ++ rest)
  count_bytes n rest few bytes = bytes_join (group n) rest (groups_bytes 2 n (omega (arith, few))) bytes

  -- the string of a good typing is bytes
  typing_bytes_lem : Bytes (typing_bytes T)
  typing_bytes_lem = (status_small T.status, count_bytes T.clashes _ good.clashes (count_bytes T.overlongs _ good.overlongs (count_bytes T.holes (status_bytes T.status) good.holes (status_bytes_lem T.status good.status))))

  -- and there are at most 247 of them
  typing_short : length (typing_bytes T) ≤ 247
  typing_short =
      omega (arith, count_short T.clashes good.clashes, count_short T.overlongs good.overlongs, count_short T.holes good.holes, status_short T.status good.status, length-append (group T.clashes) (group T.overlongs ++ (group T.holes ++ status_bytes T.status)), length-append (group T.overlongs) (group T.holes ++ status_bytes T.status), length-append (group T.holes) (status_bytes T.status))

pub allowed_lawful : (s : List ℕ) → (all_bytes s && is_lawful 4 s) ≡ true → LawfulString 4 s
allowed_lawful s allowed =
    let p = and_parts (all_bytes s) (is_lawful 4 s) allowed in
    (test_of_lawfulness 4 s (bytes_tested s p.0)).0 p.1

pub lawful_allowed : (s : List ℕ) → LawfulString 4 s → (all_bytes s && is_lawful 4 s) ≡ true
lawful_allowed s lawful =
    let bytes : Bytes s = subst Bytes (sym lawful.spelled) (typing_bytes_lem lawful.typing lawful.good) in
    and_from (all_bytes s) (is_lawful 4 s) (bytes_test s bytes) ((test_of_lawfulness 4 s bytes).1 lawful)

allowed_parts : (parts : List (List ℕ)) → allows_all typed parts ≡ true → AllLawful 4 parts
allowed_parts [] allowed = tt
allowed_parts (s ∷ parts) allowed =
    let p = and_parts (all_bytes s && is_lawful 4 s) (allows_all typed parts) allowed in
    (allowed_lawful s p.0, allowed_parts parts p.1)

allowed_short : (s : List ℕ) → (all_bytes s && is_lawful 4 s) ≡ true → length s ≤ 247
allowed_short s allowed =
    let lawful = allowed_lawful s allowed in
    omega (arith, ap length lawful.spelled, typing_short lawful.typing lawful.good)

rule_allowed : (s : Symbol) (parts : List (List ℕ)) → fits s ≡ true → suits typed s parts ≡ true → typed.allows (typed.rule s parts) ≡ true
rule_allowed s parts fit suit =
    let p = and_parts (eqb (length parts) (arity s.kind)) (allows_all typed parts) suit in
    lawful_allowed (rule 4 s.kind s.argument parts) (rule_is_lawful 4 s parts (omega arith) fit (eqb-true (length parts) (arity s.kind) p.0) (allowed_parts parts p.1))

pub types_sound : Sound typed
types_sound = record { low = omega arith; high = omega arith; within = allowed_short; closed = rule_allowed }
