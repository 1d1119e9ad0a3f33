-- Reading with the terms forgotten: what is left is the sorts of the variables met so far, and the bytes
-- behind. It says how the private readers go on. Assumes nothing.
use Rattle.std.specs.Prelude.{◌≡◌, ℕ, ◌+◌, ◌<◌, ◌≤◌, Bool, true, false, ◌&&◌, List, [], ◌∷◌, length, take, drop, IfOk, Some, None, Option, Result, MatchResult}
use Rattle.syntax.specs.Names.{is_name}
use Rattle.syntax.specs.declared.fault.Fault.{Fault}
use Rattle.syntax.specs.declared.fault.Fault.TheVariants.{Unlawful}
use Rattle.syntax.specs.declared.name.Name as name
use Rattle.typing.specs.Forms.{Name}
use Rattle.typing.specs.Heads as heads
use Rattle.typing.specs.Parsing.{and_then, only_if, meet_variable, read_group, Read, read_terms, read_entries, same_sort}
use Rattle.typing.specs.Strings.{before}
use Rattle.typing.specs.declared.head.Token.{Token}
use Rattle.typing.specs.declared.head.Token.TheVariants.{Head as OfHead, Variable}
use Rattle.forms.specs.declared.reader.Sort.{Sort}
use Rattle.forms.specs.declared.reader.Sort.TheVariants.{«Type», Place}

abbrev pub sort_of : Sort → heads.Sort
sort_of «Type» = heads.type
sort_of Place = heads.place

-- the sorts of the variables met so far, and the bytes that are left
abbrev pub Behind : Type 0
Behind = List heads.Sort × List ℕ

abbrev pub forget : {A : Type 0} → Option (Read A) → Option Behind
forget o = and_then o (λ r. Some (r.1, r.2))

-- behind terms of these sorts
unfoldable pub skip_terms : List heads.Sort → List heads.Sort → List ℕ → Option Behind
skip_terms ss seen bs = forget (read_terms (length bs) 4 ss seen bs)

-- behind a term that begins with this token
abbrev pub skip_token : Token → heads.Sort → List heads.Sort → List ℕ → Option Behind
skip_token (OfHead h) s seen bs = only_if (same_sort (heads.result_of h) s) (skip_terms (heads.parts_of 4 h) seen bs)
skip_token (Variable k) s seen bs = and_then (meet_variable s k seen) (λ now. Some (now, bs))

-- behind so many entries, with names behind `last`
unfoldable pub skip_entries : ℕ → Name → List heads.Sort → List ℕ → Option Behind
skip_entries n last seen bs = forget (read_entries n 4 last seen bs)

-- the four bytes at the front are a name that comes after `last`
abbrev pub is_next : Name → List ℕ → Bool
is_next last bs = is_name (take 4 bs) && before last (take 4 bs)

-- the bytes of the name before, if there is one
abbrev pub letters_of : Option name.Name → Name
letters_of None = []
letters_of (Some n) = n.0

abbrev pub Named : Name → Behind → Behind → Result name.Name Fault → Type 0
Named last b b' r =
    MatchResult r (λ n. (is_next last b.1 ≡ true) × (n.0 ≡ take 4 b.1) × (b'.0 ≡ b.0) × (b'.1 ≡ drop 4 b.1) × (length b'.1 < length b.1))
    (λ fault. (fault ≡ Unlawful) × (is_next last b.1 ≡ false))

-- a group number is taken, which leaves room for one more variable
abbrev pub Took : Behind → Behind → Result ℕ Fault → Type 0
Took b b' r =
    MatchResult r (λ n. (read_group 2 b.1 ≡ Some (n, b'.1)) × (b'.0 ≡ b.0) × (length b'.1 < length b.1) × (length b'.0 + length b'.1 < 240))
    (λ fault. (fault ≡ Unlawful) × (read_group 2 b.1 ≡ None))

-- the token of the term at the front is taken
abbrev pub TookToken : Behind → Behind → Result Token Fault → Type 0
TookToken b b' r =
    MatchResult r (λ token. ((s : heads.Sort) → skip_terms (s ∷ []) b.0 b.1 ≡ skip_token token s b'.0 b'.1) × (length b'.1 < length b.1) × (length b'.0 + length b'.1 < 240))
    (λ fault. (fault ≡ Unlawful) × ((s : heads.Sort) → skip_terms (s ∷ []) b.0 b.1 ≡ None))

-- a variable is met, and the sorts are then these; or it is refused
abbrev pub Met : Option (List heads.Sort) → List ℕ → Behind → Result (Unit {0}) Fault → Type 0
Met o bs b' r = MatchResult r (λ _. (o ≡ Some b'.0) × (b'.1 ≡ bs)) (λ fault. (fault ≡ Unlawful) × (o ≡ None))

-- what a reader has gone past, which it then stands behind; or it is refused
abbrev pub Skipped : Option Behind → Behind → Result (Unit {0}) Fault → Type 0
Skipped o b' r = MatchResult r (λ _. o ≡ Some b') (λ fault. (fault ≡ Unlawful) × (o ≡ None))

-- fewer bytes are left
abbrev pub Shorter : Behind → Behind → Result (Unit {0}) Fault → Type 0
Shorter b b' r = IfOk r (λ _. length b'.1 < length b.1)

-- no more bytes are left
abbrev pub NoLonger : Behind → Behind → Result (Unit {0}) Fault → Type 0
NoLonger b b' r = IfOk r (λ _. length b'.1 ≤ length b.1)
