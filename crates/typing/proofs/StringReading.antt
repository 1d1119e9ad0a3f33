-- A good typing is read back from its string. Assumes nothing.
use Rattle.std.proofs.Common.{◌≡◌, ℕ, suc, ◌+◌, ◌<◌, ◌≤◌, max, true, ◌&&◌, eqb, ltb, List, [], ◌∷◌, ◌++◌, length, get_or, take, drop, Some, Option, sym, refl, ap, ◌∙◌, subst, ap₂, arith, length-append}
use Rattle.std.proofs.lemmas.List.{append_assoc, append-nil, take_at, drop_at}
use Rattle.std.proofs.lemmas.Bool.{le-leb, eqb-true, and_parts, and_from}
use Rattle.layout.specs.Groups.{bound, group}
use Rattle.syntax.specs.Names.{is_name, letters, blank}
use Rattle.typing.specs.Forms.{Name, Form, entry_variables, form_variables}
use Rattle.typing.specs.Heads.{Sort, type}
use Rattle.typing.specs.Parsing.{and_then, only_if, Read, read_terms, read_type, read_entries, read_form, read_count, read_status, read_typing}
use Rattle.typing.specs.Strings.{term_bytes, entries_bytes, form_bytes, before, Ahead, Rising, Numbered, Types, Sound, Good, longest, Status, formed, clashed, overlong, most, Typing, status_byte, status_bytes, typing_bytes, GoodStatus, GoodTyping}
use Rattle.typing.specs.Terms.{Term, var, head, ◌·◌, num, variables, Sorted}
use Rattle.typing.proofs.GroupReading.{then_is, if_true, group_spelled}
use Rattle.typing.proofs.TermReading.{reach, reach_append, numbered_parts, known, Small, small_parts, terms_spelled, group_long, term_long}

pub name_long : (n : Name) → is_name n ≡ true → length n ≡ 4
name_long n is =
    let both = and_parts (eqb (length n) 4 && ltb 0 (length (letters n))) (blank (drop (length (letters n)) n)) is in
    eqb-true (length n) 4 (and_parts (eqb (length n) 4) (ltb 0 (length (letters n))) both.0).0

before_empty : (n : Name) → length n ≡ 4 → before [] n ≡ true
before_empty [] long = absurd (omega arith)
before_empty (b ∷ n) long = refl

pub variables_long : (t : Term) → length (variables t) ≤ length (term_bytes t)
variables_long (var k) = group_long (5 + k)
variables_long (head h) = omega arith
variables_long (f · x) = omega (arith, length-append (variables f) (variables x), length-append (term_bytes f) (term_bytes x), variables_long f, variables_long x)

pub entry_variables_long : (es : List (Name × Term)) → length (entry_variables es) ≤ length (entries_bytes es)
entry_variables_long [] = omega arith
entry_variables_long (e ∷ es) =
    omega (arith, length-append (variables e.1) (entry_variables es), length-append e.0 (term_bytes e.1 ++ entries_bytes es), length-append (term_bytes e.1) (entries_bytes es), variables_long e.1, entry_variables_long es)

pub numbered_small : (n : ℕ) (ks : List ℕ) → n + length ks ≤ 1000000 → Numbered n ks → Small ks
numbered_small n [] le num = tt
numbered_small n (k ∷ ks) le num = (omega (arith, num.0, le), numbered_small (max n (k + 1)) ks (omega (arith, num.0, le)) num.1)

module _ (labels : ℕ) (sorts : ℕ → Sort) where
  abbrev V : ℕ → Sort → Type 0
  V k q = sorts k ≡ q

  type_spelled : (t : Term) (n : ℕ) (rest : List ℕ) → Sorted V labels [] type t → Numbered n (variables t) → Small (variables t) → read_type labels (known sorts n) (term_bytes t ++ rest) ≡ Some (t, known sorts (reach n (variables t)), rest)
  type_spelled t n rest so numbered small =
      let bs = term_bytes t ++ rest in
      let nil = append-nil (term_bytes t) in
      let vars = append-nil (variables t) in
      let read = terms_spelled labels sorts (length bs) (type ∷ []) (t ∷ []) n rest (omega (arith, ap length nil, length-append (term_bytes t) rest)) (so, tt) (subst (Numbered n) (sym vars) numbered) (subst Small (sym vars) small) in
      let read' : read_terms (length bs) labels (type ∷ []) (known sorts n) bs ≡ Some (t ∷ [], known sorts (reach n (variables t)), rest) = ap (λ front. read_terms (length bs) labels (type ∷ []) (known sorts n) (front ++ rest)) (sym nil) ∙ read ∙ ap (λ ks. Some (t ∷ [], known sorts (reach n ks), rest)) vars in
      then_is _ (t ∷ [], known sorts (reach n (variables t)), rest) (λ r. Some (get_or r.0 0 num, r.1, r.2)) read'

  entries_spelled : (es : List (Name × Term)) (last : Name) (n : ℕ) (rest : List ℕ) → Rising es → Ahead last es → Types V labels es → Numbered n (entry_variables es) → Small (entry_variables es) → read_entries (length es) labels last (known sorts n) (entries_bytes es ++ rest) ≡ Some (es, known sorts (reach n (entry_variables es)), rest)
  entries_spelled [] last n rest rising ahead so numbered small = refl
  entries_spelled (e ∷ es) last n rest rising ahead so numbered small =
      let nums = numbered_parts (variables e.1) n (entry_variables es) numbered in
      let smalls = small_parts (variables e.1) (entry_variables es) small in
      joined (type_spelled e.1 n (entries_bytes es ++ rest) so.0 nums.0 smalls.0) (entries_spelled es e.0 (reach n (variables e.1)) rest rising.2 rising.1 so.1 nums.1 smalls.1)
    where
      split : entries_bytes (e ∷ es) ++ rest ≡ e.0 ++ (term_bytes e.1 ++ (entries_bytes es ++ rest))
      split = append_assoc e.0 (term_bytes e.1 ++ entries_bytes es) rest ∙ ap (λ x. e.0 ++ x) (append_assoc (term_bytes e.1) (entries_bytes es) rest)

      front : take 4 (e.0 ++ (term_bytes e.1 ++ (entries_bytes es ++ rest))) ≡ e.0
      front = take_at e.0 (term_bytes e.1 ++ (entries_bytes es ++ rest)) 4 (name_long e.0 rising.0)

      back : drop 4 (e.0 ++ (term_bytes e.1 ++ (entries_bytes es ++ rest))) ≡ term_bytes e.1 ++ (entries_bytes es ++ rest)
      back = drop_at e.0 (term_bytes e.1 ++ (entries_bytes es ++ rest)) 4 (name_long e.0 rising.0)

      -- the answer, for a name in front and the bytes behind it
      reading : Name → List ℕ → Option (Read (List (Name × Term)))
      reading m ys = and_then (only_if (is_name m && before last m) (read_type labels (known sorts n) ys)) (λ t. and_then (read_entries (length es) labels m t.1 t.2) (λ r. Some ((m, t.0) ∷ r.0, r.1, r.2)))

      joined : read_type labels (known sorts n) (term_bytes e.1 ++ (entries_bytes es ++ rest)) ≡ Some (e.1, known sorts (reach n (variables e.1)), entries_bytes es ++ rest) → read_entries (length es) labels e.0 (known sorts (reach n (variables e.1))) (entries_bytes es ++ rest) ≡ Some (es, known sorts (reach (reach n (variables e.1)) (entry_variables es)), rest) → read_entries (suc (length es)) labels last (known sorts n) (entries_bytes (e ∷ es) ++ rest) ≡ Some (e ∷ es, known sorts (reach n (variables e.1 ++ entry_variables es)), rest)
      joined one others =
          ap (read_entries (suc (length es)) labels last (known sorts n)) split ∙ ap₂ reading front back ∙ then_is _ (e.1, known sorts (reach n (variables e.1)), entries_bytes es ++ rest) _ (if_true _ _ (and_from _ _ rising.0 ahead) ∙ one) ∙ then_is _ (es, known sorts (reach (reach n (variables e.1)) (entry_variables es)), rest) (λ r. Some ((e.0, e.1) ∷ r.0, r.1, r.2)) others ∙ ap (λ j. Some (e ∷ es, known sorts j, rest)) (sym (reach_append (variables e.1) n (entry_variables es)))

ahead_first : (es : List (Name × Term)) → Rising es → Ahead [] es
ahead_first [] rising = tt
ahead_first (e ∷ es) rising = before_empty e.0 (name_long e.0 rising.0)

pub entries_long : (es : List (Name × Term)) → length es ≤ length (entries_bytes es)
entries_long [] = omega arith
entries_long (e ∷ es) = omega (arith, length-append e.0 (term_bytes e.1 ++ entries_bytes es), length-append (term_bytes e.1) (entries_bytes es), term_long e.1, entries_long es)

pub form_spelled : (labels : ℕ) (F : Form) → Good labels F → read_form labels (form_bytes F) ≡ Some F
form_spelled labels F good = if_true _ _ (le-leb (length (form_bytes F)) longest good.short) ∙ then_is _ (length F.entries, entries_bytes F.entries ++ term_bytes F.result) _ (group_spelled 2 (length F.entries) (entries_bytes F.entries ++ term_bytes F.result) few) ∙ then_is _ (F.entries, known sorts n, term_bytes F.result) _ entries ∙ then_is _ (F.result, known sorts (reach n (variables F.result)), []) _ result
  where
    sound : Sound labels F
    sound = good.sound

    sorts : ℕ → Sort
    sorts = good.sound.sorts

    n : ℕ
    n = reach 0 (entry_variables F.entries)

    whole : length (entries_bytes F.entries) + length (term_bytes F.result) ≤ 240
    whole = omega (arith, good.short, length-append (group (length F.entries)) (entries_bytes F.entries ++ term_bytes F.result), length-append (entries_bytes F.entries) (term_bytes F.result))

    few : length F.entries < bound 2
    few = omega (arith, whole, entries_long F.entries)

    small : Small (form_variables F)
    small = numbered_small 0 (form_variables F) (omega (arith, whole, length-append (entry_variables F.entries) (variables F.result), entry_variables_long F.entries, variables_long F.result)) good.sound.numbered

    nums : Numbered 0 (entry_variables F.entries) × Numbered (reach 0 (entry_variables F.entries)) (variables F.result)
    nums = numbered_parts (entry_variables F.entries) 0 (variables F.result) good.sound.numbered

    smalls : Small (entry_variables F.entries) × Small (variables F.result)
    smalls = small_parts (entry_variables F.entries) (variables F.result) small

    entries : read_entries (length F.entries) labels [] [] (entries_bytes F.entries ++ term_bytes F.result) ≡ Some (F.entries, known good.sound.sorts (reach 0 (entry_variables F.entries)), term_bytes F.result)
    entries = entries_spelled labels good.sound.sorts F.entries [] 0 (term_bytes F.result) good.sound.rising (ahead_first F.entries good.sound.rising) good.sound.types nums.0 smalls.0

    result : read_type labels (known good.sound.sorts (reach 0 (entry_variables F.entries))) (term_bytes F.result) ≡ Some (F.result, known good.sound.sorts (reach (reach 0 (entry_variables F.entries)) (variables F.result)), [])
    result = ap (read_type labels (known good.sound.sorts (reach 0 (entry_variables F.entries)))) (sym (append-nil (term_bytes F.result))) ∙ type_spelled labels good.sound.sorts F.result (reach 0 (entry_variables F.entries)) [] good.sound.result nums.1 smalls.1

count_spelled : (n : ℕ) (rest : List ℕ) → n ≤ most → read_count (group n ++ rest) ≡ Some (n, rest)
count_spelled n rest le = then_is _ (n, rest) _ (group_spelled 2 n rest (omega (arith, le))) ∙ if_true _ _ (le-leb n most le)

status_spelled : (labels : ℕ) (s : Status) → GoodStatus labels s → read_status labels (status_byte s) (status_bytes s) ≡ Some s
status_spelled labels (formed F) good = then_is _ F (λ G. Some (formed G)) (form_spelled labels F good)
status_spelled labels clashed good = refl
status_spelled labels overlong good = refl

-- A good typing is read back from its string.
pub typing_spelled : (labels : ℕ) (T : Typing) → GoodTyping labels T → read_typing labels (typing_bytes T) ≡ Some T
typing_spelled labels T good =
    then_is _ (T.clashes, group T.overlongs ++ (group T.holes ++ status_bytes T.status)) _ (count_spelled T.clashes (group T.overlongs ++ (group T.holes ++ status_bytes T.status)) good.clashes) ∙ then_is _ (T.overlongs, group T.holes ++ status_bytes T.status) _ (count_spelled T.overlongs (group T.holes ++ status_bytes T.status) good.overlongs) ∙ then_is _ (T.holes, status_bytes T.status) _ (count_spelled T.holes (status_bytes T.status) good.holes) ∙ then_is _ T.status _ (status_spelled labels T.status good.status)
