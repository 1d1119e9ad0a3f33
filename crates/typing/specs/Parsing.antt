-- Reading a typing string. Computes; a string that is not lawful has no reading. Assumes nothing.
use Rattle.std.specs.Prelude.{ℕ, zero, suc, ◌+◌, ◌-◌, ◌*◌, Bool, true, false, cond, ◌&&◌, List, [], ◌∷◌, ◌++◌, length, take, drop, is_some, Some, None, Option, ◌==◌, nat_le, nat_lt, slice_index_or}
use Rattle.syntax.specs.Names.{is_name}
use Rattle.typing.specs.Heads.{Sort, type, place, result_of, parts_of, head_of}
use Rattle.typing.specs.Forms.{Name, Form}
use Rattle.typing.specs.Strings.{Status, formed, clashed, overlong, Typing, before, longest, most}
use Rattle.typing.specs.Terms.{Term, var, head, num, applied}
use Rattle.typing.specs.declared.head.Head.{Head}

abbrev pub and_then : {A B : Type 0} → Option A → (A → Option B) → Option B
and_then None on = None
and_then (Some a) on = on a

abbrev pub only_if : {A : Type 0} → Bool → Option A → Option A
only_if true o = o
only_if false o = None

-- a group number of at most `more` bytes behind the first, and the bytes behind it
abbrev pub read_group : ℕ → List ℕ → Option (ℕ × List ℕ)
read_group m [] = None
read_group zero (b ∷ bs) = only_if (nat_lt b 128) (Some (b, bs))
read_group (suc m) (b ∷ bs) =
    cond (nat_lt b 128) (Some (b, bs)) (and_then (read_group m bs) (λ p. only_if (nat_lt 0 p.0) (Some (p.0 * 128 + (b - 128), p.1))))

abbrev pub same_sort : Sort → Sort → Bool
same_sort type type = true
same_sort type place = false
same_sort place type = false
same_sort place place = true

-- A variable k is met where a term of the sort s is wanted; `seen` has the sorts of those met before.
abbrev pub meet_variable : Sort → ℕ → List Sort → Option (List Sort)
meet_variable s k seen =
    cond (nat_lt k (length seen)) (only_if (same_sort (slice_index_or seen k s) s) (Some seen)) (only_if (k == length seen) (Some (seen ++ s ∷ [])))

-- what was read, the sorts of the variables so far, and the bytes behind it
abbrev pub Read : Type 0 → Type 0
Read A = A × List Sort × List ℕ

abbrev pub read_head : ℕ → Option Head → ℕ → Sort → List Sort → List ℕ → (List Sort → List Sort → List ℕ → Option (Read (List Term))) → Option (Read Term)
read_head labels None token s seen bs on = and_then (meet_variable s (token - 5) seen) (λ now. Some (var (token - 5), now, bs))
read_head labels (Some h) token s seen bs on =
    only_if (same_sort (result_of h) s) (and_then (on (parts_of labels h) seen bs) (λ r. Some (applied (head h) r.0, r.1, r.2)))

-- terms of these sorts, one behind the other
abbrev pub read_terms : ℕ → ℕ → List Sort → List Sort → List ℕ → Option (Read (List Term))
read_terms fuel labels [] seen bs = Some ([], seen, bs)
read_terms zero labels (s ∷ ss) seen bs = None
read_terms (suc fuel) labels (s ∷ ss) seen bs =
    and_then (read_group 2 bs) (λ p. and_then (read_head labels (head_of p.0) p.0 s seen p.1 (read_terms fuel labels)) (λ t. and_then (read_terms fuel labels ss t.1 t.2) (λ r. Some (t.0 ∷ r.0, r.1, r.2))))

abbrev pub read_type : ℕ → List Sort → List ℕ → Option (Read Term)
read_type labels seen bs = and_then (read_terms (length bs) labels (type ∷ []) seen bs) (λ r. Some (slice_index_or r.0 0 num, r.1, r.2))

-- so many entries, with names behind `last`
abbrev pub read_entries : ℕ → ℕ → Name → List Sort → List ℕ → Option (Read (List (Name × Term)))
read_entries zero labels last seen bs = Some ([], seen, bs)
read_entries (suc n) labels last seen bs =
    and_then (only_if (is_name (take 4 bs) && before last (take 4 bs)) (read_type labels seen (drop 4 bs))) (λ t. and_then (read_entries n labels (take 4 bs) t.1 t.2) (λ r. Some ((take 4 bs, t.0) ∷ r.0, r.1, r.2)))

abbrev pub read_form : ℕ → List ℕ → Option Form
read_form labels bs =
    only_if (nat_le (length bs) longest) (and_then (read_group 2 bs) (λ n. and_then (read_entries n.0 labels [] [] n.1) (λ es. and_then (read_type labels es.1 es.2) (λ t. only_if (length t.2 == 0) (Some (record { entries = es.0; result = t.0 }))))))

abbrev pub read_count : List ℕ → Option (ℕ × List ℕ)
read_count bs = and_then (read_group 2 bs) (λ p. only_if (nat_le p.0 most) (Some p))

abbrev pub read_status : ℕ → ℕ → List ℕ → Option Status
read_status labels zero bs = and_then (read_form labels bs) (λ F. Some (formed F))
read_status labels (suc zero) bs = only_if (length bs == 0) (Some clashed)
read_status labels (suc (suc zero)) bs = only_if (length bs == 0) (Some overlong)
read_status labels (suc (suc (suc n))) bs = None

abbrev pub read_typing : ℕ → List ℕ → Option Typing
read_typing labels [] = None
read_typing labels (b ∷ bs) =
    and_then (read_count bs) (λ c. and_then (read_count c.1) (λ o. and_then (read_count o.1) (λ h. and_then (read_status labels b h.1) (λ s. Some (record { clashes = c.0; overlongs = o.0; holes = h.0; status = s })))))

abbrev pub is_lawful : ℕ → List ℕ → Bool
is_lawful labels bs = is_some (read_typing labels bs)
