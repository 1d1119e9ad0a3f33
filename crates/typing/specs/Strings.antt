-- Typing strings: the bytes of a form, the counts before it, and which forms are good ones.
-- Assumes nothing.
use Rattle.std.specs.Prelude.{◌≡◌, ℕ, ◌+◌, ◌<◌, ◌≤◌, max, Bool, true, false, ◌&&◌, ◌||◌, List, [], ◌∷◌, ◌++◌, length, ◌==◌, nat_lt}
use Rattle.layout.specs.Groups.{group}
use Rattle.syntax.specs.Names.{is_name}
use Rattle.typing.specs.Heads.{Sort, type, token_of}
use Rattle.typing.specs.Forms.{Name, Form, form_variables}
use Rattle.typing.specs.Terms.{Term, var, head, ◌·◌, Sorted}

-- A term in prefix order: the token of a head is its number, that of variable k is 5 + k.
abbrev pub term_bytes : Term → List ℕ
term_bytes (var k) = group (5 + k)
term_bytes (head h) = group (token_of h)
term_bytes (f · x) = term_bytes f ++ term_bytes x

abbrev pub entries_bytes : List (Name × Term) → List ℕ
entries_bytes [] = []
entries_bytes (e ∷ es) = e.0 ++ (term_bytes e.1 ++ entries_bytes es)

abbrev pub form_bytes : Form → List ℕ
form_bytes F = group (length F.entries) ++ (entries_bytes F.entries ++ term_bytes F.result)

-- names in the order of their bytes
abbrev pub before : Name → Name → Bool
before [] [] = false
before [] (c ∷ cs) = true
before (b ∷ bs) [] = false
before (b ∷ bs) (c ∷ cs) = nat_lt b c || (b == c && before bs cs)

abbrev pub Ahead : Name → List (Name × Term) → Type 0
Ahead n [] = Unit {0}
Ahead n (e ∷ es) = before n e.0 ≡ true

-- names, strictly rising
abbrev pub Rising : List (Name × Term) → Type 0
Rising [] = Unit {0}
Rising (e ∷ es) = (is_name e.0 ≡ true) × Ahead e.0 es × Rising es

-- numbered from 0 by first appearance, where the numbers below n have appeared
abbrev pub Numbered : ℕ → List ℕ → Type 0
Numbered n [] = Unit {0}
Numbered n (k ∷ ks) = (k ≤ n) × Numbered (max n (k + 1)) ks

-- each entry is a type, where a variable may stand for what V says
abbrev pub Types : (ℕ → Sort → Type 0) → ℕ → List (Name × Term) → Type 0
Types V labels [] = Unit {0}
Types V labels (e ∷ es) = Sorted V labels [] type e.1 × Types V labels es

-- A form as it is written: a variable stands for a type or for a place, never for both.
pub record Sound (labels : ℕ) (F : Form) : Type 0 where
  pub rising : Rising F.entries
  pub sorts : ℕ → Sort
  pub types : Types (λ k s. sorts k ≡ s) labels F.entries
  pub result : Sorted (λ k s. sorts k ≡ s) labels [] type F.result
  pub numbered : Numbered 0 (form_variables F)

-- the longest form that a string may hold
abbrev pub longest : ℕ
longest = 240

pub record Good (labels : ℕ) (F : Form) : Type 0 where
  pub sound : Sound labels F
  pub short : length (form_bytes F) ≤ longest

pub data Status : Type 0 where
  formed : Form → Status
  clashed : Status
  overlong : Status

-- Counts go no further than this.
abbrev pub most : ℕ
most = 16383

-- how a subtree is typed, and how many of its nodes are clashes, overlong, and holes
pub record Typing : Type 0 where
  pub clashes : ℕ
  pub overlongs : ℕ
  pub holes : ℕ
  pub status : Status

abbrev pub status_byte : Status → ℕ
status_byte (formed F) = 0
status_byte clashed = 1
status_byte overlong = 2

abbrev pub status_bytes : Status → List ℕ
status_bytes (formed F) = form_bytes F
status_bytes clashed = []
status_bytes overlong = []

abbrev pub typing_bytes : Typing → List ℕ
typing_bytes T =
    status_byte T.status ∷ (group T.clashes ++ (group T.overlongs ++ (group T.holes ++ status_bytes T.status)))

abbrev pub GoodStatus : ℕ → Status → Type 0
GoodStatus labels (formed F) = Good labels F
GoodStatus labels clashed = Unit {0}
GoodStatus labels overlong = Unit {0}

pub record GoodTyping (labels : ℕ) (T : Typing) : Type 0 where
  pub clashes : T.clashes ≤ most
  pub overlongs : T.overlongs ≤ most
  pub holes : T.holes ≤ most
  pub status : GoodStatus labels T.status

-- bytes, each below 256
abbrev pub Bytes : List ℕ → Type 0
Bytes [] = Unit {0}
Bytes (b ∷ bs) = (b < 256) × Bytes bs

-- the lawful strings
pub record LawfulString (labels : ℕ) (bytes : List ℕ) : Type 0 where
  pub typing : Typing
  pub good : GoodTyping labels typing
  pub spelled : bytes ≡ typing_bytes typing
