-- A typing string written piece by piece into a buffer. Assumes nothing.
use Rattle.std.proofs.Common.{◌≡◌, ℕ, suc, ◌+◌, ◌/◌, ◌<◌, ◌≤◌, ◌⊎◌, List, [], ◌∷◌, ◌++◌, length, take, drop, set, sym, refl, ap, ◌∙◌, subst, ap₂, inl, inr, arith, length-append}
use Rattle.std.proofs.lemmas.List.{append_assoc, drop_at, drop-drop, set_split, take-append-drop, take_at}
use Rattle.std.proofs.lemmas.Bool.{cases_lt}
use Rattle.layout.specs.Groups.{group}
use Rattle.layout.proofs.Groups.{groups_small, groups_large}
use Rattle.typing.specs.Strings.{most}
use Rattle.inference.specs.TypingStrings.{put_at}

-- no byte
pub put_none : (out : List ℕ) (at : ℕ) → out ≡ put_at at [] out
put_none out at =
    let none : at + 0 ≡ at = omega arith in
    sym (ap (λ n. take at out ++ drop n out) none ∙ take-append-drop at out)

-- one byte
pub put_one : (out : List ℕ) (at x : ℕ) → at < length out → set out at x ≡ put_at at (x ∷ []) out
put_one out at x room =
    let one : suc at ≡ at + 1 = omega arith in
    set_split out at x room ∙ ap (λ n. take at out ++ x ∷ drop n out) one

-- The bytes stand at the front of a buffer, which is behind them as it was at first.
abbrev Begun : List ℕ → List ℕ → List ℕ → ℕ → Type 0
Begun bytes first out at = (at ≡ length bytes) × (out ≡ bytes ++ drop at first)

-- a piece behind others
begun_more : (bytes xs first out out' : List ℕ) (at at' : ℕ) → Begun bytes first out at → out' ≡ put_at at xs out → at' ≡ at + length xs → Begun (bytes ++ xs) first out' at'
begun_more bytes xs first out out' at at' begun is ends =
    let long = sym begun.0 in
    let front : take at out ≡ bytes = ap (take at) begun.1 ∙ take_at bytes (drop at first) at long in
    let rest : drop at out ≡ drop at first = ap (drop at) begun.1 ∙ drop_at bytes (drop at first) at long in
    let behind : drop (at + length xs) out ≡ drop at' first = sym (drop-drop (length xs) at out) ∙ ap (drop (length xs)) rest ∙ drop-drop (length xs) at first ∙ ap (λ n. drop n first) (sym ends) in
    (omega (arith, ends, begun.0, length-append bytes xs), is ∙ ap₂ (λ y z. y ++ (xs ++ z)) front behind ∙ sym (append_assoc bytes xs (drop at' first)))

-- the status, three counts, and the form
pub string_put : (s : ℕ) (a b c text first out₁ out₂ out₃ out₄ : List ℕ) (p₁ p₂ p₃ p₄ : ℕ) → 0 < length first → p₁ ≡ 1 + length a → out₁ ≡ put_at 1 a (set first 0 s) → p₂ ≡ p₁ + length b → out₂ ≡ put_at p₁ b out₁ → p₃ ≡ p₂ + length c → out₃ ≡ put_at p₂ c out₂ → p₄ ≡ p₃ + length text → out₄ ≡ put_at p₃ text out₃ → Begun (s ∷ (a ++ (b ++ (c ++ text)))) first out₄ p₄
string_put s a b c text first out₁ out₂ out₃ out₄ p₁ p₂ p₃ p₄ some e₁ w₁ e₂ w₂ e₃ w₃ e₄ w₄ =
    let b₀ : Begun (s ∷ []) first (set first 0 s) 1 = (refl, put_one first 0 s some) in
    let b₁ = begun_more (s ∷ []) a first (set first 0 s) out₁ 1 p₁ b₀ w₁ e₁ in
    let b₂ = begun_more (s ∷ a) b first out₁ out₂ p₁ p₂ b₁ w₂ e₂ in
    let b₃ = begun_more (s ∷ (a ++ b)) c first out₂ out₃ p₂ p₃ b₂ w₃ e₃ in
    let b₄ = begun_more (s ∷ ((a ++ b) ++ c)) text first out₃ out₄ p₃ p₄ b₃ w₄ e₄ in
    subst (λ bytes. Begun (s ∷ bytes) first out₄ p₄) (append_assoc (a ++ b) c text ∙ append_assoc a b (c ++ text)) b₄

-- a count has one byte or two
pub count_short : (n : ℕ) → n ≤ most → length (group n) ≤ 2
count_short n held = by_size (cases_lt n 128)
  where
    by_size : (n < 128) ⊎ (128 ≤ n) → length (group n) ≤ 2
    by_size (inl small) = omega (arith, ap length (groups_small 2 n small))
    by_size (inr large) = omega (arith, ap length (groups_large 1 n large), ap length (groups_small 1 (n / 128) (omega arith)))
