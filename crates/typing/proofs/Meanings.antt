-- What a token stands for, and the heads that there are. Assumes nothing.
use Rattle.std.proofs.Common.{◌≡◌, ℕ, suc, ◌+◌, ◌-◌, Some, None, Option, refl, ap, ◌∙◌, arith}
use Rattle.typing.specs.Heads.{head_of, head_or, meaning_of, token_of}
use Rattle.typing.specs.declared.head.Head.{Head}
use Rattle.typing.specs.declared.head.Head.TheVariants.{Num, Fun, Rec, Absent, Present}
use Rattle.typing.specs.declared.head.Token.TheVariants.{Head as OfHead, Variable}

-- the token of a variable is no head
pub variable_meant : (n k : ℕ) → Variable k ≡ meaning_of n → (head_of n ≡ None) × (k ≡ n - 5)
variable_meant n k is = by_head (head_of n) refl is
  where
    by_head : (o : Option Head) → head_of n ≡ o → Variable k ≡ head_or n o → (head_of n ≡ None) × (k ≡ n - 5)
    by_head None at is' = (at, cc)
    by_head (Some h) at is' = absurd (let z : ◌≡◌ {A = ℕ} 0 1 = cc in omega (arith, z))

pub head_meant : (n : ℕ) (h : Head) → OfHead h ≡ meaning_of n → head_of n ≡ Some h
head_meant n h is = by_head (head_of n) refl is
  where
    by_head : (o : Option Head) → head_of n ≡ o → OfHead h ≡ head_or n o → head_of n ≡ Some h
    by_head None at is' = absurd (let z : ◌≡◌ {A = ℕ} 0 1 = cc in omega (arith, z))
    by_head (Some k) at is' = at ∙ ap Some (cc)

-- the tokens of variables and of heads
pub variable_token : (k : ℕ) → meaning_of (5 + k) ≡ Variable k
variable_token k =
    let e : 5 + k ≡ suc (suc (suc (suc (suc k)))) = omega arith in
    let less : suc (suc (suc (suc (suc k)))) - 5 ≡ k = omega arith in
    ap meaning_of e ∙ ap Variable less

pub head_token : (h : Head) → meaning_of (token_of h) ≡ OfHead h
head_token Num = refl
head_token Fun = refl
head_token Rec = refl
head_token Absent = refl
head_token Present = refl
