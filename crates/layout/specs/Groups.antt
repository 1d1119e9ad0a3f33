-- Group numbers: groups of seven bits, lowest first, the top bit set on all bytes but the last, in
-- the shortest way. Assumes nothing.
use Rattle.std.specs.Prelude.{ℕ, zero, suc, ◌+◌, ◌*◌, ◌/◌, ◌%◌, ◌<◌, cond, List, [], ◌∷◌, nat_lt}

-- the bytes of n, of which at most `more` follow the first
abbrev pub groups : ℕ → ℕ → List ℕ
groups zero n = n ∷ []
groups (suc more) n = cond (nat_lt n 128) (n ∷ []) ((128 + n % 128) ∷ groups more (n / 128))

-- below this number at most `more` bytes follow the first
abbrev pub bound : ℕ → ℕ
bound zero = 128
bound (suc more) = 128 * bound more

-- group numbers have at most three bytes
abbrev pub group : ℕ → List ℕ
group n = groups 2 n

abbrev pub Group : ℕ → Type 0
Group n = n < bound 2
