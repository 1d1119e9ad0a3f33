-- How large a term is. Assumes nothing.
use Rattle.std.specs.Prelude.{ℕ, ◌+◌}
use Rattle.typing.specs.Terms.{Term, var, head, ◌·◌}

-- how many heads and variables a term has
abbrev pub size : Term → ℕ
size (var k) = 1
size (head h) = 1
size (f · x) = size f + size x
