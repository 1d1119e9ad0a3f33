use Rattle.std.proofs.Common.{take, drop, ap, ◌∙◌}
use Rattle.std.proofs.lemmas.List.{drop_at, take_at}
use Rattle.inference.proofs.join.read_name.Goals as goal

pub returns : goal.returns
returns c n rest long is =
    let parts = rw c.in_ok-name.ensures.ok_part at c.split_first_chunk.ensures.cases in
    (parts.0 ∙ ap (take 4) is ∙ take_at n rest 4 long, parts.1 ∙ ap (drop 4) is ∙ drop_at n rest 4 long)
