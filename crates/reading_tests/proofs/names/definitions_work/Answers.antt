use Rattle.std.proofs.Common.{refl}
use Rattle.reading_tests.proofs.names.definitions_work.Goals as goal

pub returns : goal.returns
returns c = refl
