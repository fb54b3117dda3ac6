use Rattle.ent_runner.proofs.Steps.{begins}
use Rattle.ent_runner.proofs.crew.word.open.Goals as goal

pub of_words-requires : goal.of_words-requires
of_words-requires c = begins _ _ c.requires.numbers c.requires.few
