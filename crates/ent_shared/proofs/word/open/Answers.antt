use Rattle.ent_shared.proofs.Common.{rules, ints}
use Rattle.ent_shared.proofs.Words.{word_is}
use Rattle.ent_shared.proofs.Steps.{begins}
use Rattle.ent_shared.proofs.word.open.Goals as goal

pub of_words-requires : goal.of_words-requires
of_words-requires c = search (rules, ints, begins, word_is)
