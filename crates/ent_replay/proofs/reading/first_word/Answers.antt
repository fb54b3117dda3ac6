use Rattle.ent_replay.proofs.ScheduleWords.{parts_whole, parts_first}
use Rattle.ent_replay.proofs.reading.first_word.Goals as goal

pub returns-in-Some : goal.returns-in-Some
returns-in-Some c =
    parts_first 32 c.args.line.now c.in-Some.word.now c.in-Some.others.now c.in-Some.ensures.found
    c.in-Some.ensures.first

pub returns-in-None : goal.returns-in-None
returns-in-None c = parts_whole 32 c.args.line.now c.in-None.ensures.none
