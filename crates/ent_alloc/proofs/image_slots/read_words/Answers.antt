use Rattle.ent_alloc.proofs.Common.{rules, ◌≡◌, ◌++◌, length, word}
use Rattle.ent_alloc.proofs.ImageFaults.{spelled, none_spelled, no_row}
use Rattle.ent_alloc.proofs.image_slots.read_words.Goals.{After-record_of}
use Rattle.ent_alloc.proofs.image_slots.read_words.Goals as goal

-- the three words, which are all
in_words : (c : After-record_of)
    → c.args.bytes.now ≡ word c.read_word-generation.result.0
    ++ (word c.read_word-kind.result.0
    ++ (word c.read_word-number.result.0 ++ c.read_word-number.result.1.now))
in_words c = search rules

all : (c : After-record_of) → length c.read_word-number.result.1.now ≡ 0
all c = search rules

pub returns-clause-bytes : goal.returns-clause-bytes
returns-clause-bytes c =
    let after = (goal.at.returns-clause-bytes c).After-record_of in
    let is = spelled _ _ _ _ _ (in_words after) (all after) c.record_of.result in
    search (rules, is)

pub returns-clause-none : goal.returns-clause-none
returns-clause-none c = search (rules, none_spelled, in_words, all)

pub returns-clause-row : goal.returns-clause-row
returns-clause-row c = search (rules, no_row, in_words, all)
