use Rattle.ent_shared.proofs.Common.{rules, ◌^◌, ◌+◌, ◌≤◌, ◌<◌, offset, arith, ints}
use Rattle.ent_shared.proofs.Words.{word_least, word_greatest, cursor_is}
use Rattle.ent_shared.proofs.Steps.{ends}
use Rattle.ent_shared.proofs.word.close.Goals as goal

-- the state at the end, and that its word was read
least : (c : goal.After-free) → offset ≤ c.word-last.result + 2 ^ 50
least c = let f = c.close_with-closed.ensures.values.2 in search (rules, word_least _ _ f.0 f.1.0)

greatest : (c : goal.After-free) → c.word-last.result < offset + 2 ^ 32
greatest c = let f = c.close_with-closed.ensures.values.2 in
    search (rules, word_greatest _ _ f.0 f.1.0)

pub overflow_cast-result : goal.overflow_cast-result
unfolding offset
overflow_cast-result c = omega (arith, ints, greatest c)

pub overflow_sub-result : goal.overflow_sub-result
unfolding offset
overflow_sub-result c = omega (arith, ints, least c, greatest c)

pub returns : goal.returns
returns c =
    search (
      rules,
      cursor_is c.word-last.result (least c) (greatest c),
      ends,
      c.close_with-closed.ensures.values.2,
    )
