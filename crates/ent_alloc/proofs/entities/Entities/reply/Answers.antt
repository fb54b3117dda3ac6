use Rattle.ent_alloc.proofs.Common.{rules, ◌≡◌, ap, ◌∙◌, Ok, arith, to_z, of_z, w64, ℕ, ints}
use Rattle.ent_alloc.proofs.Common.{pool_at, reply_from, reserved_handles}
use Rattle.ent_alloc.proofs.FreshHandles.{fresh-none}
use Rattle.ent_alloc.proofs.Meaning.{allocator_is}
use Rattle.ent_alloc.proofs.OneReply.{reply_none, IsBelowTop, below_top, replied, several, short_of}
use Rattle.ent_alloc.proofs.OneReply.{left_is, IsServed}
use Rattle.ent_alloc.proofs.entities.Entities.reply.Goals.{After-self, After-slots}
use Rattle.ent_alloc.proofs.entities.Entities.reply.Goals as goal

-- where the span lies
lies : (c : After-self) → IsBelowTop c.self.inside.slots c.args.span.high
lies c = search (rules, below_top, allocator_is)

-- how many slots may be made
slots_is : (c : After-slots) → c.slots.result ≡ c.self.inside.slots.limits.slots
slots_is c = search rules

-- what a reply lists that owns these positions and indexes
lists : (c : After-self) (n position end index index_end : ℕ)
    → IsServed c.self.inside.slots c.args.span.high n position end index index_end
    → Ok (reserved_handles c.self.inside.slots position end index index_end)
    ≡ reply_from c.args.self.now.allocator.made (pool_at c.args.self.now.allocator c.args.span.high)
    n
lists c = search (rules, several, allocator_is)

pub returns-then-low-high : goal.returns-then-low-high
returns-then-low-high c = search (rules, lies, ints, fresh-none, reply_none, replied, allocator_is)

pub new-requires-then-low-ge0 : goal.new-requires-then-low-ge0
new-requires-then-low-ge0 c =
    let at = lies (goal.at.new-requires-then-low-ge0 c).After-self in
    search (rules, ints, c.self.inside.slots, c.args.span.high)

pub returns-then-low-ge0 : goal.returns-then-low-ge0
returns-then-low-ge0 c =
    let at = lies (goal.at.returns-then-low-ge0 c).After-self in
    search (rules, lists (goal.at.returns-then-low-ge0 c).After-self, ints)

pub returns-then-index_end-from : goal.returns-then-index_end-from
returns-then-index_end-from c n requested =
    let at = lies (goal.at.returns-then-index_end-from c).After-self in
    let slots = slots_is (goal.at.returns-then-index_end-from c).After-slots in
    let word : to_z w64 (of_z w64 c.args.span.high) ≡ c.args.span.high = omega (arith, ints) in
    let view = allocator_is c.self.view_is in
    let left = left_is _ _ _ c.args.span.high _ c.self.invariant view in
    short_of _ _ _ c.args.span.high _ c.self.invariant view n _ _ (omega (arith, ints))
    (omega (arith, ints))
    (omega (arith, ints)) (search (rules, c.left_below.ensures, word, left))

pub new-requires-then-high-gt0 : goal.new-requires-then-high-gt0
new-requires-then-high-gt0 c =
    let at = lies (goal.at.new-requires-then-high-gt0 c).After-self in
    search (rules, slots_is, c.self.inside.slots, c.args.span.high, ints)

pub returns-then-high-gt0 : goal.returns-then-high-gt0
returns-then-high-gt0 c n requested =
    let at = lies (goal.at.returns-then-high-gt0 c).After-self in
    let slots = slots_is (goal.at.returns-then-high-gt0 c).After-slots in
    ap Ok c.new-then-high-gt0.ensures ∙ lists (goal.at.returns-then-high-gt0 c).After-self n _ _ _ _
    (search (rules, ints))

pub new-requires-2 : goal.new-requires-2
new-requires-2 c = search (rules, lies, slots_is)

pub returns : goal.returns
returns c n requested =
    let at = lies (goal.at.returns c).After-self in
    let slots = slots_is (goal.at.returns c).After-slots in
    ap Ok c.new-2.ensures ∙ lists (goal.at.returns c).After-self n 0 0 _ _ (search (rules, ints))
