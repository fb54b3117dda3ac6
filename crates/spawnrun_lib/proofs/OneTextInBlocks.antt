-- In blocks a script has one text: its queues, its handles and its world follow from the script and
-- the size of the blocks.
use Rattle.spawnrun_lib.proofs.Common.{rules, ◌≡◌, refl, sym, ap, ◌∙◌, arith, ℕ, suc, ◌+◌, ◌-◌, ◌<◌}
use Rattle.spawnrun_lib.proofs.Common.{◌≤◌, List, [], ◌∷◌, ◌++◌, length, take, common_steps, filter}
use Rattle.spawnrun_lib.proofs.Common.{ext_get_or, length-append, Handle, Allocator, is_old}
use Rattle.spawnrun_lib.proofs.Common.{is_fresh, listed, Block, rest_of, after_use, blocks_from}
use Rattle.spawnrun_lib.proofs.Common.{lesser, Command, Spawn, SpawnMany, AreDrawnBy, left_of}
use Rattle.spawnrun_lib.proofs.Common.{used_by, View, sync, World, view_of, at_within, Script}
use Rattle.spawnrun_lib.proofs.Common.{Operation, Bindings, unbound, names_after, Issues, IssuesAll}
use Rattle.spawnrun_lib.proofs.Common.{IsTextFrom, IsTextInBlocks, sizes_of}
use Rattle.spawnrun_lib.specs.ReportInBlocks.{HaveIssued}
use Rattle.spawnrun_lib.proofs.Common.{blocks_in, reserved_in, Show}
use Rattle.ent_script.specs.declared.operation.Operation.TheVariants as operation
use Rattle.spawnrun_lib.proofs.OneCourse.{one_text, same_on_each}

-- ---- what a block has

few_parts : (made : ℕ) (hs : List Handle)
    → length (filter (is_old made) hs) + length (filter (is_fresh made) hs) ≤ length hs
few_parts made [] = omega arith
few_parts made (h ∷ hs) = grind (arith, common_steps, few_parts made hs)

-- a block that is used up gives no handle
none_left : (pool : List Handle) (b : Block) (h : Handle) → h ∷ [] ≡ take 1 (rest_of pool b)
    → left_of b < 1 → ⊥
none_left pool b h is none = grind (arith, common_steps)

-- and one with too few gives none of them
too_few : (s : Allocator) (b : Block) (hs : List Handle)
    → hs ≡ listed s.made (take (length hs) (rest_of s.pool b)) → left_of b < length hs → ⊥
too_few s b hs is less = grind (arith, common_steps, few_parts, length-append)

-- ---- one operation

same_operation : (view : View) (names : Bindings) (op : Operation) (s : Allocator) (b : Block)
    (cs ds : List Command) → Issues view names op cs → Issues view names op ds → AreDrawnBy s b cs
    → AreDrawnBy s b ds → cs ≡ ds
same_operation view names (operation.Spawn bundle binds) s b cs ds is is' drawn drawn' =
    search (rules, none_left)
same_operation view names (operation.SpawnMany count bundle binds) s b cs ds is is' drawn drawn' =
    search (rules, too_few)
same_operation view names _ s b cs ds is is' drawn drawn' = same_on_each view names _ _ cs ds is is'

-- ---- one system

-- the block after these commands, one by one
abbrev used_on : Block → List Command → Block
used_on b [] = b
used_on b (c ∷ cs) = used_on (after_use b (used_by c)) cs

drawn_first : (s : Allocator) (b : Block) (cs ds : List Command) → AreDrawnBy s b (cs ++ ds)
    → AreDrawnBy s b cs
drawn_first s b [] ds drawn = tt
drawn_first s b (c ∷ cs) ds drawn = (drawn.0, drawn_first s (after_use b (used_by c)) cs ds drawn.1)

drawn_rest : (s : Allocator) (b : Block) (cs ds : List Command) → AreDrawnBy s b (cs ++ ds)
    → AreDrawnBy s (used_on b cs) ds
drawn_rest s b [] ds drawn = drawn
drawn_rest s b (c ∷ cs) ds drawn = drawn_rest s (after_use b (used_by c)) cs ds drawn.1

-- After the same commands the block and the names are the same, so the rest follows.
same_queue : (view : View) (names : Bindings) (ops : List Operation) (s : Allocator) (b : Block)
    (cs ds : List Command) → IssuesAll view names ops cs → IssuesAll view names ops ds
    → AreDrawnBy s b cs → AreDrawnBy s b ds → cs ≡ ds
same_queue view names [] s b cs ds is is' drawn drawn' = is ∙ sym is'
same_queue view names (op ∷ ops) s b cs ds (first, rest, cs_are, may, others)
    (first', rest', ds_are, may', others') drawn drawn' =
    search (
      rules,
      same_operation,
      drawn_first,
      drawn_rest,
      same_queue view (names_after names op first) ops s (used_on b first) rest rest' others,
    )

-- ---- one frame

count_from : (before left : ℕ) (sizes : List ℕ)
    → length (blocks_from before left sizes) ≡ length sizes
count_from before left [] = refl
count_from before left (n ∷ sizes) =
    ap suc (count_from (before + lesser n left) (left - lesser n left) sizes)

count_sizes : (size : ℕ) (systems : List (List Operation))
    → length (sizes_of size systems) ≡ length systems
count_sizes size [] = refl
count_sizes size (system ∷ systems) = ap suc (count_sizes size systems)

same_queues : (size : ℕ) (w : World) (systems : List (List Operation)) (q r : List (List Command))
    → HaveIssued systems w (blocks_in (sizes_of size systems) w) q
    → HaveIssued systems w (blocks_in (sizes_of size systems) w) r → q ≡ r
same_queues size w systems q r a b =
    let blocks = blocks_in (sizes_of size systems) w in
    let many : length blocks ≡ length systems = search (rules, count_from, count_sizes) in
    ext_get_or [] q r (a.each_queue ∙ sym b.each_queue) (λ n less.
    let system = at_within systems n (omega (arith, less, a.each_queue)) in
    let block = at_within blocks n (omega (arith, less, a.each_queue, many)) in
    search (
      rules,
      same_queue (view_of w) unbound system.0 w.allocator block.0,
      a.each_system n system.0,
      b.each_system n system.0,
      a.draws n block.0,
      b.draws n block.0,
    ))

-- ---- one text

same_text : (names : List (List ℕ)) (size : ℕ) (show : Show) (number : ℕ) (w : World)
    (frames : List (List (List Operation))) (text other : List ℕ)
    → IsTextFrom names size show number w frames text
    → IsTextFrom names size show number w frames other → text ≡ other
same_text names size show number w [] text other is is' = search (rules, one_text)
same_text names size show number w (systems ∷ frames) text other (q, rest, are, more, text_is)
    (r, rest', are', more', other_is) =
    let same : q ≡ r = same_queues size w systems q r are are' in
    let rest_is : rest ≡ rest' =
    same_text names size show (number + 1)
    (sync q (reserved_in (sizes_of size systems) w q)).world frames rest rest' more
    (rw (sym same) at more') in
    search (rules, same, rest_is)

pub one_text_in_blocks : (script : Script) (size : ℕ) (show : Show) (text other : List ℕ)
    → IsTextInBlocks script size show text → IsTextInBlocks script size show other → text ≡ other
one_text_in_blocks script size show text other is is' = search (rules, same_text)
