-- Commands as bytes, and back, and a command at the end of a queue.
use Rattle.ent_queue.proofs.Common.{◌≡◌, refl, ℕ, zero, suc, ◌*◌, ◌^◌, ◌<◌, List, [], ◌∷◌, ◌++◌}
use Rattle.ent_queue.proofs.Common.{length, drop, arith, ap, sym, append_assoc, length-append}
use Rattle.ent_queue.proofs.Common.{slice_index, IsTrue, nat_eq, rules, All, flat_map, All-head}
use Rattle.ent_queue.proofs.Common.{All-tail, drop-append_seam, Handle, IsHandle, Refusal, Bundle}
use Rattle.ent_queue.proofs.Common.{IsBundle, Command, IsRefusal, IsCommand, Spawn, SpawnMany}
use Rattle.ent_queue.proofs.Common.{Insert, Remove, Despawn, Refused, bytes_4, handle_bytes}
use Rattle.ent_queue.proofs.Common.{bundle_bytes, refusal_bytes, command_bytes, queue_bytes}
use Rattle.ent_queue.proofs.Common.{number_4, unpacked_handle, unpacked_handles, unpacked_refusal}
use Rattle.ent_queue.proofs.Common.{unpacked_command, after_first, unpacked_commands, ArePacked}
use Rattle.ent_queue.proofs.Common.{BeginsWith, ◌≤◌, command_of_kind, ◌+◌, append-nil, Fits, Vec}
use Rattle.ent_queue.proofs.Common.{w64, common_steps, Fits-of_lt, All-nil, All-push, All-cons}
use Rattle.ent_queue.proofs.Common.{All-append, flat_map-append, length-map, map, subst, ◌∙◌}
use Rattle.ent_queue.proofs.Parts.{number_4-bytes, number_8-bytes, drop-bytes_4, drop-bytes_8}
use Rattle.ent_queue.proofs.Parts.{unpacked_handle-bytes, length-bytes_4, length-bytes_8}
use Rattle.ent_queue.proofs.Parts.{length-handles, unpacked_handles-bytes, drop-handles}
use Rattle.ent_queue.proofs.Parts.{BundleBegins, bundle_begins}

-- What the parts after the byte for each kind say, and let be read.
pub record WithBundle (h : Handle) (items : Bundle) (parts rest : List ℕ) : Type 0 where
  pub long : 8 ≤ length parts
  pub handle : unpacked_handle parts ≡ h
  pub is : IsHandle h
  pub bundle : BundleBegins items (drop 8 parts) rest

with_bundle : (h : Handle) (items : Bundle) (rest : List ℕ) → IsHandle h → IsBundle items
    → WithBundle h items ((handle_bytes h ++ bundle_bytes items) ++ rest) rest
with_bundle h items rest is bundle =
    let begins = bundle_begins items rest (bundle_bytes items ++ rest) bundle refl in
    search (
      rules,
      append_assoc,
      length-append,
      length-bytes_8,
      unpacked_handle-bytes,
      drop-bytes_8,
      begins,
    )

pub record WithHandles (hs : List Handle) (items : Bundle) (parts rest : List ℕ) : Type 0 where
  pub header : 4 ≤ length parts
  pub long : 8 * number_4 parts ≤ length (drop 4 parts)
  pub handles : unpacked_handles (number_4 parts) (drop 4 parts) ≡ hs
  pub each : All IsHandle hs
  pub bundle : BundleBegins items (drop (8 * number_4 parts) (drop 4 parts)) rest

with_handles : (hs : List Handle) (items : Bundle) (parts rest : List ℕ) → length hs < 2 ^ 32
    → All IsHandle hs → IsBundle items
    → parts ≡ bytes_4 (length hs) ++ (flat_map handle_bytes hs ++ (bundle_bytes items ++ rest))
    → WithHandles hs items parts rest
with_handles hs items parts rest few all bundle e =
    let count : number_4 parts ≡ length hs = rw (e, number_4-bytes) in
    let more : drop 4 parts ≡ flat_map handle_bytes hs ++ (bundle_bytes items ++ rest) =
    rw (e, drop-bytes_4) in
    let begins = bundle_begins items rest (bundle_bytes items ++ rest) bundle refl in
    search (
      rules,
      arith,
      count,
      more,
      length-append,
      length-bytes_4,
      length-handles,
      unpacked_handles-bytes,
      drop-handles,
      begins,
    )

pub record WithComponent (h : Handle) (id : ℕ) (parts rest : List ℕ) : Type 0 where
  pub long : 8 ≤ length parts
  pub handle : unpacked_handle parts ≡ h
  pub is : IsHandle h
  pub more : 1 ≤ length (drop 8 parts)
  pub id_is : slice_index (drop 8 parts) 0 ≡ id
  pub rest_is : drop 1 (drop 8 parts) ≡ rest

with_component : (h : Handle) (id : ℕ) (rest : List ℕ) → IsHandle h
    → WithComponent h id ((handle_bytes h ++ id ∷ []) ++ rest) rest
with_component h id rest is = search
    (rules, arith, append_assoc, drop-bytes_8, length-append, length-bytes_8, unpacked_handle-bytes)

pub record HandleAlone (h : Handle) (parts rest : List ℕ) : Type 0 where
  pub long : 8 ≤ length parts
  pub handle : unpacked_handle parts ≡ h
  pub is : IsHandle h
  pub rest_is : drop 8 parts ≡ rest

handle_alone : (h : Handle) (rest : List ℕ) → IsHandle h
    → HandleAlone h (handle_bytes h ++ rest) rest
handle_alone h rest is =
    search (rules, arith, length-append, length-bytes_8, unpacked_handle-bytes, drop-bytes_8)

pub record WithReason (wanted : ℕ) (why : Refusal) (parts rest : List ℕ) : Type 0 where
  pub header : 4 ≤ length parts
  pub wanted_is : number_4 parts ≡ wanted
  pub long : 9 ≤ length (drop 4 parts)
  pub why_is : unpacked_refusal wanted (drop 4 parts) ≡ why
  pub is : IsRefusal wanted why
  pub rest_is : drop 8 (drop 1 (drop 4 parts)) ≡ rest

unpacked_refusal-bytes : (wanted : ℕ) (why : Refusal) (rest : List ℕ) → IsRefusal wanted why
    → unpacked_refusal wanted (refusal_bytes why ++ rest) ≡ why
unpacked_refusal-bytes wanted it rest is = search (rules, arith, number_8-bytes)

after_refusal : (why : Refusal) (rest : List ℕ) → (9 ≤ length (refusal_bytes why ++ rest))
    × (drop 8 (drop 1 (refusal_bytes why ++ rest)) ≡ rest)
after_refusal it rest = search (rules, length-append, length-bytes_8, drop-bytes_8)

with_reason : (wanted : ℕ) (why : Refusal) (rest : List ℕ) → wanted < 2 ^ 32 → IsRefusal wanted why
    → WithReason wanted why ((bytes_4 wanted ++ refusal_bytes why) ++ rest) rest
with_reason wanted why rest few is =
    search (
      rules,
      append_assoc,
      length-append,
      length-bytes_4,
      number_4-bytes,
      drop-bytes_4,
      unpacked_refusal-bytes,
      after_refusal why rest,
    )

abbrev pub Says : Command → List ℕ → List ℕ → Type 0
Says (Spawn h items) parts rest = WithBundle h items parts rest
Says (SpawnMany hs items) parts rest = WithHandles hs items parts rest
Says (Insert h items) parts rest = WithBundle h items parts rest
Says (Remove h id) parts rest = WithComponent h id.0 parts rest
Says (Despawn h) parts rest = HandleAlone h parts rest
Says (Refused wanted why) parts rest = WithReason wanted why parts rest

says : (c : Command) (rest : List ℕ) → IsCommand c → Says c (drop 1 (command_bytes c ++ rest)) rest
says it rest is =
    search
    (rules, append_assoc, with_bundle, with_handles, with_component, handle_alone, with_reason)

pub unpacked_command-bytes : (c : Command) (rest : List ℕ) → IsCommand c
    → unpacked_command (command_bytes c ++ rest) ≡ c
unpacked_command-bytes it rest is = let s = says it rest is in search (rules, s)

pub after_first-bytes : (c : Command) (rest : List ℕ) → IsCommand c
    → after_first (command_bytes c ++ rest) ≡ rest
after_first-bytes c rest is = search (rules, unpacked_command-bytes, drop-append_seam)

-- what bytes that begin with a command let be read after the byte for its kind
pub begins_says : (bytes : List ℕ) → (c : Command) × (rest : List ℕ) × BeginsWith c bytes rest
    → Says (unpacked_command bytes) (drop 1 bytes) (after_first bytes)
begins_says bytes b = search (rules, after_first-bytes, unpacked_command-bytes, says b.0 b.1 b.2.is)

last_kind : (c : Command) (rest : List ℕ) → slice_index (command_bytes c ++ rest) 0 ≤ 5
last_kind it rest = search rules

pub begins_kind : (bytes : List ℕ) → (c : Command) × (rest : List ℕ) × BeginsWith c bytes rest
    → slice_index bytes 0 ≤ 5
begins_kind bytes b = rw b.2.bytes_are (last_kind b.0 b.1)

pub says_of_kind : (kind : ℕ) (bytes : List ℕ)
    → (c : Command) × (rest : List ℕ) × BeginsWith c bytes rest → kind ≡ slice_index bytes 0
    → Says (command_of_kind kind (drop 1 bytes)) (drop 1 bytes) (after_first bytes)
says_of_kind kind bytes b e = rw e (begins_says bytes b)

pub unpacked_commands-bytes : (commands : List Command) → All IsCommand commands
    → unpacked_commands (length commands) (queue_bytes commands) ≡ commands
unfolding unpacked_commands
unpacked_commands-bytes [] all = refl
unpacked_commands-bytes (c ∷ commands) all =
    let is = All-head IsCommand c commands all in
    let others = unpacked_commands-bytes commands (All-tail IsCommand c commands all) in
    search (
      rules,
      after_first-bytes c (queue_bytes commands) is,
      unpacked_command-bytes c (queue_bytes commands) is,
      others,
    )

pub are_packed : (commands : List Command) → All IsCommand commands
    → ArePacked (length commands) (queue_bytes commands)
are_packed commands all = search (rules, unpacked_commands-bytes)

pub length_of_commands : (count : ℕ) (bytes : List ℕ)
    → length (unpacked_commands count bytes) ≡ count
unfolding unpacked_commands
length_of_commands zero bytes = refl
length_of_commands (suc count) bytes = ap suc (length_of_commands count (after_first bytes))

pub no_commands : (count : ℕ) (bytes : List ℕ) → count ≡ 0 → unpacked_commands count bytes ≡ []
unfolding unpacked_commands
no_commands count bytes e = rw e

pub no_commands_iff : (count : ℕ) (bytes : List ℕ) (now : List Command)
    → unpacked_commands count bytes ≡ now
    → (IsTrue (nat_eq count 0) → now ≡ []) × (now ≡ [] → IsTrue (nat_eq count 0))
no_commands_iff count bytes now e =
    search (rules, arith, no_commands, length_of_commands count bytes)

-- the first of some commands
pub first_of_commands : (count left : ℕ) (bytes : List ℕ) → suc left ≡ count
    → unpacked_commands count bytes
    ≡ unpacked_command bytes ∷ unpacked_commands left (after_first bytes)
unfolding unpacked_commands
first_of_commands count left bytes e = ap (λ n. unpacked_commands n bytes) (sym e)

pub some_command_begins : (count left : ℕ) (bytes : List ℕ) → suc left ≡ count
    → ArePacked count bytes
    → BeginsWith (unpacked_command bytes) bytes
    (queue_bytes (unpacked_commands left (after_first bytes)))
some_command_begins count left bytes e packed =
    let first = first_of_commands count left bytes e in search (rules, All-head)

pub others_are_packed : (count left : ℕ) (bytes : List ℕ) → suc left ≡ count → ArePacked count bytes
    → ArePacked left (after_first bytes)
others_are_packed count left bytes e packed =
    let first = first_of_commands count left bytes e in
    let begins = some_command_begins count left bytes e packed in
    let each = All-tail IsCommand (unpacked_command bytes) _ (rw first at packed.each) in
    search (rules, begins, after_first-bytes, each)

queue_bytes-push : (cs : List Command) (c : Command)
    → queue_bytes (cs ++ c ∷ []) ≡ queue_bytes cs ++ command_bytes c
queue_bytes-push cs c = grind (arith, common_steps, append-nil)

-- The bytes of some commands, and then those of one more, are those of one more command.
pub record Pushed (count : ℕ) (bytes new : List ℕ) (c : Command) : Type 0 where
  pub packed : ArePacked (count + 1) new
  pub commands : unpacked_commands (count + 1) new ≡ unpacked_commands count bytes ++ c ∷ []

pub pushed : (count : ℕ) (bytes new : List ℕ) (c : Command) → ArePacked count bytes → IsCommand c
    → new ≡ bytes ++ command_bytes c → Pushed count bytes new c
pushed count bytes new c packed is written =
    let cs = unpacked_commands count bytes in
    let all = All-push IsCommand cs c packed.each is in
    let whole : queue_bytes (cs ++ c ∷ []) ≡ new = search (rules, queue_bytes-push) in
    search (rules, length-append, length_of_commands, are_packed, unpacked_commands-bytes)

counted : (cs : List Command) → length cs ≤ length (queue_bytes cs)
counted [] = omega arith
counted (c ∷ cs) = grind (arith, common_steps, counted cs)

-- there are no more commands than bytes
count_le_bytes : (count : ℕ) (bytes : List ℕ) → ArePacked count bytes → count ≤ length bytes
count_le_bytes count bytes packed =
    grind (arith, common_steps, counted (unpacked_commands count bytes), length_of_commands)

-- so that one more can be counted
pub count_fits : {Z : Type 0} (count : ℕ) (bytes : Vec ℕ Z) → ArePacked count bytes.items
    → Fits w64 (count + 1)
count_fits count bytes packed = search (rules, count_le_bytes, Fits-of_lt)

pub nothing_packed : ArePacked 0 []
nothing_packed = are_packed [] (All-nil IsCommand)

-- the bytes of a spawn of many, part by part
pub many_written : (old : List ℕ) (hs : List Handle) (items : Bundle) (n : ℕ) → length hs ≡ n
    → (old ++ 1 ∷ (bytes_4 n ++ flat_map handle_bytes hs)) ++ bundle_bytes items ≡ old
    ++ command_bytes (SpawnMany hs items)
many_written old hs items n e = grind (arith, common_steps)

-- the same for several more
pub record PushedAll (count many : ℕ) (bytes new : List ℕ) (cs : List Command) : Type 0 where
  pub packed : ArePacked (count + many) new
  pub commands : unpacked_commands (count + many) new ≡ unpacked_commands count bytes ++ cs

pushed_all : (count many : ℕ) (bytes new : List ℕ) (cs : List Command) → many ≡ length cs
    → ArePacked count bytes → All IsCommand cs → new ≡ bytes ++ queue_bytes cs
    → PushedAll count many bytes new cs
pushed_all count many bytes new cs e packed are written =
    let old = unpacked_commands count bytes in
    let all : All IsCommand (old ++ cs) = All-append IsCommand old cs packed.each are in
    let whole : queue_bytes (old ++ cs) ≡ new = grind (arith, common_steps, flat_map-append) in
    let long : length (old ++ cs) ≡ count + many = search
    (rules, length-append, length_of_commands) in
    record {
      packed = subst (λ n. ArePacked n new) long
          (subst (λ it. ArePacked (length (old ++ cs)) it) whole (are_packed (old ++ cs) all));
      commands = subst (λ n. unpacked_commands n new ≡ old ++ cs) long
          (subst (λ it. unpacked_commands (length (old ++ cs)) it ≡ old ++ cs) whole
          (unpacked_commands-bytes (old ++ cs) all));
    }

-- an insertion of the items for each handle
abbrev pub inserts : Bundle → List Handle → List Command
inserts items hs = map (λ h. Insert h items) hs

each_written : (items : Bundle) (rest : List ℕ) (hs : List Handle) → rest ≡ bundle_bytes items
    → flat_map (λ h. 2 ∷ (handle_bytes h ++ rest)) hs ≡ queue_bytes (inserts items hs)
each_written items rest [] e = refl
each_written items rest (h ∷ hs) e = search (rules, each_written items rest hs e)

inserts_are : (items : Bundle) (hs : List Handle) → IsBundle items → All IsHandle hs
    → All IsCommand (inserts items hs)
inserts_are items [] is all = All-nil IsCommand
inserts_are items (h ∷ hs) is all =
    All-cons IsCommand (Insert h items) _ (All-head IsHandle h hs all, is)
    (inserts_are items hs is (All-tail IsHandle h hs all))

-- what a queue is after them
pub inserted_each : (count : ℕ) (bytes new : List ℕ) (items : Bundle) (rest : List ℕ)
    (hs : List Handle) → ArePacked count bytes → IsBundle items → All IsHandle hs
    → rest ≡ bundle_bytes items → new ≡ bytes ++ flat_map (λ h. 2 ∷ (handle_bytes h ++ rest)) hs
    → PushedAll count (length hs) bytes new (inserts items hs)
inserted_each count bytes new items rest hs packed is all e written =
    pushed_all count (length hs) bytes new (inserts items hs) (search (rules, length-map)) packed
    (inserts_are items hs is all)
    (written ∙ ap (λ more. bytes ++ more) (each_written items rest hs e))

-- room for all of some pieces of one length has room for one more than those before
pub piece_fits : (i n piece : ℕ) → i < n → i * piece + piece ≤ n * piece
piece_fits i zero piece below = absurd (omega arith)
piece_fits zero (suc n) piece below = omega arith
piece_fits (suc i) (suc n) piece below =
    let fits = piece_fits i n piece (omega (arith, below)) in omega (arith, fits)

-- so that they can be counted
pub each_fits : {Z : Type 0} (count many : ℕ) (bytes : Vec ℕ Z)
    → ArePacked (count + many) bytes.items → Fits w64 (count + many)
each_fits count many bytes packed = search (rules, count_le_bytes, Fits-of_lt)
