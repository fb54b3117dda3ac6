-- The first of tests that fails, and what the tests of the first forty bytes answer.
use Rattle.ent_alloc.proofs.Common.{◌≡◌, refl, ℕ, zero, suc, ◌+◌, ◌<◌, ◌≤◌, Bool, true, false, List}
use Rattle.ent_alloc.proofs.Common.{[], ◌∷◌, ◌++◌, map, None, Some, arith, rules, cases_eq}
use Rattle.ent_alloc.proofs.Common.{common_steps, list_any, range_with_len, Test, first_failing}
use Rattle.ent_alloc.proofs.Common.{ImageFault, ◌≢◌, sym, ap, ◌∙◌, ◌-◌, ◌*◌, ◌^◌, ◌⊎◌, length, drop}
use Rattle.ent_alloc.proofs.Common.{nat_eq, starts_with, eq-eqb, le-leb, lt-leb, Decides-eqb}
use Rattle.ent_alloc.proofs.Common.{starts_is, length-append, drop_at, AreLimits, word, long, magic}
use Rattle.ent_alloc.proofs.Common.{version, header_bytes, numbers_bytes, AreNumbers, AreServed}
use Rattle.ent_alloc.proofs.Common.{first_fault, word_at, long_at, front_tests, header_in}
use Rattle.ent_alloc.proofs.Common.{header_tests, slots_tests, header_fault, Header, Magic, Version}
use Rattle.ent_alloc.proofs.Common.{Length, BadLimits, Counts, nat_tests, false_from_ne_true}
use Rattle.ent_alloc.specs.declared.image_fault.ImageFault.TheVariants.{Requests}
use Rattle.ent_alloc.proofs.ImageHeader.{letters, letters_are, length-header_bytes}
use Rattle.ent_handle.proofs.Spelled.{from_long, from_word, same_longs}

-- one that passes, and one that fails
pub passed : (test : Test) (tests : List Test) → test.0 ≡ true
    → first_failing (test ∷ tests) ≡ first_failing tests
passed test tests passes = rw passes refl

pub failed : (test : Test) (tests : List Test) → test.0 ≡ false
    → first_failing (test ∷ tests) ≡ Some test.1
failed test tests fails = rw fails refl

-- tests that have failed whatever comes after them
pub failed_before : (tests more : List Test) (fault : ImageFault) → first_failing tests ≡ Some fault
    → first_failing (tests ++ more) ≡ Some fault
failed_before [] more fault is = cc
failed_before (test ∷ tests) more fault is =
    grind (arith, common_steps, passed, failed, failed_before tests more fault)

pub passed_before : (tests more : List Test) → first_failing tests ≡ None
    → first_failing (tests ++ more) ≡ first_failing more
passed_before [] more is = refl
passed_before (test ∷ tests) more is =
    grind (arith, common_steps, passed, failed, passed_before tests more)

-- ---- a test for each number

module _ (test : ℕ → Test) where
  pub each_passes : (from count : ℕ) → ((k : ℕ) → from ≤ k → k < from + count → (test k).0 ≡ true)
      → first_failing (map test (range_with_len from count)) ≡ None
  each_passes from zero each = refl
  each_passes from (suc count) each =
      search (rules, arith, passed, each, each_passes (from + 1) count)

  pub fails_at : (from count k : ℕ) → from ≤ k → k < from + count
      → ((j : ℕ) → from ≤ j → j < k → (test j).0 ≡ true) → (test k).0 ≡ false
      → first_failing (map test (range_with_len from count)) ≡ Some (test k).1
  fails_at from zero k least lt before fails = absurd (omega arith)
  fails_at from (suc count) k least lt before fails = grind
      (arith, common_steps, passed, failed, before, fails_at (from + 1) count k)

-- ---- whether one of some numbers is such

module _ (is : ℕ → Bool) where
  pub one_is : (from count k : ℕ) → from ≤ k → k < from + count → is k ≡ true
      → list_any is (range_with_len from count) ≡ true
  one_is from zero k least lt such = absurd (omega arith)
  one_is from (suc count) k least lt such =
      grind (arith, common_steps, cases_eq from k, one_is (from + 1) count k)

  pub none_is : (from count : ℕ) → ((k : ℕ) → from ≤ k → k < from + count → is k ≡ false)
      → list_any is (range_with_len from count) ≡ false
  none_is from zero each = refl
  none_is from (suc count) each = search (rules, arith, each, none_is (from + 1) count)

-- ---- the letters, the length and the version

pub magic_fault : (bytes : List ℕ) → ((rest : List ℕ) → bytes ≢ magic ++ rest)
    → first_failing (front_tests bytes) ≡ Some Magic
magic_fault bytes not = search (rules, failed, false_from_ne_true, starts_is, Decides-eqb)

pub too_short_for_magic : (bytes : List ℕ) → length bytes < 8 → (rest : List ℕ)
    → bytes ≢ magic ++ rest
too_short_for_magic bytes short rest is = search (rules, length-append)

pub other_letters : (number : ℕ) (bytes more : List ℕ) → bytes ≡ long number ++ more
    → number < 2 ^ 64 → number ≢ letters → (rest : List ℕ) → bytes ≢ magic ++ rest
other_letters number bytes more spelled below other rest is = other
    (same_longs number letters more rest below (omega arith) (rw letters_are (sym spelled ∙ is))).0

module _ (bytes more : List ℕ) (is : bytes ≡ long letters ++ more) where
  has_letters : starts_with nat_eq bytes magic ≡ true
  has_letters = search (rules, starts_is, Decides-eqb, letters_are)

  pub length_fault : length bytes < 40 → first_failing (front_tests bytes) ≡ Some (Length 40)
  length_fault short = search (rules, passed, starts_is, Decides-eqb, letters_are, failed, lt-leb)

  module _ (enough : 40 ≤ length bytes) (number : ℕ) (rest : List ℕ) (below : number < 2 ^ 32)
      (spelled : more ≡ word number ++ rest) where
    version_is : word_at bytes 8 ≡ number
    unfolding word_at word long
    version_is = rw (is, spelled) (from_word number below)

    pub version_fault : number ≢ version → first_failing (front_tests bytes) ≡ Some (Version number)
    version_fault other = grind (arith, nat_tests, common_steps, has_letters, version_is)

    pub front_passes : number ≡ version → first_failing (front_tests bytes) ≡ None
    front_passes same = search (rules, passed, has_letters, le-leb, eq-eqb, version_is)

-- ---- the numbers

module _ (bytes : List ℕ) (h : Header) (rest : List ℕ) (fits : AreNumbers h)
    (is : bytes ≡ header_bytes h ++ rest)
    (front : first_failing (front_tests bytes) ≡ None) where
  numbers : header_in bytes ≡ h
  unfolding header_bytes numbers_bytes word long word_at long_at
  numbers = rw is (λ i. record {
    slots = from_word h.slots fits.slots i;
    generations = from_word h.generations fits.generations i;
    made = from_word h.made fits.made i;
    waiting = from_word h.waiting fits.waiting i;
    reserved = from_word h.reserved fits.reserved i;
    asked = from_long h.asked fits.asked i;
  })

  to_numbers : first_fault bytes
      ≡ first_failing
      (header_tests h (length bytes) ++ slots_tests h.generations h.made h.waiting rest)
  to_numbers =
      let left : drop 40 bytes ≡ rest = ap (drop 40) is
      ∙ drop_at (header_bytes h) rest 40 (length-header_bytes h) in
      grind (arith, common_steps, passed_before, numbers)

  pub long_is : length bytes ≡ 40 + length rest
  long_is = search (rules, is, length-append, length-header_bytes)

  -- ---- the tests of the numbers

  pub limits_fault : ¬ (AreLimits (record { slots = h.slots; generations = h.generations }))
      → first_fault bytes ≡ Some BadLimits
  limits_fault not = to_numbers ∙ grind (arith, nat_tests, common_steps)

  module _ (limits : AreLimits (record { slots = h.slots; generations = h.generations })) where
    pub counts_fault : (h.slots < h.made) ⊎ (h.made < h.waiting) → first_fault bytes ≡ Some Counts
    counts_fault over = to_numbers ∙ grind (arith, nat_tests, common_steps)

    module _ (few : h.made ≤ h.slots) (wait : h.waiting ≤ h.made) where
      pub requests_fault : ¬ (AreServed h.asked h.reserved (h.waiting + (h.slots - h.made)))
          → first_fault bytes ≡ Some Requests
      requests_fault not = to_numbers ∙ grind (arith, nat_tests, common_steps)

      module _ (served : AreServed h.asked h.reserved (h.waiting + (h.slots - h.made))) where
        pub whole_length_fault : length rest ≢ 12 * h.made
            → first_fault bytes ≡ Some (Length (40 + 12 * h.made))
        whole_length_fault other = to_numbers ∙ grind (arith, nat_tests, common_steps, long_is)

        pub no_header_fault : length rest ≡ 12 * h.made → header_fault bytes ≡ None
        no_header_fault same =
            let passes : first_failing (header_tests h (length bytes)) ≡ None =
            grind (arith, nat_tests, common_steps, long_is) in
            search (rules, passed_before, numbers)

        pub to_slots : length rest ≡ 12 * h.made
            → first_fault bytes ≡ first_failing (slots_tests h.generations h.made h.waiting rest)
        to_slots same = to_numbers ∙ grind (arith, nat_tests, common_steps, long_is)

-- a fault of the first ones
pub front_fault : (bytes : List ℕ) (fault : ImageFault)
    → first_failing (front_tests bytes) ≡ Some fault → first_fault bytes ≡ Some fault
front_fault bytes fault is = search (rules, failed_before)
