-- The words after the program's name, and the input file that they name.
use Rattle.std.proofs.Common.{rules, ◌≡◌, ℕ, Bool, true, false, ◌∷◌, ◌++◌, [], List, Option, Result}
use Rattle.std.proofs.Common.{Ok, Err, ◌∙◌, ap, inr}
use Rattle.std.specs.Prelude.{◌==◌, slice_index}
use Rattle.std.specs.Vec.Iter.{into_iter_items, into_iter_steps}
use Rattle.std.specs.declared.vec.IntoIter.{IntoIter}
use Rattle.std.proofs.lemmas.List.{nil_from_length}
use Rattle.cli.specs.Words.{IsUnknown, NamesFile, after_name, is_option}

-- what is left once the first of some items is taken
pub after_next : {X Z : Type 0} (old new : IntoIter X Z) (first : Option X)
    → into_iter_steps old first new → into_iter_items new ≡ after_name (into_iter_items old)
after_next old new it step = search (rules, nil_from_length, old.rest.ok, new.rest.ok)

pub no_option : (word : List ℕ) → (slice_index word 0 == 45) ≡ false → is_option word ≡ false
no_option word e = search rules

module _ {Word Error : Type 0} (answers : List Word → Result Bool Error → Type 0) where
  pub unknown_before : (words before : List Word) (last : Word) (error : Error)
      → words ≡ before ++ last ∷ [] → answers before (Err error) → IsUnknown answers words error
  unknown_before words before last error are none = inr (before, last, are, none)

  pub named_last : (text : Word → List ℕ) (words before : List Word) (last : Word) (name : List ℕ)
      → words ≡ before ++ last ∷ [] → name ≡ text last → is_option (text last) ≡ false
      → answers before (Ok true) → answers words (Ok false) → NamesFile answers text words name
  named_last text words before last name are is option line excess = record {
    before = before;
    last = last;
    are = are;
    is = is;
    no_option = ap is_option is ∙ option;
    before_are = line;
    all_are_not = excess;
  }
