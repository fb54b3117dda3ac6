-- The words that a program is started with, and the input file that they name.
use Rattle.std.specs.Prelude.{◌≡◌, ℕ, Bool, true, false, ◌==◌, ◌⊎◌, List, [], ◌∷◌, ◌++◌}
use Rattle.std.specs.Prelude.{Result, Ok, Err}

-- the words after the first, which is the program's name
abbrev pub after_name : {Word : Type 0} → List Word → List Word
after_name [] = []
after_name (name ∷ others) = others

-- the text begins with a hyphen
abbrev pub is_option : List ℕ → Bool
is_option [] = false
is_option (first ∷ others) = first == 45

-- `answers` says whether words are a command line, or why that isn't known
module _ {Word Error : Type 0} (answers : List Word → Result Bool Error → Type 0) where
  -- the last word is a file's name: it is no option, the words before it are a command line, and
  -- all of them aren't
  pub record NamesFile (text : Word → List ℕ) (words : List Word) (name : List ℕ) : Type 0 where
    pub before : List Word
    pub last : Word
    pub are : words ≡ before ++ last ∷ []
    pub is : name ≡ text last
    pub no_option : is_option name ≡ false
    pub before_are : answers before (Ok true)
    pub all_are_not : answers words (Ok false)

  -- the last word, if there is one, is an option, or it is part of a command line, or the words
  -- before it aren't one
  abbrev pub NamesNone : (Word → List ℕ) → List Word → Type 0
  NamesNone text words = (before : List Word) (last : Word) → words ≡ before ++ last ∷ []
      → (is_option (text last) ≡ true) ⊎ answers words (Ok true) ⊎ answers before (Ok false)

  -- there is no answer for the words, or none for those before the last
  abbrev pub IsUnknown : List Word → Error → Type 0
  IsUnknown words error = answers words (Err error)
      ⊎ ((before : List Word) × (last : Word) × (words ≡ before ++ last ∷ [])
      × answers before (Err error))
