-- What the reader's parts give for the words of a text.
use Rattle.std.specs.Prelude.{◌≡◌, ℕ, List, [], ◌∷◌, Option, Some, None}
use Rattle.std.specs.Borrow.{Bor}
use Rattle.ent_replay.specs.declared.trace.words.Few.{Few}
use Rattle.ent_replay.specs.declared.trace.words.Few.TheVariants as few
use Rattle.ent_replay.specs.Text.{Word, words_in}

-- these are the words, or the first of more than three
abbrev pub AreFew : Few → List Word → Type 0
AreFew few.None words = words ≡ []
AreFew (few.One first) words = words ≡ first.now ∷ []
AreFew (few.Two first second) words = words ≡ first.now ∷ second.now ∷ []
AreFew (few.Three first second third) words = words ≡ first.now ∷ second.now ∷ third.now ∷ []
AreFew few.More words = (first : Word) × (second : Word) × (third : Word) × (fourth : Word)
    × (others : List Word) × (words ≡ first ∷ second ∷ third ∷ fourth ∷ others)

-- the words of what follows `=>`, if it is there
abbrev pub words_told : Option (Bor (List ℕ)) → Option (List Word)
words_told None = None
words_told (Some told) = Some (words_in told.now)
