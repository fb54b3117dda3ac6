-- Short texts in rooms of fixed size. Only private contracts and proofs use this.
use Rattle.std.specs.Prelude.{◌≡◌, ◌≢◌, ◌<◌, ◌≤◌, ℕ, List, ◌++◌, take, codes, length, slice_index_or}
use Rattle.ent_handle.specs.declared.component.ComponentId.{ComponentId}
use Rattle.spawnrun_lib.specs.WorldText.{component_name}
use Rattle.spawnrun_lib.specs.declared.piece.Piece.{Piece}

-- the text of the piece
abbrev pub piece_text : Piece → List ℕ
piece_text piece = take piece.len piece.bytes

-- the text before a value of the component with that name
abbrev pub label_text : List ℕ → List ℕ
label_text name = codes " " ++ name ++ codes "="

-- the piece is that text, or empty
pub record IsLabel (name : List ℕ) (piece : Piece) : Type 0 where
  pub within : piece.len ≤ 48
  pub text : piece.len ≢ 0 → piece_text piece ≡ label_text name

-- the piece at each place is that of the component with this number
pub record AreLabels (names : List (List ℕ)) (pieces : List Piece) : Type 0 where
  pub at : (id : ComponentId) (piece : Piece) → id.0 < length pieces
      → IsLabel (component_name names id) (slice_index_or pieces id.0 piece)
