use Rattle.spawnrun_lib.proofs.Common.{◌≡◌, ◌+◌, ◌++◌, take}
use Rattle.spawnrun_lib.specs.Pieces.{piece_text}
use Rattle.spawnrun_lib.proofs.piece.Piece.put.Given as goal

abbrev pub invariant-loop-byte : goal.invariant-loop-byte
invariant-loop-byte l = record {
  len : l.self.len ≡ l.fn.self.len + l.byte-index;
  text : piece_text l.self ≡ piece_text l.fn.self ++ take l.byte-index l.text;
}
