-- The beginning of the lines of the living. Only private contracts and proofs use this.
use Rattle.std.specs.Prelude.{◌≡◌, ◌≤◌, ◌/◌}
use Rattle.ent_handle.specs.declared.birth.Birth.{Birth}
use Rattle.spawnrun_lib.specs.Pieces.{piece_text}
use Rattle.spawnrun_lib.specs.WorldText.{birth_text}
use Rattle.spawnrun_lib.specs.declared.head.Head.{Head}

-- the text is that of its birth
pub record IsHead (head : Head) : Type 0 where
  pub within : head.text.len ≤ 48
  pub text : piece_text head.text ≡ birth_text head.birth

-- the births differ in the last digit of their ordinals at most
pub record AreAlike (a b : Birth) : Type 0 where
  pub frame : a.frame ≡ b.frame
  pub system : a.system ≡ b.system
  pub tens : a.ordinal / 10 ≡ b.ordinal / 10
