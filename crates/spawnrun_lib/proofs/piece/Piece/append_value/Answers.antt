use Rattle.spawnrun_lib.proofs.Common.{rules, ◌≡◌, ◌∙◌, ◌++◌, ap, append_assoc, on_ok_weaker, sym}
use Rattle.spawnrun_lib.proofs.Pieces.{one_digit}
use Rattle.spawnrun_lib.specs.Pieces.{piece_text}
use Rattle.std.specs.Fmt.{signed_decimal}
use Rattle.spawnrun_lib.proofs.piece.Piece.append_value.Goals as goal

pub returns-then-self-lt-ROOM-clause-ok : goal.returns-then-self-lt-ROOM-clause-ok
returns-then-self-lt-ROOM-clause-ok c =
    let whole : piece_text c.put_byte.new.self
    ≡ piece_text c.args.self.now ++ signed_decimal c.args.value = search (rules, one_digit) in
    on_ok_weaker c.append_to.result
    (λ e. e ∙ ap (λ l. c.args.out.now.items ++ l) whole
    ∙ sym (append_assoc c.args.out.now.items (piece_text c.args.self.now)
    (signed_decimal c.args.value)))
    c.append_to.ensures.ok

pub returns-then-self-lt-ROOM-clause-full : goal.returns-then-self-lt-ROOM-clause-full
returns-then-self-lt-ROOM-clause-full c = search (rules, one_digit)
