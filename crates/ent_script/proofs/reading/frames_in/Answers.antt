use Rattle.ent_script.proofs.Common.{rules, [], length, arith}
use Rattle.ent_script.proofs.Openings.{text_object, text_no_object}
use Rattle.ent_script.proofs.reading.frames_in.Goals as goal

pub returns-then-not-opens : goal.returns-then-not-opens
returns-then-not-opens c d e = search (rules, text_no_object)

pub returns : goal.returns
returns c d e =
    let ts = c.opens.new.reader in
    let opened =
    text_object c.args.text.now d e c.in_ok-reader.reader c.in_ok-reader.ensures.ok ts
    (grind arith) in
    rw opened.1 (c.frames_inside.ensures (length ts) opened.0 [] opened.2)
