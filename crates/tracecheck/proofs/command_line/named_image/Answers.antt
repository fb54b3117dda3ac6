use Rattle.tracecheck.proofs.Common.{map, found_of}
use Rattle.tracecheck.proofs.Beginnings.{name_asked, rows_asked}
use Rattle.tracecheck.proofs.command_line.named_image.Goals as goal

pub returns-in-Ok : goal.returns-in-Ok
returns-in-Ok g c =
    name_asked (map g.S.AsStr.text c.args.words.now) (found_of c.in-Ok.options) c.get_str.result
    c.get_str.ensures
    (rows_asked _ (map g.S.AsStr.text c.args.words.now) _ c.in_ok-program.ensures
    c.in-Ok.ensures.matches)
