use Rattle.std.specs.Iterator.Adapters.{enumerate_count, enumerate_source, zip_first, zip_second}
use Rattle.std.specs.Slice.Iter.{iter_rest}
use Rattle.text.specs.Held.{triples_of}
use Rattle.table.specs.Tables.{rows_of}
use Rattle.decision.specs.Responses.{responses_of}
use Rattle.report.proofs.Lines.{LinesTo}
use Rattle.report.proofs.answer.response_lines.Given as goal

abbrev pub invariant-loop-i : goal.invariant-loop-i
invariant-loop-i l =
    let pairs = enumerate_source l.i-iterator in
    LinesTo (rows_of l.table) (responses_of l.responses) (enumerate_count l.i-iterator) (triples_of l.lines) (iter_rest (zip_first pairs)) (iter_rest (zip_second pairs))
