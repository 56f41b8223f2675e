use Rattle.std.proofs.Common.{◌≡◌, ◌∙◌, rules}
use Rattle.fault.specs.Steps.{map_ok}
use Rattle.text.specs.Held.{triples_of}
use Rattle.report.specs.Answers.{report_lines}
use Rattle.report.proofs.Writing.{reported}
use Rattle.report.proofs.answer.report.Goals as goal

pub returns : goal.returns
returns c =
    let lines : triples_of c.unwrap_or_else-lines.result ≡ report_lines (map_ok triples_of c.judged.result) = search rules in
    reported c.args.bytes.now c.args.out.now c.write_lines.new.out c.write_lines.result c.triples.result.now (map_ok triples_of c.judged.result) c.judged.ensures
    (c.triples.ensures.held ∙ lines) c.write_lines.ensures.value c.write_lines.ensures.bytes
