-- Why `write_lines` keeps what it promises. Assumes nothing.
use Rattle.std.proofs.Common.{◌≡◌, length, sym, subst, arith}
use Rattle.text.specs.Reading.{PrintableRefusal}
use Rattle.text.specs.Writing.{lines_written}
use Rattle.text.proofs.Checks.{lines_pass, writable}
use Rattle.text.proofs.Refusals.{lines_written_printable}
use Rattle.text.proofs.Spellings.{text_read_of}
use Rattle.text.proofs.Steps.{no_answer}
use Rattle.text.proofs.Unfit.{unfit_lines}
use Rattle.text.proofs.write.write_lines.Goals as goal

pub returns-in_err-check_lines : goal.returns-in_err-check_lines
returns-in_err-check_lines c =
    let ts = c.args.triples.now in
    let room = length c.args.out.now in
    let value : c.from_residual.result ≡ lines_written ts room = grind arith in
    record {
      value = value;
      accepts = grind (arith, lines_pass, no_answer);
      bytes = grind arith;
      unfit = unfit_lines ts room _ value;
      back = grind arith;
      small = subst PrintableRefusal (sym value) (lines_written_printable ts room);
    }

pub put-requires : goal.put-requires
put-requires c = grind (arith, writable)

pub returns-clause-accepts : goal.returns-clause-accepts
returns-clause-accepts c = grind (arith, writable)

pub returns-clause-back : goal.returns-clause-back
returns-clause-back c = grind (arith, writable, text_read_of)
