-- Why `write_table` keeps what it promises. Assumes nothing.
use Rattle.std.proofs.Common.{◌≡◌, length, sym, subst, arith}
use Rattle.text.specs.Reading.{PrintableRefusal}
use Rattle.text.specs.Writing.{table_written}
use Rattle.text.proofs.Checks.{table_pass, table_writable}
use Rattle.text.proofs.Refusals.{table_written_printable}
use Rattle.text.proofs.Spellings.{table_read_of}
use Rattle.text.proofs.Steps.{no_answer}
use Rattle.text.proofs.Unfit.{unfit_table}
use Rattle.text.proofs.write.write_table.Goals as goal

pub returns-in_err-check_table : goal.returns-in_err-check_table
returns-in_err-check_table c =
    let ts = c.args.triples.now in
    let room = length c.args.out.now in
    let value : c.from_residual.result ≡ table_written ts room = grind arith in
    record {
      value = value;
      accepts = grind (arith, table_pass, no_answer);
      bytes = grind arith;
      unfit = unfit_table ts room _ value;
      back = grind arith;
      small = subst PrintableRefusal (sym value) (table_written_printable ts room);
    }

pub put-requires : goal.put-requires
put-requires c = grind (arith, table_writable)

pub returns-clause-accepts : goal.returns-clause-accepts
returns-clause-accepts c = grind (arith, table_writable)

pub returns-clause-back : goal.returns-clause-back
returns-clause-back c = grind (arith, table_writable, table_read_of)
