-- Why `read_table` keeps what it promises. Assumes nothing.
use Rattle.std.proofs.Common.{◌≡◌, sym, arith}
use Rattle.fault.specs.Steps.{map_ok}
use Rattle.text.specs.Held.{triples_of}
use Rattle.text.specs.Reading.{table_read}
use Rattle.text.proofs.Spellings.{told_table}
use Rattle.text.proofs.read.read_table.Goals as goal

pub returns-in_err-check_order-clause-spells : goal.returns-in_err-check_order-clause-spells
returns-in_err-check_order-clause-spells c =
    let value : map_ok triples_of c.from_residual-in_err-check_order.result ≡ table_read c.args.text.now = grind arith in
    told_table c.args.text.now _ (sym value)
