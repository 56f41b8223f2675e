-- What the loop of `read_lines` keeps from turn to turn. Assumes nothing.
use Rattle.std.proofs.Common.{◌≡◌}
use Rattle.std.specs.Iterator.Adapters.{enumerate_count, enumerate_source}
use Rattle.std.specs.Slice.Iter.{chunks_exact_rest, chunks_exact_size}
use Rattle.text.specs.Held.{triples_of}
use Rattle.text.proofs.Turns.{Turn}
use Rattle.text.proofs.read.read_lines.Given as goal

abbrev pub invariant-loop-i : goal.invariant-loop-i
invariant-loop-i l =
    let chunks = enumerate_source l.i-iterator in
    (chunks_exact_size chunks ≡ 25) × Turn l.text (triples_of l.lines) (enumerate_count l.i-iterator) (chunks_exact_rest chunks)
