-- The response times that a value holds. Assumes nothing.
use Rattle.std.specs.Prelude.{ℕ, List}
use Rattle.bounded.specs.Items.{items_of}
use Rattle.decision.specs.declared.responses.Responses.{Responses}

abbrev pub responses_of : Responses → List ℕ
responses_of r = items_of r.times
