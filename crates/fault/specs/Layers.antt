-- The layers' numbers. Assumes nothing.
use Rattle.std.specs.Prelude.{ℕ}
use Rattle.fault.specs.declared.layer.Layer.{Layer}
use Rattle.fault.specs.declared.layer.Layer.TheVariants.{Text, Supply, Table, Decision, Run}

abbrev pub layer_number : Layer → ℕ
layer_number Text = 1
layer_number Supply = 2
layer_number Table = 3
layer_number Decision = 4
layer_number Run = 5
