-- The rules' numbers and layers, and the fault of a broken rule. Assumes nothing.
use Rattle.std.specs.Prelude.{ℕ}
use Rattle.fault.specs.declared.layer.Layer.{Layer}
use Rattle.fault.specs.declared.layer.Layer.TheVariants as layer
use Rattle.fault.specs.declared.rule.Rule.{Rule}
use Rattle.fault.specs.declared.rule.Rule.TheVariants.{WholeLines, LineFeed, WellFormed, KnownOrder, RoomToWrite, Reservation, RoomForRow, RowBounds, RowInTime, NoOverload, WindowCloses, RowInTable, PeriodPassed, JobPending, ClockGoesOn, RoomForJobs}
use Rattle.fault.specs.declared.fault.Fault.{Fault}

abbrev pub rule_number : Rule → ℕ
rule_number WholeLines = 11
rule_number LineFeed = 12
rule_number WellFormed = 13
rule_number KnownOrder = 14
rule_number RoomToWrite = 15
rule_number Reservation = 21
rule_number RoomForRow = 31
rule_number RowBounds = 32
rule_number RowInTime = 41
rule_number NoOverload = 42
rule_number WindowCloses = 43
rule_number RowInTable = 51
rule_number PeriodPassed = 52
rule_number JobPending = 53
rule_number ClockGoesOn = 54
rule_number RoomForJobs = 55

abbrev pub rule_layer : Rule → Layer
rule_layer WholeLines = layer.Text
rule_layer LineFeed = layer.Text
rule_layer WellFormed = layer.Text
rule_layer KnownOrder = layer.Text
rule_layer RoomToWrite = layer.Text
rule_layer Reservation = layer.Supply
rule_layer RoomForRow = layer.Table
rule_layer RowBounds = layer.Table
rule_layer RowInTime = layer.Decision
rule_layer NoOverload = layer.Decision
rule_layer WindowCloses = layer.Decision
rule_layer RowInTable = layer.Run
rule_layer PeriodPassed = layer.Run
rule_layer JobPending = layer.Run
rule_layer ClockGoesOn = layer.Run
rule_layer RoomForJobs = layer.Run

abbrev pub fault_of : Rule → ℕ → ℕ → Fault
fault_of rule first second = record { rule = rule; place = (first, second) }

-- what a fault tells besides its place
abbrev pub fault_number : Fault → ℕ
fault_number f = rule_number f.rule

abbrev pub fault_layer : Fault → Layer
fault_layer f = rule_layer f.rule
