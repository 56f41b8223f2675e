-- The numbers by which a table text names a policy. Assumes nothing.
use Rattle.std.specs.Prelude.{◌≡◌, ℕ, Ok, Err, Result}
use Rattle.fault.specs.declared.fault.Fault.{Fault}
use Rattle.fault.specs.declared.rule.Rule.TheVariants.{KnownOrder}
use Rattle.fault.specs.Rules.{fault_of}
use Rattle.text.specs.declared.policy.Policy.{Policy}
use Rattle.text.specs.declared.policy.Policy.TheVariants.{FixedPriority, EarliestDeadline}
use Rattle.text.specs.Texts.{TableOrder}

abbrev pub policy_number : Policy → ℕ
policy_number FixedPriority = 1
policy_number EarliestDeadline = 2

-- the answer is the policy with this number, and a refusal says that the number is no order
abbrev pub NamesPolicy : ℕ → Result Policy Fault → Type 0
NamesPolicy n (Ok policy) = policy_number policy ≡ n
NamesPolicy n (Err f) = (TableOrder n → ⊥) × (f ≡ fault_of KnownOrder 1 1)
