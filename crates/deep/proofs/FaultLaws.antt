-- The number of a refusal, as a `match` finds it.
use mathlib.Core.Path.{◌≡◌}
use Prim.Native.Nat.{ℕ}
use Rattle.groups.specs.declared.refusal.Refusal.{Refusal}
use Rattle.groups.specs.Refusal.{number_of}
use Rattle.deep.specs.declared.fault.Fault.{Fault}
use Rattle.deep.specs.declared.fault.Fault.TheVariants.{Plain}
use Rattle.deep.specs.Deep.{fault_number}

-- a refusal of the plain call keeps its number
pub fault_plain : (f : Fault) (r : Refusal) (n : ℕ) → f ≡ Plain r → n ≡ number_of r → n ≡ fault_number f
unfolding fault_number
fault_plain f r n e g = rw e g

-- what holds of the refusal that a `match` found holds of the one matched
pub fault_case : (f x : Fault) (n : ℕ) → f ≡ x → n ≡ fault_number x → n ≡ fault_number f
fault_case f x n e g = rw e g
