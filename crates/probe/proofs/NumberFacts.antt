-- Module `numbers`: each fact in the shape of its need.
use mathlib.Core.Path.{◌≡◌}
use Prim.Native.Nat.{ℕ}
use Rattle.klv.specs.declared.layout.Form.TheVariants.{Word, One, Two}
use Rattle.probe.specs.Answers.{form_of}

-- ---- the form of a number

pub word_form : (n : ℕ) → n ≡ 1 → Word ≡ form_of n
unfolding form_of
word_form n e = rw e

pub one_form : (n : ℕ) → n ≡ 2 → One ≡ form_of n
unfolding form_of
one_form n e = rw e

pub two_form : (n : ℕ) → n ≡ 3 → Two ≡ form_of n
unfolding form_of
two_form n e = rw e
