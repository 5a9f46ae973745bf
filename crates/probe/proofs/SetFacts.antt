-- Module `sets`: each fact in the shape of its need.
use mathlib.Core.Path.{◌≡◌, sym, ◌∙◌}
use mathlib.Core.List.{List}
use Prim.Native.Nat.{ℕ, ◌≤◌}
use native.Mathlib.Omega.{arith}
use Rattle.std.specs.Prelude.{Result, Ok, Err}
use lib.ListN.{length}
use Rattle.klv.proofs.Cases.{absurd_number}
use Rattle.groups.specs.declared.refusal.Refused.{Refused}
use Rattle.deep.specs.declared.fault.Fault.{Fault}
use Rattle.deep.specs.Tree.{Answer, ok, refused}
use Rattle.deep.specs.Deep.{fault_number, deep_of, deep_answer, DeepWrites}
use Rattle.deep.proofs.PlaceLaws.{fault_most, write_place}
use Rattle.probe.specs.Sets.{coded, deep_host, ProbeDeep}

-- ---- a refusal as a number

pub fault_small : (f : Fault) (n : ℕ) → n ≡ fault_number f → n ≤ 1000
fault_small f n e = omega (arith, fault_most f)

-- ---- the deep write

length_told : (a : Answer (List ℕ)) (n : ℕ) → Ok n ≡ deep_answer a → n ≡ deep_host a
length_told (ok w) n e = cc
length_told (refused f p) n e = absurd_number (cc)

refused_told : (a : Answer (List ℕ)) (r : Refused Fault) → Err r ≡ deep_answer a → a ≡ refused r.why r.place
refused_told (ok w) r e = absurd_number (cc)
refused_told (refused g o) r e = let z : record { why = g; place = o } ≡ r = cc in rw (← z)

module _ (tags group d x : List ℕ) (a : Result ℕ (Refused Fault)) (o : DeepWrites tags group d x a) where
  pub deep_length : (n : ℕ) → a ≡ Ok n → ProbeDeep tags group d x n
  deep_length n e = record { answer = length_told (deep_of tags group (length d)) n (sym e ∙ o.answer); bytes = o.bytes }

  pub deep_place : (r : Refused Fault) → a ≡ Err r → r.place ≤ 256
  deep_place r e = write_place tags group (length d) r.why r.place (refused_told (deep_of tags group (length d)) r (sym e ∙ o.answer))

  pub deep_refused : (r : Refused Fault) (n c : ℕ) → a ≡ Err r → n ≡ fault_number r.why → c ≡ coded n r.place → ProbeDeep tags group d x c
  deep_refused r n c e g h = record { answer = rw (refused_told (deep_of tags group (length d)) r (sym e ∙ o.answer)) (rw g at h); bytes = o.bytes }
