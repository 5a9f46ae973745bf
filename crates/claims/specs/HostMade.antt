-- Chains (01) over what the calls of a C host leave behind: their output slices, before and after, and the numbers.
use Rattle.std.specs.Prelude.{ℕ, Bool, ◌≡◌, List, [], ◌∷◌, Result, Ok, Err, ltb, take}
use Rattle.std.proofs.Math.Option.{Option, some}
use Rattle.klv.specs.Pick.{pick}
use Rattle.groups.specs.declared.refusal.Refusal.{Refusal}
use Rattle.groups.specs.declared.refusal.Refused.{Refused}
use Rattle.perlenhuf.specs.Host.{host_of, HostRegroups}
use Rattle.claims.specs.Made.{Made, Call}

-- a call that a host made: its target, its output slice at entry and at exit, and the number it received
pub record HostMade : Type 0 where
  pub target : List ℕ
  pub slice : List ℕ
  pub left : List ℕ
  pub number : ℕ

-- the host takes a number below 1,000,000 for an output length, and any other for a refusal
abbrev pub is_length : ℕ → Bool
is_length n = ltb n 1000000

-- ---- the bytes kept

-- after an accepted call as many bytes from the start of its slice as the number says, after a refused one what was
abbrev pub host_kept_by : List ℕ → HostMade → List ℕ
host_kept_by s c = pick (is_length c.number) (take c.number c.left) s

-- at the end; at first they are the first input
unfoldable pub host_kept : List ℕ → List HostMade → List ℕ
host_kept s [] = s
host_kept s (c ∷ cs) = host_kept (host_kept_by s c) cs

-- ---- the target of the last accepted call, if any was

abbrev pub host_accepted_by : Option (List ℕ) → HostMade → Option (List ℕ)
host_accepted_by last c = pick (is_length c.number) (some c.target) last

unfoldable pub host_last_target : Option (List ℕ) → List HostMade → Option (List ℕ)
host_last_target last [] = last
host_last_target last (c ∷ cs) = host_last_target (host_accepted_by last c) cs

-- ---- runs

-- each call met the contract of the C entry, on the bytes that were kept when it was made
unfoldable pub HostRan : List ℕ → List ℕ → List ℕ → List HostMade → Type 0
HostRan tags packs s [] = Unit
HostRan tags packs s (c ∷ cs) = HostRegroups tags packs c.target s c.slice c.left c.number × HostRan tags packs (host_kept_by s c) cs

-- what was asked: the targets and the slices lent
abbrev pub host_asked_by : HostMade → Call
host_asked_by c = record { target = c.target; slice = c.slice }

unfoldable pub host_asked : List HostMade → List Call
host_asked [] = []
host_asked (c ∷ cs) = host_asked_by c ∷ host_asked cs

-- ---- the same calls, made through the C entry and through the library

-- an answer as the number that the host receives
abbrev pub number_for : Result ℕ (Refused Refusal) → ℕ
number_for (Ok n) = n
number_for (Err e) = host_of e.why e.place

pub record SameCall (h : HostMade) (c : Made) : Type 0 where
  pub target : h.target ≡ c.target
  pub slice : h.slice ≡ c.slice
  pub left : h.left ≡ c.left
  pub number : h.number ≡ number_for c.answer

unfoldable pub SameCalls : List HostMade → List Made → Type 0
SameCalls [] [] = Unit
SameCalls [] (c ∷ cs) = ⊥
SameCalls (h ∷ hs) [] = ⊥
SameCalls (h ∷ hs) (c ∷ cs) = SameCall h c × SameCalls hs cs
