-- Chains (01) over what the calls leave behind: their output slices, before and after, and their answers.
use Rattle.std.specs.Prelude.{ℕ, List, [], ◌∷◌, Result, Ok, Err, take}
use Rattle.std.proofs.Math.Option.{Option, some}
use Rattle.groups.specs.declared.refusal.Refusal.{Refusal}
use Rattle.groups.specs.declared.refusal.Refused.{Refused}
use Rattle.groups.specs.Regroup.{Regroups}

-- a call that was made: its target, its output slice at entry and at exit, and what it answered
pub record Made : Type 0 where
  pub target : List ℕ
  pub slice : List ℕ
  pub left : List ℕ
  pub answer : Result ℕ (Refused Refusal)

-- ---- the bytes kept

-- after an accepted call as many bytes from the start of its slice as its output length says, after a refused one what was
abbrev pub kept_from : List ℕ → List ℕ → Result ℕ (Refused Refusal) → List ℕ
kept_from s left (Ok n) = take n left
kept_from s left (Err e) = s

abbrev pub kept_by : List ℕ → Made → List ℕ
kept_by s c = kept_from s c.left c.answer

-- at the end; at first they are the first input
unfoldable pub kept : List ℕ → List Made → List ℕ
kept s [] = s
kept s (c ∷ cs) = kept (kept_by s c) cs

-- ---- the target of the last accepted call, if any was

abbrev pub accepted_from : Option (List ℕ) → List ℕ → Result ℕ (Refused Refusal) → Option (List ℕ)
accepted_from last target (Ok n) = some target
accepted_from last target (Err e) = last

unfoldable pub last_target : Option (List ℕ) → List Made → Option (List ℕ)
last_target last [] = last
last_target last (c ∷ cs) = last_target (accepted_from last c.target c.answer) cs

-- ---- runs

-- a call met the contract of `groups::regroup::regroup`, on the bytes s
abbrev pub Met : List ℕ → List ℕ → List ℕ → Made → Type 0
Met tags packs s c = Regroups tags packs c.target s c.slice c.left c.answer

-- each call met its contract, on the bytes that were kept when it was made
unfoldable pub Ran : List ℕ → List ℕ → List ℕ → List Made → Type 0
Ran tags packs s [] = Unit
Ran tags packs s (c ∷ cs) = Met tags packs s c × Ran tags packs (kept_by s c) cs

-- what was asked: the targets and the slices lent
pub record Call : Type 0 where
  pub target : List ℕ
  pub slice : List ℕ

abbrev pub asked_by : Made → Call
asked_by c = record { target = c.target; slice = c.slice }

unfoldable pub asked : List Made → List Call
asked [] = []
asked (c ∷ cs) = asked_by c ∷ asked cs
