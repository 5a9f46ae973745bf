-- What holds of every job (01, "The host, the listing, the job").
use mathlib.Core.Path.{◌≡◌}
use mathlib.Core.List.{List}
use Prim.Native.Nat.{ℕ}
use Rattle.groups.specs.Refusal.{ok}
use Rattle.groups.specs.Read.{Entry, read}
use Rattle.groups.specs.Regroup.{regroup_of}
use Rattle.groups.proofs.regroup.OutputReads.{output_values}
use Rattle.job.specs.Text.{ok_text}
use Rattle.job.specs.Job.{output_text, regroup_text}

-- the output of an accepted job reads, so that the text lists its items: a refusal comes only from the regrouping call
pub job_lists : (tags packs target group w : List ℕ) → regroup_of tags packs target group 65536 ≡ ok w
    → (es : List Entry) × (read tags packs w ≡ ok es) × (regroup_text tags packs target group ≡ ok (ok_text w es))
unfolding regroup_text output_text
job_lists tags packs target group w e =
    let v = output_values tags packs target group 65536 w e in
    (v.1, v.3, rw (e, v.3))
