-- The output of an accepted call reads as its input did, begins with the target's bytes, and has as many bytes of values.
use mathlib.Core.Path.{◌≡◌, sym, ap, ◌∙◌}
use mathlib.Core.List.{List}
use Prim.Native.Nat.{ℕ, ◌≤◌}
use lib.ListN.{length, take, length-map}
use Rattle.groups.specs.Refusal.{ok}
use Rattle.groups.specs.Read.{Entry, read, item, items, reads_as}
use Rattle.groups.specs.Regroup.{regroup_of}
use Rattle.groups.specs.Lengths.{value_total}
use Rattle.groups.proofs.item.GoodItems.{AllKeys}
use Rattle.groups.proofs.regroup.Accepted.{Accepted, accepted_told, reads_told, reads_of}
use Rattle.groups.proofs.read.ReadGood.{read_good}
use Rattle.groups.proofs.regroup.GroupBack.{group_back}

output_back : (tags packs target s : List ℕ) (room : ℕ) (w : List ℕ) → regroup_of tags packs target s room ≡ ok w
    → (reads_as tags packs w ≡ reads_as tags packs s) × (take 16 w ≡ target)
output_back tags packs target s room w e =
    let a : Accepted tags packs target s room w = accepted_told tags packs target s room w e in
    let g : AllKeys (items a.entries) × (length a.entries ≤ 256) = read_good tags packs s a.entries a.reads in
    let n : length (items a.entries) ≤ 256 = rw (length-map a.entries item) g.1 in
    let b = group_back tags packs target (items a.entries) w a.tags_ok a.packs_ok a.group g.0 n a.writes a.most in
    (b.0 ∙ sym (reads_of tags packs s a.entries a.reads), b.1)

pub output_reads : (tags packs target s : List ℕ) (room : ℕ) (w : List ℕ) → regroup_of tags packs target s room ≡ ok w → reads_as tags packs w ≡ reads_as tags packs s
output_reads tags packs target s room w e = (output_back tags packs target s room w e).0

pub output_key : (tags packs target s : List ℕ) (room : ℕ) (w : List ℕ) → regroup_of tags packs target s room ≡ ok w → take 16 w ≡ target
output_key tags packs target s room w e = (output_back tags packs target s room w e).1

-- the value lengths add up to the same total before and after
pub output_values : (tags packs target s : List ℕ) (room : ℕ) (w : List ℕ) → regroup_of tags packs target s room ≡ ok w
    → (es es' : List Entry) × (read tags packs s ≡ ok es) × (read tags packs w ≡ ok es') × (value_total (items es') ≡ value_total (items es))
output_values tags packs target s room w e =
    let a : Accepted tags packs target s room w = accepted_told tags packs target s room w e in
    let r = reads_told tags packs w (items a.entries) (output_reads tags packs target s room w e ∙ reads_of tags packs s a.entries a.reads) in
    (a.entries, r.0, a.reads, r.1, ap value_total r.2)
