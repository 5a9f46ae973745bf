-- Laws of reading a group.
use mathlib.Core.Path.{◌≡◌, refl}
use mathlib.Core.Bool.{true, false}
use mathlib.Core.List.{List, [], ◌++◌}
use Prim.Native.Nat.{ℕ, ◌-◌, ◌≤◌}
use native.Mathlib.Omega.{arith}
use lib.ListN.{length, take, drop, length-append}
use lib.Seq.{take_at, drop_at}
use borrow.Author.Tests.{le-leb, eq-eqb}
use Rattle.klv.specs.Layout.{written}
use Rattle.klv.specs.declared.layout.Form.TheVariants.{Ber}
use Rattle.klv.proofs.LayoutLaws.{read_back, written_most}
use Rattle.groups.specs.Refusal.{ok}
use Rattle.groups.specs.Kind.{kind_of, is_group, is_pack}
use Rattle.groups.specs.Tables.{tag_table_ok, pack_table_ok}
use Rattle.groups.specs.Read.{under, most, read_body, read}
use Rattle.groups.proofs.regroup.Accepted.{read_of}
use Rattle.groups.proofs.kind.KindLaws.{group_size}
use Rattle.groups.proofs.item.ItemsBack.{set_end}

-- ---- no items

-- a set of length 0: its body holds none
empty_body : (tags packs k s : List ℕ) → take 16 s ≡ k → drop 16 s ≡ written Ber 0 ++ [] → is_pack (kind_of k) ≡ false → read_body tags packs s ≡ ok []
unfolding read_body under
empty_body tags packs k s a d h =
    let l : 0 ≡ length (written Ber 0 ++ []) - length (written Ber 0) = simp (length-append) (omega arith) in
    rw (
      a,
      d,
      read_back Ber 0 [] (omega arith),
      eq-eqb 0 (length (written Ber 0 ++ []) - length (written Ber 0)) l,
      drop_at (written Ber 0) [] (length (written Ber 0)) refl,
    )
    (set_end (under k tags packs) (most (under k tags packs)) 0 h)

-- a set of length 0 has no items
pub empty_set : (tags packs k : List ℕ) → tag_table_ok tags ≡ true → pack_table_ok packs ≡ true → is_group (kind_of k) ≡ true → is_pack (kind_of k) ≡ false
    → read tags packs (k ++ (written Ber 0 ++ [])) ≡ ok []
empty_set tags packs k t p g h =
    let n : length k ≡ 16 = group_size k g in
    let s : List ℕ = k ++ (written Ber 0 ++ []) in
    let a : take 16 s ≡ k = take_at k (written Ber 0 ++ []) 16 n in
    let m : length s ≤ 65536 = simp (length-append) (omega (arith, written_most Ber 0)) in
    read_of tags packs s []
    (record {
      tags_ok = t;
      packs_ok = p;
      most = le-leb (length s) 65536 m;
      group = rw a g;
      body = empty_body tags packs k s a (drop_at k (written Ber 0 ++ []) 16 n) h;
    })
