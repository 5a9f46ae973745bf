-- A written group reads as the items that were written, and begins with the target's key: the law of all items, with the
-- key, the outer length and the tests of a group. From klv's laws of keys and layouts.
use mathlib.Core.Path.{◌≡◌, refl, sym, ap, ◌∙◌}
use mathlib.Core.Bool.{true}
use mathlib.Core.List.{List, [], ◌++◌}
use mathlib.Core.Option.{some}
use Prim.Native.Nat.{ℕ, ◌-◌, ◌≤◌}
use native.Mathlib.Omega.{arith}
use lib.ListN.{length, take, drop, length-append}
use lib.Seq.{take_at, drop_at}
use borrow.Author.Tests.{le-leb, eq-eqb}
use Rattle.klv.specs.Key.{is_key}
use Rattle.klv.specs.Layout.{written}
use Rattle.klv.specs.declared.layout.Form.TheVariants.{Ber}
use Rattle.klv.proofs.KeyLaws.{key_size}
use Rattle.klv.proofs.LayoutLaws.{read_back}
use Rattle.klv.proofs.LargestLaws.{largest_ber}
use Rattle.groups.specs.Refusal.{ok}
use Rattle.groups.specs.Kind.{kind_of, is_group}
use Rattle.groups.specs.Tables.{tag_table_ok, pack_table_ok}
use Rattle.groups.specs.Listing.{longer_items}
use Rattle.groups.specs.Read.{Entry, Item, under, most, read_items, read_body, read, reads_as}
use Rattle.groups.specs.Write.{write_items, group, write}
use Rattle.groups.proofs.item.GoodItems.{AllKeys}
use Rattle.groups.proofs.kind.KindLaws.{group_key_law}
use Rattle.groups.proofs.regroup.AnswerLaws.{ok_same, then_ok}
use Rattle.groups.proofs.label.LabelBack.{fit_under}
use Rattle.groups.proofs.item.ItemsBack.{items_back}

-- ---- key, outer length, body

-- a group begins with its key
pub group_front : (k body : List ℕ) → is_key k ≡ true → take 16 (group k body) ≡ k
group_front k body e = take_at k (written Ber (length body) ++ body) 16 (key_size k e)

-- the body of a group is read as it was written
pub body_back : (tags packs k body : List ℕ) → is_key k ≡ true → length body ≤ 65536
    → read_body tags packs (group k body) ≡ read_items (under k tags packs) (most (under k tags packs)) 0 body
unfolding read_body
body_back tags packs k body e h =
    let wr : List ℕ = written Ber (length body) in
    let d : drop 16 (group k body) ≡ written Ber (length body) ++ body = drop_at k (written Ber (length body) ++ body) 16 (key_size k e) in
    let n : length body ≡ length (wr ++ body) - length wr = omega (arith, length-append wr body) in
    rw (
      group_front k body e,
      d,
      read_back Ber (length body) body (omega (arith, largest_ber)),
      eq-eqb (length body) (length (wr ++ body) - length wr) n,
      drop_at wr body (length wr) refl,
    )

-- the body is not longer than the group
body_most : (k body : List ℕ) → length body ≤ length (group k body)
body_most k body =
    omega (arith, length-append k (written Ber (length body) ++ body), length-append (written Ber (length body)) body)

-- a group of valid parts is read as its body
pub read_group : (tags packs k body : List ℕ) → tag_table_ok tags ≡ true → pack_table_ok packs ≡ true → is_group (kind_of k) ≡ true → length (group k body) ≤ 65536
    → read tags packs (group k body) ≡ read_items (under k tags packs) (most (under k tags packs)) 0 body
unfolding read
read_group tags packs k body t p g h =
    let e : is_key k ≡ true = group_key_law k g in
    rw (t, p, le-leb (length (group k body)) 65536 h, group_front k body e, g) (body_back tags packs k body e (omega (arith, body_most k body)))

-- ---- the whole group

-- what is written is key, outer length and items
pub write_parts : (tags packs target : List ℕ) (xs : List Item) (w : List ℕ) → write tags packs target xs ≡ ok w
    → (body : List ℕ) × (write_items (under target tags packs) 0 xs ≡ ok body) × (w ≡ group target body)
unfolding write
write_parts tags packs target xs w e =
    let p = then_ok (write_items (under target tags packs) 0 xs) (λ (body : List ℕ). ok (group target body)) w e in
    (p.0, p.1, sym (ok_same (group target p.0) w p.2))

-- the group as bytes
bytes_back : (tags packs target : List ℕ) (xs : List Item) (body : List ℕ) → tag_table_ok tags ≡ true → pack_table_ok packs ≡ true → is_group (kind_of target) ≡ true
    → AllKeys xs → length xs ≤ 256 → write_items (under target tags packs) 0 xs ≡ ok body → length (group target body) ≤ 65536
    → (reads_as tags packs (group target body) ≡ some xs) × (take 16 (group target body) ≡ target)
unfolding reads_as
bytes_back tags packs target xs body t p g k h e l =
    let b = items_back (under target tags packs) xs body (fit_under target tags packs t p) k h e in
    (rw (read_group tags packs target body t p g l, b.reads) (ap some b.are), group_front target body (group_key_law target g))

-- what is written reads as the items that were written, and begins with the target's key
pub group_back : (tags packs target : List ℕ) (xs : List Item) (w : List ℕ) → tag_table_ok tags ≡ true → pack_table_ok packs ≡ true → is_group (kind_of target) ≡ true
    → AllKeys xs → length xs ≤ 256 → write tags packs target xs ≡ ok w → length w ≤ 65536 → (reads_as tags packs w ≡ some xs) × (take 16 w ≡ target)
group_back tags packs target xs w t p g k h e l =
    let q = write_parts tags packs target xs w e in
    rw q.2 (bytes_back tags packs target xs q.0 t p g k h q.1 (rw q.2 at l))

-- none of its items has a longer BER form than needed
bytes_shortest : (tags packs target : List ℕ) (xs : List Item) (body : List ℕ) → tag_table_ok tags ≡ true → pack_table_ok packs ≡ true → is_group (kind_of target) ≡ true
    → AllKeys xs → length xs ≤ 256 → write_items (under target tags packs) 0 xs ≡ ok body → length (group target body) ≤ 65536
    → (es : List Entry) × (read tags packs (group target body) ≡ ok es) × (longer_items (kind_of target) es ≡ [])
unfolding under
bytes_shortest tags packs target xs body t p g k h e l =
    let b = items_back (under target tags packs) xs body (fit_under target tags packs t p) k h e in
    (b.entries, read_group tags packs target body t p g l ∙ b.reads, b.shortest)

pub group_shortest : (tags packs target : List ℕ) (xs : List Item) (w : List ℕ) → tag_table_ok tags ≡ true → pack_table_ok packs ≡ true → is_group (kind_of target) ≡ true
    → AllKeys xs → length xs ≤ 256 → write tags packs target xs ≡ ok w → length w ≤ 65536
    → (es : List Entry) × (read tags packs w ≡ ok es) × (longer_items (kind_of target) es ≡ [])
group_shortest tags packs target xs w t p g k h e l =
    let q = write_parts tags packs target xs w e in
    rw q.2 (bytes_shortest tags packs target xs q.0 t p g k h q.1 (rw q.2 at l))
