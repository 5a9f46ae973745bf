-- A refusal of the call has its condition.
use mathlib.Core.Path.{◌≡◌, refl, sym, ◌∙◌}
use mathlib.Core.Bool.{true}
use mathlib.Core.List.{List, []}
use Prim.Native.Nat.{ℕ}
use native.Mathlib.Omega.{arith}
use lib.Dec.{leb}
use lib.ListN.{length, take, drop, length-drop}
use borrow.Author.Tests.{leb-false}
use Rattle.klv.proofs.Cases.{absurd_number}
use Rattle.groups.specs.declared.refusal.Refusal.{Refusal}
use Rattle.groups.specs.declared.refusal.Refusal.TheVariants.{TagTable, PackTable, Target, Oversize, GroupKey, Family, LongOutput, ShortSlice}
use Rattle.groups.specs.Refusal.{Answer, ok, refused}
use Rattle.groups.specs.Kind.{kind_of, is_group, family}
use Rattle.groups.specs.Tables.{tag_table_ok, pack_table_ok}
use Rattle.groups.specs.Read.{Item, Entry, under, most, read_body, group_key_ok, items}
use Rattle.groups.specs.Write.{write_items, write}
use Rattle.groups.specs.Regroup.{regroup_of, target_ok, sized}
use Rattle.groups.proofs.regroup.AnswerLaws.{check_refused, then_refused}
use Rattle.groups.proofs.read.ReadGood.{body_told}
use Rattle.claims.specs.Condition.{Inputs, target_no_group, group_no_group, Outer, at_first, source, Reads, goal, Condition}
use Rattle.claims.proofs.TableFaults.{tags_fault, packs_fault}
use Rattle.claims.proofs.HeadFaults.{two_families, body_fault}
use Rattle.claims.proofs.ReadConditions.{items_condition, items_passed}
use Rattle.claims.proofs.WriteConditions.{writing_condition}
use Rattle.claims.proofs.OutputLength.{write_length}

-- what the call answers
abbrev pub call : Inputs → Answer (List ℕ)
call i = regroup_of i.tags i.packs i.target i.group i.room

-- the kind of what a group is read or written under is that of its key
under_group : (k tags packs : List ℕ) → is_group (kind_of k) ≡ true → is_group (under k tags packs).kind ≡ true
unfolding under
under_group k tags packs g = g

-- a group that reads reads as its items
pub reads_of : (i : Inputs) (es : List Entry) → read_body i.tags i.packs i.group ≡ ok es → Reads i (items es)
reads_of i es e =
    let b = body_told i.tags i.packs i.group es e in
    let body : List ℕ = drop b.width (drop 16 i.group) in
    let n : b.count ≡ length body = b.counts ∙ sym (length-drop b.width (drop 16 i.group)) in
    let o : Outer i.group body = record { width = b.width; reads = rw (← n) b.outer; rest = refl } in
    let t = items_passed (source i) body (most (source i)) 0 [] body es (omega arith) at_first b.reads in
    record {
      count = t.0;
      entries = es;
      read_to = record { body = body; outer = o; passed = t.1 };
      complete = t.2;
      are = refl;
    }

write_condition : (i : Inputs) (xs : List Item) (r : Refusal) (p : ℕ) → target_ok i.target ≡ true → Reads i xs → write i.tags i.packs i.target xs ≡ refused r p → Condition i r p
unfolding write
write_condition i xs r p o d e =
    then_refused (write_items (goal i) 0 xs) _ r p e
    (λ f. writing_condition i xs [] xs 0 r p d refl refl (under_group i.target i.tags i.packs o) f)
    (λ a f g. absurd_number (cc))

sized_condition : (i : Inputs) (xs : List Item) (w : List ℕ) (r : Refusal) (p : ℕ) → Reads i xs → target_ok i.target ≡ true → write i.tags i.packs i.target xs ≡ ok w
    → sized i.room w ≡ refused r p → Condition i r p
sized_condition i xs w r p d g k e =
    let n = write_length i.tags i.packs i.target xs w g k in
    check_refused (leb (length w) 65536) LongOutput _ r p e
    (λ t q z. rw (q, z) (xs, refl, d, rw (← n) (leb-false (length w) 65536 t)))
    (λ t f. check_refused (leb (length w) i.room) ShortSlice _ r p f
    (λ t q z. rw (q, z) (xs, refl, d, rw (← n) (leb-false (length w) i.room t)))
    (λ t f. absurd_number (cc)))

body_condition : (i : Inputs) (r : Refusal) (p : ℕ) → group_key_ok i.group ≡ true → read_body i.tags i.packs i.group ≡ refused r p → Condition i r p
body_condition i r p g e =
    body_fault i.tags i.packs i.group r p e
    (λ q z f. rw (← q, ← z) (refl, f))
    (λ body o f. items_condition i (under_group (take 16 i.group) i.tags i.packs g) body o (most (source i)) 0 [] body r p (omega arith) at_first f)

pub refused_condition : (i : Inputs) (r : Refusal) (p : ℕ) → call i ≡ refused r p → Condition i r p
unfolding regroup_of
refused_condition i r p e =
    check_refused (tag_table_ok i.tags) TagTable _ r p e
    (λ t q z. rw (q, z) (refl, tags_fault i.tags t))
    (λ t f. check_refused (pack_table_ok i.packs) PackTable _ r p f
    (λ t q z. rw (q, z) (refl, packs_fault i.packs t))
    (λ t f. check_refused (target_ok i.target) Target _ r p f
    (λ t q z. rw (q, z) (refl, target_no_group t))
    (λ g f. check_refused (leb (length i.group) 65536) Oversize _ r p f
    (λ t q z. rw (q, z) (refl, leb-false (length i.group) 65536 t))
    (λ t f. check_refused (group_key_ok i.group) GroupKey _ r p f
    (λ t q z. rw (q, z) (refl, group_no_group t))
    (λ h f. check_refused (family (take 16 i.group) i.target) Family _ r p f
    (λ t q z. rw (q, z) (refl, two_families (take 16 i.group) i.target h g t))
    (λ t f. then_refused (read_body i.tags i.packs i.group) _ r p f
    (λ k. body_condition i r p h k)
    (λ es k f. then_refused (write i.tags i.packs i.target (items es)) (sized i.room) r p f
    (λ m. write_condition i (items es) r p g (reads_of i es k) m)
    (λ w m f. sized_condition i (items es) w r p (reads_of i es k) g m f))))))))
