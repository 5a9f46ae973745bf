-- Where a condition holds the call is refused, no later in the order than that condition.
use mathlib.Core.Path.{◌≡◌, refl, ◌∙◌}
use mathlib.Core.Bool.{true}
use mathlib.Core.List.{List}
use Prim.Native.Nat.{ℕ, ◌<◌}
use native.Mathlib.Omega.{arith}
use lib.Dec.{leb}
use lib.ListN.{length, take, drop}
use borrow.Author.Tests.{lt-leb}
use Rattle.groups.specs.declared.refusal.Refusal.{Refusal}
use Rattle.groups.specs.declared.refusal.Refusal.TheVariants.{TagTable, PackTable, Target, Oversize, GroupKey, Family, OuterLength, LabelCutOff, LabelMalformed, LabelUnlisted, Span, Count, Surplus, NoLabel, NoSpan, LongOutput, ShortSlice}
use Rattle.groups.specs.Refusal.{Answer, ok, refused, and_then}
use Rattle.groups.specs.Kind.{family}
use Rattle.groups.specs.Tables.{tag_table_ok, pack_table_ok}
use Rattle.groups.specs.Read.{Item, Entry, most, read_item, read_items, read_body, group_key_ok, items}
use Rattle.groups.specs.Write.{write_items, write}
use Rattle.groups.specs.Regroup.{regroup_of, target_ok, sized}
use Rattle.groups.proofs.tables.TableLaws.{TagsFit}
use Rattle.groups.proofs.label.LabelBack.{fit_under}
use Rattle.claims.specs.Condition.{Inputs, label_at, Outer, source, LabelDue, Reads, goal, Condition, round, turn}
use Rattle.claims.proofs.Order.{RefusedBy, refused_now, refused_sooner, refused_as, refused_check, refused_here, refused_first_step, refused_second_step}
use Rattle.claims.proofs.TableFaults.{fault_tags, fault_packs}
use Rattle.claims.proofs.HeadFaults.{fault_target, fault_group, fault_family, outer_refuses, outer_reads}
use Rattle.claims.proofs.LabelCauses.{CutOrBad, is_cut, is_bad, cause_cut, cause_bad, cause_unknown}
use Rattle.claims.proofs.SpanCauses.{cause_span}
use Rattle.claims.proofs.PassedLaws.{complete_read}
use Rattle.claims.proofs.ReadConditions.{item_refuses, count_refuses, surplus_refuses}
use Rattle.claims.proofs.WriteConditions.{no_label_refuses, no_span_refuses}
use Rattle.claims.proofs.SizeConditions.{long_refuses, short_refuses}
use Rattle.claims.proofs.RefusedConditions.{call}

-- what follows the checks of rounds 1 to 6
abbrev rest : Inputs → Answer (List ℕ)
rest i =
    and_then (read_body i.tags i.packs i.group) (λ (es : List Entry).
    and_then (write i.tags i.packs i.target (items es)) (sized i.room))

after_checks : (i : Inputs) (r : Refusal) (p : ℕ) → 6 < round r → (TagsFit (goal i).tags → target_ok i.target ≡ true → RefusedBy (rest i) r p)
    → RefusedBy (call i) r p
unfolding regroup_of
after_checks i r p h f =
    refused_check (tag_table_ok i.tags) TagTable _ r p (omega arith)
    (λ a. refused_check (pack_table_ok i.packs) PackTable _ r p (omega arith)
    (λ b. refused_check (target_ok i.target) Target _ r p (omega arith)
    (λ g. refused_check (leb (length i.group) 65536) Oversize _ r p (omega arith)
    (λ t. refused_check (group_key_ok i.group) GroupKey _ r p (omega arith)
    (λ t. refused_check (family (take 16 i.group) i.target) Family _ r p (omega arith)
    (λ t. f (fit_under i.target i.tags i.packs a b).tags g))))))

-- a refusal among the items read
reading_refuses : (i : Inputs) (r : Refusal) (p : ℕ) (body : List ℕ) → 6 < round r → Outer i.group body
    → RefusedBy (read_items (source i) (most (source i)) 0 body) r p → RefusedBy (call i) r p
reading_refuses i r p body h o w =
    after_checks i r p h
    (λ t g. refused_first_step (read_body i.tags i.packs i.group) _ r p
    (refused_as (read_body i.tags i.packs i.group) _ r p (outer_reads i.tags i.packs i.group body o) w))

item_reading_refuses : (i : Inputs) (r : Refusal) (p : ℕ) (l : List ℕ) → round r ≡ 8 → 0 < turn r → LabelDue i p l → read_item (source i) p l ≡ refused r p
    → RefusedBy (call i) r p
item_reading_refuses i r p l h t d e =
    reading_refuses i r p d.read_to.body (omega arith) d.read_to.outer
    (item_refuses (source i) d.read_to.body p d.before l r h t d.read_to.passed d.due e)

-- a label that is malformed is refused for that, or before that because it is cut off
malformed_refuses : (i : Inputs) (p : ℕ) (l : List ℕ) → LabelDue i p l → CutOrBad (label_at (source i) p l) → RefusedBy (call i) LabelMalformed p
unfolding read_item
malformed_refuses i p l d (is_cut e) =
    refused_sooner (call i) LabelCutOff LabelMalformed p refl (omega arith) (item_reading_refuses i LabelCutOff p l refl (omega arith) d (rw e))
malformed_refuses i p l d (is_bad e) = item_reading_refuses i LabelMalformed p l refl (omega arith) d (rw e)

-- a group that reads by the table's words is read
pub reads_body : (i : Inputs) (xs : List Item) (d : Reads i xs) → read_body i.tags i.packs i.group ≡ ok d.entries
reads_body i xs d =
    let o = d.read_to in
    outer_reads i.tags i.packs i.group o.body o.outer ∙ complete_read (source i) o.body d.count d.entries o.passed d.complete

-- a refusal of the items written
writing_refuses : (i : Inputs) (r : Refusal) (p : ℕ) (xs : List Item) → 6 < round r → Reads i xs
    → (TagsFit (goal i).tags → target_ok i.target ≡ true → RefusedBy (and_then (write i.tags i.packs i.target xs) (sized i.room)) r p) → RefusedBy (call i) r p
writing_refuses i r p xs h d f =
    after_checks i r p h
    (λ t g. refused_second_step (read_body i.tags i.packs i.group) _ d.entries r p (reads_body i xs d) (rw d.are at (f t g)))

items_writing_refuses : (i : Inputs) (r : Refusal) (p : ℕ) (xs : List Item) → 6 < round r → Reads i xs
    → (TagsFit (goal i).tags → RefusedBy (write_items (goal i) 0 xs) r p) → RefusedBy (call i) r p
unfolding write
items_writing_refuses i r p xs h d w =
    writing_refuses i r p xs h d
    (λ t g. refused_first_step (write i.tags i.packs i.target xs) (sized i.room) r p (refused_first_step (write_items (goal i) 0 xs) _ r p (w t)))

-- where a condition holds the call is refused, no later than that
pub condition_refuses : (i : Inputs) (r : Refusal) (p : ℕ) → Condition i r p → RefusedBy (call i) r p
unfolding regroup_of read_item
condition_refuses i TagTable p (z, f) = refused_here (tag_table_ok i.tags) TagTable _ p (fault_tags i.tags f) z
condition_refuses i PackTable p (z, f) =
    refused_check (tag_table_ok i.tags) TagTable _ PackTable p (omega arith)
    (λ t. refused_here (pack_table_ok i.packs) PackTable _ p (fault_packs i.packs f) z)
condition_refuses i Target p (z, f) =
    refused_check (tag_table_ok i.tags) TagTable _ Target p (omega arith)
    (λ t. refused_check (pack_table_ok i.packs) PackTable _ Target p (omega arith)
    (λ t. refused_here (target_ok i.target) Target _ p (fault_target i.target f) z))
condition_refuses i Oversize p (z, f) =
    refused_check (tag_table_ok i.tags) TagTable _ Oversize p (omega arith)
    (λ t. refused_check (pack_table_ok i.packs) PackTable _ Oversize p (omega arith)
    (λ t. refused_check (target_ok i.target) Target _ Oversize p (omega arith)
    (λ t. refused_here (leb (length i.group) 65536) Oversize _ p (lt-leb (length i.group) 65536 f) z)))
condition_refuses i GroupKey p (z, f) =
    refused_check (tag_table_ok i.tags) TagTable _ GroupKey p (omega arith)
    (λ t. refused_check (pack_table_ok i.packs) PackTable _ GroupKey p (omega arith)
    (λ t. refused_check (target_ok i.target) Target _ GroupKey p (omega arith)
    (λ t. refused_check (leb (length i.group) 65536) Oversize _ GroupKey p (omega arith)
    (λ t. refused_here (group_key_ok i.group) GroupKey _ p (fault_group i.group f) z))))
condition_refuses i Family p (z, f) =
    refused_check (tag_table_ok i.tags) TagTable _ Family p (omega arith)
    (λ t. refused_check (pack_table_ok i.packs) PackTable _ Family p (omega arith)
    (λ t. refused_check (target_ok i.target) Target _ Family p (omega arith)
    (λ t. refused_check (leb (length i.group) 65536) Oversize _ Family p (omega arith)
    (λ t. refused_check (group_key_ok i.group) GroupKey _ Family p (omega arith)
    (λ t. refused_here (family (take 16 i.group) i.target) Family _ p (fault_family (take 16 i.group) i.target f) z)))))
condition_refuses i OuterLength p (z, f) =
    after_checks i OuterLength p (omega arith)
    (λ t g. refused_first_step (read_body i.tags i.packs i.group) _ OuterLength p
    (refused_now _ OuterLength p (rw z (outer_refuses i.tags i.packs i.group f))))
condition_refuses i LabelCutOff p (l, d, e) = item_reading_refuses i LabelCutOff p l refl (omega arith) d (rw (cause_cut (source i) p l e))
condition_refuses i LabelMalformed p (l, d, e) = malformed_refuses i p l d (cause_bad (source i) p l e)
condition_refuses i LabelUnlisted p (l, d, e) = item_reading_refuses i LabelUnlisted p l refl (omega arith) d (rw (cause_unknown (source i) p l e))
condition_refuses i Span p (l, x, d, e, f) = item_reading_refuses i Span p l refl (omega arith) d (rw (e, cause_span (source i) p (drop x.width l) f))
condition_refuses i Count p (es, l, z, k, t, h) =
    reading_refuses i Count p t.body (omega arith) t.outer
    (refused_now _ Count p (rw z (count_refuses (source i) t.body es l k (rw z at t.passed) h)))
condition_refuses i Surplus p (es, l, z, k, t, h) =
    reading_refuses i Surplus p t.body (omega arith) t.outer
    (refused_now _ Surplus p (surplus_refuses (source i) t.body p es l k z t.passed h))
condition_refuses i NoLabel p (xs, d, f) = items_writing_refuses i NoLabel p xs (omega arith) d (λ t. no_label_refuses (goal i) xs p t f)
condition_refuses i NoSpan p (xs, x, d, t, f) = items_writing_refuses i NoSpan p xs (omega arith) d (λ g. no_span_refuses (goal i) xs x p t f)
condition_refuses i LongOutput p (xs, z, d, h) =
    writing_refuses i LongOutput p xs (omega arith) d (λ t g. long_refuses i.tags i.packs i.target xs i.room p g z h)
condition_refuses i ShortSlice p (xs, z, d, h) =
    writing_refuses i ShortSlice p xs (omega arith) d (λ t g. short_refuses i.tags i.packs i.target xs i.room p g z h)
