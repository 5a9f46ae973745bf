-- A label that was read stands for a key, for every kind under valid tables: the key itself was tested, the key joined from
-- root and tag was tested, or the key of a valid table's record was.
use mathlib.Core.Path.{◌≡◌, refl}
use mathlib.Core.Bool.{Bool, true, false}
use mathlib.Core.List.{List, ◌++◌}
use Prim.Native.Nat.{ℕ, ◌+◌, ◌-◌, ◌<◌}
use lib.Dec.{leb, ltb, eqb}
use lib.ListN.{length, take, replicate}
use Rattle.std.specs.Prelude.{Result, Ok, Err}
use Rattle.klv.specs.Pick.{pick}
use Rattle.klv.specs.Key.{is_key, before_zero, key_at}
use Rattle.klv.specs.Layout.{read_as}
use Rattle.klv.specs.Number.{Read}
use Rattle.klv.specs.declared.layout.NumberError.TheVariants.{Missing, Malformed}
use Rattle.std.specs.Prelude.{Option, Some, None}
use Rattle.groups.specs.declared.kind.Kind.{Kind}
use Rattle.groups.specs.declared.kind.Kind.TheVariants.{Universal, Global, Local, Variable, Defined, NoGroup}
use Rattle.groups.specs.declared.label.Label.{Label}
use Rattle.groups.specs.declared.label.LabelError.{LabelError}
use Rattle.groups.specs.declared.label.LabelError.TheVariants.{CutOff, Unlisted}
use Rattle.groups.specs.declared.label.LabelError.TheVariants as label_error
use Rattle.groups.specs.Tables.{Table, tag_index}
use Rattle.groups.specs.Kind.{is_pack}
use Rattle.groups.specs.Root.{label_of, join, global_label}
use Rattle.groups.specs.Label.{key_label, listed, tag_label, read_label}
use Rattle.groups.proofs.tables.TableLaws.{TagsFit, PacksFit, tag_found}

-- a label, if it is one, stands for a key
abbrev pub GoodLabel : Result Label LabelError → Type 0
GoodLabel (Ok x) = is_key x.key ≡ true
GoodLabel (Err why) = Unit

-- a label of a key is good
good_key : (n : ℕ) (k : List ℕ) → is_key k ≡ true → GoodLabel (label_of n k)
good_key n k e = e

-- no label is good
good_cut : GoodLabel (Err CutOff)
good_cut = tt

good_malformed : GoodLabel (Err label_error.Malformed)
good_malformed = tt

good_unlisted : GoodLabel (Err Unlisted)
good_unlisted = tt

-- of a choice, each way
good_pick : (t : Bool) (a b : Result Label LabelError) → (t ≡ true → GoodLabel a) → (t ≡ false → GoodLabel b) → GoodLabel (pick t a b)
good_pick true a b f g = f refl
good_pick false a b f g = g refl

-- ---- one kind after another

key_good : (k : Option (List ℕ)) → GoodLabel (key_label k)
key_good (Some k) = good_pick (is_key k) _ _ (λ e. good_key 16 k e) (λ e. good_malformed)
key_good None = good_cut

join_good : (root tag : List ℕ) (n : ℕ) → GoodLabel (join root tag n)
unfolding join
join_good root tag n =
    good_pick (leb (length root + length tag) 16) _ _
    (λ h. good_pick (is_key (root ++ (tag ++ replicate (16 - (length root + length tag)) 0x00))) _ _ (λ e. good_key n _ e) (λ e. good_malformed))
    (λ h. good_malformed)

global_good : (root l : List ℕ) → GoodLabel (global_label root l)
unfolding global_label
global_good root l =
    good_pick (ltb (before_zero false (take 12 l)) (length (take 12 l))) _ _
    (λ h. good_pick (eqb (before_zero false (take 12 l)) 0) _ _ (λ e. good_malformed) (λ e. join_good root _ _))
    (λ h. good_pick (ltb (length l) 12) _ _ (λ e. good_cut) (λ e. join_good root (take 12 l) 12))

listed_good : (tags : Table) (v n : ℕ) (o : Option ℕ) → TagsFit tags → tag_index tags v ≡ o → GoodLabel (listed tags n o)
listed_good tags v n (Some i) f e = good_key n (tags.row i).key (f.keys i (tag_found tags v i e).0)
listed_good tags v n None f e = good_unlisted

tag_good : (tags : Table) (m : Read) → TagsFit tags → GoodLabel (tag_label tags m)
tag_good tags (Ok n) f = listed_good tags n.value n.width (tag_index tags n.value) f refl
tag_good tags (Err Missing) f = good_cut
tag_good tags (Err Malformed) f = good_malformed

-- a label that was read stands for a key
pub label_good : (d : Kind) (root : List ℕ) (tags packs : Table) (place : ℕ) (l : List ℕ) → TagsFit tags → PacksFit packs → (is_pack d ≡ true → place < packs.count)
    → GoodLabel (read_label d root tags packs place l)
unfolding read_label
label_good Universal root tags packs place l t p h = key_good (key_at l)
label_good (Global y) root tags packs place l t p h = global_good root l
label_good (Local f y) root tags packs place l t p h = tag_good tags (read_as f.form l) t
label_good (Variable y) root tags packs place l t p h = good_key 0 (packs.row place).key (p.keys place (h refl))
label_good Defined root tags packs place l t p h = good_key 0 (packs.row place).key (p.keys place (h refl))
label_good NoGroup root tags packs place l t p h = good_malformed
