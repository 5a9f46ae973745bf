-- A written label is read back as the key, whatever follows it, for every kind under valid tables. From klv's laws of
-- keys and layouts, and the laws of tables and of roots.
use mathlib.Core.Path.{◌≡◌, refl}
use mathlib.Core.Bool.{true}
use mathlib.Core.List.{List, [], ◌++◌}
use mathlib.Core.Option.{none, some}
use Prim.Native.Nat.{ℕ, ◌<◌}
use lib.Dec.{leb, ltb}
use lib.ListN.{length}
use borrow.Author.Tests.{leb-true, ltb-true}
use Rattle.klv.specs.Pick.{both}
use Rattle.klv.specs.Bytes.{same}
use Rattle.klv.specs.Key.{is_key, key_at}
use Rattle.klv.specs.Layout.{read_as, written, largest_of}
use Rattle.klv.specs.declared.layout.Form.{Form}
use Rattle.klv.specs.declared.layout.Layout.{Layout}
use Rattle.klv.proofs.Cases.{pick_cases, both_true, absurd_number}
use Rattle.klv.proofs.BytesLaws.{same_true}
use Rattle.klv.proofs.KeyLaws.{key_size, key_at_front}
use Rattle.klv.proofs.LayoutLaws.{read_back}
use Rattle.groups.specs.declared.kind.Kind.{Kind}
use Rattle.groups.specs.declared.kind.Kind.TheVariants.{Universal, Global, Local, Variable, Defined, NoGroup}
use Rattle.std.specs.Prelude.{Option, Some, None}
use Rattle.groups.specs.Root.{label_of}
use Rattle.groups.specs.Tables.{Table, tag_table_ok, pack_table_ok, key_index}
use Rattle.groups.specs.Kind.{is_pack}
use Rattle.groups.specs.Label.{read_label, write_label, key_label, tag_label, local_tag, element_label}
use Rattle.groups.specs.Read.{Under, under}
use Rattle.groups.proofs.tables.TableLaws.{TagsFit, PacksFit, tags_fit, packs_fit, key_found, tag_finds}
use Rattle.groups.proofs.root.RootLaws.{RootFit, root_fit}
use Rattle.groups.proofs.root.TagBack.{tag_back}

-- ---- what a group is read or written under

-- valid tables, and a root where the kind has one
pub record Fit (u : Under) : Type 0 where
  pub root : (y : Layout) → u.kind ≡ Global y → RootFit u.root
  pub tags : TagsFit u.tags
  pub packs : PacksFit u.packs

-- any key and valid tables give it
pub fit_under : (k tags packs : List ℕ) → tag_table_ok tags ≡ true → pack_table_ok packs ≡ true → Fit (under k tags packs)
unfolding under
fit_under k tags packs e f = record { root = λ y q. search (root_fit k y q, q); tags = tags_fit tags e; packs = packs_fit packs f }

-- ---- one kind after another

key_back : (k rest : List ℕ) → is_key k ≡ true → key_label (key_at (k ++ rest)) ≡ label_of (length k) k
key_back k rest e = rw (key_at_front k rest (key_size k e), e, key_size k e)

-- a tag is found again by its number
local_back : (tags : Table) (f : Form) (k a rest : List ℕ) (o : Option ℕ) → TagsFit tags → key_index tags k ≡ o → local_tag tags f o ≡ some a
    → tag_label tags (read_as f (a ++ rest)) ≡ label_of (length a) k
local_back tags f k a rest None t q e = absurd_number (cc)
local_back tags f k a rest (Some i) t q e =
    pick_cases (leb (tags.row i).number (largest_of f)) _ none (some a) e
    (λ h g.
    let p = key_found tags k i q in
    let w : a ≡ written f (tags.row i).number = cc in
    rw (w, read_back f (tags.row i).number rest (leb-true (tags.row i).number (largest_of f) h), tag_finds tags i t p.0, p.1))
    (λ h g. absurd_number (cc))

-- an element's label is empty: its place tells the key
pub element_told : (packs : Table) (place : ℕ) (k a : List ℕ) → element_label packs place k ≡ some a
    → (place < packs.count) × ((packs.row place).key ≡ k) × (a ≡ [])
element_told packs place k a e =
    pick_cases (both (ltb place packs.count) (same (packs.row place).key k)) (some []) none (some a) e
    (λ h g.
    let p = both_true (ltb place packs.count) (same (packs.row place).key k) h in
    (ltb-true place packs.count p.0, same_true (packs.row place).key k p.1, cc))
    (λ h g. absurd_number (cc))

element_back : (packs : Table) (place : ℕ) (k a : List ℕ) → element_label packs place k ≡ some a
    → label_of 0 (packs.row place).key ≡ label_of (length a) k
element_back packs place k a e = let p = element_told packs place k a e in rw (p.1, p.2)

-- a written label is read back, whatever follows it
pub label_back : (d : Kind) (root : List ℕ) (tags packs : Table) (place : ℕ) (k a rest : List ℕ) → ((y : Layout) → d ≡ Global y → RootFit root) → TagsFit tags
    → is_key k ≡ true → write_label d root tags packs place k ≡ some a → read_label d root tags packs place (a ++ rest) ≡ label_of (length a) k
unfolding read_label write_label
label_back Universal root tags packs place k a rest r t i e = let q : k ≡ a = cc in rw (← q) (key_back k rest i)
label_back (Global y) root tags packs place k a rest r t i e = tag_back root k a rest (r y refl) i e
label_back (Local f y) root tags packs place k a rest r t i e = local_back tags f.form k a rest (key_index tags k) t refl e
label_back (Variable y) root tags packs place k a rest r t i e = element_back packs place k a e
label_back Defined root tags packs place k a rest r t i e = element_back packs place k a e
label_back NoGroup root tags packs place k a rest r t i e = absurd_number (cc)

-- an element is written only where there is a record
pub element_within : (d : Kind) (root : List ℕ) (tags packs : Table) (place : ℕ) (k a : List ℕ) → is_pack d ≡ true
    → write_label d root tags packs place k ≡ some a → place < packs.count
unfolding write_label
element_within Universal root tags packs place k a p e = absurd_number (cc)
element_within (Global y) root tags packs place k a p e = absurd_number (cc)
element_within (Local f y) root tags packs place k a p e = absurd_number (cc)
element_within (Variable y) root tags packs place k a p e = (element_told packs place k a e).0
element_within Defined root tags packs place k a p e = (element_told packs place k a e).0
element_within NoGroup root tags packs place k a p e = absurd_number (cc)
