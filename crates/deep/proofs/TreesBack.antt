-- The universal bytes of a tree read as the same tree, under every valid tag table, in a universal set.
use mathlib.Core.Path.{◌≡◌, refl, sym, ap, ◌∙◌, subst}
use mathlib.Core.Bool.{true, false}
use mathlib.Core.List.{List, [], ◌++◌}
use Prim.Native.Nat.{ℕ, suc, ◌≤◌}
use native.Mathlib.Omega.{arith}
use lib.ListN.{length, drop, length-append}
use lib.Seq.{drop_at}
use borrow.Author.Tests.{le-leb}
use Rattle.klv.specs.Key.{is_key}
use Rattle.klv.specs.Layout.{written, largest_of}
use Rattle.klv.specs.declared.layout.Form.TheVariants.{Ber}
use Rattle.klv.proofs.KeyLaws.{key_size}
use Rattle.groups.specs.declared.kind.Kind.{Kind}
use Rattle.groups.specs.declared.kind.Kind.TheVariants.{Universal}
use Rattle.groups.specs.Refusal as plain
use Rattle.groups.specs.Kind.{kind_of}
use Rattle.groups.specs.Tables.{tag_table_ok}
use Rattle.groups.specs.Label.{write_label}
use Rattle.groups.specs.Span.{write_span}
use Rattle.groups.specs.Listing.{is_longer}
use Rattle.groups.specs.Read.{Item, Entry, Under, under, read_item, ended, size}
use Rattle.groups.specs.Write.{write_item, group as grouped}
use Rattle.groups.proofs.label.LabelBack.{fit_under}
use Rattle.groups.proofs.item.ItemBack.{item_back}
use Rattle.groups.proofs.item.ItemsBack.{bytes_left}
use Rattle.deep.specs.Tree.{ok, opens, Tree, end, leaf, nest, tree_of, inside_of}
use Rattle.deep.specs.Deep.{as_universal, universal_bytes, tree_longer}
use Rattle.deep.specs.DeepText.{shape_of}
use Rattle.deep.proofs.UniversalKeys.{opens_key, universal_key_law, universal_kind, universal_twice}
use Rattle.deep.proofs.TreeLaws.{tree_end, tree_leaf, tree_nest, closed_inside, opened_inside}
use Rattle.deep.proofs.SetItems.{under_kind}
use Rattle.deep.proofs.FineTrees.{Fine, fine_end, fine_leaf, fine_nest, packs_none}

-- ---- one item

-- an item of a universal set is key, BER length and value
universal_written : (u : Under) (place : ℕ) (k v : List ℕ) → u.kind ≡ Universal → length v ≤ largest_of Ber
    → write_item u place (record { key = k; value = v }) ≡ plain.ok (grouped k v)
unfolding write_item write_label write_span
universal_written u place k v h n = rw (h, le-leb (length v) (largest_of Ber) n)

-- what is read of key, BER length and value, whatever follows them
record OneBack (u : Under) (place : ℕ) (k v rest : List ℕ) : Type 0 where
  entry : Entry
  key : entry.key ≡ k
  value : entry.value ≡ v
  reads : read_item u place (grouped k v ++ rest) ≡ plain.ok entry
  after : drop (size entry) (grouped k v ++ rest) ≡ rest
  goes_on : ended u (grouped k v ++ rest) ≡ false
  shortest : is_longer Universal entry ≡ false

one_back : (others c : List ℕ) (place : ℕ) (k v rest : List ℕ) → tag_table_ok others ≡ true → kind_of c ≡ Universal → is_key k ≡ true → length v ≤ largest_of Ber
    → OneBack (under c others []) place k v rest
one_back others c place k v rest t h i n =
    let u : Under = under c others [] in
    let x : Item = record { key = k; value = v } in
    let b = item_back u place x (grouped k v) (fit_under c others [] t packs_none) i (universal_written u place k v (under_kind c others [] ∙ h) n) in
    let m : length k ≡ 16 = key_size k i in
    record {
      entry = b.entry;
      key = ap (λ (y : Item). y.key) b.is;
      value = ap (λ (y : Item). y.value) b.is;
      reads = b.reads rest;
      after = drop_at (grouped k v) rest (size b.entry) (sym b.sizes);
      goes_on = bytes_left u (grouped k v ++ rest) (omega (arith, length-append (grouped k v) rest, length-append k (written Ber (length v) ++ v)));
      shortest = subst (λ (d : Kind). is_longer d b.entry ≡ false) (under_kind c others [] ∙ h) b.shortest;
    }

-- ---- all items

-- the universal bytes of t read as a tree of the same shape, with the same universal bytes, and no item of it has a longer BER
-- form than needed
pub record TreeBack (deeper : ℕ) (others k : List ℕ) (left place : ℕ) (t : Tree) : Type 0 where
  pub tree : Tree
  pub reads : tree_of (inside_of deeper others) (under k others []) left place (universal_bytes t) ≡ ok tree
  pub shape : shape_of tree ≡ shape_of t
  pub bytes : universal_bytes tree ≡ universal_bytes t
  pub shortest : tree_longer Universal tree ≡ []

back_end : (deeper : ℕ) (others k : List ℕ) (left place : ℕ) → kind_of k ≡ Universal → TreeBack deeper others k left place end
unfolding universal_bytes tree_longer
back_end deeper others k left place h =
    record {
      tree = end;
      reads = tree_end (inside_of deeper others) (under k others []) left place (rw (under_kind k others [], h));
      shape = refl;
      bytes = refl;
      shortest = refl;
    }

back_leaf : (deeper : ℕ) (others k : List ℕ) (left place : ℕ) (e : Entry) (t : Tree) → tag_table_ok others ≡ true → kind_of k ≡ Universal → is_key e.key ≡ true
    → opens (kind_of e.key) ≡ false → length e.value ≤ largest_of Ber → TreeBack deeper others k left (suc place) t
    → TreeBack deeper others k (suc left) place (leaf e t)
unfolding universal_bytes shape_of tree_longer
back_leaf deeper others k left place e t g h i o n b =
    let x = one_back others k place e.key e.value (universal_bytes t) g h i n in
    record {
      tree = leaf x.entry b.tree;
      reads =
          tree_leaf (inside_of deeper others) (under k others []) left place (grouped e.key e.value ++ universal_bytes t) (universal_bytes t) x.entry b.tree
          x.goes_on x.reads x.after (closed_inside deeper others x.entry.key x.entry.value (rw x.key o)) b.reads;
      shape = rw (x.key, x.value, b.shape);
      bytes = rw (x.key, x.value, b.bytes);
      shortest = rw (x.shortest, b.shortest);
    }

back_nest : (deeper d : ℕ) (others k : List ℕ) (left place : ℕ) (e : Entry) (inner t : Tree) → deeper ≡ suc d → tag_table_ok others ≡ true → kind_of k ≡ Universal
    → opens (kind_of e.key) ≡ true → length (universal_bytes inner) ≤ largest_of Ber → TreeBack d others (as_universal e.key) 256 0 inner
    → TreeBack deeper others k left (suc place) t → TreeBack deeper others k (suc left) place (nest e inner t)
unfolding universal_bytes shape_of tree_longer
back_nest deeper d others k left place e inner t z g h o n a b =
    let x = one_back others k place (as_universal e.key) (universal_bytes inner) (universal_bytes t) g h (universal_key_law e.key (opens_key e.key o)) n in
    record {
      tree = nest x.entry a.tree b.tree;
      reads =
          tree_nest (inside_of deeper others) (under k others []) left place (grouped (as_universal e.key) (universal_bytes inner) ++ universal_bytes t) (universal_bytes t)
          x.entry a.tree b.tree
          x.goes_on x.reads x.after
          (rw (z, x.key, x.value) (opened_inside d others (as_universal e.key) (universal_bytes inner) a.tree (rw (universal_kind e.key o)) a.reads))
          b.reads;
      shape = rw (x.key, universal_twice e.key, a.shape, b.shape);
      bytes = rw (x.key, universal_twice e.key, a.bytes, b.bytes);
      shortest = rw (x.shortest, x.key, universal_kind e.key o, a.shortest, b.shortest);
    }

-- a fine tree is read back
pub tree_back : {deeper left : ℕ} {t : Tree} → Fine deeper left t → (others k : List ℕ) (place : ℕ) → tag_table_ok others ≡ true → kind_of k ≡ Universal
    → TreeBack deeper others k left place t
tree_back (fine_end {deeper} {left}) others k place g h = back_end deeper others k left place h
tree_back (fine_leaf {deeper} {left} {e} {t} i o n r) others k place g h =
    back_leaf deeper others k left place e t g h i o n (tree_back r others k (suc place) g h)
tree_back (fine_nest {deeper} {left} {d} {e} {inner} {t} z o n a r) others k place g h =
    back_nest deeper d others k left place e inner t z g h o n (tree_back a others (as_universal e.key) 0 g (universal_kind e.key o))
    (tree_back r others k (suc place) g h)
