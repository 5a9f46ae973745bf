-- The listing of one item: its key and numbers, and the items inside it.
use mathlib.Core.Path.{◌≡◌, refl, sym, ap, ◌∙◌}
use mathlib.Core.Bool.{Bool, true, false, false≢true}
use mathlib.Core.List.{List, [], ◌∷◌, ◌++◌, append-nil}
use Prim.Native.Nat.{ℕ, zero, suc, ◌+◌, ◌-◌, ◌*◌, ◌<◌, ◌≤◌}
use native.Mathlib.Omega.{arith}
use lib.ListN.{length, take, drop, set, length-append, length-set}
use lib.Seq.{drop-drop}
use Rattle.klv.specs.Bytes.{pasted}
use Rattle.klv.proofs.Paste.{pasted_is, pasted_pasted, length_pasted, set_is_pasted, set_after}
use Rattle.groups.specs.declared.kind.Kind.{Kind}
use Rattle.groups.specs.Kind.{kind_of}
use Rattle.groups.specs.Tables.{table_of}
use Rattle.groups.specs.Read.{Under, under, size}
use Rattle.deep.specs.declared.fault.Fault.TheVariants.{Plain, TooDeep, Unread}
use Rattle.deep.specs.Tree.{Answer, ok, refused, opens, Tree, end, leaf, nest, Inside, closed, opened, too_deep, unread, tree_of, nested, inside_of}
use Rattle.deep.specs.Deep.{count_of, tree_keys, tree_numbers}
use Rattle.deep.specs.Walk.{set_tree, reads, count_in, keys_in_tree, numbers_in, inside_reads, inside_count, inside_keys, inside_numbers, ListedAt, Room}
use Rattle.deep.proofs.SetItems.{set_key_law, under_kind, under_tags}
use Rattle.deep.proofs.TreeLaws.{tree_none, tree_told, inside_none, inside_opened, closed_inside}
use Rattle.deep.proofs.StepLaws.{inside_set, inside_deep, nested_reads}

-- ---- how long a listing is

items_keys : (look : List ℕ → List ℕ → Inside) (u : Under) (tags : List ℕ) (left place : ℕ) (l : List ℕ) (t : Tree)
    → ((k v : List ℕ) (inner : Tree) → look k v ≡ opened inner → length (tree_keys inner) ≡ 16 * count_of inner)
    → opens u.kind ≡ true → u.tags ≡ table_of tags → tree_of look u left place l ≡ ok t → length (tree_keys t) ≡ 16 * count_of t
unfolding count_of tree_keys
items_keys look u tags zero place l t f o g q = rw (tree_none look u place l t q) (omega arith)
items_keys look u tags (suc left) place l t f o g q =
    tree_told look u left place l t q
    (λ b z. rw z (omega arith))
    (λ e s r c a z. rw z
    (omega (
      arith,
      length-append e.key (tree_keys s),
      set_key_law u tags place l e o g r,
      items_keys look u tags left (suc place) (drop (size e) l) s f o g a,
    )))
    (λ e inner s r c a z. rw z
    (omega (
      arith,
      length-append e.key (tree_keys inner ++ tree_keys s),
      length-append (tree_keys inner) (tree_keys s),
      set_key_law u tags place l e o g r,
      f e.key e.value inner c,
      items_keys look u tags left (suc place) (drop (size e) l) s f o g a,
    )))

-- sixteen bytes of keys for each item
pub tree_keys_law : (deeper : ℕ) (tags : List ℕ) (u : Under) (left place : ℕ) (l : List ℕ) (t : Tree) → opens u.kind ≡ true → u.tags ≡ table_of tags
    → tree_of (inside_of deeper tags) u left place l ≡ ok t → length (tree_keys t) ≡ 16 * count_of t
tree_keys_law zero tags u left place l t o g q =
    items_keys (inside_of zero tags) u tags left place l t (λ k v inner e. inside_none tags k v inner e) o g q
tree_keys_law (suc deeper) tags u left place l t o g q =
    items_keys (inside_of (suc deeper) tags) u tags left place l t
    (λ k v inner e.
    let p = inside_opened deeper tags k v inner e in
    tree_keys_law deeper tags (under k tags []) 256 0 v inner (rw (under_kind k tags []) p.0) (under_tags k tags []) p.1)
    o g q

-- three numbers for each item
pub tree_numbers_law : (at depth : ℕ) (t : Tree) → length (tree_numbers at depth t) ≡ 3 * count_of t
unfolding count_of tree_numbers
tree_numbers_law at depth end = refl
tree_numbers_law at depth (leaf e t) = omega (arith, tree_numbers_law (at + size e) depth t)
tree_numbers_law at depth (nest e inner t) =
    omega (
      arith,
      length-append (tree_numbers (at + e.label + e.width) (suc depth) inner) (tree_numbers (at + size e) depth t),
      tree_numbers_law (at + e.label + e.width) (suc depth) inner,
      tree_numbers_law (at + size e) depth t,
    )

inside_keys_by : (deeper : ℕ) (tags k v : List ℕ) (i : Inside) → inside_of deeper tags k v ≡ i → length (inside_keys i) ≡ 16 * inside_count i
inside_keys_by deeper tags k v closed e = refl
inside_keys_by zero tags k v (opened t) e = inside_none tags k v t e
inside_keys_by (suc deeper) tags k v (opened t) e =
    let p = inside_opened deeper tags k v t e in
    tree_keys_law deeper tags (under k tags []) 256 0 v t (rw (under_kind k tags []) p.0) (under_tags k tags []) p.1
inside_keys_by deeper tags k v too_deep e = refl
inside_keys_by deeper tags k v unread e = refl

pub inside_keys_law : (deeper : ℕ) (tags k v : List ℕ) → length (inside_keys (inside_of deeper tags k v)) ≡ 16 * inside_count (inside_of deeper tags k v)
inside_keys_law deeper tags k v = inside_keys_by deeper tags k v (inside_of deeper tags k v) refl

pub inside_numbers_law : (at depth : ℕ) (i : Inside) → length (inside_numbers at depth i) ≡ 3 * inside_count i
inside_numbers_law at depth closed = refl
inside_numbers_law at depth (opened t) = tree_numbers_law at depth t
inside_numbers_law at depth too_deep = refl
inside_numbers_law at depth unread = refl

-- ---- what was listed, one after another

-- a listing leaves the slices as long as they were
pub listed_keys_size : (count n : ℕ) (ks ns d x e y : List ℕ) (next : ℕ) → ListedAt count n ks ns d x e y next → Room count n d e → length ks ≡ 16 * count → length x ≡ length d
listed_keys_size count n ks ns d x e y next h r l = rw h.key_bytes (length_pasted d (16 * n) ks (omega (arith, r.keys)))

pub listed_numbers_size : (count n : ℕ) (ks ns d x e y : List ℕ) (next : ℕ) → ListedAt count n ks ns d x e y next → Room count n d e → length ns ≡ 3 * count → length y ≡ length e
listed_numbers_size count n ks ns d x e y next h r l = rw h.triples (length_pasted e (3 * n) ns (omega (arith, r.numbers)))

pub pasted_next : (d x y us vs : List ℕ) (at from : ℕ) → x ≡ pasted d at us → y ≡ pasted x from vs → from ≡ at + length us → at + length us ≤ length d → y ≡ pasted d at (us ++ vs)
pasted_next d x y us vs at from e f g h = f ∙ rw (e, g) (pasted_pasted d at us vs h)

-- ---- a key and three numbers

pub second_number : (n o : ℕ) (d e : List ℕ) → Room 1 n d e → 3 * n + 1 < length (set e (3 * n) o)
second_number n o d e h = rw (length-set e (3 * n) o) (omega (arith, h.numbers))

pub third_number : (n o s : ℕ) (d e : List ℕ) → Room 1 n d e → 3 * n + 2 < length (set (set e (3 * n) o) (3 * n + 1) s)
third_number n o s d e h = rw (length-set (set e (3 * n) o) (3 * n + 1) s, length-set e (3 * n) o) (omega (arith, h.numbers))

three_stored : (d : List ℕ) (at a b c : ℕ) → at + 3 ≤ length d → set (set (set d at a) (at + 1) b) (at + 2) c ≡ pasted d at (a ∷ b ∷ c ∷ [])
three_stored d at a b c h =
    let p : set d at a ≡ pasted d at (a ∷ []) = set_is_pasted d at a (omega arith) in
    let q : set (pasted d at (a ∷ [])) (at + 1) b ≡ pasted d at (a ∷ b ∷ []) = set_after d at (a ∷ []) b (omega arith) in
    rw (p, q) (set_after d at (a ∷ b ∷ []) c (omega arith))

key_put : (d x y key : List ℕ) (at : ℕ) → y ≡ key → x ≡ take at d ++ (y ++ drop (at + 16 - at) (drop at d)) → length key ≡ 16 → x ≡ pasted d at key
key_put d x y key at e f l =
    let p : at + 16 - at ≡ 16 = omega arith in
    let w : at + 16 ≡ at + length key = omega arith in
    f ∙ rw (p, e, drop-drop 16 at d, w) (sym (pasted_is d at key))

pub record_listed : (n o s p : ℕ) (key d x y e : List ℕ)
    → y ≡ key → x ≡ take (16 * n) d ++ (y ++ drop (16 * n + 16 - 16 * n) (drop (16 * n) d)) → Room 1 n d e → length key ≡ 16
    → ListedAt 1 n key (o ∷ s ∷ p ∷ []) d x e (set (set (set e (3 * n) o) (3 * n + 1) s) (3 * n + 2) p) (n + 1)
record_listed n o s p key d x y e f g r l =
    record {
      end = refl;
      key_bytes = key_put d x y key (16 * n) f g l;
      triples = three_stored e (3 * n) o s p (omega (arith, r.numbers));
    }

-- ---- what stands inside an item

nested_count : (a : Answer Tree) → inside_count (nested a) ≡ count_in a
nested_count (ok t) = refl
nested_count (refused TooDeep p) = refl
nested_count (refused Unread p) = refl
nested_count (refused (Plain r) p) = refl

nested_keys : (a : Answer Tree) → inside_keys (nested a) ≡ keys_in_tree a
nested_keys (ok t) = refl
nested_keys (refused TooDeep p) = refl
nested_keys (refused Unread p) = refl
nested_keys (refused (Plain r) p) = refl

nested_numbers : (at depth : ℕ) (a : Answer Tree) → inside_numbers at depth (nested a) ≡ numbers_in at depth a
nested_numbers at depth (ok t) = refl
nested_numbers at depth (refused TooDeep p) = refl
nested_numbers at depth (refused Unread p) = refl
nested_numbers at depth (refused (Plain r) p) = refl

pub item_room : (count n : ℕ) (d e : List ℕ) → Room (1 + count) n d e → Room 1 n d e
item_room count n d e h = record { keys = omega (arith, h.keys); numbers = omega (arith, h.numbers) }

pub opened_as : (deeper : ℕ) (tags key value : List ℕ) (kind : Kind) (b : Bool) → kind ≡ kind_of key → b ≡ opens (kind_of key) → b ≡ true → (deeper ≡ 0 → ⊥)
    → inside_of deeper tags key value ≡ nested (set_tree (deeper - 1) tags kind value)
opened_as deeper tags key value kind b e f g h =
    rw e (inside_set deeper tags key value (sym f ∙ g) h)

pub opened_reads : (deeper : ℕ) (tags key value : List ℕ) (kind : Kind) (b : Bool) → inside_reads (inside_of deeper tags key value) ≡ true → kind ≡ kind_of key → b ≡ opens (kind_of key) → b ≡ true
    → (deeper ≡ 0 → ⊥) → reads (set_tree (deeper - 1) tags kind value) ≡ true
opened_reads deeper tags key value kind b r e f g h =
    nested_reads (set_tree (deeper - 1) tags kind value) (sym (ap inside_reads (opened_as deeper tags key value kind b e f g h)) ∙ r)

pub opened_room : (deeper n o s p next : ℕ) (tags key value d x e y : List ℕ) (kind : Kind) (b : Bool) → Room (1 + inside_count (inside_of deeper tags key value)) n d e
    → ListedAt 1 n key (o ∷ s ∷ p ∷ []) d x e y next → kind ≡ kind_of key → b ≡ opens (kind_of key) → b ≡ true → (deeper ≡ 0 → ⊥) → length key ≡ 16
    → Room (count_in (set_tree (deeper - 1) tags kind value)) next x y
opened_room deeper n o s p next tags key value d x e y kind b r l q f g h z =
    let c : inside_count (inside_of deeper tags key value) ≡ count_in (set_tree (deeper - 1) tags kind value) =
    ap inside_count (opened_as deeper tags key value kind b q f g h) ∙ nested_count (set_tree (deeper - 1) tags kind value) in
    let one : Room 1 n d e = item_room (inside_count (inside_of deeper tags key value)) n d e r in
    record {
      keys = omega (arith, r.keys, l.end, listed_keys_size 1 n key (o ∷ s ∷ p ∷ []) d x e y next l one (omega arith));
      numbers = omega (arith, r.numbers, l.end, listed_numbers_size 1 n key (o ∷ s ∷ p ∷ []) d x e y next l one (omega arith));
    }

-- ---- an item

-- one that is too deep does not read
pub too_deep_law : {P : Type 0} (deeper : ℕ) (tags key value : List ℕ) (b : Bool) → inside_reads (inside_of deeper tags key value) ≡ true → b ≡ opens (kind_of key) → b ≡ true
    → deeper ≡ 0 → P
too_deep_law deeper tags key value b r f g h =
    let o : opens (kind_of key) ≡ true = sym f ∙ g in
    absurd (false≢true (sym (ap inside_reads (inside_deep deeper tags key value o h)) ∙ r))

-- one that is not opened
pub closed_listed : (deeper n o s p next : ℕ) (tags key value d x e y : List ℕ) (b : Bool) → ListedAt 1 n key (o ∷ s ∷ p ∷ []) d x e y next → b ≡ opens (kind_of key)
    → b ≡ false
    → ListedAt (1 + inside_count (inside_of deeper tags key value)) n (key ++ inside_keys (inside_of deeper tags key value)) (o ∷ s ∷ p ∷ inside_numbers o (5 - deeper) (inside_of deeper tags key value)) d x e y next
closed_listed deeper n o s p next tags key value d x e y b l f g =
    let c : inside_of deeper tags key value ≡ closed = closed_inside deeper tags key value (sym f ∙ g) in
    let a : key ++ [] ≡ key = append-nil key in
    rw (c, a) (record { end = l.end; key_bytes = l.key_bytes; triples = l.triples })

-- a nested set, after its items were listed
pub opened_listed : (deeper n o s p next r : ℕ) (tags key value d x z e y w : List ℕ) (kind : Kind) (b : Bool) → ListedAt 1 n key (o ∷ s ∷ p ∷ []) d x e y next
    → ListedAt (count_in (set_tree (deeper - 1) tags kind value)) next (keys_in_tree (set_tree (deeper - 1) tags kind value)) (numbers_in o (4 - (deeper - 1)) (set_tree (deeper - 1) tags kind value)) x z y w r
    → Room (1 + inside_count (inside_of deeper tags key value)) n d e
    → kind ≡ kind_of key → b ≡ opens (kind_of key) → b ≡ true → (deeper ≡ 0 → ⊥) → length key ≡ 16 → deeper ≤ 3
    → ListedAt (1 + inside_count (inside_of deeper tags key value)) n (key ++ inside_keys (inside_of deeper tags key value)) (o ∷ s ∷ p ∷ inside_numbers o (5 - deeper) (inside_of deeper tags key value)) d z e w r
opened_listed deeper n o s p next r tags key value d x z e y w kind b l m room q f g h k u =
    let a : Answer Tree = set_tree (deeper - 1) tags kind value in
    let i : inside_of deeper tags key value ≡ nested (set_tree (deeper - 1) tags kind value) = opened_as deeper tags key value kind b q f g h in
    let c : inside_count (inside_of deeper tags key value) ≡ count_in (set_tree (deeper - 1) tags kind value) = ap inside_count i ∙ nested_count (set_tree (deeper - 1) tags kind value) in
    let ks : inside_keys (inside_of deeper tags key value) ≡ keys_in_tree (set_tree (deeper - 1) tags kind value) = ap inside_keys i ∙ nested_keys (set_tree (deeper - 1) tags kind value) in
    let dd : 4 - (deeper - 1) ≡ 5 - deeper = omega (arith, h) in
    let ns : inside_numbers o (5 - deeper) (inside_of deeper tags key value) ≡ numbers_in o (4 - (deeper - 1)) (set_tree (deeper - 1) tags kind value) =
    ap (inside_numbers o (5 - deeper)) i ∙ nested_numbers o (5 - deeper) (set_tree (deeper - 1) tags kind value) ∙ ap (λ (v : ℕ). numbers_in o v (set_tree (deeper - 1) tags kind value)) (sym dd) in
    record {
      end = omega (arith, l.end, m.end);
      key_bytes = rw ks (pasted_next d x z key (keys_in_tree (set_tree (deeper - 1) tags kind value)) (16 * n) (16 * next) l.key_bytes m.key_bytes (omega (arith, l.end)) (omega (arith, room.keys)));
      triples = rw ns (pasted_next e y w (o ∷ s ∷ p ∷ []) (numbers_in o (4 - (deeper - 1)) (set_tree (deeper - 1) tags kind value)) (3 * n) (3 * next) l.triples m.triples (omega (arith, l.end)) (omega (arith, room.numbers)));
    }
