-- The output's length (01, "Reading and writing").
use Rattle.std.specs.Prelude.{ℕ, suc, ◌+◌, List, [], ◌∷◌, length}
use Rattle.std.proofs.Math.Option.{Option, none, some}
use Rattle.klv.specs.Layout.{written}
use Rattle.klv.specs.declared.layout.Form.{Form}
use Rattle.klv.specs.declared.layout.Form.TheVariants.{Ber}
use Rattle.groups.specs.Label.{write_label}
use Rattle.groups.specs.Read.{Item, Under}
use Rattle.claims.specs.Cause.{length_layout}

-- the bytes of the label of the item at place p, if it has one, and their width
abbrev pub label_of : Under → ℕ → Item → Option (List ℕ)
label_of u p x = write_label u.kind u.root u.tags u.packs p x.key

abbrev pub width_of : Option (List ℕ) → ℕ
width_of none = 0
width_of (some l) = length l

-- the width of the length before a value of n bytes, in the layout if there is one
abbrev pub length_width : Option Form → ℕ → ℕ
length_width none n = 0
length_width (some f) n = length (written f n)

-- the sum over items of label width, length width and value length, the first item at place p
unfoldable pub items_length : Under → ℕ → List Item → ℕ
items_length u p [] = 0
items_length u p (x ∷ xs) = width_of (label_of u p x) + length_width (length_layout u.kind) (length x.value) + length x.value + items_length u (suc p) xs

-- output length = 16 + width of outer length + that sum
unfoldable pub output_length : Under → List Item → ℕ
output_length u xs = 16 + length (written Ber (items_length u 0 xs)) + items_length u 0 xs
