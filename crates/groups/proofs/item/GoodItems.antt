-- Item lists whose keys are all keys, and how long an item list is.
use mathlib.Core.Path.{◌≡◌, refl, ap}
use mathlib.Core.Bool.{true}
use mathlib.Core.List.{List, [], ◌∷◌}
use Prim.Native.Nat.{suc}
use lib.ListN.{length}
use Rattle.klv.specs.Key.{is_key}
use Rattle.groups.specs.Read.{Item, Entry, items}

-- each item's key is a key
abbrev pub AllKeys : List Item → Type 0
AllKeys [] = Unit
AllKeys (x ∷ xs) = (is_key x.key ≡ true) × AllKeys xs

-- there are as many items as entries
pub items_length_law : (es : List Entry) → length (items es) ≡ length es
items_length_law [] = refl
items_length_law (e ∷ es) = ap suc (items_length_law es)
