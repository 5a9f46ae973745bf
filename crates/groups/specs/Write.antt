-- Writing (01, "Reading and writing"): the bytes of items as a group with a target key, or a refusal with its place.
use Rattle.std.specs.Prelude.{ℕ, suc, Bool, List, [], ◌∷◌, ◌++◌, ltb, length}
use Rattle.std.proofs.Math.Option.{Option, none, some}
use Rattle.klv.specs.Pick.{pick, both}
use Rattle.klv.specs.Layout.{written}
use Rattle.klv.specs.declared.layout.Form.TheVariants.{Ber}
use Rattle.groups.specs.declared.refusal.Refusal.{Refusal}
use Rattle.groups.specs.declared.refusal.Refusal.TheVariants.{NoLabel, NoSpan}
use Rattle.groups.specs.Refusal.{Answer, ok, refused, and_then}
use Rattle.groups.specs.Kind.{is_pack}
use Rattle.groups.specs.Label.{write_label}
use Rattle.groups.specs.Span.{write_span}
use Rattle.groups.specs.Read.{Item, Under, under}

-- a part that may be missing, with the refusal for it
abbrev pub or_refuse : Option (List ℕ) → Refusal → ℕ → Answer (List ℕ)
or_refuse (some l) r place = ok l
or_refuse none r place = refused r place

-- one item: 12, then 13
unfoldable pub write_item : Under → ℕ → Item → Answer (List ℕ)
write_item u place x =
    and_then (or_refuse (write_label u.kind u.root u.tags u.packs place x.key) NoLabel place)
    (λ (a : List ℕ). and_then (or_refuse (write_span u.kind u.packs place x.value) NoSpan place) (λ (b : List ℕ). ok (a ++ b)))

-- a pack with records over gives 12 at the item count
abbrev pub records_over : Under → ℕ → Bool
records_over u place = both (is_pack u.kind) (ltb place u.packs.count)

abbrev pub append : List ℕ → Answer (List ℕ) → Answer (List ℕ)
append a (ok b) = ok (a ++ b)
append a (refused r p) = refused r p

-- all items, the next at `place`
unfoldable pub write_items : Under → ℕ → List Item → Answer (List ℕ)
write_items u place [] = pick (records_over u place) (refused NoLabel place) (ok [])
write_items u place (x ∷ xs) = and_then (write_item u place x) (λ (a : List ℕ). append a (write_items u (suc place) xs))

-- key, outer length (always BER), items
abbrev pub group : List ℕ → List ℕ → List ℕ
group k body = k ++ (written Ber (length body) ++ body)

-- items written as the group with this key
unfoldable pub write : List ℕ → List ℕ → List ℕ → List Item → Answer (List ℕ)
write tags packs target xs = and_then (write_items (under target tags packs) 0 xs) (λ (body : List ℕ). ok (group target body))
