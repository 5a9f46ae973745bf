-- A group under reading (01, "Reading and writing"): the lent bytes together with the next item's offset.
use Rattle.std.specs.Prelude.{ℕ, ◌+◌, Result, Ok, Err}
use Rattle.groups.specs.declared.item.Item.{Item}
use Rattle.groups.specs.declared.reader.Next.{Next}
use Rattle.groups.specs.declared.refusal.Refusal.{Refusal}

-- where the next item begins: past the value
unfoldable pub next_offset : ℕ → Item → ℕ
next_offset at i = at + i.label + i.width + i.length

-- the same after an answer; where there is no item, the offset stays
unfoldable pub offset_after : ℕ → Result Item Refusal → ℕ
offset_after at (Ok i) = next_offset at i
offset_after at (Err r) = at

-- an item that begins at an offset, and the next item's offset
abbrev pub next_of : ℕ → Result Item Refusal → Result Next Refusal
next_of at (Ok i) = Ok (record { item = i; at = next_offset at i })
next_of at (Err r) = Err r
