-- The † edges of 01 and those of 02's points 5 and 7 hold, all of them, by one computation over the one table.
use mathlib.Core.Path.{◌≡◌, refl}
use mathlib.Core.Bool.{true}
use Rattle.klv.specs.Bytes.{same, all_zero}
use Rattle.klv.specs.Number.{fewest, fixed_read}
use Rattle.klv.specs.Compact.{four_bytes}
use Rattle.klv.specs.Ber.{ber_read, ber_write, longer, ber_length}
use Rattle.klv.specs.Word.{word_from, word_read, word_write}
use Rattle.klv.specs.Layout.{read_as, written, largest_of}
use Rattle.klv.specs.Key.{is_key, in_range, words, before_zero, label_length, key_at, key_or_zeros}
use Rattle.klv.specs.Edge.{agree}
use Rattle.klv.specs.Edges.{edges}
use Rattle.groups.specs.Refusal.{number_of}
use Rattle.groups.specs.Kind.{kind_of, kind_of_byte, global_ok, family_of}
use Rattle.groups.specs.Root.{root_of, join, global_label, global_tag}
use Rattle.groups.specs.Tables.{row_at, table_of, all_below, size_ok, tag_table_ok, pack_row_ok, pack_table_ok}
use Rattle.groups.specs.Label.{read_label, write_label}
use Rattle.groups.specs.Span.{triplet_span, element_span, element_ok, read_span, write_span}
use Rattle.groups.specs.Read.{read_item, read_items, under, read_body}
use Rattle.groups.specs.Write.{write_item, write_items, write}
use Rattle.groups.specs.Regroup.{regroup_of}
use Rattle.claims.specs.ElementEdges.{element_edges}
use Rattle.claims.specs.GroupEdges.{group_edges, all_edges}

pub edges_agree : agree all_edges ≡ true
unfolding agree edges group_edges element_edges all_edges same all_zero fewest fixed_read four_bytes ber_read ber_write longer ber_length word_from word_read word_write read_as written largest_of is_key in_range words before_zero label_length key_at key_or_zeros kind_of kind_of_byte global_ok family_of root_of join global_label global_tag row_at table_of all_below size_ok tag_table_ok pack_row_ok pack_table_ok read_label write_label triplet_span element_span element_ok read_span write_span read_item read_items under read_body write_item write_items write regroup_of number_of
edges_agree = refl
