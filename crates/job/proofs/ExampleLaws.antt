-- 01's example of a job prints 01's text: computed. It alone looks into the definitions of the crates below.
use mathlib.Core.Path.{◌≡◌, refl}
use Rattle.klv.specs.Compact.{four_bytes}
use Rattle.klv.specs.Bytes.{same, all_zero}
use Rattle.klv.specs.Number.{fewest, fixed_read}
use Rattle.klv.specs.Ber.{ber_read, ber_write}
use Rattle.klv.specs.Layout.{read_as, written, largest_of}
use Rattle.klv.specs.Key.{is_key, in_range, words, key_at, key_or_zeros}
use Rattle.groups.specs.Kind.{kind_of, kind_of_byte, family_of}
use Rattle.groups.specs.Tables.{row_at, table_of, all_below, first, size_ok, tag_row_ok, tag_table_ok, pack_row_ok, pack_table_ok, tag_index, key_index}
use Rattle.groups.specs.Label.{read_label, write_label}
use Rattle.groups.specs.Span.{read_span, write_span}
use Rattle.groups.specs.Read.{read_item, read_items, under, read_body, read}
use Rattle.groups.specs.Write.{write_item, write_items, write}
use Rattle.groups.specs.Regroup.{regroup_of}
use Rattle.groups.specs.Listing.{start}
use Rattle.job.specs.Text.{decimal, hex, item_lines, ok_text}
use Rattle.job.specs.Job.{number_at, follows, parts_follow, job_ok, output_text, regroup_text, text_of}
use Rattle.job.specs.Example.{example_job, example_text}

pub example_prints : text_of example_job ≡ example_text
unfolding four_bytes example_job example_text text_of number_at follows parts_follow job_ok output_text regroup_text decimal hex item_lines ok_text start regroup_of write_item write_items write read_item read_items under read_body read read_span write_span read_label write_label row_at table_of all_below first size_ok tag_row_ok tag_table_ok pack_row_ok pack_table_ok tag_index key_index kind_of kind_of_byte family_of is_key in_range words key_at key_or_zeros read_as written largest_of ber_read ber_write fewest fixed_read same all_zero
example_prints = refl
