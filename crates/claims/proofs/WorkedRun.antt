-- The worked chain is a run, and keeps what 01's job prints.
use mathlib.Core.Path.{◌≡◌, refl}
use mathlib.Core.List.{[]}
use mathlib.Core.Option.{none, some}
use Rattle.klv.specs.Compact.{four_bytes}
use Rattle.klv.specs.Number.{fewest, fixed_read}
use Rattle.klv.specs.Layout.{read_as, written, largest_of}
use Rattle.klv.specs.Key.{in_range, words, is_key, key_at, key_or_zeros}
use Rattle.klv.specs.Bytes.{all_zero, same, pasted}
use Rattle.klv.specs.Ber.{ber_read, ber_write}
use Rattle.groups.specs.Write.{write_item, write_items, write}
use Rattle.groups.specs.Tables.{row_at, table_of, all_below, first, size_ok, tag_row_ok, tag_table_ok, pack_table_ok, tag_index, key_index}
use Rattle.groups.specs.Span.{read_span, write_span}
use Rattle.groups.specs.Regroup.{regroup_of}
use Rattle.groups.specs.Read.{read_item, read_items, under, read_body}
use Rattle.groups.specs.Label.{read_label, write_label}
use Rattle.groups.specs.Kind.{kind_of_byte, kind_of, family_of}
use Rattle.claims.specs.Made.{kept, last_target, Ran}
use Rattle.claims.specs.Worked.{job_tags, local_key, job_group, job_output, job_calls}

pub job_ran : Ran job_tags [] job_group job_calls
unfolding Ran four_bytes in_range words is_key key_at key_or_zeros read_as written largest_of ber_read ber_write fewest fixed_read all_zero same pasted read_span write_span regroup_of kind_of_byte kind_of family_of read_label write_label read_item read_items under read_body row_at table_of all_below first size_ok tag_row_ok tag_table_ok pack_table_ok tag_index key_index write_item write_items write
job_ran = (record { answer = refl; says = refl; bytes = refl }, (record { answer = refl; says = refl; bytes = refl }, tt))

pub job_kept : (kept job_group job_calls ≡ job_output) × (last_target none job_calls ≡ some local_key)
unfolding kept last_target
job_kept = (refl, refl)
