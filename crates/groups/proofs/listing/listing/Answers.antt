use Rattle.std.proofs.Common.{rules, arith}
use Rattle.groups.specs.Listing.{listing_of}
use Rattle.groups.proofs.listing.ListingFacts.{arrays_roomy, count_most, items_listed, short_keys, short_numbers}
use Rattle.groups.proofs.listing.listing.Goals as goal

pub read_group-requires : goal.read_group-requires
read_group-requires c = arrays_roomy

pub overflow_mul-key_bytes : goal.overflow_mul-key_bytes
overflow_mul-key_bytes c = omega (arith, count_most _ _ _ c.in_ok-n.ensures)

pub overflow_mul-record_numbers : goal.overflow_mul-record_numbers
overflow_mul-record_numbers c = omega (arith, count_most _ _ _ c.in_ok-n.ensures)

pub returns-then-keys-key_bytes : goal.returns-then-keys-key_bytes
returns-then-keys-key_bytes c = search (rules, short_keys _ _ _ c.in_ok-n.ensures)

pub returns-then-numbers-record_numbers : goal.returns-then-numbers-record_numbers
returns-then-numbers-record_numbers c = search (rules, short_numbers _ _ _ c.in_ok-n.ensures)

pub put_records-requires : goal.put_records-requires
put_records-requires c = search (rules, count_most _ _ _ c.in_ok-n.ensures)

pub longer_items-requires : goal.longer_items-requires
longer_items-requires c = search (rules, count_most _ _ _ c.in_ok-n.ensures)

pub returns : goal.returns
returns c = search (rules, items_listed _ _ _ c.in_ok-n.ensures)

pub returns-in_err-n : goal.returns-in_err-n
unfolding listing_of
returns-in_err-n c = search rules
