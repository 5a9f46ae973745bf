-- The largest number of each layout, for callers.
use mathlib.Core.Path.{◌≡◌, refl}
use Rattle.klv.specs.Layout.{largest_of}
use Rattle.klv.specs.declared.layout.Form.TheVariants.{Ber, Word, One, Two, Four}

-- a BER length of eight bytes
pub largest_ber : largest_of Ber ≡ 0xFFFF_FFFF_FFFF_FFFF
unfolding largest_of
largest_ber = refl

-- a word of four bytes
pub largest_word : largest_of Word ≡ 0x0FFF_FFFF
unfolding largest_of
largest_word = refl

-- one byte
pub largest_one : largest_of One ≡ 0xFF
unfolding largest_of
largest_one = refl

-- two bytes
pub largest_two : largest_of Two ≡ 0xFFFF
unfolding largest_of
largest_two = refl

-- four bytes
pub largest_four : largest_of Four ≡ 0xFFFF_FFFF
unfolding largest_of
largest_four = refl
