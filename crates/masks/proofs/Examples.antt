-- The definitions compute at numbers of a word's size.
use mathlib.Core.Path.{◌≡◌, refl}
use mathlib.Core.Bool.{false}
use lib.Bits.{bit_and}
use Rattle.masks.specs.Masks.{permits, pcpu_bit, full_mask, clipped, first, lowest}

far-bit : pcpu_bit 0xffff_ffff ≡ 0
far-bit = refl

far : permits 0xffff_ffff_ffff_ffff 0xffff_ffff ≡ false
far = refl

past_the_word : permits 0xffff_ffff_ffff_ffff 64 ≡ false
past_the_word = refl

stored : clipped 0xffff_ffff_ffff_ffff 2 ≡ 3
stored = refl

all : full_mask 65 ≡ 0xffff_ffff_ffff_ffff
all = refl

empty : lowest 0 ≡ 64
unfolding first
empty = refl

common : lowest (bit_and 0xffff_0000_0000_0000 0xaaaa_aaaa_aaaa_aaaa) ≡ 49
unfolding first
common = refl
