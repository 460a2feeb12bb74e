-- The soundings hold: the definition, computed over the whole table, gives the table. Assumes nothing.
use mathlib.Core.Path.{◌≡◌, refl}
use mathlib.Core.List.{map}
use Rattle.refusal.specs.Words.{within}
use Rattle.scan.specs.Scan.{byte, before, up_to, hex_of, digit_of, digits, value, one_or_more, number, hex, xor_of, sum_to_star}
use Rattle.sentence.specs.Line.{tag_block, start_mark}
use Rattle.sentence.specs.Other.{is_plain, all_plain, is_ours, is_anothers, anothers_name, two_digits, ending, suffix, other, other_sentence}
use Rattle.sentence.specs.OtherSoundings.{run, soundings}

pub all_hold : map run soundings ≡ soundings
unfolding within byte before up_to hex_of digit_of digits value one_or_more number hex xor_of sum_to_star tag_block start_mark
    is_plain all_plain is_ours is_anothers anothers_name two_digits ending suffix other other_sentence
all_hold = refl
