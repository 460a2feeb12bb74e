-- A literal of the source, which MIR has by its bit pattern, is the decimal number rounded once: antt computes both sides. Assumes nothing.
use mathlib.Core.Path.{◌≡◌, refl}
use lib.Ieee.{binary32, round, of_bits}
use Rattle.navigation.specs.Navigation.{single}

pub ten : of_bits binary32 0x4120_0000 ≡ single 10 1
unfolding round of_bits
ten = refl

pub six_hundred_thousand : of_bits binary32 0x4912_7c00 ≡ single 600000 1
unfolding round of_bits
six_hundred_thousand = refl

pub turn_unit : of_bits binary32 0x4097_74bc ≡ single 4733 1000
unfolding round of_bits
turn_unit = refl

pub two_to_twelve : of_bits binary32 0x4580_0000 ≡ single 4096 1
unfolding round of_bits
two_to_twelve = refl
