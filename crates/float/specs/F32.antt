-- binary32's operations and constants under short names. Each operation rounds once, as IEEE 754 says (`lib.Ieee`).
use Rattle.std.specs.Float.Ieee as Ieee
use Rattle.std.specs.Prelude.{Float}
use Rattle.std.specs.Float.{binary32}

infixl 30 ◌+f◌ ◌-f◌
infixl 40 ◌*f◌ ◌/f◌
abbrev pub ◌+f◌ : Float → Float → Float
a +f b = Ieee.add binary32 a b

abbrev pub ◌-f◌ : Float → Float → Float
a -f b = Ieee.sub binary32 a b

abbrev pub ◌*f◌ : Float → Float → Float
a *f b = Ieee.mul binary32 a b

abbrev pub ◌/f◌ : Float → Float → Float
a /f b = Ieee.div binary32 a b

abbrev pub zero : Float
zero = Ieee.of_bits binary32 0x0000_0000

abbrev pub one : Float
one = Ieee.of_bits binary32 0x3f80_0000

abbrev pub minus_one : Float
minus_one = Ieee.neg one
