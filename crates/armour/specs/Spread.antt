-- What the functions that spread a payload over bytes need and leave.
use Rattle.std.specs.Prelude.{ℕ, ◌+◌, ◌*◌, ◌/◌, ◌≤◌, ◌<◌, ◌≡◌, List, length, get_or, replicate}
use Rattle.parsers.specs.Bits.{val}
use Rattle.armour.specs.Armour.{first_bad}

-- a payload that passed the checks of unarmoring, with its fill
pub record Spreads (s : List ℕ) (fill : ℕ) : Type 0 where
  pub filled : fill ≤ 5
  pub few : length s ≤ 384
  pub armour : length s ≤ first_bad s

-- room for the six bits of each character of a payload, all zeros: four places for each three bytes that are made of it, the last ones perhaps in part
pub record Rooms (s : List ℕ) (need : ℕ) (room : List ℕ) : Type 0 where
  pub fits : length s ≤ length room
  pub fours : (need + 2) / 3 * 4 ≤ length room
  pub zeros : room ≡ replicate (length room) 0

-- bits in sixes: each number is that of its six bits
pub record Sixes (f : ℕ → ℕ) (s : List ℕ) : Type 0 where
  pub bit : (k : ℕ) → f k < 2
  pub six : (i : ℕ) → get_or s i 0 ≡ val f (i * 6) 6
