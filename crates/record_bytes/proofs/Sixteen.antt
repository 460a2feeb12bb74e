-- The first sixteen bytes of a record, as the code puts them together. Assumes nothing.
use mathlib.Core.Path.{◌≡◌}
use mathlib.Core.Bool.{Bool}
use mathlib.Core.List.{List, [], ◌∷◌, ◌++◌}
use Prim.Native.Nat.{ℕ}
use Rattle.std.specs.Prelude.{Option, Some, None}
use Rattle.std.specs.Option.{is_some, unwrap_or}
use Rattle.std.specs.Int.{from_bool}
use Rattle.parsers.specs.Little.{little_bytes}
use Rattle.record_bytes.specs.Bytes.{head_by}

pub head-is : (number : Option ℕ) (fragment len : ℕ) {there : Bool} {m : ℕ} {bytes : List ℕ} → there ≡ is_some number → m ≡ unwrap_or number 0
    → bytes ≡ little_bytes 8 len
    → from_bool there ∷ m ∷ fragment ∷ 0 ∷ 0 ∷ 0 ∷ 0 ∷ 0 ∷ (bytes ++ []) ≡ head_by number fragment len
head-is None fragment len t m b = rw (t, m, b)
head-is (Some n) fragment len t m b = rw (t, m, b)
