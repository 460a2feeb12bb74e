-- What can be promised of a call that reads on or fails: of what is read, where a reader's bytes are known.
use Rattle.std.specs.Prelude.{ℕ, ◌≤◌, ◌<◌, ◌≡◌, List, ◌++◌, length, take, Option, Result, Ok, Err, ⊤}
use Rattle.std.specs.Io.KnownBytes.{Keeps, Consumes, IsAtEnd}
use Rattle.text_out.specs.Text.{ascii}
use Rattle.text_out.specs.Digits.{decimal_of}
use Rattle.stream.specs.declared.Failure.{Failure}
use Rattle.stream.specs.declared.Input.{Input}

-- what a read brings: bytes of the block, or none
abbrev pub Brings : {E : Type 0} → Result ℕ E → List ℕ → Type 0
Brings (Ok n) block = n ≤ length block
Brings (Err e) block = ⊤

-- what a read takes of a reader's bytes: those that stand first in the block; none at the end, or where it failed
abbrev pub Takes : {E : Type 0} → Result ℕ E → Option (List ℕ) → Option (List ℕ) → List ℕ → Type 0
Takes (Ok n) old new block = Consumes old new (take n block) × (n ≡ 0 → 0 < length block → IsAtEnd new)
Takes (Err e) old new block = Keeps old new

-- what holds of the output after reading on, but where it could not be written
abbrev pub Told : Result ℕ Failure → Type 0 → Type 0
Told (Ok n) P = P
Told (Err (Failure.Unread e)) P = P
Told (Err (Failure.Unwritten e)) P = ⊤

-- how many bytes a block has after reading on: as many as were read, and none where that failed
abbrev pub Some : Result ℕ Failure → ℕ → Type 0
Some (Ok n) filled = filled ≡ n
Some (Err e) filled = filled ≡ 0

-- reading on: what is held is kept, reading goes on at the block's start, and what was filled lies in the block
pub record Fills (before after : Input) (came : Result ℕ Failure) (block : List ℕ) : Type 0 where
  pub held_kept : after.held ≡ before.held
  pub is_at_start : after.from ≡ 0
  pub is_in_block : after.filled ≤ length block
  pub some : Some came after.filled

-- what is said of a call that failed, before the system's reason
unfoldable pub failure_text : List ℕ → ℕ → List ℕ → List ℕ → List ℕ
failure_text program number doing name = program ++ ascii ": after input line " ++ decimal_of number ++ ascii ", " ++ doing ++ ascii " " ++ name
