-- The ways out of the exported calls. Assumes nothing.
use mathlib.Core.Path.{◌≡◌, refl}
use mathlib.Core.List.{List}
use Prim.Native.Nat.{ℕ, ◌≤◌, ◌<◌}
use borrow.Author.Tests.{lt-ltb, le-ltb}
use lib.ListN.{length, set}
use lib.Seq.{set_split}
use Rattle.std.specs.Prelude.{Result, Ok, Err}
use Rattle.refusal.specs.Words.{Told, number_in, left}
use Rattle.refusal.specs.declared.Refusal.{Refusal}
use Rattle.armour.specs.Unarmor.{unarmored_in}
use Rattle.writer.specs.Writer.{written_in}
use Rattle.reassembly.specs.Record.{fresh_record}
use Rattle.reassembly.specs.declared.Record.{Record}
use Rattle.record_bytes.specs.Bytes.{stored_of}
use Rattle.layout_answer.specs.Sentence.{count_of}
use Rattle.sumturnip.specs.Calls.{freshened_in, freshened_of, fills_in, fills_by}

pub fresh-short : (state : List ℕ) → length state < 400 → freshened_in 12 state ≡ freshened_of state
fresh-short state h = rw (lt-ltb (length state) 400 h)

pub fresh_made : (state : List ℕ) {after : List ℕ} {r : Record} → 400 ≤ length state → r ≡ fresh_record → after ≡ stored_of r state
    → freshened_in 0 after ≡ freshened_of state
fresh_made state h e f = rw (f, e, le-ltb (length state) 400 h)

-- unarmoring and the writer both answer with a count, and are told alike
pub counted-alike : (r : Result ℕ Refusal) → unarmored_in r ≡ written_in r
counted-alike (Ok n) = refl
counted-alike (Err refusal) = refl

module _ (t : Told ℕ) (s out numbers : List ℕ) where
  pub count-short : length numbers < 1 → fills_in 12 out numbers ≡ fills_by t s out numbers
  unfolding fills_by
  count-short h = rw (lt-ltb (length numbers) 1 h)

  pub fills_flattened : 1 ≤ length numbers → {u : Told ℕ} → u ≡ t → {out' : List ℕ} → out' ≡ left t s out
      → {code : ℕ} → code ≡ number_in u
      → {count : ℕ} → count ≡ count_of u
      → fills_in code out' (set numbers 0 count) ≡ fills_by t s out numbers
  unfolding fills_by
  fills_flattened h a l c n = rw (le-ltb (length numbers) 1 h, c, n, a, l, set_split numbers 0 (count_of t) h)
