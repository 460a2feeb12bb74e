-- What is given back between two lines, from what the calls of `stream` give. Assumes nothing.
use Rattle.std.proofs.Common.{ℕ, ◌≡◌, refl, Bool, true, false, List, Ok, Err, arith}
use lib.Dec.{leb}
use Rattle.stream.specs.declared.Failure.{Failure}
use Rattle.inputs.specs.declared.Source.{Source}
use Rattle.inputs.specs.declared.Way.{Way}
use Rattle.std.specs.Prelude.{Result}
use Rattle.inputs.specs.Goes.{Brought, Reads, ReadsOn, Empties}

module _ (source : Source) (used : ℕ) (s : Source) (came : Result ℕ Failure) (block : List ℕ) (reads : ReadsOn source s came block) where
  read_by : (way : Way) (n : ℕ) → Brought way s.input.filled used n → Reads source used (record { source = s; used = n; way = way }) block
  read_by way n b = record {
    held_kept = reads.fills.held_kept;
    is_at_start = reads.fills.is_at_start;
    is_in_block = reads.fills.is_in_block;
    same_from = reads.same_from;
    same_place = reads.same_place;
    came = b;
  }

  pub read_more : (n : ℕ) → came ≡ Ok n → (n ≡ 0 → ⊥) → Reads source used (record { source = s; used = 0; way = Way.On }) block
  read_more n e more = let filled = rw e at reads.fills.some in read_by Way.On 0 (omega (arith, filled, more), refl)

  pub read-end : came ≡ Ok 0 → Reads source used (record { source = s; used = 0; way = Way.Last }) block
  read-end e = read_by Way.Last 0 (rw e at reads.fills.some, refl)

  pub not-read : {e : _} → came ≡ Err (Failure.Unread e) → Reads source used (record { source = s; used = 0; way = Way.Stopped }) block
  not-read e = read_by Way.Stopped 0 (rw e at reads.fills.some, refl)

  pub not_written : {e : _} → came ≡ Err (Failure.Unwritten e) → Reads source used (record { source = s; used = used; way = Way.Failed }) block
  not_written e = read_by Way.Failed used (rw e at reads.fills.some, refl)

module _ (source : Source) (used : ℕ) {full : Bool} (is : full ≡ leb 49152 used) where
  pub is-written : full ≡ true → Empties source used (record { source = source; used = 0; way = Way.On })
  is-written e = record { same_source = refl; in_use = simp (← is, e) }

  pub is-not-written : full ≡ true → Empties source used (record { source = source; used = used; way = Way.Failed })
  is-not-written e = record { same_source = refl; in_use = (refl, simp (← is, e)) }

  pub is-kept : full ≡ false → Empties source used (record { source = source; used = used; way = Way.On })
  is-kept e = record { same_source = refl; in_use = simp (← is, e) }
