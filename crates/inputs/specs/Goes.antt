-- What can be promised of what is done between two lines: of what is read and written no promise can speak.
use Rattle.std.specs.Prelude.{ℕ, ◌<◌, ◌≤◌, ◌≡◌, Bool, true, false, List, Option, Result, leb, length, ⊤}
use Rattle.refusal.specs.Words.{pick}
use Rattle.stream.specs.declared.Input.{Input}
use Rattle.stream.specs.declared.Next.{Next}
use Rattle.stream.specs.declared.Failure.{Failure}
use Rattle.stream.specs.Next.{at_start}
use Rattle.stream.specs.Moves.{Fills}
use Rattle.inputs.specs.declared.Origin.{Origin}
use Rattle.inputs.specs.declared.Source.{Source}
use Rattle.inputs.specs.declared.Way.{Way}
use Rattle.inputs.specs.declared.Status.{Status}
use Rattle.inputs.specs.declared.Gone.{Gone}

abbrev pub source_of : Input → Origin → Option ℕ → Source
source_of input from place = record { input = input; from = from; place = place }

abbrev pub is_on : Way → Bool
is_on Way.On = true
is_on Way.Last = true
is_on Way.Ended = false
is_on Way.Stopped = false
is_on Way.Failed = false

-- at the end of an input, of which what is held is the last line
abbrev pub is_last : Way → Bool
is_last Way.On = false
is_last Way.Last = true
is_last Way.Ended = false
is_last Way.Stopped = false
is_last Way.Failed = false

-- at an input's start; nothing of the output is written
pub record Opens (used : ℕ) (r : Gone) : Type 0 where
  pub is_at_start : r.source.input ≡ at_start
  pub used_kept : r.used ≡ used

-- how much of the output buffer is in use after a line: nothing where it was nearly full and is written, all where that failed
abbrev pub LeftInUse : Way → ℕ → ℕ → Type 0
LeftInUse Way.On used n = n ≡ pick (leb 49152 used) 0 used
LeftInUse Way.Last used n = ⊥
LeftInUse Way.Ended used n = ⊥
LeftInUse Way.Stopped used n = ⊥
LeftInUse Way.Failed used n = (n ≡ used) × (leb 49152 used ≡ true)

-- after a line: the source stays
pub record Empties (source : Source) (used : ℕ) (r : Gone) : Type 0 where
  pub same_source : r.source ≡ source
  pub in_use : LeftInUse r.way used r.used

-- what a read brought: some bytes, or none at the end of the input or where it failed; what was told is written but where that failed
abbrev pub Brought : Way → ℕ → ℕ → ℕ → Type 0
Brought Way.On filled used n = (0 < filled) × (n ≡ 0)
Brought Way.Last filled used n = (filled ≡ 0) × (n ≡ 0)
Brought Way.Ended filled used n = ⊥
Brought Way.Stopped filled used n = (filled ≡ 0) × (n ≡ 0)
Brought Way.Failed filled used n = (filled ≡ 0) × (n ≡ used)

-- reading on: what is held is kept, reading goes on at the block's start, and what was filled lies in the block
pub record Reads (source : Source) (used : ℕ) (r : Gone) (block : List ℕ) : Type 0 where
  pub held_kept : r.source.input.held ≡ source.input.held
  pub is_at_start : r.source.input.from ≡ 0
  pub is_in_block : r.source.input.filled ≤ length block
  pub same_from : r.source.from ≡ source.from
  pub same_place : r.source.place ≡ source.place
  pub came : Brought r.way r.source.input.filled used r.used

-- the same of the call that reads, in the source that is lent to it
pub record ReadsOn (before after : Source) (came : Result ℕ Failure) (block : List ℕ) : Type 0 where
  pub fills : Fills before.input after.input came block
  pub same_from : after.from ≡ before.from
  pub same_place : after.place ≡ before.place

-- by what came: a line, one that is too long, nothing, or too short a buffer for a line, which stops the run
abbrev pub GoesOn : Source → Next → ℕ → Gone → List ℕ → Type 0
GoesOn source (Next.Line n) used r block = Empties source used r
GoesOn source Next.TooLong used r block = Empties source used r
GoesOn source Next.Nothing used r block = Reads source used r block
GoesOn source Next.Room used r block = r ≡ record { source = source; used = used; way = Way.Stopped }

-- after the last line of an input comes the next input
abbrev pub Goes : Bool → Source → Next → ℕ → Gone → List ℕ → Type 0
Goes true source next used r block = Opens used r
Goes false source next used r block = GoesOn source next used r block

-- a status as the number that the launcher is told
abbrev pub status_number : Status → ℕ
status_number Status.Well = 0
status_number Status.Failed = 1
status_number Status.Wrong = 2

-- a status other than that of a wrong word
abbrev pub IsOfARun : Status → Type 0
IsOfARun Status.Well = ⊤
IsOfARun Status.Failed = ⊤
IsOfARun Status.Wrong = ⊥

-- the status at the end: that of a call that failed where one did, also the last write; what was told before an input failed is still written
abbrev pub Finishes : Way → Status → Type 0
Finishes Way.On r = r ≡ Status.Failed
Finishes Way.Last r = r ≡ Status.Failed
Finishes Way.Ended r = IsOfARun r
Finishes Way.Stopped r = r ≡ Status.Failed
Finishes Way.Failed r = r ≡ Status.Failed
