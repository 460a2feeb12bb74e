-- What demand 3 asks of a reader, of whatever state: what it does with each line of ours. Assumes nothing.
use Prim.Native.Nat.{ℕ, suc, ◌+◌, ◌≤◌, ◌<◌}
use mathlib.Core.Path.{◌≡◌}
use mathlib.Core.Logic.{◌≢◌}
use mathlib.Core.List.{List, [], ◌∷◌}
use Rattle.writer.specs.Message.{Message, Sendable, lines_in}
use Rattle.delivery.specs.Delivery.{Arrival, Answer, refused, unfinished, complete, Run}

-- what an arrival does to a state: its answer, and the state after it
pub record Step (S : Type 0) : Type 0 where
  pub answer : Answer
  pub after : S

-- the answers from a state on, where `does p s a` is what the arrival a does to the state s as the call number p
abbrev pub answers_from : {S : Type 0} → (ℕ → S → Arrival → Step S) → ℕ → S → List Arrival → List Answer
answers_from does p s [] = []
answers_from does p s (a ∷ later) = (does p s a).answer ∷ answers_from does (suc p) (does p s a).after later

-- the run from a state on
abbrev pub run_from : {S : Type 0} → (ℕ → S → Arrival → Step S) → S → Run
run_from does s arrivals answers = answers ≡ answers_from does 0 s arrivals

abbrev pub line : Message → ℕ → Arrival
line m i = record { of = m; line = i }

abbrev pub gives : {S : Type 0} → Answer → S → Step S
gives answer after = record { answer = answer; after = after }

-- `does p s a` is what it does with the arrival a at the state s, as the call number p; `held m j` is the state in which the first j lines of m have
-- come, in order
pub record Reader {S : Type 0} (does : ℕ → S → Arrival → Step S) (fresh : S) : Type 0 where
  pub held : Message → ℕ → S
  -- a single line is handed out, and the state stays
  pub alone : (m : Message) → Sendable m → (p : ℕ) (s : S) → lines_in m ≡ 1 → does p s (line m 1) ≡ gives (complete m.payload m.fill) s
  -- the first of several lines starts anew
  pub first : (m : Message) → Sendable m → (p : ℕ) (s : S) → 1 < lines_in m → does p s (line m 1) ≡ gives unfinished (held m 1)
  -- the next line joins; the last one joins, and the whole payload is handed out with its fill
  pub next : (m : Message) → Sendable m → (p j : ℕ) → 1 ≤ j → j + 1 < lines_in m → does p (held m j) (line m (j + 1)) ≡ gives unfinished (held m (j + 1))
  pub last : (m : Message) → Sendable m → (p j : ℕ) → 1 ≤ j → j + 1 ≡ lines_in m
      → does p (held m j) (line m (j + 1)) ≡ gives (complete m.payload m.fill) (held m (j + 1))
  -- a line that is not a first one: of the message held, but not the next one; of a message with another number; at a fresh state
  pub out_of_order : (m : Message) → Sendable m → (p j i : ℕ) → 2 ≤ i → i ≤ lines_in m → i ≢ j + 1 → does p (held m j) (line m i) ≡ gives (refused 5) (held m j)
  pub other-number : (m : Message) → Sendable m → (k : Message) (p j i : ℕ) → 2 ≤ i → i ≤ lines_in m → k.number ≢ m.number
      → does p (held k j) (line m i) ≡ gives (refused 4) (held k j)
  pub at-fresh : (m : Message) → Sendable m → (p i : ℕ) → 2 ≤ i → i ≤ lines_in m → does p fresh (line m i) ≡ gives (refused 4) fresh
