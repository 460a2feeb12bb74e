-- Demand 3: what is handed out where only lines of our writer arrive, some lost, repeated or out of order.
-- It is stated of any run, that is, of any way to answer the lines that arrive. What stands in quotes is its text.
use Rattle.std.specs.Prelude.{ℕ, ◌+◌, ◌≤◌, ◌<◌, ◌≡◌, ◌≢◌, Bool, true, false, ◌&&◌, eqb, ltb, Option as OrNone}
use Rattle.std.proofs.Math.Option.{Option, none, some}
use mathlib.Core.List.{List, [], ◌∷◌, ◌++◌, Memᴰ}
use Rattle.std.proofs.Math.ListN.{get_elem?}
use Rattle.refusal.specs.Words.{pick}
use Rattle.writer.specs.Message.{Message, lines_in, parts_of}

-- ---- what arrives, and what is answered
-- an arrival: a message, and which of its lines it is, counted from 1
pub record Arrival : Type 0 where
  pub of : Message
  pub line : ℕ

-- "lines our writer wrote": one of the lines of a message that was sent
pub record Ours (sent : List Message) (a : Arrival) : Type 0 where
  pub was_sent : Memᴰ a.of sent
  pub from_one : 1 ≤ a.line
  pub to_last : a.line ≤ lines_in a.of

-- any of them, "with some lost, repeated or out of order"
abbrev pub AllOurs : List Message → List Arrival → Type 0
AllOurs sent arrivals = (a : Arrival) → Memᴰ a arrivals → Ours sent a

-- what a line is answered: a refusal's number; more is to come; or "handed out as complete", a payload "with its fill count"
pub data Answer : Type 0 where
  refused : ℕ → Answer
  unfinished : Answer
  complete : List ℕ → ℕ → Answer

-- a way to answer the lines that arrive: which answers are given to them, in the order of their arrival
abbrev pub Run : Type 1
Run = List Arrival → List Answer → Type 0

-- ---- the premise
-- the message number that a line bears; a single line bears none
abbrev pub number_on : Arrival → OrNone ℕ
number_on a = (parts_of a.of a.line).id

-- a "first line (of several lines)"
abbrev pub first_of_several : Arrival → Bool
first_of_several a = eqb a.line 1 && ltb 1 (lines_in a.of)

abbrev pub or_else : Option Arrival → Option Arrival → Option Arrival
or_else none b = b
or_else (some a) b = some a

-- which arrivals are looked at together: all of them where there is one record. (With a record for each channel: those of one channel.)
abbrev pub Together : Type 0
Together = Arrival → Arrival → Bool

abbrev pub always : Together
always a b = true

-- "the newest first line (of several lines)" among those of some arrivals that count, if there is one
abbrev pub newest : (Arrival → Bool) → List Arrival → Option Arrival
newest counts [] = none
newest counts (a ∷ later) = or_else (newest counts later) (pick (counts a && first_of_several a) (some a) none)

-- THE PREMISE: "no line but a first one arrives whose message number equals that of the newest first line (of several lines) while belonging to another
-- message".
-- Two messages that agree in all that is written of them count as one, which only widens what may arrive
abbrev pub NoMixing : Together → List Arrival → Type 0
NoMixing together arrivals =
    (before after : List Arrival) (a f : Arrival)
    → arrivals ≡ before ++ a ∷ after
    → newest (together a) before ≡ some f
    → a.line ≢ 1
    → number_on a ≡ number_on f
    → a.of ≡ f.of

-- what both halves suppose of what arrives
pub record Supposed (together : Together) (sent : List Message) (arrivals : List Arrival) : Type 0 where
  pub ours : AllOurs sent arrivals
  pub no_mixing : NoMixing together arrivals

-- ---- the first half
-- a payload "that was sent, with its fill count"
pub record WasSent (sent : List Message) (payload : List ℕ) (fill : ℕ) : Type 0 where
  pub which : Message
  pub was_sent : Memᴰ which sent
  pub its-payload : payload ≡ which.payload
  pub its-fill : fill ≡ which.fill

-- "Then each payload handed out as complete is one that was sent, with its fill count."
abbrev pub Safety : Together → List Message → Run → Type 0
Safety together sent run =
    (arrivals : List Arrival) → Supposed together sent arrivals
    → (answers : List Answer) → run arrivals answers
    → (when : ℕ) (payload : List ℕ) (fill : ℕ) → get_elem? answers when ≡ some (complete payload fill)
    → WasSent sent payload fill

-- ---- the second half
-- the lines of m "come in order, whatever else lies between", line i at `when i`;
-- "no first line of several comes after its first and before its last"
pub record InOrder (together : Together) (arrivals : List Arrival) (m : Message) : Type 0 where
  pub when : ℕ → ℕ
  pub comes : (i : ℕ) → 1 ≤ i → i ≤ lines_in m → get_elem? arrivals (when i) ≡ some (record { of = m; line = i })
  pub in_order : (i : ℕ) → 1 ≤ i → i < lines_in m → when i < when (i + 1)
  pub no_first : (q : ℕ) (a : Arrival) → when 1 < q → q < when (lines_in m) → get_elem? arrivals q ≡ some a
      → together (record { of = m; line = 1 }) a ≡ true → first_of_several a ≡ false

-- the whole payload of m and its fill are handed out, after the place `from` and by the place `to`
pub record HandedOut (answers : List Answer) (m : Message) (from to : ℕ) : Type 0 where
  pub when : ℕ
  pub after : from < when
  pub by : when ≤ to
  pub given : get_elem? answers when ≡ some (complete m.payload m.fill)

-- "Under the same premise a message of several lines is handed out if its lines come in order, whatever else lies between,
-- provided no first line of several comes after its first and before its last."
abbrev pub Delivery : Together → List Message → Run → Type 0
Delivery together sent run =
    (arrivals : List Arrival) → Supposed together sent arrivals
    → (answers : List Answer) → run arrivals answers
    → (m : Message) → 1 < lines_in m → (c : InOrder together arrivals m) → HandedOut answers m (c.when 1) (c.when (lines_in m))

-- ---- what is proved beside it
-- a message of a single line is handed out whenever its line arrives, with no premise
abbrev pub DeliveryAlone : List Message → Run → Type 0
DeliveryAlone sent run =
    (arrivals : List Arrival) → AllOurs sent arrivals
    → (answers : List Answer) → run arrivals answers
    → (m : Message) → lines_in m ≡ 1 → (when : ℕ) → get_elem? arrivals when ≡ some (record { of = m; line = 1 })
    → get_elem? answers when ≡ some (complete m.payload m.fill)

-- the messages of several lines that are sent differ in their numbers; a single line bears none
abbrev pub Numbered : List Message → Type 0
Numbered sent =
    (m k : Message) → Memᴰ m sent → Memᴰ k sent → 1 < lines_in m → 1 < lines_in k → m.number ≡ k.number → m ≡ k
