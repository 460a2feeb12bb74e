-- The premises of demand 3 are met: three requests that the writer takes, and an order of arrival in which two messages of one number come interleaved.
-- Assumes nothing.
use Prim.Native.Nat.{ℕ, zero, suc, ◌-◌, ◌*◌, ◌≤◌, ◌<◌}
use native.Mathlib.Omega.{arith}
use mathlib.Core.Path.{◌≡◌, refl, sym, ap, ◌∙◌}
use mathlib.Core.Logic.{◌≢◌}
use mathlib.Core.Bool.{false}
use mathlib.Core.Option.{Option, some, some_inj}
use mathlib.Core.List.{List, [], ◌∷◌, ◌++◌, append-nil, map, Memᴰ}
use lib.ListN.{length, get_elem?, replicate, length-replicate}
use borrow.Author.Tests.{le-ltb}
use lib.Seq.{append_snoc}
use Rattle.std.specs.Prelude.{Some}
use Rattle.refusal.specs.Words.{Told, within, left, over}
use Rattle.sentence.specs.declared.TalkerId.{TalkerId}
use Rattle.sentence.specs.declared.AisReportType.{AisReportType}
use Rattle.reassembly.specs.Record.{fresh_record}
use Rattle.reassembly.specs.declared.Record.{Record}
use Rattle.writer.specs.Message.{Message, lines_in, text_all}
use Rattle.writer.specs.Writer.{outside, message_of, answer_of}
use Rattle.writer.specs.declared.Request.{Request}
use Rattle.writer.proofs.Armoured.{length-armoured}
use Rattle.delivery.specs.Delivery.{Arrival, Answer, unfinished, complete, AllOurs, Ours, number_on, first_of_several, always, NoMixing, Supposed, InOrder}
use Rattle.delivery.specs.Lines.{the_all_lines, LineEnd}
use Rattle.delivery.specs.Calls.{Sent, message_in, Lent, Received}
use Rattle.delivery.specs.RoundTrip.{whole_at_last}
use Rattle.delivery.proofs.Reader.{Reader, Step, answers_from, line}
use Rattle.delivery.proofs.Safe.{latest, Fits}
use Rattle.delivery.proofs.Paper.{Beside, on_call, call_run, given_at, answers_are}
use Rattle.delivery.proofs.Called.{reads}
use Rattle.delivery.proofs.InOrder.{read-alone}
use Rattle.delivery.proofs.Sent.{sent_sendable}
use Rattle.delivery.proofs.Made.{AllTaken, there}

abbrev buffers : Lent
buffers = record { payload = replicate 384 0; bits = replicate 288 0; payload_large = omega arith; bits_large = omega arith }

-- so many bits on channel A, with the number 3
abbrev asked : ℕ → Request
asked n = record { count = n; talker_id = TalkerId.AI; report_type = AisReportType.VDM; channel = Some 65; message_id = 3 }

pub taken : (b : ℕ) → outside (asked 366) (replicate 46 b) ≡ false
unfolding outside within
taken b = refl

pub taken-alone : outside (asked 6) (0 ∷ []) ≡ false
unfolding outside within
taken-alone = refl

-- a request within the limits, written into an output of just the size
module _ (q : Request) (d : List ℕ) (inside : outside q d ≡ false) where
  abbrev pub text : List ℕ
  text = text_all (message_of q d)

  abbrev pub room : List ℕ
  room = replicate (length text) 0

  pub answers : Told.taken (length text) ≡ answer_of q d (length room)
  unfolding answer_of
  answers = rw (inside, le-ltb (length room) (length text) (omega (arith, length-replicate {A = ℕ} (length text) 0)))

  abbrev pub sent_by : Sent
  sent_by = record {
    request = q;
    bytes = d;
    before = room;
    count = length text;
    out = over text room;
    keeps = record { answers = answers; leaves = ap (λ (t : Told ℕ). left t text room) answers };
  }

-- 366 bits, two lines: all 0, and all 1; and six bits, a single line
abbrev pub zeros : Sent
zeros = sent_by (asked 366) (replicate 46 0) (taken 0)

abbrev pub ones : Sent
ones = sent_by (asked 366) (replicate 46 255) (taken 255)

abbrev pub short : Sent
short = sent_by (asked 6) (0 ∷ []) taken-alone

abbrev pub m : Message
m = message_in zeros

abbrev pub k : Message
k = message_in ones

abbrev pub s : Message
s = message_in short

pub zeros_lines : lines_in m ≡ 2
unfolding lines_in
zeros_lines = rw (length-armoured (replicate 46 0) 366)

pub ones_lines : lines_in k ≡ 2
unfolding lines_in
ones_lines = rw (length-armoured (replicate 46 255) 366)

one : lines_in s ≡ 1
unfolding lines_in
one = rw (length-armoured (0 ∷ []) 6)

-- the first line of k, and m with a single line between its two, before k comes whole
abbrev pub arrivals : List Arrival
arrivals = line k 1 ∷ line m 1 ∷ line s 1 ∷ line m 2 ∷ line k 1 ∷ line k 2 ∷ []

-- ---- the premise, arrival by arrival
abbrev Fit : List Arrival → List Arrival → Type 0
Fit before [] = Unit {0}
Fit before (a ∷ later) = Fits (latest before) a × Fit (before ++ a ∷ []) later

no_mixing_by : (seen rest : List Arrival) → Fit seen rest → (before after : List Arrival) (a f : Arrival) → rest ≡ before ++ a ∷ after
    → latest (seen ++ before) ≡ some f → a.line ≢ 1 → number_on a ≡ number_on f → a.of ≡ f.of
no_mixing_by seen [] t [] after a f e q = let z : ◌≡◌ {A = ℕ} 0 1 = cc in absurd (omega arith)
no_mixing_by seen [] t (b ∷ before) after a f e q = let z : ◌≡◌ {A = ℕ} 0 1 = cc in absurd (omega arith)
no_mixing_by seen (x ∷ rest) t [] after a f e z =
    let h : x ≡ a = cc in
    let fits : Fits (latest seen) a = rw h at t.0 in
    fits f (rw append-nil at z)
no_mixing_by seen (x ∷ rest) t (b ∷ before) after a f e z =
    let h : x ≡ b = cc in
    no_mixing_by (seen ++ x ∷ []) rest t.1 before after a f (cc) (rw (append_snoc, h) z)

first_fits : (o : Option Arrival) (a : Arrival) → a.line ≡ 1 → Fits o a
first_fits o a e f q l = absurd (l e)

fits-newest : (o : Option Arrival) (a b : Arrival) → o ≡ some b → a.of ≡ b.of → Fits o a
fits-newest o a b e same f q l n = let h : b ≡ f = some_inj.0 (sym e ∙ q) in rw h at same

newest_m : latest (line k 1 ∷ line m 1 ∷ line s 1 ∷ []) ≡ some (line m 1)
newest_m = rw (zeros_lines, one)

newest_k : latest (line k 1 ∷ line m 1 ∷ line s 1 ∷ line m 2 ∷ line k 1 ∷ []) ≡ some (line k 1)
newest_k = rw ones_lines

no_mixing : NoMixing always arrivals
no_mixing = no_mixing_by [] arrivals (
  first_fits _ _ refl,
  (
    first_fits _ _ refl,
    (first_fits _ _ refl, (fits-newest _ _ _ newest_m refl, (first_fits _ _ refl, (fits-newest _ _ _ newest_k refl, tt)))),
  ),
)

abbrev pub sent : List Sent
sent = zeros ∷ ones ∷ short ∷ []

-- line i of a message that was sent
ours : (a : Arrival) → Memᴰ a.of (map message_in sent) → 1 ≤ a.line → a.line ≤ lines_in a.of → Ours (map message_in sent) a
ours a h l u = record { was_sent = h; from_one = l; to_last = u }

all_ours : AllOurs (map message_in sent) arrivals
all_ours a (Memᴰ.head e) = rw e (ours (line k 1) (Memᴰ.tail (Memᴰ.head refl)) (omega arith) (omega (arith, ones_lines)))
all_ours a (Memᴰ.tail (Memᴰ.head e)) = rw e (ours (line m 1) (Memᴰ.head refl) (omega arith) (omega (arith, zeros_lines)))
all_ours a (Memᴰ.tail (Memᴰ.tail (Memᴰ.head e))) =
    rw e (ours (line s 1) (Memᴰ.tail (Memᴰ.tail (Memᴰ.head refl))) (omega arith) (omega (arith, one)))
all_ours a (Memᴰ.tail (Memᴰ.tail (Memᴰ.tail (Memᴰ.head e)))) =
    rw e (ours (line m 2) (Memᴰ.head refl) (omega arith) (omega (arith, zeros_lines)))
all_ours a (Memᴰ.tail (Memᴰ.tail (Memᴰ.tail (Memᴰ.tail (Memᴰ.head e))))) =
    rw e (ours (line k 1) (Memᴰ.tail (Memᴰ.head refl)) (omega arith) (omega (arith, ones_lines)))
all_ours a (Memᴰ.tail (Memᴰ.tail (Memᴰ.tail (Memᴰ.tail (Memᴰ.tail (Memᴰ.head e)))))) =
    rw e (ours (line k 2) (Memᴰ.tail (Memᴰ.head refl)) (omega arith) (omega (arith, ones_lines)))
all_ours a (Memᴰ.tail (Memᴰ.tail (Memᴰ.tail (Memᴰ.tail (Memᴰ.tail (Memᴰ.tail x)))))) = elim x [ ]

-- THE PREMISES ARE MET, with two messages of one number
pub supposed : Supposed always (map message_in sent) arrivals
supposed = record { ours = all_ours; no_mixing = no_mixing }

-- and m comes in order: its lines at places 1 and 3, and no first line of several between them
pub in_order : InOrder always arrivals m
in_order = record {
  when = λ i. 2 * i - 1;
  comes = comes;
  in_order = λ i h l. omega arith;
  no_first = λ q a h l e _. no_first q a h (omega (arith, zeros_lines)) e;
}
  where
    comes : (i : ℕ) → 1 ≤ i → i ≤ lines_in m → get_elem? arrivals (2 * i - 1) ≡ some (line m i)
    comes zero h l = absurd (omega arith)
    comes (suc zero) h l = refl
    comes (suc (suc zero)) h l = refl
    comes (suc (suc (suc i))) h l = absurd (omega (arith, zeros_lines))

    no_first : (q : ℕ) (a : Arrival) → 1 < q → q < 3 → get_elem? arrivals q ≡ some a → first_of_several a ≡ false
    no_first zero a h l e = absurd (omega arith)
    no_first (suc zero) a h l e = absurd (omega arith)
    no_first (suc (suc zero)) a h l e = let z : line s 1 ≡ a = some_inj.0 e in rw (← z, one)
    no_first (suc (suc (suc q))) a h l e = absurd (omega arith)

-- ---- the calls
abbrev pub answered : List Answer
answered =
    unfinished ∷ unfinished ∷ complete s.payload s.fill ∷ complete m.payload m.fill ∷ unfinished ∷ complete k.payload k.fill ∷ []

module _ (given : ℕ → Beside) where
  reader : Reader (on_call given) fresh_record
  reader = reads given

  -- how an arrival is answered, and those after it
  then : (p : ℕ) (r : Record) (a : Arrival) (later : List Arrival) (o : Step Record) (xs : List Answer) → on_call given p r a ≡ o
      → answers_from (on_call given) (suc p) o.after later ≡ xs → answers_from (on_call given) p r (a ∷ later) ≡ o.answer ∷ xs
  then p r a later o xs e rest =
      ap (λ (q : Step Record). q.answer ∷ answers_from (on_call given) (suc p) q.after later) e ∙ ap (λ (l : List Answer). o.answer ∷ l) rest

  on_paper : call_run given arrivals ≡ answered
  on_paper =
      let of_m = sent_sendable zeros in
      let of-k = sent_sendable ones in
      then 0 fresh_record (line k 1) (line m 1 ∷ line s 1 ∷ line m 2 ∷ line k 1 ∷ line k 2 ∷ []) _ _
      (reader.first k of-k 0 fresh_record (omega (arith, ones_lines)))
      (then 1 _ (line m 1) (line s 1 ∷ line m 2 ∷ line k 1 ∷ line k 2 ∷ []) _ _
      (reader.first m of_m 1 (reader.held k 1) (omega (arith, zeros_lines)))
      (then 2 _ (line s 1) (line m 2 ∷ line k 1 ∷ line k 2 ∷ []) _ _ (reader.alone s (sent_sendable short) 2 (reader.held m 1) one)
      (then 3 _ (line m 2) (line k 1 ∷ line k 2 ∷ []) _ _ (reader.last m of_m 3 1 (omega arith) (omega (arith, zeros_lines)))
      (then 4 _ (line k 1) (line k 2 ∷ []) _ _ (reader.first k of-k 4 (reader.held m 2) (omega (arith, ones_lines)))
      (then 5 _ (line k 2) [] _ _ (reader.last k of-k 5 1 (omega arith) (omega (arith, ones_lines))) refl)))))

-- every run of calls on these arrivals gives these answers
pub all_answered : (answers : List Answer) → Received arrivals answers → answers ≡ answered
all_answered answers v = answers_are arrivals answers v ∙ on_paper (given_at v.calls)

-- the lines come with CR LF, with LF, and then bare
pub given : ℕ → Beside
given zero = record { ends = LineEnd.crlf; lent = buffers }
given (suc zero) = record { ends = LineEnd.lf; lent = buffers }
given (suc (suc p)) = record { ends = LineEnd.bare; lent = buffers }

-- AND SUCH A RUN IS THERE: m is handed out, and k when it comes whole
pub received : Received arrivals answered
received = there given arrivals answered (on_paper given) (tt, (tt, (tt, (tt, (tt, (tt, tt))))))

-- and the round trip is not empty either: on the lines of whatever was sent there is a run of calls
whole_taken : (n : ℕ) (payload : List ℕ) (fill : ℕ) → AllTaken (replicate n unfinished ++ complete payload fill ∷ [])
whole_taken zero payload fill = (tt, tt)
whole_taken (suc n) payload fill = (tt, whole_taken n payload fill)

pub read_there : (w : Sent) → Received (the_all_lines (message_in w)) (whole_at_last (message_in w) (message_in w).payload (message_in w).fill)
read_there w =
    let x = message_in w in
    there given (the_all_lines x) (whole_at_last x x.payload x.fill) (read-alone (reads given) x (sent_sendable w))
    (whole_taken (lines_in x - 1) x.payload x.fill)
