-- A run of calls on paper: what each call gives is a definition, by the reader's contract, and so the answers of the run are. Assumes nothing.
use Prim.Native.Nat.{ℕ, zero, suc}
use native.Mathlib.Omega.{arith}
use mathlib.Core.Path.{◌≡◌, refl, sym, ap, ◌∙◌}
use mathlib.Core.List.{List, [], ◌∷◌, map}
use lib.ListN.{take, replicate}
use Rattle.refusal.specs.Words.{Told}
use Rattle.answer.specs.Answer.{Progress, outcome_in}
use Rattle.answer.specs.declared.Decode.{Decode}
use Rattle.answer.specs.declared.Outcome.{Outcome}
use Rattle.ais.specs.Call.{Called, called_of}
use Rattle.reassembly.specs.Record.{fresh_record}
use Rattle.reassembly.specs.declared.Record.{Record}
use Rattle.delivery.specs.Delivery.{Arrival, Answer, refused, unfinished, complete}
use Rattle.delivery.specs.Lines.{text_in, LineEnd, handed_on}
use Rattle.delivery.specs.Calls.{Lent, Call, answer_by, answer_in, Keeps, Calls, Received}
use Rattle.delivery.proofs.Reader.{Step, answers_from, gives}

-- what the caller reads off what is told, the payload handed out and the fill
abbrev pub told_by : Told Progress → List ℕ → ℕ → Answer
told_by (Told.taken Progress.complete) handed fill = complete handed fill
told_by (Told.taken Progress.unfinished) handed fill = unfinished
told_by (Told.refused n values) handed fill = refused n

-- what is seen of a call: what is read off it, and the record after it
abbrev pub seen : Called → Step Record
seen c = gives (told_by c.told (take c.sentence.payload_len c.payload) c.sentence.fill_bit_count) c.after

-- what a call is given beside the record and the line: how the line ends, and the buffers lent
pub record Beside : Type 0 where
  pub ends : LineEnd
  pub lent : Lent

-- the call number p on a line that arrives, with what it is given
unfoldable pub on_call : (ℕ → Beside) → ℕ → Record → Arrival → Step Record
on_call given p r a = seen (called_of r (handed_on (given p).ends (text_in a)) Decode.Off (given p).lent.payload (given p).lent.bits)

abbrev pub call_run : (ℕ → Beside) → List Arrival → List Answer
call_run given arrivals = answers_from (on_call given) 0 fresh_record arrivals

-- what each call of a run is given; past its end, anything
abbrev pub given_at : List Call → ℕ → Beside
given_at [] p = record {
  ends = LineEnd.bare;
  lent = record { payload = replicate 384 0; bits = replicate 288 0; payload_large = omega arith; bits_large = omega arith };
}
given_at (c ∷ cs) zero = record { ends = c.ends; lent = c.lent }
given_at (c ∷ cs) (suc p) = given_at cs p

-- the code's outcome, and what it says on paper
pub same_answer : (o : Outcome) (handed : List ℕ) (fill : ℕ) → told_by (outcome_in o) handed fill ≡ answer_by o handed fill
same_answer Outcome.Complete handed fill = refl
same_answer Outcome.Unfinished handed fill = refl
same_answer (Outcome.Refused r) handed fill = refl

-- a run that starts at the next call
next_call : {S : Type 0} (does : ℕ → S → Arrival → Step S) (p : ℕ) (s : S) (arrivals : List Arrival)
    → answers_from does (suc p) s arrivals ≡ answers_from (λ (q : ℕ). does (suc q)) p s arrivals
next_call does p s [] = refl
next_call does p s (a ∷ later) = ap (λ (l : List Answer). (does (suc p) s a).answer ∷ l) (next_call does (suc p) (does (suc p) s a).after later)

first_call : (c : Call) (cs : List Call) (r : Record) (a : Arrival) → Keeps r (text_in a) c
    → on_call (given_at (c ∷ cs)) 0 r a ≡ gives (answer_in c) c.state
unfolding on_call
first_call c cs r a k = ap seen (sym k) ∙ ap (λ (x : Answer). gives x c.state) (same_answer c.answer.outcome _ _)

on_paper : (calls : List Call) (r : Record) (arrivals : List Arrival) → Calls r (map text_in arrivals) calls
    → map answer_in calls ≡ answers_from (on_call (given_at calls)) 0 r arrivals
unfolding on_call
on_paper [] r [] k = refl
on_paper [] r (a ∷ later) k = elim k [ ]
on_paper (c ∷ cs) r [] k = elim k [ ]
on_paper (c ∷ cs) r (a ∷ later) k =
    ap (λ (l : List Answer). answer_in c ∷ l)
    (on_paper cs c.state later k.1 ∙ sym (next_call (on_call (given_at (c ∷ cs))) 0 c.state later))
    ∙ ap (λ (o : Step Record). o.answer ∷ answers_from (on_call (given_at (c ∷ cs))) 1 o.after later) (sym (first_call c cs r a k.0))

-- THE ANSWERS OF A RUN OF CALLS are those of the definition
pub answers_are : (arrivals : List Arrival) (answers : List Answer) (v : Received arrivals answers) → answers ≡ call_run (given_at v.calls) arrivals
answers_are arrivals answers v = v.read_off ∙ on_paper v.calls fresh_record arrivals v.run
