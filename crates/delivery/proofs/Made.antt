-- Calls that the contract allows: where no line is refused on paper, there is a run of calls on the lines. Assumes nothing.
use Prim.Native.Nat.{ℕ, suc}
use mathlib.Core.Path.{◌≡◌, refl, sym, ap, ap₂, ◌∙◌, subst}
use mathlib.Core.List.{List, [], ◌∷◌, map}
use lib.ListN.{take}
use Rattle.refusal.specs.Words.{Told}
use Rattle.answer.specs.Answer.{Progress, outcome_in}
use Rattle.answer.specs.declared.Decode.{Decode}
use Rattle.answer.specs.declared.Outcome.{Outcome}
use Rattle.ais.specs.Call.{Called, called_of}
use Rattle.reassembly.specs.Record.{fresh_record}
use Rattle.reassembly.specs.declared.Record.{Record}
use Rattle.delivery.specs.Delivery.{Arrival, Answer, refused, unfinished, complete}
use Rattle.delivery.specs.Lines.{text_in, handed_on}
use Rattle.delivery.specs.Calls.{Call, answer_in, Keeps, Calls, Received}
use Rattle.delivery.proofs.Reader.{answers_from}
use Rattle.delivery.proofs.Paper.{told_by, Beside, on_call, call_run, same_answer}

-- an answer that is no refusal
abbrev Taken : Answer → Type 0
Taken (refused n) = ⊥
Taken unfinished = Unit {0}
Taken (complete payload fill) = Unit {0}

abbrev pub AllTaken : List Answer → Type 0
AllTaken [] = Unit {0}
AllTaken (a ∷ later) = Taken a × AllTaken later

-- the code's outcome for what is told
record Said (t : Told Progress) : Type 0 where
  outcome : Outcome
  says : outcome_in outcome ≡ t

said : (t : Told Progress) (handed : List ℕ) (fill : ℕ) → Taken (told_by t handed fill) → Said t
said (Told.taken Progress.complete) handed fill h = record { outcome = Outcome.Complete; says = refl }
said (Told.taken Progress.unfinished) handed fill h = record { outcome = Outcome.Unfinished; says = refl }
said (Told.refused _ _) handed fill h = elim h [ ]

module _ (given : ℕ → Beside) where
  -- the call number p on a line that arrives, on paper
  abbrev paper : ℕ → Record → Arrival → Called
  paper p r a = called_of r (handed_on (given p).ends (text_in a)) Decode.Off (given p).lent.payload (given p).lent.bits

  made : (p : ℕ) (r : Record) (a : Arrival) → Said (paper p r a).told → Call
  made p r a s = record {
    ends = (given p).ends;
    lent = (given p).lent;
    answer = record { outcome = s.outcome; sentence = (paper p r a).sentence; message = (paper p r a).message };
    state = (paper p r a).after;
    payload = (paper p r a).payload;
    bits = (paper p r a).bits;
  }

  made_keeps : (p : ℕ) (r : Record) (a : Arrival) (s : Said (paper p r a).told) → Keeps r (text_in a) (made p r a s)
  unfolding made
  made_keeps p r a s =
      let c = paper p r a in
      ap (λ (t : Told Progress). record {
        told = t;
        sentence = c.sentence;
        message = c.message;
        after = c.after;
        payload = c.payload;
        bits = c.bits;
      }) s.says

  made_answer : (p : ℕ) (r : Record) (a : Arrival) (s : Said (paper p r a).told) → answer_in (made p r a s) ≡ (on_call given p r a).answer
  unfolding on_call made
  made_answer p r a s =
      let c = paper p r a in
      let handed = take c.sentence.payload_len c.payload in
      sym (same_answer s.outcome handed c.sentence.fill_bit_count)
      ∙ ap (λ (t : Told Progress). told_by t handed c.sentence.fill_bit_count) s.says

  -- a run of calls from a record on, and what is read off it
  record Runs (p : ℕ) (r : Record) (arrivals : List Arrival) : Type 0 where
    calls : List Call
    run : Calls r (map text_in arrivals) calls
    answers : map answer_in calls ≡ answers_from (on_call given) p r arrivals

  runs : (p : ℕ) (r : Record) (arrivals : List Arrival) → AllTaken (answers_from (on_call given) p r arrivals) → Runs p r arrivals
  unfolding on_call made
  runs p r [] h = record { calls = []; run = tt; answers = refl }
  runs p r (a ∷ later) h =
      let s = said (paper p r a).told _ _ h.0 in
      let rest = runs (suc p) (paper p r a).after later h.1 in
      record {
        calls = made p r a s ∷ rest.calls;
        run = (made_keeps p r a s, rest.run);
        answers = ap₂ (λ (x : Answer) (l : List Answer). x ∷ l) (made_answer p r a s) rest.answers;
      }

  -- A RUN OF CALLS IS THERE for answers without a refusal
  pub there : (arrivals : List Arrival) (answers : List Answer) → call_run given arrivals ≡ answers → AllTaken answers → Received arrivals answers
  there arrivals answers e h =
      let t = runs 0 fresh_record arrivals (subst AllTaken (sym e) h) in
      record { calls = t.calls; run = t.run; read_off = sym (t.answers ∙ e) }
