-- `hand`: what the record's rules told, and then the payload handed out (proofs/Received). Assumes nothing.
use mathlib.Core.List.{List}
use Prim.Native.Nat.{ℕ}
use mathlib.Core.Path.{◌≡◌, sym, ap, ◌∙◌}
use lib.Seq.{length-take-le}
use Rattle.refusal.specs.Words.{taken}
use Rattle.sentence.specs.declared.AisSentence.{AisSentence}
use Rattle.reassembly.specs.declared.Record.{Record}
use Rattle.reassembly.specs.Record.{Join, join_of, part_in, emptied_of}
use Rattle.reassembly.specs.declared.Fragment.{Fragment}
use Rattle.answer.specs.Answer.{Heard}
use Rattle.ais.specs.Call.{fragment_of, called_by}
use Rattle.ais.proofs.Received.{handing-by, last_join_fits}
use borrow.Author.Rules.{rules}
use Rattle.ais.proofs.hand.Goals as goal

-- the join is that of the sentence's fragment
joins : (state : Record) (s : AisSentence) (own : List ℕ) {f : Fragment} {j : Join} → f ≡ fragment_of s → j ≡ join_of state f own
    → j ≡ join_of state (fragment_of s) own
joins state s own f j = j ∙ ap (λ (x : Fragment). join_of state x own) f

pub returns-in-Err : goal.returns-in-Err
returns-in-Err c =
    rw c.refused.ensures
    (handing-by c.args.state c.args.s c.args.own.now c.join-outcome.result (joins c.args.state c.args.s c.args.own.now c.fragment_of.ensures c.join-outcome.ensures) _ (ap part_in c.in-Err.is) c.args.decode
    c.args.payload.now c.args.bits.now)

pub returns-in-Ok-Unfinished : goal.returns-in-Ok-Unfinished
returns-in-Ok-Unfinished c =
    ap (λ (h : Heard). called_by h c.join-outcome.result.state) (c.unfinished-answer.ensures c.args.bits.now)
    ∙ handing-by c.args.state c.args.s c.args.own.now c.join-outcome.result (joins c.args.state c.args.s c.args.own.now c.fragment_of.ensures c.join-outcome.ensures) _
    (ap part_in c.in-Ok-Unfinished.is ∙ ap taken (rw c.in-Ok-Unfinished.is at c.in-Ok-Unfinished.field-0-is)) c.args.decode c.args.payload.now c.args.bits.now

pub returns-in-Ok-Alone : goal.returns-in-Ok-Alone
returns-in-Ok-Alone c =
    ap (λ (h : Heard). called_by h c.join-outcome.result.state) c.complete-answer.ensures
    ∙ handing-by c.args.state c.args.s c.args.own.now c.join-outcome.result (joins c.args.state c.args.s c.args.own.now c.fragment_of.ensures c.join-outcome.ensures) _
    (ap part_in c.in-Ok-Alone.is ∙ ap taken (rw c.in-Ok-Alone.is at c.in-Ok-Alone.field-0-is)) c.args.decode c.args.payload.now c.args.bits.now

pub slice_bounds-whole-end : goal.slice_bounds-whole-end
slice_bounds-whole-end c =
    last_join_fits c.args.state c.args.s c.args.own.now c.join-outcome.result (joins c.args.state c.args.s c.args.own.now c.fragment_of.ensures c.join-outcome.ensures) (search rules)
    (ap part_in c.in-Ok-Last.is ∙ ap taken (rw c.in-Ok-Last.is at c.in-Ok-Last.field-0-is))

pub slice_bounds-complete-end : goal.slice_bounds-complete-end
slice_bounds-complete-end c =
    sym (length-take-le _ _ (last_join_fits c.args.state c.args.s c.args.own.now c.join-outcome.result (joins c.args.state c.args.s c.args.own.now c.fragment_of.ensures c.join-outcome.ensures) (search rules)
    (ap part_in c.in-Ok-Last.is ∙ ap taken (rw c.in-Ok-Last.is at c.in-Ok-Last.field-0-is))))

pub returns-in-Ok-Last : goal.returns-in-Ok-Last
returns-in-Ok-Last c =
    rw c.emptied-state.ensures (ap (λ (h : Heard). called_by h (emptied_of c.join-outcome.result.state)) c.complete-answer-in-Ok-Last.ensures
    ∙ handing-by c.args.state c.args.s c.args.own.now c.join-outcome.result (joins c.args.state c.args.s c.args.own.now c.fragment_of.ensures c.join-outcome.ensures) _
    (ap part_in c.in-Ok-Last.is ∙ ap taken (rw c.in-Ok-Last.is at c.in-Ok-Last.field-0-is)) c.args.decode c.args.payload.now c.args.bits.now)
