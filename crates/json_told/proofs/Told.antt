-- Where a line is taken and complete, its message tells something: the checks of decoding have passed. Assumes nothing.
use Prim.Native.Nat.{ℕ}
use native.Mathlib.Omega.{arith}
use mathlib.Core.Path.{◌≡◌, sym, subst}
use mathlib.Core.Bool.{Bool, true, false, not, ◌||◌}
use mathlib.Core.List.{List, [], ◌∷◌, ◌++◌}
use lib.Dec.{eqb}
use lib.ListN.{replicate}
use Rattle.std.specs.Prelude.{Ok, Err}
use Rattle.refusal.specs.Words.{pick, within, is_empty, Told, taken, Check, on_taken}
use Rattle.refusal.specs.Order.{Passed}
use Rattle.refusal.proofs.Order.{passed, taken_same}
use Rattle.armour.specs.Armour.{unarmored}
use Rattle.position_report.specs.Table.{position_table}
use Rattle.position_report.specs.Report.{report_of}
use Rattle.position_report.specs.declared.PositionReport.{PositionReport}
use Rattle.std.specs.Prelude.{Result}
use Rattle.refusal.specs.declared.Refusal.{Refusal}
use Rattle.static_data_report.specs.StaticData.{static_data_of}
use Rattle.static_data_report.specs.declared.StaticData.{StaticData}
use Rattle.interrogation.specs.Interrogation.{interrogated_of}
use Rattle.interrogation.specs.declared.Interrogation.{Interrogation}
use Rattle.messages.specs.Messages.{type_of, other_type, unknown_type, no_message, the_position_in, static_in, the_asked_in, message_by, ends_position, ends_static, ends_asked}
use Rattle.messages.specs.Messages.{ends_inside}
use Rattle.messages.specs.declared.AisMessage.{AisMessage}
use Rattle.messages.specs.declared.Message.{Message}
use Rattle.sentence.specs.Line.{payload_of, parsed_of, Parsed}
use Rattle.reassembly.specs.Record.{join_checks}
use Rattle.reassembly.specs.declared.Part.{Part}
use Rattle.reassembly.specs.declared.Record.{Record}
use Rattle.answer.specs.declared.Decode.{Decode}
use Rattle.answer.specs.Answer.{Progress, complete}
use Rattle.answer.specs.Opening.{message_checks}
use Rattle.ais.specs.Call.{Called}
use Rattle.ais.specs.Call.{fragment_of, part_of_line, is_complete, progress_of, handed_of, decodes, line_checks, sentence_checks, call_by, called_of}
use Rattle.json_told.specs.Answer.{read_of}

abbrev Tells : Message → Type 0
Tells m = m.content ≡ AisMessage.Nothing → ⊥

-- two that differ
clash : true ≡ false → ⊥
clash e = let z : ◌≡◌ {A = ℕ} 0 1 = cc in omega arith

-- ---- what is decoded
position-tells : (ends : Bool) (r : PositionReport) → ends ≡ false → Tells (pick ends no_message (the_position_in r))
position-tells true r e n = clash e
position-tells false r e n = let z : ◌≡◌ {A = ℕ} 0 1 = cc in omega arith

static_tells : (a : Result StaticData Refusal) → ends_static a ≡ false → Tells (static_in a)
static_tells (Err r) e n = clash e
static_tells (Ok a) e n = let z : ◌≡◌ {A = ℕ} 0 1 = cc in omega arith

asked-tells : (a : Result Interrogation Refusal) → ends_asked a ≡ false → Tells (the_asked_in a)
asked-tells (Err r) e n = clash e
asked-tells (Ok i) e n = let z : ◌≡◌ {A = ℕ} 0 1 = cc in omega arith

-- a type outside the five is 10 or 11
neither_nor : (other : Bool) → other ≡ false → not other ≡ false → ⊥
neither_nor true o u = clash o
neither_nor false o u = clash u

message-tells : (k : ℕ) (d : List ℕ) → ends_inside k d ≡ false → other_type k ≡ false → unknown_type k ≡ false → Tells (message_by k d)
unfolding message_by ends_inside
message-tells k d e o u = go (within 1 3 k) (eqb k 15) (eqb k 24) e u
  where
    go : (a b c : Bool)
        → pick a (ends_position d)
        (pick b (ends_asked (interrogated_of d)) (pick c (ends_static (static_data_of d)) false)) ≡ false
        → pick a false (pick b false (pick c false (not (other_type k)))) ≡ false
        → Tells (pick a (pick (ends_position d) no_message (the_position_in (report_of position_table d)))
        (pick b (the_asked_in (interrogated_of d)) (pick c (static_in (static_data_of d)) no_message)))
    go true b c e u = position-tells (ends_position d) (report_of position_table d) e
    go false true c e u = asked-tells (interrogated_of d) e
    go false false true e u = static_tells (static_data_of d) e
    go false false false e u = absurd (neither_nor (other_type k) o u)

-- ---- a call
not_first : (a b : Bool) → a || b ≡ false → b ≡ false
not_first true b e = absurd (clash e)
not_first false b e = e

passed-after : (before after : List Check) → Passed (before ++ after) → Passed after
passed-after [] after p = p
passed-after (c ∷ before) after p = passed-after before after p.1

all_in : (q : Part) → progress_of q ≡ complete → is_complete q ≡ true
all_in Part.Unfinished e = let z : ◌≡◌ {A = ℕ} 0 1 = cc in absurd (omega arith)
all_in Part.Last e = cc
all_in Part.Alone e = cc

module _ (r : Record) (line : List ℕ) where
  abbrev checks_for : Parsed → List Check
  checks_for p = line_checks line 384 288 p ++ sentence_checks r line Decode.On p

  abbrev called_for : Parsed → Called
  called_for p = call_by (checks_for p) r line Decode.On p (replicate 384 0) (replicate 288 0)

  by-parsed : (p : Parsed) → (called_for p).told ≡ taken complete → Tells (called_for p).message
  by-parsed (Err broken) e = absurd (clash (passed (checks_for (Err broken)) complete complete e).1.1.0)
  by-parsed (Ok s) e =
      let checks = checks_for (Ok s) in
      let own = payload_of line s in
      let opening = message_checks (handed_of r s own) s.fill_bit_count in
      let d = unarmored (handed_of r s own) s.fill_bit_count in
      let all : Passed checks = passed checks (progress_of (part_of_line s)) complete e in
      let whole : decodes Decode.On s ≡ true = all_in (part_of_line s) (taken_same checks (progress_of (part_of_line s)) complete e) in
      let opened : Passed opening =
      subst (λ (b : Bool). Passed (pick b opening [])) whole (passed-after (join_checks r (fragment_of s) own) _ all.1.1.1.1) in
      let tells : Tells (message_by (type_of d) d) =
      message-tells (type_of d) d (not_first (is_empty d) (ends_inside (type_of d) d) opened.1.0) opened.1.1.0 opened.1.1.1.0 in
      subst (λ (t : Told Progress). Tells (on_taken t (pick (decodes Decode.On s) (message_by (type_of d) d) no_message) no_message)) (sym e)
      (subst (λ (b : Bool). Tells (pick b (message_by (type_of d) d) no_message)) (sym whole) tells)

  -- so the object of a message that tells nothing is never put
  pub call_tells : (read_of r line).told ≡ taken complete → (read_of r line).message.content ≡ AisMessage.Nothing → ⊥
  unfolding read_of called_of
  call_tells e = by-parsed (parsed_of line) e
