-- A line of ours as it is handed on, and the lines that what was written is cut into. Assumes nothing.
use Prim.Native.Nat.{ℕ, zero, suc, ◌+◌, ◌-◌, ◌≤◌}
use native.Mathlib.Omega.{arith}
use mathlib.Core.Path.{◌≡◌, refl, sym, ap, ◌∙◌}
use mathlib.Core.Logic.{◌≢◌}
use mathlib.Core.List.{List, [], ◌∷◌, ◌++◌, map, append_assoc}
use lib.ListN.{length, take, length-append, length-take}
use lib.Seq.{take_at}
use borrow.Author.Tests.{ne_eqb, le-ltb}
use Rattle.scan.specs.Scan.{All}
use Rattle.sentence.specs.Written.{Parts, line_text, Writable}
use Rattle.sentence.proofs.ReadBack.{Ends, ended_by, line-ends, crlf-ends, lf-ends, bare_ends, read_back, payload-back, text-short, one-lf}
use Rattle.answer.specs.declared.Decode.{Decode}
use Rattle.ais.specs.Call.{Called, called_of}
use Rattle.reassembly.specs.declared.Record.{Record}
use Rattle.writer.specs.Message.{Message, Sendable, lines_in, parts_of, text_of, text_from, text_all}
use Rattle.writer.proofs.Sendable.{writable}
use Rattle.delivery.specs.Lines.{text_in, lines_from, the_all_lines, cut_after_lf, LineEnd, crlf, lf, bare, end_text, handed_on}
use Rattle.delivery.proofs.Lines.{own_is, own_short}

-- a line may end in each of the three ways
pub ends_well : (e : LineEnd) → Ends (end_text e)
ends_well crlf = crlf-ends
ends_well lf = lf-ends
ends_well bare = bare_ends

pub end_short : (e : LineEnd) → length (end_text e) ≤ 2
end_short crlf = omega arith
end_short lf = omega arith
end_short bare = omega arith

module _ (p : Parts) where
  -- what ends a line stands last
  ended : (tail rest : List ℕ) → ended_by p (tail ++ rest) ≡ ended_by p tail ++ rest
  unfolding ended_by
  ended tail rest = simp append_assoc

  -- A LINE OF OURS, HANDED ON: its text up to the checksum, and its ending
  pub handed_on_lem : (e : LineEnd) → handed_on e (line_text p) ≡ ended_by p (end_text e)
  handed_on_lem e =
      let whole : line_text p ≡ ended_by p [] ++ 13 ∷ 10 ∷ [] = line-ends p ∙ ended [] (13 ∷ 10 ∷ []) in
      rw (
        whole,
        take_at (ended_by p []) (13 ∷ 10 ∷ []) (length (ended_by p [] ++ 13 ∷ 10 ∷ []) - 2) (omega (arith, length-append (ended_by p []) (13 ∷ 10 ∷ []))),
      )
      (sym (ended [] (end_text e)))

-- a line is cut off after its LF
cut_line : (xs rest : List ℕ) → All (λ (b : ℕ). b ≢ 10) xs → cut_after_lf (xs ++ 10 ∷ rest) ≡ (xs ++ 10 ∷ []) ∷ cut_after_lf rest
cut_line [] rest h = refl
cut_line (x ∷ xs) rest h = rw (ne_eqb x 10 h.0, cut_line xs rest h.1)

module _ (m : Message) (s : Sendable m) where
  cut-text : (i : ℕ) → 1 ≤ i → i ≤ lines_in m → (rest : List ℕ) → cut_after_lf (text_of m i ++ rest) ≡ text_of m i ∷ cut_after_lf rest
  unfolding text_of
  cut-text i h l rest =
      let p = parts_of m i in
      let whole : line_text p ≡ ended_by p (13 ∷ []) ++ 10 ∷ [] = line-ends p ∙ ended p (13 ∷ []) (10 ∷ []) in
      rw (whole, append_assoc) (cut_line (ended_by p (13 ∷ [])) rest (one-lf p (writable m s i h l)))

  cut-from : (n i : ℕ) → 1 ≤ i → i + n ≤ lines_in m + 1 → cut_after_lf (text_from m i n) ≡ map text_in (lines_from m i n)
  unfolding text_from
  cut-from zero i h l = refl
  cut-from (suc n) i h l =
      cut-text i h (omega arith) (text_from m (i + 1) n)
      ∙ ap (λ (later : List (List ℕ)). text_of m i ∷ later) (cut-from n (i + 1) (omega arith) (omega arith))

  -- THE WRITER'S LINES, cut after each LF, are lines 1 to the last
  pub cut_all : cut_after_lf (text_all m) ≡ map text_in (the_all_lines m)
  unfolding text_all
  cut_all = cut-from (lines_in m) 1 (omega arith) (omega arith)

-- READ ALIKE: a line of ours is answered as the writer ended it, whatever ending it comes with, at every record and with any buffers
module _ (m : Message) (s : Sendable m) (i : ℕ) (h : 1 ≤ i) (l : i ≤ lines_in m) where
  w : Writable (parts_of m i)
  w = writable m s i h l

  pub handed_short : (e : LineEnd) → length (ended_by (parts_of m i) (end_text e)) ≤ 1024
  handed_short e =
      let text = line_text (parts_of m i) in
      omega (
        arith,
        sym (ap length (handed_on_lem (parts_of m i) e)) ∙ length-append (take (length text - 2) text) (end_text e),
        length-take (length text - 2) text,
        end_short e,
        text-short (parts_of m i) w,
        ap length (own_is m i),
        own_short m i,
      )

  module _ (r : Record) (decode : Decode) (payload bits : List ℕ) where
    abbrev on_text : List ℕ → Called
    on_text text = called_of r text decode payload bits

    by-ending : (e k : LineEnd) → on_text (ended_by (parts_of m i) (end_text e)) ≡ on_text (ended_by (parts_of m i) (end_text k))
    unfolding called_of
    by-ending e k =
        rw (
          read_back (parts_of m i) w (end_text e) (ends_well e),
          read_back (parts_of m i) w (end_text k) (ends_well k),
          payload-back (parts_of m i) w (end_text e),
          payload-back (parts_of m i) w (end_text k),
          le-ltb 1024 (length (ended_by (parts_of m i) (end_text e))) (handed_short e),
          le-ltb 1024 (length (ended_by (parts_of m i) (end_text k))) (handed_short k),
        )

    pub read_alike : (e : LineEnd) → on_text (handed_on e (text_of m i)) ≡ on_text (text_of m i)
    unfolding text_of
    read_alike e = ap on_text (handed_on_lem (parts_of m i) e) ∙ by-ending e crlf ∙ sym (ap on_text (line-ends (parts_of m i)))
