-- The table of the radio status: the last 19 of a position report's 168 bits (document 01, 'Fields and types'; the AIVDM description, "149-167 | 19 | Radio
-- status").
use Rattle.std.specs.Prelude.{List, [], ◌∷◌}
use Rattle.parsers.specs.Table.{Span, span}

-- the rows by meaning. Another layout is another value of this type
pub record Layout : Type 0 where
  pub sync : Span
  pub timeout : Span
  pub sub : Span
  pub hour : Span
  pub hour_spare : Span
  pub minute : Span
  pub minute_spare : Span
  pub increment : Span
  pub slots : Span
  pub keep : Span

-- "Radio, types 1 and 2: sync 2, timeout 3, then 14 bits by timeout. .. 1: hour 5, spare 1, minute 6, spare 2. .. Type 3: sync 2, increment 13, slots 3,
-- keep 1"
abbrev pub radio_table : Layout
radio_table = record {
  sync = span 149 2;
  timeout = span 151 3;
  sub = span 154 14;
  hour = span 154 5;
  hour_spare = span 159 1;
  minute = span 160 6;
  minute_spare = span 166 2;
  increment = span 151 13;
  slots = span 164 3;
  keep = span 167 1;
}

-- the rows of either status in the order in which they are sent
abbrev pub sotdma_rows : Layout → List Span
sotdma_rows t = t.sync ∷ t.timeout ∷ t.sub ∷ []

abbrev pub itdma_rows : Layout → List Span
itdma_rows t = t.sync ∷ t.increment ∷ t.slots ∷ t.keep ∷ []
