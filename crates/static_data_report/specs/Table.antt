-- The table of type 24: place and width of each field, from the AIVDM description, 'Type 24: Static Data Report' (bits 48 to 89 as in M.1371-4);
-- document 01, 'Fields and types', has the same widths in the same order.
use Rattle.std.specs.Prelude.{List, [], ◌∷◌, ◌++◌, ℕ, ◌+◌, eqb}
use Rattle.refusal.specs.Words.{pick}
use Rattle.parsers.specs.Table.{Span, span, Tiled}

-- the rows by meaning. Another layout is another value of this type
pub record Layout : Type 0 where
  -- the head
  pub type : Span
  pub repeat : Span
  pub mmsi : Span
  pub part : Span
  -- part 0
  pub name : Span
  -- part 1
  pub the_ship_type : Span
  pub vendor : Span
  pub model : Span
  pub serial : Span
  pub callsign : Span
  pub bow : Span
  pub stern : Span
  pub port : Span
  pub starboard : Span
  pub spare : Span
  -- the bits of model and serial, as text
  pub the_model_serial : Span

-- "40 bits of type, repeat, MMSI, part 2"; "Part 0: name 120; up to 7 further bits are ignored"; "Part 1: ship type 8, vendor 18, model 4,
-- serial 20 (the same 24 bits also shown as text), call sign 42, bow 9, stern 9, port 6, starboard 6, spare 6"
abbrev pub table : Layout
table = record {
  type = span 0 6;
  repeat = span 6 2;
  mmsi = span 8 30;
  part = span 38 2;
  name = span 40 120;
  the_ship_type = span 40 8;
  vendor = span 48 18;
  model = span 66 4;
  serial = span 70 20;
  callsign = span 90 42;
  bow = span 132 9;
  stern = span 141 9;
  port = span 150 6;
  starboard = span 156 6;
  spare = span 162 6;
  the_model_serial = span 66 24;
}

-- the rows of the head, of part 0 and of part 1, in the order in which they are sent
abbrev pub head_rows : Layout → List Span
head_rows t = t.type ∷ t.repeat ∷ t.mmsi ∷ t.part ∷ []

abbrev pub rows_a : Layout → List Span
rows_a t = t.name ∷ []

abbrev pub rows_b : Layout → List Span
rows_b t =
    t.the_ship_type ∷ t.vendor ∷ t.model ∷ t.serial ∷ t.callsign ∷ t.bow ∷ t.stern ∷ t.port ∷ t.starboard ∷ t.spare ∷ []

-- what part 0, part 1 and any other part have
abbrev pub by_part : {A : Type 0} → ℕ → A → A → A → A
by_part n a b other = pick (eqb n 0) a (pick (eqb n 1) b other)

-- the rows that a message of part n needs; "Parts 2 and 3: unknown, nothing more read"
abbrev pub needed : Layout → ℕ → List Span
needed t n = head_rows t ++ by_part n (rows_a t) (rows_b t) []

-- how many bits they are: "160 bits for part A, 168 bits for part B" (the AIVDM description), and else the head's
abbrev pub size_of : ℕ → ℕ
size_of n = by_part n 160 168 40

-- what is proved of the table: its rows follow one another with no gap and no overlap, and the 24 bits are those of model and serial
pub record Tiles (t : Layout) : Type 0 where
  pub rows : (n : ℕ) → Tiled 0 (needed t n) (size_of n)
  pub model-serial : Tiled t.the_model_serial.at (t.model ∷ t.serial ∷ []) (t.the_model_serial.at + t.the_model_serial.width)
