-- The table of a position report, types 1 to 3: 168 bits (document 01, 'Fields and types'; the AIVDM description, 'Common Navigation Block').
use Rattle.std.specs.Prelude.{List, [], ◌∷◌}
use Rattle.parsers.specs.Table.{Span, span}
use Rattle.radio_status.specs.Table as status-table

-- the rows by meaning. Another layout is another value of this type
pub record Layout : Type 0 where
  pub type : Span
  pub repeat : Span
  pub mmsi : Span
  pub status : Span
  pub turn : Span
  pub speed : Span
  pub accuracy : Span
  pub longitude : Span
  pub latitude : Span
  pub course : Span
  pub heading : Span
  pub second : Span
  pub manoeuvre : Span
  pub spare : Span
  pub raim : Span
  pub radio : Span
  -- the table of the fields in the row `radio`
  pub radio_rows : status-table.Layout

-- "type 6, repeat 2, MMSI 30, status 4, turn s8, speed 10, accuracy 1, longitude s28, latitude s27, course 12, heading 9, second 6, manoeuvre 2,
-- spare 3, RAIM 1, radio 19"
abbrev pub position_table : Layout
position_table = record {
  type = span 0 6;
  repeat = span 6 2;
  mmsi = span 8 30;
  status = span 38 4;
  turn = span 42 8;
  speed = span 50 10;
  accuracy = span 60 1;
  longitude = span 61 28;
  latitude = span 89 27;
  course = span 116 12;
  heading = span 128 9;
  second = span 137 6;
  manoeuvre = span 143 2;
  spare = span 145 3;
  raim = span 148 1;
  radio = span 149 19;
  radio_rows = status-table.radio_table;
}

-- the rows in the order in which they are sent
abbrev pub rows_of : Layout → List Span
rows_of t =
    t.type ∷ t.repeat ∷ t.mmsi ∷ t.status ∷ t.turn ∷ t.speed ∷ t.accuracy ∷ t.longitude ∷ t.latitude ∷ t.course ∷ t.heading ∷ t.second
    ∷ t.manoeuvre
    ∷ t.spare ∷ t.raim ∷ t.radio ∷ []
