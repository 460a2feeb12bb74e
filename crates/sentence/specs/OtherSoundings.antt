-- Lines that a receiver passes on, each with whether it is a sentence of another kind. The first is of a GPS receiver, the next two are the examples of the
-- usual descriptions of NMEA 0183, the fourth is a text of an AIS transponder.
use Rattle.std.specs.Prelude.{Bool, true, false, List, [], ◌∷◌, ◌++◌, ℕ}
use Rattle.text_out.specs.Text.{ascii}
use Rattle.sentence.specs.Other.{cr, other_sentence}

-- a line, and the answer
pub record Case : Type 0 where
  pub line : List ℕ
  pub says : Bool

abbrev case : List ℕ → Bool → Case
case line says = record { line = line; says = says }

-- the same line with what the definition says
abbrev pub run : Case → Case
run c = case c.line (other_sentence c.line)

abbrev pub soundings : List Case
soundings =
    case (ascii "$GPGGA,092750.000,5321.6802,N,00630.3372,W,1,8,1.03,61.7,M,55.2,M,,*76") true
    ∷ case (ascii "$GPRMC,123519,A,4807.038,N,01131.000,E,022.4,084.4,230394,003.1,W*6a") true
    ∷ case (ascii "$GPGGA,123519,4807.038,N,01131.000,E,1,08,0.9,545.4,M,46.9,M,,*47" ++ cr ∷ []) true
    ∷ case (ascii "\\s:r003669945*00\\$AITXT,01,01,91,FREQ,2087,2088*57") true
    ∷ case (ascii "$GPGGA,123519,4807.038,N,01131.000,E,1,08,0.9,545.4,M,46.9,M,,*46") false
    ∷ case (ascii "$GPGGA,123519,4807.038,N,01131.000,E,1,08,0.9,545.4,M,46.9,M,,*047") false
    ∷ case (ascii "$GPGGA,123519,4807.038,N,01131.000,E,1,08,0.9,545.4,M,46.9,M,,*47 ") false
    ∷ case (ascii "!AIVDM,1,1,,A,w,0*51") false
    ∷ case (ascii "$,*2C") false
    ∷ []
