-- What the words of a line ask, by the comparing protocol. What stands in quotes is its text.
use Rattle.std.specs.Prelude.{ℕ, List, eqb, leb, Option, Some, None}
use Rattle.refusal.specs.Words.{pick}
use Rattle.text_out.specs.Text.{ascii}
use Rattle.answer.specs.Answer.{decode_of}
use Rattle.trace_commands.specs.Line.{word_at, count_of}
use Rattle.lines.specs.Same.{same_as}
use Rattle.trace_commands.specs.Numbers.{number_of}
use Rattle.trace_commands.specs.declared.Unarmor.{Unarmor}
use Rattle.trace_commands.specs.declared.Read.{Read}
use Rattle.trace_commands.specs.declared.Lend.{Lend}

-- a word that is to be a number: what is asked with it, or that there is none
abbrev pub with_number : {A : Type 0} → Option ℕ → A → (ℕ → A) → A
with_number (Some n) none ask = ask n
with_number None none ask = none

-- `unarmor FILL ROOM DATA`, ROOM at most 1,024
abbrev pub unarmor_with : ℕ → ℕ → Option Unarmor
unarmor_with fill room = pick (leb room 1024) (Some (record { fill = fill; room = room })) None

unfoldable pub unarmor_asked : List ℕ → Option Unarmor
unarmor_asked line =
    pick (eqb (count_of line) 4)
    (with_number (number_of (word_at 1 line)) None (λ fill. with_number (number_of (word_at 2 line)) None (λ room. unarmor_with fill room)))
    None

-- "DECODE is 0 or 1; ROOM and BITROOM are the sizes of the payload buffer and the bit buffer, each at most 1,024"
abbrev pub read_with : ℕ → ℕ → ℕ → Option Read
read_with decode room bit_room =
    pick (leb decode 1)
    (pick (leb room 1024)
    (pick (leb bit_room 1024) (Some (record { decode = decode_of (eqb decode 1); room = room; bit_room = bit_room })) None) None) None

-- `read DECODE ROOM BITROOM LINE`
unfoldable pub read_asked : List ℕ → Option Read
read_asked line =
    pick (eqb (count_of line) 5)
    (with_number (number_of (word_at 1 line)) None
    (λ decode. with_number (number_of (word_at 2 line)) None
    (λ room. with_number (number_of (word_at 3 line)) None (λ bit_room. read_with decode room bit_room))))
    None

-- a message number, of 8 bits, or `-` for none
unfoldable pub id_asked : List ℕ → Option (Option ℕ)
id_asked w =
    pick (same_as w (ascii "-")) (Some None)
    (with_number (number_of w) None (λ n. pick (leb n 255) (Some (Some n)) None))

-- a word that is to be a message number: what is asked with it
abbrev pub with_id : Option (Option ℕ) → (Option ℕ → Option Lend) → Option Lend
with_id (Some number) ask = ask number
with_id None ask = None

-- `lend ID FRAGMENT LENGTH BYTES`: "message number, fragment number, length (any 64-bit number)"
abbrev pub lend_with : Option ℕ → ℕ → ℕ → Option Lend
lend_with number fragment len = pick (leb fragment 255) (Some (record { number = number; fragment = fragment; len = len })) None

unfoldable pub lend_asked : List ℕ → Option Lend
lend_asked line =
    pick (eqb (count_of line) 5)
    (with_id (id_asked (word_at 1 line))
    (λ number. with_number (number_of (word_at 2 line)) None
    (λ fragment. with_number (number_of (word_at 3 line)) None (λ len. lend_with number fragment len))))
    None

-- "A command that is not in this form is answered `bad command`"
abbrev pub bad : List ℕ
bad = ascii "bad command"

-- a word that is to be bytes: what is made of the command with them, and without
abbrev pub with_bytes : {A : Type 0} → Option ℕ → A → A → A
with_bytes (Some n) none some = some
with_bytes None none some = none
