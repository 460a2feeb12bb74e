-- What a `write` command asks for: the words of its line. What stands in quotes is the comparing protocol's text.
use Rattle.std.specs.Prelude.{ℕ, List, eqb, leb, Option, Some, None}
use Rattle.refusal.specs.Words.{pick}
use Rattle.text_out.specs.Text.{ascii}
use Rattle.trace_commands.specs.Line.{word_at, count_of}
use Rattle.lines.specs.Same.{same_as}
use Rattle.trace_commands.specs.Numbers.{number_of}
use Rattle.trace_commands.specs.Asked.{with_number}
use Rattle.sentence.specs.declared.TalkerId.{TalkerId}
use Rattle.sentence.specs.declared.AisReportType.{AisReportType}
use Rattle.writer.specs.declared.Request.{Request}
use Rattle.trace_write.specs.declared.Asked.{Asked}

-- a word that is to be a talker, a report type, a channel: what is asked with it
abbrev pub with_talker : Option TalkerId → (TalkerId → Option Request) → Option Request
with_talker (Some t) ask = ask t
with_talker None ask = None

abbrev pub with_report : Option AisReportType → (AisReportType → Option Request) → Option Request
with_report (Some r) ask = ask r
with_report None ask = None

abbrev pub with_channel : Option (Option ℕ) → (Option ℕ → Option Request) → Option Request
with_channel (Some c) ask = ask c
with_channel None ask = None

abbrev pub with_request : Option Request → (Request → Option Asked) → Option Asked
with_request (Some q) ask = ask q
with_request None ask = None

-- "TALKER `AB` .. `SA`, or `Unknown`"
unfoldable pub further_talker : List ℕ → Option TalkerId
further_talker w =
    pick (same_as w (ascii "AS")) (Some TalkerId.AS)
    (pick (same_as w (ascii "AT")) (Some TalkerId.AT)
    (pick (same_as w (ascii "AX")) (Some TalkerId.AX)
    (pick (same_as w (ascii "BS")) (Some TalkerId.BS)
    (pick (same_as w (ascii "SA")) (Some TalkerId.SA)
    (pick (same_as w (ascii "Unknown")) (Some TalkerId.Unknown) None)))))

unfoldable pub talker_asked : List ℕ → Option TalkerId
talker_asked w =
    pick (same_as w (ascii "AB")) (Some TalkerId.AB)
    (pick (same_as w (ascii "AD")) (Some TalkerId.AD)
    (pick (same_as w (ascii "AI")) (Some TalkerId.AI)
    (pick (same_as w (ascii "AN")) (Some TalkerId.AN)
    (pick (same_as w (ascii "AR")) (Some TalkerId.AR) (further_talker w)))))

-- "REPORT `VDM`, `VDO` or `Unknown`"
unfoldable pub report_asked : List ℕ → Option AisReportType
report_asked w =
    pick (same_as w (ascii "VDM")) (Some AisReportType.VDM)
    (pick (same_as w (ascii "VDO")) (Some AisReportType.VDO)
    (pick (same_as w (ascii "Unknown")) (Some AisReportType.Unknown) None))

-- "CHANNEL `A`, `B`, `-` or another byte's number"
unfoldable pub channel_asked : List ℕ → Option (Option ℕ)
channel_asked w =
    pick (same_as w (ascii "-")) (Some None)
    (pick (same_as w (ascii "A")) (Some (Some 65))
    (pick (same_as w (ascii "B")) (Some (Some 66))
    (with_number (number_of w) None (λ byte. pick (leb byte 255) (Some (Some byte)) None))))

-- "COUNT bits"; "NUMBER 0 to 255"
unfoldable pub request_asked : List ℕ → Option Request
request_asked line =
    with_number (number_of (word_at 1 line)) None (λ count.
    with_talker (talker_asked (word_at 2 line)) (λ talker.
    with_report (report_asked (word_at 3 line)) (λ report.
    with_channel (channel_asked (word_at 4 line)) (λ channel.
    with_number (number_of (word_at 5 line)) None (λ number.
    pick (leb number 255)
    (Some (record { count = count; talker_id = talker; report_type = report; channel = channel; message_id = number }))
    None)))))

-- the numbers of `write COUNT TALKER REPORT CHANNEL NUMBER ROOM BYTES`, ROOM at most 1,024
unfoldable pub write_asked : List ℕ → Option Asked
write_asked line =
    pick (eqb (count_of line) 8)
    (with_request (request_asked line) (λ q. with_number (number_of (word_at 6 line)) None (λ room. pick (leb room 1024) (Some (record { request = q; room = room })) None)))
    None
