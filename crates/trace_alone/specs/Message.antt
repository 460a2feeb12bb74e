-- What is said to decoding alone, as the comparing protocol shows it.
use Rattle.std.specs.Prelude.{ℕ, List}
use Rattle.refusal.specs.Words.{Told, taken, refused}
use Rattle.messages.specs.Messages.{decoded_of}
use Rattle.messages.specs.declared.Message.{Message}
use Rattle.layout_answer.specs.declared.whole.Layout.{Layout}
use Rattle.layout_answer.specs.Layout.{message_layout}
use Rattle.trace_show.specs.Shown.{refusal_shown}
use Rattle.trace_show.specs.Message.{message_words}

abbrev pub laid_shown : Layout → List ℕ
laid_shown l = message_words l.numbers l.texts

abbrev pub message_shown : Message → List ℕ
message_shown m = laid_shown (message_layout m)

-- "`decode`, taken: MESSAGE", else the refusal
abbrev pub told_shown : Told (Unit {0}) → Message → List ℕ
told_shown (taken t) m = message_shown m
told_shown (refused n values) m = refusal_shown (record { number = n; values = values })

-- what is said to decoding alone
unfoldable pub decoded_shown : List ℕ → List ℕ
decoded_shown d = told_shown (decoded_of d).told (decoded_of d).message
