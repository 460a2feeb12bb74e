-- Document 01's table of refusals, column 'When', in words for people: the reasons of refusals 1 to 13, in their order.
use Prim.Native.String.{String}
use Rattle.std.specs.Prelude.{List, [], ◌∷◌}

abbrev pub reasons : List String
reasons =
    "line over 1024 bytes"
    ∷ "line breaks the line rules"
    ∷ "checksum differs"
    ∷ "message number differs from the one before"
    ∷ "fragment number is not the next one"
    ∷ "payload over 384 bytes"
    ∷ "fill over 5, or fill with empty data"
    ∷ "byte cannot be unarmored"
    ∷ "message ends inside a needed field"
    ∷ "message type is not decoded"
    ∷ "message type is unknown"
    ∷ "a lent output is too small"
    ∷ "request outside the writer's limits"
    ∷ []
