-- `trace_show::put_number` meets its contract. Assumes nothing.
use Rattle.std.proofs.Common.{rules}
use mathlib.Core.List.{[], ◌∷◌}
use Rattle.text_out.specs.Digits.{decimal_of}
use Rattle.text_out.proofs.Laws.{put_then}
use Rattle.text_out.specs.Output.{stands}
use Rattle.trace_show.proofs.put_number.Goals as goal

pub returns : goal.returns
returns c = record { same = search rules; is = put_then (stands c.args.out.now) (32 ∷ []) (decimal_of c.args.v) c.put_byte.ensures.is c.put_decimal.ensures.is }
