-- The ways out of a call. Assumes nothing.
use Prim.Native.Nat.{ℕ, ◌+◌, ◌≤◌, ◌<◌, min}
use mathlib.Core.Path.{◌≡◌, ap, ◌∙◌}
use mathlib.Core.Bool.{Bool}
use mathlib.Core.List.{List, ◌++◌}
use lib.ListN.{length, drop}
use borrow.Author.Tests.{lt-ltb, le-ltb}
use Rattle.lines.specs.Lines.{until_lf}
use Rattle.lines.specs.Held.{kept_of, held_of}
use Rattle.lines.specs.declared.Event.{Event}
use Rattle.lines.specs.declared.Event.TheVariants.{Held, Room}
use Rattle.lines.specs.Collect.{event_of, collect_of}
use Rattle.lines.proofs.Keeping.{held_cap, kept-event}

module _ (m : ℕ) (strip : Bool) (n : ℕ) (block : List ℕ) (from : ℕ) (buf : List ℕ) where
  pub to_room : length buf < m → record { len = n; event = Room; line = buf } ≡ collect_of m strip n block from buf
  unfolding collect_of
  to_room l = rw (lt-ltb (length buf) m l)

  -- the bytes `part` before the LF or the end were held in the buffer
  module _ (room : m ≤ length buf) (len : ℕ) (cap : len ≡ min n (m + 2)) (part : List ℕ) (until : until_lf (drop from block) ≡ part)
      (n' : ℕ) (buf' : List ℕ) (kept : record { len = n'; line = buf' } ≡ kept_of m (held_of m len buf ++ part) buf) where
    kept' : record { len = n'; line = buf' } ≡ kept_of m (held_of m n buf ++ part) buf
    kept' = kept ∙ ap (λ (h : List ℕ). kept_of m (h ++ part) buf) (ap (λ (k : ℕ). held_of m k buf) cap ∙ held_cap m n buf room)

    pub to_line : length part < length (drop from block) → (event : Event) → event ≡ event_of m strip (held_of m n' buf') (from + length part + 1)
        → record { len = 0; event = event; line = buf' } ≡ collect_of m strip n block from buf
    unfolding collect_of
    to_line l event e =
        let v = e ∙ kept-event m (held_of m n buf ++ part) buf room n' buf' kept' strip (from + length part + 1) in
        rw (le-ltb (length buf) m room, until, lt-ltb (length part) (length (drop from block)) l)
        (λ j. record { len = 0; event = v j; line = (kept' j).line })

    pub to_held : length (drop from block) ≤ length part → record { len = n'; event = Held; line = buf' } ≡ collect_of m strip n block from buf
    unfolding collect_of
    to_held l =
        rw (le-ltb (length buf) m room, until, le-ltb (length part) (length (drop from block)) l)
        (λ j. record { len = (kept' j).len; event = Held; line = (kept' j).line })
