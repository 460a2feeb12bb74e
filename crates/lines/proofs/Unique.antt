-- NOTHING IS LOST: what a collector gives back is told by the number held, the event and the buffer. Assumes nothing.
use mathlib.Core.Path.{◌≡◌, ap}
use mathlib.Core.List.{List}
use Prim.Native.Nat.{ℕ}
use Rattle.lines.specs.Collect.{Collects, collected_in}
use Rattle.lines.specs.declared.Collected.{Collected}
use Rattle.lines.specs.declared.Collector.{Collector}

abbrev collected_by : Collects → Collected
collected_by c = record { state = record { len = c.len }; event = c.event }

pub same_collected : (a b : Collected) (l m : List ℕ) → collected_in a l ≡ collected_in b m → (a ≡ b) × (l ≡ m)
same_collected a b l m e = (ap collected_by e, ap (λ (c : Collects). c.line) e)

-- a new collector is told by the number that it holds
pub same_new : (a b : Collector) → a.len ≡ 0 → b.len ≡ 0 → a ≡ b
same_new a b p q =
    let e : ◌≡◌ {A = Collector} (record { len = a.len }) (record { len = b.len }) = rw (p, q) in
    e
